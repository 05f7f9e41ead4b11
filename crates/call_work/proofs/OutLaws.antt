-- An out slot: the *next* that is written for it, and what its work gives. Assumes nothing.
use Prim.Native.Nat.{ℕ, ◌+◌, ◌≤◌}
use mathlib.Core.Path.{◌≡◌, refl, sym}
use mathlib.Core.Bool.{true}
use mathlib.Core.List.{List, []}
use native.Mathlib.Omega.{arith}
use borrow.Rule.Slice.PartMut.{put_mid}
use lib.ListN.{length, take, replicate, take-append-drop}
use Rattle.std.specs.Prelude.{Result, ⊤}
use Rattle.block.specs.declared.BlockFault.{BlockFault}
use Rattle.block.specs.Bytes.{records_bytes, header_for, block_of}
use Rattle.block.specs.Message.{Message}
use Rattle.block.specs.Writing.{written, checked_step}
use Rattle.block_writer.specs.Writing.{header_step}
use Rattle.block_writer.proofs.WholeLaws.{header-written, block-put}
use Rattle.memory.specs.declared.Turn.{Turn}
use Rattle.memory.specs.Memory.{Memory, owner_at, window_slots, window_bytes, with_done, with_turn}
use Rattle.memory.specs.Turns.{advance, place_start}
use Rattle.memory.proofs.WindowLaws.{window_fits}
use Rattle.memory.specs.Window.{keeping}
use Rattle.engine.specs.Moves.{next_at_turn, pass_out}
use Rattle.call_reply.specs.Replies.{work_reply, Gives}

abbrev pub next_of : ℕ → ℕ → ℕ → Message
next_of sender replicas slot = record { kind = 1; sender = sender; replicas = replicas; slot = slot; records = [] }

-- the place of a slot lies in the window
pub in_window : (window : List ℕ) (slot at : ℕ) → length window ≡ window_bytes → at ≡ place_start window_slots slot → at + 512 ≤ length window
in_window window slot at long e = omega (arith, e, window_fits slot, long)

-- l, hs and c are what clearing, `write_header` and `write_check` leave, a and r are answers
pub next-put : (sender replicas slot z : ℕ) (a r : Result ⊤ BlockFault) (l hs c : List ℕ) → z ≡ 512 → l ≡ replicate z 0
    → written a hs ≡ header_step (take 16 l) (record { kind = 1; sender = sender; replicas = replicas; count = 0; slot = slot })
    → length (put_mid 0 16 l hs) ≡ 512 → written r c ≡ checked_step (put_mid 0 16 l hs) → c ≡ block_of (next_of sender replicas slot)
unfolding header_for records_bytes
next-put sender replicas slot z a r l hs c e q p w y =
    block-put (next_of sender replicas slot) 0 refl (omega arith) z r l hs (put_mid 0 16 l hs) c e q
    (header-written z l hs e q a (header_for (next_of sender replicas slot)) p) (sym (take-append-drop 16 (put_mid 0 16 l hs))) w y

-- t is the turn after it, k its owner, w what the window becomes
pub out-passed : (m : Memory) (t : Turn) → t ≡ advance m.turn → (k : ℕ) → k ≡ owner_at m.group m.turn.slot
    → (block : List ℕ) → length block ≡ 512 → block ≡ block_of (next_of k m.group.replicas m.turn.slot)
    → (w : List ℕ) → w ≡ keeping m.blocks.window m.turn.slot block
    → Gives work_reply (pass_out m)
    (record { number = 0; sender = k; moved = true; count = 0; ticket = 0; aborted = replicate 6 0; append = true })
    (with_turn m t (with_done m.counts 0) (record { places = m.blocks.places; outbox = m.blocks.outbox; window = w }))
unfolding pass_out
out-passed m t e k owner block long is w ew =
    let same : block ≡ block_of (next_at_turn m) = rw owner at is in
    rw (e, owner, ew, ← same, long) (refl, refl)
