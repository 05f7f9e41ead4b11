-- What a work may change. Assumes nothing.
use Prim.Native.Nat.{ℕ}
use mathlib.Core.Path.{◌≡◌, refl, ◌∙◌}
use mathlib.Core.Bool.{Bool}
use mathlib.Core.Logic.{◌⊎◌, inl, inr}
use mathlib.Core.List.{List, [], ◌∷◌}
use native.Mathlib.Nat.{zero-add}
use native.Mathlib.Omega.{arith}
use lib.IntN.{ℤ, pos}
use lib.ListN.{length, set, length-set, get_or-eq_default}
use lib.Seq.{get_or-set_same, get_or-set_other}
use Rattle.block.specs.declared.Entry.{Entry}
use Rattle.block.specs.Bytes.{block_of}
use Rattle.memory.specs.declared.Turn.{Turn}
use Rattle.memory.specs.declared.Txn.{Txn}
use Rattle.memory.specs.Memory.{Blocks, Memory, window_slots, bump, with_done, with_turn}
use Rattle.memory.specs.Rows.{closed, row_of, row_at}
use Rattle.memory.specs.Turns.{mark_applying, advance, place_start}
use Rattle.engine.specs.Moves.{block_at_turn, writeset_at, applied, stamped, is_hit, after_aborts, ends_own, work_refusal, window_with, turn_blocks, is_last, pass_next, commit_writeset, next_at_turn, out_blocks, pass_out}
use Rattle.engine.specs.Frames.{SameBut, SameButItems, WorkFrame}
use Rattle.engine.proofs.Tests.{cond_by, same_by, less_by}
use Rattle.engine.proofs.HasLaws.{has_not}
use Rattle.engine.proofs.PartLaws.{set-but}
use Rattle.engine.proofs.RowLaws.{others}
use Rattle.engine.proofs.RingLaws.{keeping-but}
use Rattle.engine.proofs.Steps.{Awaited}
use Rattle.engine.proofs.Passed.{work_lent, work_long}
use Rattle.engine.proofs.ShapeSend.{length-next}
use Rattle.engine.proofs.HitLaws.{length-aborts, aborts-at}

-- ---- values and stamps

applied_but : (es : List Entry) (l : List ℤ) → SameButItems (pos 0) es l (applied es l)
unfolding applied
applied_but [] l i h = refl
applied_but (e ∷ es) l i h =
    let n = has_not i e.item _ h in
    applied_but es (set l e.item e.value) i n.1 ∙ get_or-set_other l e.item i e.value (pos 0) n.0

stamped_but : (c : ℕ) (es : List Entry) (l : List ℕ) → SameButItems 0 es l (stamped c es l)
unfolding stamped
stamped_but c [] l i h = refl
stamped_but c (e ∷ es) l i h =
    let n = has_not i e.item _ h in
    stamped_but c es (set l e.item c) i n.1 ∙ get_or-set_other l e.item i c 0 n.0

-- ---- rows

abbrev pub SameOrClosed : List Txn → List Txn → ℕ → Type 0
SameOrClosed l k i = (row_at k i ≡ row_at l i) ⊎ (row_at k i ≡ closed)

set-closed : (l : List Txn) (r i : ℕ) → SameOrClosed l (set l r closed) i
set-closed l r i =
    less_by i (length l)
    (λ h. same_by i r (λ e. inr (rw e (get_or-set_same l r closed closed (omega arith)))) (λ d. inl (others l r closed i d)))
    (λ h. inr (get_or-eq_default (set l r closed) closed (rw (length-set l r closed) h)))

pub aborts_closed : (es : List Entry) (items : List ℕ) (l : List Txn) (i : ℕ) → SameOrClosed l (after_aborts es items 0 l) i
aborts_closed es items l i =
    less_by i (length l)
    (λ h. rw (rw zero-add at (aborts-at es items 0 l i h))
    (cond_by (λ (t : Txn). (t ≡ row_at l i) ⊎ (t ≡ closed)) (is_hit es items i (row_at l i)) (λ e. inr refl) (λ e. inl refl)))
    (λ h. inr (get_or-eq_default (after_aborts es items 0 l) closed (rw (length-aborts es items 0 l) h)))

-- ---- the call

place_but : (m : Memory) → SameBut 0 (place_start m.group.replicas m.turn.slot) 1 m.blocks.places (set m.blocks.places (place_start m.group.replicas m.turn.slot) 0)
place_but m = let p = place_start m.group.replicas m.turn.slot in set-but 0 m.blocks.places p 1 p 0 (omega arith) (omega arith)

-- nothing is committed, and the turn leaves its slot
moved_frame : (m : Memory) (b : Blocks) → SameBut 0 (place_start m.group.replicas m.turn.slot) 1 m.blocks.places b.places → b.outbox ≡ m.blocks.outbox
    → SameBut 0 (place_start window_slots m.turn.slot) 512 m.blocks.window b.window → WorkFrame m (with_turn m (advance m.turn) (with_done m.counts 0) b)
moved_frame m b p o w = record {
  turn = inr (inr refl);
  places = p;
  window = w;
  values = λ i h. refl;
  stamps = λ i h. refl;
  classes = refl;
  rows = λ i. inl refl;
  items = refl;
  writes = refl;
  snapshots = refl;
  outbox = o;
  group = refl;
  tickets = refl;
  read_only = refl;
  withdrawn = refl;
}

window_but : (m : Memory) → work_refusal m ≡ 0 → (b : List ℕ) → length b ≡ 512
    → SameBut 0 (place_start window_slots m.turn.slot) 512 m.blocks.window (window_with m b)
window_but m e b h = keeping-but m.blocks.window (work_lent m e).window m.turn.slot b h

pub pass_frame : (m : Memory) → Awaited m → WorkFrame m (pass_next m).memory
unfolding pass_next
pass_frame m a = moved_frame m (turn_blocks m) (place_but m) refl (window_but m a.passed (block_at_turn m) (work_long m a))

pub out_frame : (m : Memory) → work_refusal m ≡ 0 → WorkFrame m (pass_out m).memory
unfolding pass_out
out_frame m e = moved_frame m (out_blocks m) (λ i s. refl) refl (window_but m e (block_of (next_at_turn m)) (length-next m))

abbrev TurnMoves : Memory → Turn → Type 0
TurnMoves m t = (t ≡ m.turn) ⊎ ((t ≡ mark_applying m.turn) ⊎ (t ≡ advance m.turn))

pub commit_frame : (m : Memory) → Awaited m → (mine : Bool) → WorkFrame m (commit_writeset m mine (writeset_at (block_at_turn m) m.counts.done)).memory
unfolding commit_writeset
commit_frame m a mine =
    let w = writeset_at (block_at_turn m) m.counts.done in
    record {
      turn = cond_by (TurnMoves m) (is_last m) (λ e. inr (inr refl)) (λ e. cond_by (TurnMoves m) mine (λ d. inl refl) (λ d. inr (inl refl)));
      places = cond_by (λ (b : Blocks). SameBut 0 (place_start m.group.replicas m.turn.slot) 1 m.blocks.places b.places) (is_last m)
          (λ e. place_but m)
          (λ e i s. refl);
      window = cond_by (λ (b : Blocks). SameBut 0 (place_start window_slots m.turn.slot) 512 m.blocks.window b.window) (is_last m)
          (λ e. window_but m a.passed (block_at_turn m) (work_long m a))
          (λ e i s. refl);
      values = applied_but w.entries m.store.values;
      stamps = stamped_but (bump m.counts.commits) w.entries m.store.stamps;
      classes = refl;
      rows = cond_by (λ (k : List Txn). (i : ℕ) → SameOrClosed m.txns.table k i) mine
          (λ e. cond_by (λ (k : List Txn). (i : ℕ) → SameOrClosed m.txns.table k i) (ends_own mine m.txns.table w.ticket)
          (λ d. set-closed m.txns.table (row_of w.ticket m.txns.table))
          (λ d i. inl refl))
          (λ e. aborts_closed w.entries m.txns.items m.txns.table);
      items = refl;
      writes = refl;
      snapshots = refl;
      outbox = cond_by (λ (b : Blocks). b.outbox ≡ m.blocks.outbox) (is_last m) (λ e. refl) (λ e. refl);
      group = refl;
      tickets = refl;
      read_only = refl;
      withdrawn = refl;
    }

pub work_same : (m : Memory) → WorkFrame m m
work_same m = record {
  turn = inl refl;
  places = λ i s. refl;
  window = λ i s. refl;
  values = λ i h. refl;
  stamps = λ i h. refl;
  classes = refl;
  rows = λ i. inl refl;
  items = refl;
  writes = refl;
  snapshots = refl;
  outbox = refl;
  group = refl;
  tickets = refl;
  read_only = refl;
  withdrawn = refl;
}
