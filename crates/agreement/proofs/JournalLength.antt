-- How many blocks a replica's journal has, with no premise: every call keeps it. Assumes nothing.
use Prim.Native.Nat.{ℕ, suc, ◌*◌, ◌/◌, ◌<◌}
use mathlib.Core.Path.{◌≡◌, refl, sym, ap, ◌∙◌}
use mathlib.Core.Bool.{Bool, true, false, cond}
use mathlib.Core.List.Memᴰ
use mathlib.Core.List.{List, [], ◌∷◌, ◌++◌, append-nil}
use native.Mathlib.Omega.{arith}
use lib.Dec.{eqb}
use lib.IntN.{ℤ}
use lib.ListN.{length, length-append, get_or}
use borrow.Author.Tests.{eq-eqb, ne_eqb, lt-ltb}
use Rattle.block.specs.Message.{owner_of, signed32}
use Rattle.block.specs.Bytes.{block_of}
use Rattle.block.proofs.BoolLaws.{not_so}
use Rattle.block.proofs.AnswerLaws.{is_taken}
use Rattle.block.proofs.Theorems.{theorems}
use Rattle.memory.specs.declared.Turn.{Turn}
use Rattle.memory.specs.Memory.{Memory, bump}
use Rattle.memory.specs.Notices.{Notice}
use Rattle.memory.specs.Turns.{is_on, mark_applying, advance}
use Rattle.engine.specs.Answers.{Outcome}
use Rattle.engine.specs.Make.{Setting, made_memory}
use Rattle.engine.specs.Client.{begin_at, read_only_at, queue_at, rewrite_at, insert_write, stale_at, withdraw_at, report_step}
use Rattle.engine.specs.Moves.{message_for, sent_already, send_refusal, send_now, deliver_now, block_at_turn, is_last, pass_next, commit_writeset, out_at_turn, next_at_turn, pass_out}
use Rattle.engine.specs.Calls.{Call, step}
use Rattle.engine.specs.Calls.Call.{begin, read, write, ask, withdraw, report, send, deliver, work, load, notice}
use Rattle.engine.specs.Restart.{blocks_in, restarted_memory, restart_step}
use Rattle.engine.specs.History.{AnyCall, any_step}
use Rattle.engine.specs.History.AnyCall.{call, restart}
use Rattle.engine.proofs.Tests.{same_by, clash}
use Rattle.engine.proofs.Steps.{begin-by, read_by, write-by, ask-by, withdraw-by, send_by, deliver-by, work-by, load-by, restart-by, notice-by}
use Rattle.engine.proofs.NoticeClaims.{next-sendable}
use Rattle.engine.proofs.Shaping.{bumps}
use Rattle.engine.proofs.ShapeTurn.{Working, working}
use Rattle.engine.proofs.SentWork.{sender_owns, is-outbox}
use Rattle.engine.proofs.RestartLaws.{reads_good, reads_first}
use Rattle.protocol.specs.Blocks.{all_bytes}
use Rattle.agreement.specs.Group.{arguments_of, journal_after, Members, CallAt, fresh, next, run, Calls}
use Rattle.agreement.specs.Journals.{blocks_at, JournalLength}
use Rattle.agreement.proofs.View.{Sound}
use Rattle.agreement.proofs.Sendable.{sendable, send_passed}
use Rattle.agreement.proofs.JournalView.{all_bytes_first}
use Rattle.agreement.proofs.Soundness.{sound_made}
use Rattle.agreement.proofs.RestartStep.{sound_any}
use Rattle.agreement.proofs.Premises.{length-all_bytes}

-- ---- a work: the sent mark is on where the block at the turn is the replica's own

turn-filled : (l b : List ℕ) (t : Turn) (mine last : Bool) → length b ≡ 512 → bump t.slot ≡ suc t.slot → is_on t.sent ≡ mine → length l ≡ 512 * blocks_at t
    → length (l ++ cond last (cond mine [] b) []) ≡ 512 * blocks_at (cond last (advance t) (cond mine t (mark_applying t)))
turn-filled l b t true true long up on h = rw (append-nil l, up) (let e = rw on at h in omega arith)
turn-filled l b t false true long up on h = rw up (let e = rw on at h in let a = length-append l b in omega arith)
turn-filled l b t true false long up on h = rw (append-nil l) h
turn-filled l b t false false long up on h = rw (append-nil l) h

-- ---- the calls

module _ (n : ℕ) (m : Memory) (s : Sound n m) (l : List ℕ) (H : length l ≡ 512 * blocks_at m.turn) where
  abbrev Filled : Call → Outcome → Type 0
  Filled c o = length (journal_after l (call c) o.answer) ≡ 512 * blocks_at o.memory.turn

  abbrev b : List ℕ
  b = block_at_turn m

  abbrev mine : Bool
  mine = eqb (get_or (block_at_turn m) 1 0) m.group.own

  module _ (k : Working m) where
    long : length b ≡ 512
    long = (is_taken b (s.shape.places.waits m.turn.slot (omega arith) (omega (arith, s.shape.ranges.least)) k.waits).0).long

    owns : get_or b 1 0 ≡ owner_of m.group.replicas m.turn.slot
    owns = sender_owns m s.shape s.sent k.waits

    pub mark : sent_already m ≡ eqb (get_or (block_at_turn m) 1 0) m.group.own
    mark =
        same_by (get_or b 1 0) m.group.own
        (λ e. (is-outbox m s.shape s.sent k.waits (sym owns ∙ e)).0 ∙ sym (eq-eqb (get_or b 1 0) m.group.own e))
        (λ d. not_so (sent_already m) (λ t. d (owns ∙ s.sent.turn t)) ∙ sym (ne_eqb (get_or b 1 0) m.group.own d))

    left : (last : Bool) → length (l ++ cond last (cond mine [] b) []) ≡ 512 * blocks_at (cond last (advance m.turn) (cond mine m.turn (mark_applying m.turn)))
    left last = turn-filled l b m.turn mine last long (bumps m s.shape).slot mark H

  send-filled : (x : List ℕ) → send_refusal m x ≡ 0 → length (l ++ block_of (message_for m)) ≡ 512 * suc m.turn.slot
  send-filled x e =
      let a = length-append l (block_of (message_for m)) in
      let c = (theorems.round_trip (message_for m) (sendable n m s x e)).long in
      let h = rw (send_passed m x e).unsent at H in
      omega arith

  -- the *next* of an out slot: nothing was sent for it
  out-filled : out_at_turn m ≡ true → length (l ++ block_of (next_at_turn m)) ≡ 512 * suc m.turn.slot
  out-filled u =
      let a = length-append l (block_of (next_at_turn m)) in
      let c = (theorems.round_trip (next_at_turn m) (next-sendable m s.shape u)).long in
      let h = rw (not_so (sent_already m) (λ t. clash u (s.sent.awaited t))) at H in
      omega arith

  call-filled : (c : Call) → Filled c (step m c)
  unfolding begin_at stale_at rewrite_at insert_write read_only_at queue_at withdraw_at send_now deliver_now pass_next commit_writeset pass_out
  call-filled begin = begin-by (Filled begin) m (λ e. H) (λ e. H)
  call-filled (read t i) = read_by (Filled (read t i)) m t i (λ e. H) (λ e. H)
  call-filled (write t i v) = write-by (Filled (write t i v)) m t i v (λ e. H) (λ e o. H) (λ e o. H) (λ k e q. H)
  call-filled (ask t) = ask-by (Filled (ask t)) m t (λ e. H) (λ e o. H) (λ e. H)
  call-filled (withdraw t) = withdraw-by (Filled (withdraw t)) m t (λ e. H) (λ e. H)
  call-filled report = unfold step report_step in H
  call-filled (send x) = send_by (Filled (send x)) m x (λ e. let h = send-filled x e in omega arith) (λ k e q. H)
  call-filled (deliver x) = deliver-by (Filled (deliver x)) m x (λ e. H) (λ e. H)
  call-filled work =
      work-by (Filled work) m (λ e u. let h = out-filled u in let b = (bumps m s.shape).slot in omega arith)
      (λ a k. left (working m s.shape a) true) (λ a k. left (working m s.shape a) (is_last m)) (λ e. H)
  call-filled (load l) = load-by (Filled (load l)) m l (λ e. H) (λ e. H)
  call-filled (notice a) = notice-by (Filled (notice a)) m a (λ e. H) (λ e. H)

-- a restart's journal is the blocks read, and its turn their number
restart_filled : (m : Memory) (n own : ℕ) (values : List ℤ) (l j : List ℕ) (t : List Notice) (x : List ℕ) → length l ≡ 512 * blocks_at m.turn
    → let o = restart_step m n own values j t x in length (journal_after l (restart n own values j t x) o.answer) ≡ 512 * blocks_at o.memory.turn
unfolding restarted_memory
restart_filled m n own values l j t x H =
    restart-by (λ (o : Outcome). length (journal_after l (restart n own values j t x) o.answer) ≡ 512 * blocks_at o.memory.turn) m n own values j t x
    (λ e.
    let a = ap length (sym (all_bytes_first (length (blocks_in n j)) j)) in
    let b = ap (λ (bs : List (List ℕ)). length (all_bytes bs)) (reads_first n 0 (length j / 512) j) in
    let c = length-all_bytes n (blocks_in n j) (reads_good n 0 (length j / 512) j) in
    a ∙ b ∙ c ∙ (let z : 512 * length (blocks_in n j) ≡ 512 * blocks_at (restarted_memory n own values t (blocks_in n j)).turn = omega arith in z))
    (λ e. H)

-- ---- a run

module _ (n : ℕ) where
  -- a replica of a group of n, and its journal
  pub record FilledAt (m : Memory) (l : List ℕ) : Type 0 where
    pub sound : Sound n m
    pub filled : length l ≡ 512 * blocks_at m.turn

  pub filled_next : (m : Memory) (l : List ℕ) → FilledAt m l → (c : AnyCall) → signed32 (arguments_of c).value ≡ true → FilledAt (any_step m c).memory (journal_after l c (any_step m c).answer)
  filled_next m l F (call c) v = record { sound = sound_any n m F.sound (call c) v; filled = call-filled n m F.sound l F.filled c }
  filled_next m l F (restart size own values j t x) v = record {
    sound = sound_any n m F.sound (restart size own values j t x) v;
    filled = restart_filled m size own values l j t x F.filled;
  }

  abbrev AllFilled : Members → Type 0
  AllFilled g = (k : ℕ) → k < n → FilledAt (g.memories k) (g.disks k).journal

  group-next : (g : Members) (c : CallAt) → AllFilled g → signed32 (arguments_of c.does).value ≡ true → AllFilled (next g c)
  group-next g c F v k below = same_by k c.at
      (λ e. rw (e, eq-eqb c.at c.at refl) (filled_next (g.memories c.at) (g.disks c.at).journal (F c.at (rw e at below)) c.does v))
      (λ d. rw (ne_eqb k c.at d) (F k below))

  filled-run : (cs : List CallAt) → Calls n cs → (g : Members) → AllFilled g → AllFilled (run g cs)
  unfolding run
  filled-run [] f g F = F
  filled-run (c ∷ cs) f g F = filled-run cs (λ d q. f d (Memᴰ.tail q)) (next g c) (group-next g c F (f c (Memᴰ.head refl)).1)

  -- each replica after a list of calls
  pub filled-after : (start : List ℤ) → Setting n start → (cs : List CallAt) → Calls n cs
      → let g = run (fresh n start) cs in (k : ℕ) → k < n → FilledAt (g.memories k) (g.disks k).journal
  filled-after start setting cs f = filled-run cs f (fresh n start) (λ k h. rw (lt-ltb k n h) (record { sound = sound_made n k start (record { group = setting; below = h }); filled = unfold made_memory in refl }))

pub journal-length : JournalLength
journal-length n start setting cs f k h = (filled-after n start setting cs f k h).filled
