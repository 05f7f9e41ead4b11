-- A writeset's end from its parts: the replica's own, and another's with the tickets of the rows hit. Assumes nothing.
use Prim.Native.Nat.{ℕ, ◌+◌, ◌-◌, ◌≤◌, min}
use mathlib.Core.Path.{◌≡◌, refl, sym, ap, ◌∙◌}
use mathlib.Core.Bool.{Bool, true, false, cond}
use mathlib.Core.Logic.{◌⊎◌, ⊎_elim}
use mathlib.Core.List.{List, [], ◌∷◌, ◌++◌, append-nil}
use native.Mathlib.Omega.{arith}
use lib.ListN.{length, set, take, drop, replicate, take-append-drop}
use lib.Seq.{length-take-le}
use Rattle.block.specs.Message.{Record}
use Rattle.memory.specs.declared.Counts.{Counts}
use Rattle.memory.specs.declared.Turn.{Turn}
use Rattle.memory.specs.declared.Txn.{Txn}
use Rattle.memory.specs.Memory.{bump, with_commit}
use Rattle.memory.specs.Rows.{row_of, has}
use Rattle.memory.specs.Turns.{mark_applying}
use Rattle.engine.specs.Moves.{hit_tickets, without, queue_without, sent_among}
use Rattle.call_commit.specs.Marks.{hit_marks}
use Rattle.call_ending.specs.declared.Ended.{Ended}
use Rattle.call_ending.specs.Writesets.{no_marks, ended_of, queue_left}

without_none : (l : List ℕ) → without [] l ≡ l
unfolding without has
without_none [] = refl
without_none (t ∷ l) = rw (without_none l)

queue_all : (queue : List ℕ) → queue_without [] queue ≡ queue
queue_all queue = let z : length queue - length queue ≡ 0 = omega arith in rw (without_none queue, z) (append-nil queue)

module _ (w : Record) (turn : Turn) (counts : Counts) (rows : List Txn) (items : List ℕ) where
  pub own_ended : counts.aborted ≤ 4_294_967_295
      → ◌≡◌ {A = Ended}
      (let ends = sent_among rows w.ticket in
      record {
        ticket = w.ticket;
        turn = turn;
        counts = with_commit counts (bump counts.commits) (cond ends (bump counts.committed) counts.committed) counts.aborted;
        marks = cond ends (set no_marks (row_of w.ticket rows) true) no_marks;
        aborted = replicate 6 0;
        count = 0;
      })
      (ended_of true w turn counts rows items)
  unfolding ended_of
  own_ended h = let e : min (counts.aborted + 0) 4_294_967_295 ≡ counts.aborted = omega arith in rw e

  -- the first n of the tickets are those of the rows hit
  module _ (tickets : List ℕ) (n : ℕ) (few : n ≤ 6) (hit : take n tickets ≡ hit_tickets w.entries items 0 rows) where
    pub other-ended : length tickets ≡ 6 → drop n tickets ≡ replicate (6 - n) 0
        → (marks : List Bool) → marks ≡ hit_marks w.entries items 0 rows → (commits aborted : ℕ) → commits ≡ bump counts.commits → aborted ≡ min (counts.aborted + n) 4_294_967_295
        → ◌≡◌ {A = Ended}
        (record { ticket = w.ticket; turn = mark_applying turn; counts = with_commit counts commits counts.committed aborted; marks = marks; aborted = tickets; count = n })
        (ended_of false w turn counts rows items)
    unfolding ended_of
    other-ended six zeros marks em commits aborted ec ea =
        let l : length (hit_tickets w.entries items 0 rows) ≡ n = ap length (sym hit) ∙ length-take-le n tickets (omega arith) in
        let s : hit_tickets w.entries items 0 rows ++ replicate (6 - n) 0 ≡ tickets = rw (← hit, ← zeros) (take-append-drop n tickets) in
        rw (em, ec, ea, l, s)

    -- where no row is hit the queue is left as it is
    pub other-queue : (q queue : List ℕ) → (q ≡ queue_without (take n tickets) queue) ⊎ ((n ≡ 0) × (q ≡ queue)) → q ≡ queue_left false w rows items queue
    other-queue q queue =
        ⊎_elim
        (λ e. e ∙ rw hit)
        (λ e. e.1 ∙ sym (queue_all queue) ∙ rw (← hit, e.0))
