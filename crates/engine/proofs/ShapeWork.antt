-- A writeset committed keeps the shape: the replica's own closes its row where that is open as sent, and none where it is not; another's aborts the rows it
-- hits. Assumes nothing.
use Prim.Native.Nat.{ℕ, ◌<◌}
use mathlib.Core.Path.{◌≡◌, refl, sym, ◌∙◌}
use mathlib.Core.Bool.{Bool, true, false}
use mathlib.Core.List.{List}
use native.Mathlib.Nat.{zero-add}
use native.Mathlib.Omega.{arith}
use lib.Dec.{eqb, ltb}
use lib.ListN.{get_or, length-set}
use borrow.Author.Tests.{eqb-true, eqb-false, ne_eqb, ltb-true, not-true}
use Rattle.block.specs.Message.{Record}
use Rattle.block.proofs.BoolLaws.{both, not_so}
use Rattle.memory.specs.Memory.{Memory}
use Rattle.memory.specs.Rows.{closed, row_of, row_at, has}
use Rattle.engine.specs.Moves.{block_at_turn, writeset_at, is_hit, hit_tickets, is_sent, ends_own, is_last, commit_writeset}
use Rattle.engine.specs.Shape.{Shape}
use Rattle.engine.proofs.Tests.{same_by, clash}
use Rattle.engine.proofs.RowLaws.{row-found, open_close, set-row}
use Rattle.engine.proofs.HitLaws.{length-aborts, aborts-at, aborts-open, hit-open, hit-has, has-hit, no_zero}
use Rattle.engine.proofs.QueueLaws.{length-queue_without, length-waiting, Left, queue-left}
use Rattle.engine.proofs.Shaping.{bumps}
use Rattle.engine.proofs.ShapeClose.{Closing, closing-rows, closing-distinct, closing-single, closing-queue}
use Rattle.engine.proofs.ShapeTurn.{Working}
use Rattle.engine.proofs.ShapeWriteset.{committed, ends-own, ends-other, TxnShape, shape-writeset}

-- ---- the replica's own: the row is open as sent

module _ {over : ℕ} (m : Memory) (S : Shape over m) (k : Working m) (last : Bool) (w : Record) (sent : is_sent m w.ticket ≡ true) where
  abbrev mine : Memory
  mine = committed m true true last w

  abbrev row : ℕ
  row = row_of w.ticket m.txns.table

  below : row < 6
  below = ltb-true row 6 (both (ltb row 6) (eqb (row_at m.txns.table row).stage 2) sent).left

  stage : (row_at m.txns.table row).stage ≡ 2
  stage = eqb-true (row_at m.txns.table row).stage 2 (both (ltb row 6) (eqb (row_at m.txns.table row).stage 2) sent).right

  own-closing : Closing m mine (λ r. eqb r row)
  own-closing = record {
    six = length-set m.txns.table row closed ∙ S.lengths.table;
    row = λ r h. set-row m.txns.table row closed (let a = below in omega (arith, S.lengths.table)) r;
    items = refl;
    tickets = refl;
    later = let a = k.commits in omega arith;
  }

  own-shape : TxnShape over mine
  own-shape = record {
    table = own-closing.six;
    waiting = S.lengths.queue;
    endings =
        let b = below in
        let o = open_close m.txns.table row (omega (arith, S.lengths.table)) (row-found w.ticket m.txns.table S.lengths.table b).live in
        let a = (bumps m S).committed in
        let e = S.ranges.endings in
        let t = S.ranges.tickets in
        let p = S.ranges.repeats in
        omega arith;
    rows = closing-rows m mine S (λ r. eqb r row) own-closing;
    distinct = closing-distinct m mine S (λ r. eqb r row) own-closing;
    queue = closing-queue m mine S (λ r. eqb r row) own-closing (record {
      zeros = S.queue.zeros;
      from = λ k h. (k, h, refl, ne_eqb _ row (λ e. let a = rw e at (S.queue.asked k h).1 in let b = stage in omega arith));
      to = λ r h e p q. q;
      once = S.queue.once;
    });
    single = closing-single m mine S (λ r. eqb r row) own-closing;
  }

-- ---- the replica's own where no row is open as sent: none is closed

module _ {over : ℕ} (m : Memory) (S : Shape over m) (k : Working m) (last : Bool) (w : Record) where
  abbrev nobody : Memory
  nobody = committed m true false last w

  none-closing : Closing m nobody (λ r. false)
  none-closing = record { six = S.lengths.table; row = λ r h. refl; items = refl; tickets = refl; later = let a = k.commits in omega arith }

  none-shape : TxnShape over nobody
  none-shape = record {
    table = S.lengths.table;
    waiting = S.lengths.queue;
    endings = let e = S.ranges.endings in let t = S.ranges.tickets in let p = S.ranges.repeats in omega arith;
    rows = closing-rows m nobody S (λ r. false) none-closing;
    distinct = S.distinct;
    queue = record { zeros = S.queue.zeros; asked = S.queue.asked; queued = S.queue.queued; once = S.queue.once };
    single = S.single;
  }

-- ---- another's: the rows hit are aborted

module _ {over : ℕ} (m : Memory) (S : Shape over m) (k : Working m) (last : Bool) (w : Record) where
  abbrev other : Memory
  other = committed m false false last w

  abbrev row_hit : ℕ → Bool
  row_hit r = is_hit w.entries m.txns.items r (row_at m.txns.table r)

  abbrev gone : List ℕ
  gone = hit_tickets w.entries m.txns.items 0 m.txns.table

  other-closing : Closing m other row_hit
  other-closing = record {
    six = length-aborts w.entries m.txns.items 0 m.txns.table ∙ S.lengths.table;
    row = λ r h. rw zero-add at (aborts-at w.entries m.txns.items 0 m.txns.table r (omega (arith, S.lengths.table)));
    items = refl;
    tickets = refl;
    later = let a = k.commits in omega arith;
  }

  left : Left gone m.txns.queue other.txns.queue
  left =
      queue-left gone m.txns.queue other.txns.queue (no_zero w.entries m.txns.items 0 m.txns.table) S.lengths.queue
      (let a = length-waiting m.txns.queue in omega (arith, S.lengths.queue)) S.queue.zeros S.queue.once refl

  -- a ticket that is not gone is that of a row not hit
  row-spared : (t : ℕ) → row_of t m.txns.table < 6 → has t gone ≡ false → row_hit (row_of t m.txns.table) ≡ false
  row-spared t h e =
      not_so (row_hit (row_of t m.txns.table))
      (λ q. clash (rw (row-found t m.txns.table S.lengths.table h).is at
      (hit-has w.entries m.txns.items 0 m.txns.table (row_of t m.txns.table) (omega (arith, S.lengths.table)) (rw zero-add q))) e)

  -- a row that is not hit has a ticket that is not gone
  ticket-spared : (r : ℕ) → r < 6 → row_hit r ≡ false → has (row_at m.txns.table r).ticket gone ≡ false
  ticket-spared r h e = not_so (has (row_at m.txns.table r).ticket gone) found
    where
      found : has (row_at m.txns.table r).ticket gone ≡ true → ⊥
      found q =
          let f = has-hit w.entries m.txns.items (row_at m.txns.table r).ticket 0 m.txns.table q in
          let hit : row_hit f.0 ≡ true = rw zero-add at f.2 in
          same_by f.0 r (λ s. clash (rw s at hit) e)
          (λ d. S.distinct f.0 r (let l = f.1 in omega (arith, S.lengths.table)) h d
          (eqb-false _ 0 (not-true _ (hit-open w.entries m.txns.items f.0 (row_at m.txns.table f.0) hit))) f.3)

  other-shape : TxnShape over other
  other-shape = record {
    table = other-closing.six;
    waiting = length-queue_without gone m.txns.queue ∙ S.lengths.queue;
    endings =
        let o = aborts-open w.entries m.txns.items 0 m.txns.table in
        let e = S.ranges.endings in
        let t = S.ranges.tickets in
        let p = S.ranges.repeats in
        omega arith;
    rows = closing-rows m other S row_hit other-closing;
    distinct = closing-distinct m other S row_hit other-closing;
    queue = closing-queue m other S row_hit other-closing (record {
      zeros = left.zeros;
      from = λ k h. let f = left.from k h in (f.0, f.1, f.2, row-spared _ (S.queue.asked f.0 f.1).0 f.3);
      to = λ r h e p q. left.to _ (ticket-spared r h e) q;
      once = left.once;
    });
    single = closing-single m other S row_hit other-closing;
  }

-- ---- the step

by-ends : {over : ℕ} (m : Memory) → Shape over m → Working m → (w : Record) (mine ends : Bool) → ends_own mine m.txns.table w.ticket ≡ ends
    → TxnShape over (committed m mine ends (is_last m) w)
by-ends m S k w true true e = own-shape m S k (is_last m) w (sym (ends-own m.txns.table w.ticket) ∙ e)
by-ends m S k w true false e = none-shape m S k (is_last m) w
by-ends m S k w false true e = clash e (ends-other m.txns.table w.ticket)
by-ends m S k w false false e = other-shape m S k (is_last m) w

by_sender : {over : ℕ} (m : Memory) → Shape over m → Working m → m.counts.done < get_or (block_at_turn m) 3 0 → (w : Record) (mine : Bool) → Shape over (commit_writeset m mine w).memory
by_sender m S k d w mine = shape-writeset m S k d mine w (by-ends m S k w mine (ends_own mine m.txns.table w.ticket) refl)

pub shape_committed : {over : ℕ} (m : Memory) → Shape over m → Working m → (get_or (block_at_turn m) 0 0 ≡ 1 → ⊥)
    → Shape over (commit_writeset m (eqb (get_or (block_at_turn m) 1 0) m.group.own) (writeset_at (block_at_turn m) m.counts.done)).memory
shape_committed m S k d = by_sender m S k (k.more d) _ _
