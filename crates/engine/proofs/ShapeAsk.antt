-- An ask keeps the shape. Assumes nothing.
use Prim.Native.Nat.{ℕ, ◌≤◌, ◌<◌}
use mathlib.Core.Path.{◌≡◌, refl, sym, ap, ◌∙◌}
use mathlib.Core.Bool.{true}
use mathlib.Core.List.{List, [], ◌∷◌, ◌++◌}
use native.Mathlib.Omega.{arith}
use lib.ListN.{length, get_or, set, length-set}
use Rattle.memory.specs.declared.Txn.{Txn}
use Rattle.memory.specs.Memory.{Memory}
use Rattle.memory.specs.Rows.{row_of, row_at, index_of, has}
use Rattle.engine.specs.Client.{queue_at}
use Rattle.engine.specs.Moves.{waiting}
use Rattle.engine.specs.Shape.{QueueShape, Shape}
use Rattle.engine.proofs.Tests.{less_by, no_other}
use Rattle.engine.proofs.HasLaws.{has-append, has_last}
use Rattle.engine.proofs.RowLaws.{row-found, row_is, row-of-set, open_set}
use Rattle.engine.proofs.QueueLaws.{Room, waiting-joined, joined_length, joined-zeros, joined-old, joined-new}
use Rattle.engine.proofs.Shaping.{fits_of, alone}
use Rattle.engine.proofs.ShapeRow.{Parts, changed, Apart, parts_with, Change, at_row, apart-own, each_row, still-asked, shape-changed}

module _ {over : ℕ} (m : Memory) (s : Shape over m) (r : ℕ) (h : r < 6) (active : (row_at m.txns.table r).stage ≡ 0) (some : (row_at m.txns.table r).ticket ≡ 0 → ⊥) where
  -- an asked row is another one
  not-asked : (k : ℕ) → k < length (waiting m.txns.queue) → row_of (get_or m.txns.queue k 0) m.txns.table ≡ r → ⊥
  not-asked k u e = let z : ◌≡◌ {A = ℕ} 0 1 = sym active ∙ ap (λ (i : ℕ). (row_at m.txns.table i).stage) (sym e) ∙ (s.queue.asked k u).1 in omega arith

  own_row : row_of (row_at m.txns.table r).ticket m.txns.table ≡ r
  own_row =
      row_is (row_at m.txns.table r).ticket m.txns.table s.lengths.table some r h refl (λ j u d e. s.distinct r j h u d some (sym e))

  -- five rows at most are asked
  room : Room m.txns.queue
  room = record {
    zeros = s.queue.zeros;
    room = less_by (length (waiting m.txns.queue)) 6 (λ u. u) (λ u.
        let at : (k : ℕ) → k < 6 → k < length (waiting m.txns.queue) = (λ k v. omega arith) in
        absurd (no_other 6 (λ k. row_of (get_or m.txns.queue k 0) m.txns.table) r h (λ k v. (s.queue.asked k (at k v)).0)
        (λ j k v w e. s.queue.once j k v (at k w)
        (sym (found j (at j (omega arith))) ∙ ap (λ (i : ℕ). (row_at m.txns.table i).ticket) e ∙ found k (at k w)))
        (λ k v. not-asked k (at k v))));
  }
    where
      found : (k : ℕ) → k < length (waiting m.txns.queue) → (row_at m.txns.table (row_of (get_or m.txns.queue k 0) m.txns.table)).ticket ≡ get_or m.txns.queue k 0
      found k u = (row-found (get_or m.txns.queue k 0) m.txns.table s.lengths.table (s.queue.asked k u).0).is

  abbrev row : Txn
  row = record {
    ticket = (row_at m.txns.table r).ticket;
    stage = 1;
    snapshot = (row_at m.txns.table r).snapshot;
    writes = (row_at m.txns.table r).writes;
  }

  abbrev parts : Parts
  parts = parts_with m (set m.txns.queue (index_of 0 m.txns.queue) (row_at m.txns.table r).ticket) m.txns.items m.txns.writes

  apart : Apart m r row
  apart = apart-own m s r h row refl

  found-now : row_of (row_at m.txns.table r).ticket (set m.txns.table r row) ≡ r
  found-now = row-of-set (row_at m.txns.table r).ticket m.txns.table r row refl ∙ own_row

  abbrev ticket : ℕ
  ticket = (row_at m.txns.table r).ticket

  abbrev queue : List ℕ
  queue = set m.txns.queue (index_of 0 m.txns.queue) ticket

  old-at : (k : ℕ) → k < length (waiting m.txns.queue) → get_or queue k 0 ≡ get_or m.txns.queue k 0
  old-at = joined-old m.txns.queue ticket room some

  -- the last of those that wait is the new one
  new-at : (k : ℕ) → length (waiting m.txns.queue) ≤ k → k < length (waiting queue) → get_or queue k 0 ≡ ticket
  new-at k v u = joined-new m.txns.queue ticket room some k (omega (arith, joined_length m.txns.queue ticket room some))

  queue-joined : QueueShape (changed m r row parts)
  queue-joined = record {
    zeros = joined-zeros m.txns.queue ticket room some;
    asked = λ k u. less_by k (length (waiting m.txns.queue))
        (λ v. rw (old-at k v) (still-asked m s r h row active apart (get_or m.txns.queue k 0) (s.queue.asked k v)))
        (λ v. rw (new-at k v u, found-now, at_row m s r h row) (h, refl));
    queued = rw (waiting-joined m.txns.queue ticket room some)
        (each_row m s r h row (λ (i : ℕ) (a : Txn). a.stage ≡ 1 → has a.ticket (waiting m.txns.queue ++ (ticket ∷ [])) ≡ true)
        (λ e. has_last ticket (waiting m.txns.queue))
        (λ i u d e. has-append (row_at m.txns.table i).ticket (waiting m.txns.queue) (ticket ∷ []) (s.queue.queued i u e)));
    once = λ j k u v e. less_by k (length (waiting m.txns.queue))
        (λ w. s.queue.once j k u w (sym (old-at j (omega arith)) ∙ e ∙ old-at k w))
        (λ w.
        let b : j < length (waiting m.txns.queue) = omega (arith, joined_length m.txns.queue ticket room some) in
        let q : get_or m.txns.queue j 0 ≡ ticket = sym (old-at j b) ∙ e ∙ new-at k w v in
        not-asked j b (ap (λ (x : ℕ). row_of x m.txns.table) q ∙ own_row));
  }

  change : 0 < (row_at m.txns.table r).writes → Change over m r row parts
  change wrote = record {
    queue = length-set m.txns.queue (index_of 0 m.txns.queue) (row_at m.txns.table r).ticket ∙ s.lengths.queue;
    items = s.lengths.items;
    writes = s.lengths.writes;
    snapshots = s.lengths.snapshots;
    more = omega arith;
    most = s.ranges.tickets;
    endings = omega (arith, s.ranges.endings, open_set m.txns.table r row (omega (arith, s.lengths.table)));
    fits = (let f = fits_of m r (s.rows r h) in record {
      free = λ e. absurd (some e);
      given = f.given;
      stage = omega arith;
      since = f.since;
      few = f.few;
      some = λ u. wrote;
      rising = f.rising;
      items = f.items;
    });
    others = λ i u d j v. refl;
    alone = λ i u d. alone m.txns.table m.txns.items s.lengths.items (λ j v. (s.rows j v).few) s.single r i h u (λ q. d (sym q));
  }

  -- the ticket stands last in the queue
  pub queued-last : waiting (queue_at m r (row_at m.txns.table r)).memory.txns.queue ≡ waiting m.txns.queue ++ ((row_at m.txns.table r).ticket ∷ [])
  unfolding queue_at
  queued-last = waiting-joined m.txns.queue (row_at m.txns.table r).ticket room some

  pub shape-queued : 0 < (row_at m.txns.table r).writes → Shape over (queue_at m r (row_at m.txns.table r)).memory
  unfolding queue_at
  shape-queued wrote = shape-changed m s r h row active apart parts (change wrote) queue-joined
