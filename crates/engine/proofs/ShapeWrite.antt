-- A write keeps the shape. Assumes nothing.
use Prim.Native.Nat.{ℕ, ◌+◌, ◌*◌, ◌-◌, ◌≤◌, ◌<◌}
use mathlib.Core.Path.{◌≡◌, refl, sym, ap, ◌∙◌}
use mathlib.Core.Bool.{false}
use mathlib.Core.List.{List}
use native.Mathlib.Omega.{arith}
use lib.IntN.{ℤ}
use lib.ListN.{length, get_or, length-set}
use lib.Seq.{slice, length-slice}
use borrow.Author.Tests.{ltb-false}
use Rattle.block.proofs.ListLaws.{get_or-slice}
use Rattle.memory.specs.declared.Txn.{Txn}
use Rattle.memory.specs.Memory.{Memory}
use Rattle.memory.specs.Rows.{row_at, write_count, items_of, index_of, holder_of, is_held, count_below, insert_at}
use Rattle.engine.specs.Client.{row_no, row_in, own_index, is_own, rewrite_at, insert_write}
use Rattle.engine.specs.Shape.{Shape}
use Rattle.engine.proofs.Tests.{less_by, same_by}
use Rattle.engine.proofs.HasLaws.{index_none, part-has}
use Rattle.engine.proofs.RowLaws.{row-found, open_set, none_else}
use Rattle.engine.proofs.PartLaws.{below, below-part, length-insert, insert-before, insert-here, insert-moved, insert-after, Inserted, inserted_by, inserted-rises}
use Rattle.engine.proofs.Passed.{WritePassed}
use Rattle.engine.proofs.Shaping.{item_at, fits_of, shape_besides, alone}
use Rattle.engine.proofs.ShapeRow.{Parts, Apart, parts_with, Change, apart-own, queue-same, shape-changed}

-- ---- an item written again

pub shape_rewritten : {over : ℕ} (m : Memory) (r k : ℕ) (v : ℤ) → Shape over m → Shape over (rewrite_at m r k v).memory
unfolding rewrite_at
shape_rewritten m r k v s =
    shape_besides m s m.turn m.counts.done m.blocks.places m.blocks.window _ s.lengths.places s.lengths.window
    (length-set m.txns.writes (8 * r + k) v ∙ s.lengths.writes) s.ranges.slot s.ranges.commits
    (record { waits = s.places.waits; clear = s.places.clear; done = s.places.done; applying = s.places.applying })

-- ---- a new item

-- the items of a row, with a new one among them; the other rows' stay
module _ (items : List ℕ) (r n x : ℕ) (h : r < 6) (long : length items ≡ 48) (few : n < 8) where
  abbrev own : List ℕ
  own = slice (8 * r) (8 * r + n) items

  abbrev at : ℕ
  at = count_below x own 0

  abbrev grown : List ℕ
  grown = insert_at (8 * r + at) (n - at) x items

  own-length : length own ≡ n
  own-length = length-slice (8 * r) (8 * r + n) items (omega arith) ∙ omega arith

  own_at : (k : ℕ) → k < n → get_or own k 0 ≡ item_at items r k
  own_at k u = get_or-slice items 0 (8 * r) (8 * r + n) k (8 * r + k) refl (omega arith)

  at-fits : count_below x (slice (8 * r) (8 * r + n) items) 0 ≤ n
  at-fits = below-part x (8 * r) n items (omega arith)

  fits : 8 * r + at + (n - at) < length items
  fits = omega (arith, at-fits)

  grown-inserted : Inserted (item_at items r) (item_at grown r) n at x
  grown-inserted = record {
    fits = at-fits;
    before = λ k u. insert-before (8 * r + at) (n - at) x items fits (8 * r + k) 0 (omega arith);
    here = insert-here (8 * r + at) (n - at) x items fits 0;
    moved = λ k u v. (
        let e : 8 * r + k - 1 ≡ 8 * r + (k - 1) = omega arith in
        insert-moved (8 * r + at) (n - at) x items fits (8 * r + k) 0 (omega arith) (omega (arith, at-fits)) ∙ ap (λ (i : ℕ). get_or items i 0) e);
  }

  grown-others : (i : ℕ) → i < 6 → (i ≡ r → ⊥) → (j : ℕ) → j < 8 → item_at grown i j ≡ item_at items i j
  grown-others i u d j v = less_by i r
      (λ w. insert-before (8 * r + at) (n - at) x items fits (8 * i + j) 0 (omega arith))
      (λ w. insert-after (8 * r + at) (n - at) x items fits (8 * i + j) 0 (omega (arith, d, at-fits)))

  -- rising ones without x keep rising
  grown-rises : ((j k : ℕ) → j < k → k < n → item_at items r j < item_at items r k) → ((k : ℕ) → k < n → item_at items r k ≡ x → ⊥)
      → (j k : ℕ) → j < k → k < n + 1 → item_at grown r j < item_at grown r k
  grown-rises rises new = inserted-rises (item_at items r) (item_at grown r) n at x grown-inserted rises
      (λ k u. omega (arith, (below x own).under k u, own_at k (omega (arith, at-fits))))
      (λ k u v.
      let low : x < item_at items r at = omega (arith, (below x own).over (omega (arith, own-length)), own_at at (omega arith), new at (omega arith)) in
      same_by at k (λ e. rw e at low) (λ e. omega (arith, rises at k (omega (arith, e)) v)))

-- row r with one more item
module _ {over : ℕ} (m : Memory) (s : Shape over m) (r x : ℕ) (v : ℤ) (h : r < 6) (small : x < 128) (active : (row_at m.txns.table r).stage ≡ 0) (some : (row_at m.txns.table r).ticket ≡ 0 → ⊥)
    (room : write_count (row_at m.txns.table r) < 8)
    (new : write_count (row_at m.txns.table r) ≤ index_of x (items_of r (row_at m.txns.table r) m.txns.items))
    (unheld : is_held (holder_of m.txns.table m.txns.items r x) ≡ false) where
  abbrev n : ℕ
  n = write_count (row_at m.txns.table r)

  abbrev p : ℕ
  p = count_below x (items_of r (row_at m.txns.table r) m.txns.items) 0

  abbrev row : Txn
  row = record { ticket = (row_at m.txns.table r).ticket; stage = (row_at m.txns.table r).stage; snapshot = (row_at m.txns.table r).snapshot; writes = n + 1 }

  abbrev items' : List ℕ
  items' = insert_at (8 * r + p) (n - p) x m.txns.items

  abbrev parts : Parts
  parts = parts_with m m.txns.queue items' (insert_at (8 * r + p) (n - p) v m.txns.writes)

  all : write_count (row_at m.txns.table r) ≡ (row_at m.txns.table r).writes
  all = omega (arith, (s.rows r h).few)

  p-fits : count_below x (items_of r (row_at m.txns.table r) m.txns.items) 0 ≤ write_count (row_at m.txns.table r)
  p-fits = at-fits m.txns.items r n x h s.lengths.items room

  apart : Apart m r row
  apart = apart-own m s r h row refl

  not_own : (k : ℕ) → k < n → item_at m.txns.items r k ≡ x → ⊥
  not_own k u e = index_none x (items_of r (row_at m.txns.table r) m.txns.items) (omega (arith, long)) k (omega (arith, long)) (own_at m.txns.items r n x h s.lengths.items room k u ∙ e)
    where
      long : length (items_of r (row_at m.txns.table r) m.txns.items) ≡ n
      long = own-length m.txns.items r n x h s.lengths.items room

  -- no other row has it
  not-theirs : (i : ℕ) → i < 6 → (i ≡ r → ⊥) → (b : ℕ) → b < (row_at m.txns.table i).writes → x ≡ item_at m.txns.items i b → ⊥
  not-theirs i u d b w e =
      none_else m.txns.table m.txns.items r x unheld i (omega (arith, s.lengths.table)) d
      (λ z. let q : (row_at m.txns.table i).writes ≡ 0 = ap (λ (t : Txn). t.writes) ((s.rows i u).free z) in omega arith)
      (part-has x m.txns.items (write_count (row_at m.txns.table i)) (8 * i) b (omega (arith, s.lengths.items)) (omega (arith, (s.rows i u).few)) (sym e))

  inserted : Inserted (item_at m.txns.items r) (item_at items' r) n p x
  inserted = grown-inserted m.txns.items r n x h s.lengths.items room

  change : Change over m r row parts
  change = record {
    queue = s.lengths.queue;
    items = length-insert (8 * r + p) (n - p) x m.txns.items (omega (arith, p-fits, s.lengths.items)) ∙ s.lengths.items;
    writes = length-insert (8 * r + p) (n - p) v m.txns.writes (omega (arith, p-fits, s.lengths.writes)) ∙ s.lengths.writes;
    snapshots = s.lengths.snapshots;
    more = omega arith;
    most = s.ranges.tickets;
    endings = omega (arith, s.ranges.endings, open_set m.txns.table r row (omega (arith, s.lengths.table)));
    fits = (let f = fits_of m r (s.rows r h) in record {
      free = λ e. absurd (some e);
      given = f.given;
      stage = f.stage;
      since = f.since;
      few = omega arith;
      some = λ u. omega arith;
      rising = grown-rises m.txns.items r n x h s.lengths.items room (λ j k u w. f.rising j k u (omega (arith, all))) not_own;
      items = inserted_by (item_at m.txns.items r) (item_at items' r) n p x inserted (λ (y : ℕ). y < 128) small (λ k u. f.items k (omega (arith, all)));
    });
    others = grown-others m.txns.items r n x h s.lengths.items room;
    alone = λ i u d a b w z.
        inserted_by (item_at m.txns.items r) (item_at items' r) n p x inserted (λ (y : ℕ). y ≡ item_at m.txns.items i b → ⊥) (not-theirs i u d b z)
        (λ k q. alone m.txns.table m.txns.items s.lengths.items (λ j t. (s.rows j t).few) s.single r i h u (λ g. d (sym g)) k b (omega (arith, all)) z)
        a w;
  }

  shape-inserted : Shape over (insert_write m r (row_at m.txns.table r) x v).memory
  unfolding insert_write
  shape-inserted = shape-changed m s r h row active apart parts change (queue-same m s r h row active apart active parts refl)

pub shape_insert : {over : ℕ} (m : Memory) (t i : ℕ) (v : ℤ) → Shape over m → WritePassed m t i → is_own m (row_no m t) i ≡ false
    → Shape over (insert_write m (row_no m t) (row_in m (row_no m t)) i v).memory
shape_insert m t i v s p o =
    shape-inserted m s (row_no m t) i v p.own.row p.item p.own.active (row-found t m.txns.table s.lengths.table p.own.row).live (p.room o)
    (ltb-false (own_index m (row_no m t) i) (write_count (row_in m (row_no m t))) o) (p.unheld o)
