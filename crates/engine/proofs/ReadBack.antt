-- A write is read again, and every other read is answered as before. Assumes nothing.
use Prim.Native.Nat.{ℕ, ◌+◌, ◌*◌, ◌-◌, ◌≤◌, ◌<◌}
use mathlib.Core.Path.{◌≡◌, refl, sym, ap, ◌∙◌}
use mathlib.Core.Bool.{true}
use mathlib.Core.Logic.{◌⊎◌, inl, inr}
use mathlib.Core.List.{List}
use native.Mathlib.Omega.{arith}
use lib.IntN.{ℤ, pos}
use lib.ListN.{length, get_or, set}
use lib.Seq.{length-slice, get_or-set_same, get_or-set_other}
use borrow.Author.Tests.{leb-false, ltb-true, ltb-false, lt-leb}
use Rattle.block.proofs.ListLaws.{get_or-slice}
use Rattle.block.specs.Answers.{first_of}
use Rattle.memory.specs.declared.Txn.{Txn}
use Rattle.memory.specs.Memory.{Memory, with_txns}
use Rattle.memory.specs.Rows.{closed, write_count, items_of, count_below, insert_at}
use Rattle.engine.specs.Answers.{Outcome, number_of}
use Rattle.engine.specs.Answers.Answer.{refused, got, wrote}
use Rattle.engine.specs.Client.{row_no, row_in, own_index, is_own, read_refusal, value_for, rewrite_at, insert_write, stale_at}
use Rattle.engine.specs.Frames.{WriteFrame}
use Rattle.engine.specs.Shape.{Shape}
use Rattle.engine.specs.Calls.{step}
use Rattle.engine.specs.Calls.Call.{read, write}
use Rattle.engine.proofs.Tests.{cond_by, bool_by, same_by, less_by, passes}
use Rattle.engine.proofs.HasLaws.{index_at, index_none}
use Rattle.engine.proofs.PartLaws.{below-part, insert-before, insert-here, insert-moved}
use Rattle.engine.proofs.RowLaws.{row-found, row-of-set}
use Rattle.engine.proofs.Shaping.{item_at}
use Rattle.engine.proofs.Steps.{read_by, write-by}
use Rattle.engine.proofs.Passed.{WritePassed, write_passed}
use Rattle.engine.proofs.Frames.{frames}
use Rattle.engine.proofs.Shapes.{shapes}

-- ---- the answer to a read

read_got : (m : Memory) (t i : ℕ) → read_refusal m (row_no m t) i ≡ 0 → (step m (read t i)).answer ≡ got (value_for m (row_no m t) i)
read_got m t i e = read_by (λ (o : Outcome). o.answer ≡ got (value_for m (row_no m t) i)) m t i (λ z. refl) (λ z. absurd (z e))

read-refused : (m : Memory) (t i : ℕ) → (read_refusal m (row_no m t) i ≡ 0 → ⊥) → (step m (read t i)).answer ≡ refused (read_refusal m (row_no m t) i)
read-refused m t i d = read_by (λ (o : Outcome). o.answer ≡ refused (read_refusal m (row_no m t) i)) m t i (λ z. absurd (d z)) (λ z. refl)

read-row : (m : Memory) (r i : ℕ) → read_refusal m r i ≡ 0 → r < 6
unfolding read_refusal
read-row m r i e =
    let a = passes _ _ refl e in
    let b = passes _ _ refl a.1 in
    leb-false 6 r (passes _ _ refl b.1).0

read_allowed : {over : ℕ} (m : Memory) → Shape over m → (r i : ℕ) → i < 128 → r < 6 → (row_in m r).stage ≡ 0 → read_refusal m r i ≡ 0
unfolding read_refusal first_of
read_allowed m S r i h l e = rw (S.lengths.items, S.lengths.writes, S.lengths.snapshots, lt-leb 128 i h, lt-leb 6 r l, e)

-- the same number, where the row has the same stage
refusal_same : {over : ℕ} (m n : Memory) → Shape over m → Shape over n → (r i : ℕ) → (row_in n r).stage ≡ (row_in m r).stage → read_refusal n r i ≡ read_refusal m r i
unfolding read_refusal
refusal_same m n S T r i e =
    rw (S.lengths.items, S.lengths.writes, S.lengths.snapshots, T.lengths.items, T.lengths.writes, T.lengths.snapshots, e)

-- ---- the value that a read gives: that of the row's item, else the snapshot's

module _ {over : ℕ} (m : Memory) (S : Shape over m) (r i : ℕ) (h : r < 6) where
  own-length : length (items_of r (row_in m r) m.txns.items) ≡ write_count (row_in m r)
  own-length = length-slice (8 * r) (8 * r + write_count (row_in m r)) m.txns.items (omega (arith, S.lengths.items)) ∙ omega arith

  own_at : (k : ℕ) → k < write_count (row_in m r) → get_or (items_of r (row_in m r) m.txns.items) k 0 ≡ item_at m.txns.items r k
  own_at k u = get_or-slice m.txns.items 0 (8 * r) (8 * r + write_count (row_in m r)) k (8 * r + k) refl (omega arith)

  -- the item stands where it is found
  own-found : own_index m r i < write_count (row_in m r) → item_at m.txns.items r (own_index m r i) ≡ i
  own-found u = sym (own_at (own_index m r i) u) ∙ index_at i (items_of r (row_in m r) m.txns.items) (omega (arith, own-length))

  own-none : write_count (row_in m r) ≤ own_index m r i → (k : ℕ) → k < write_count (row_in m r) → item_at m.txns.items r k ≡ i → ⊥
  own-none u k l e =
      index_none i (items_of r (row_in m r) m.txns.items) (omega (arith, own-length)) k (omega (arith, own-length)) (own_at k l ∙ e)

  value-by : (P : ℤ → Type 0)
      → ((k : ℕ) → k < write_count (row_in m r) → item_at m.txns.items r k ≡ i → P (get_or m.txns.writes (8 * r + k) (pos 0)))
      → (((k : ℕ) → k < write_count (row_in m r) → item_at m.txns.items r k ≡ i → ⊥) → P (get_or m.txns.snapshots (128 * r + i) (pos 0)))
      → P (value_for m r i)
  unfolding value_for
  value-by P f g =
      cond_by P (is_own m r i)
      (λ o. let u = ltb-true (own_index m r i) (write_count (row_in m r)) o in f (own_index m r i) u (own-found u))
      (λ o. g (own-none (ltb-false (own_index m r i) (write_count (row_in m r)) o)))

  -- its items differ
  only : (j k : ℕ) → j < write_count (row_in m r) → k < write_count (row_in m r) → item_at m.txns.items r j ≡ item_at m.txns.items r k → j ≡ k
  only j k u v e =
      let s = S.rows r h in
      less_by j k (λ l. absurd (omega (arith, e, s.rising j k l (omega arith))))
      (λ l. less_by k j (λ d. absurd (omega (arith, e, s.rising k j d (omega arith)))) (λ d. omega arith))

  value-own : (k : ℕ) → k < write_count (row_in m r) → item_at m.txns.items r k ≡ i → value_for m r i ≡ get_or m.txns.writes (8 * r + k) (pos 0)
  value-own k u e =
      value-by (λ (v : ℤ). v ≡ get_or m.txns.writes (8 * r + k) (pos 0))
      (λ j l q. ap (λ (x : ℕ). get_or m.txns.writes (8 * r + x) (pos 0)) (only j k l u (q ∙ sym e)))
      (λ none. absurd (none k u e))

  value_none : ((k : ℕ) → k < write_count (row_in m r) → item_at m.txns.items r k ≡ i → ⊥) → value_for m r i ≡ get_or m.txns.snapshots (128 * r + i) (pos 0)
  value_none none = value-by (λ (v : ℤ). v ≡ get_or m.txns.snapshots (128 * r + i) (pos 0)) (λ j l q. absurd (none j l q)) (λ z. refl)

-- ---- n is m after a write of x to row r

pub record Wrote (m n : Memory) (r x : ℕ) (v : ℤ) : Type 0 where
  pub found : (t : ℕ) → row_no n t ≡ row_no m t
  pub stage : (row_in n r).stage ≡ (row_in m r).stage
  pub new : value_for n r x ≡ v
  pub old : (i : ℕ) → (i ≡ x → ⊥) → value_for n r i ≡ value_for m r i

-- an item written again
rewrote : {over : ℕ} (m : Memory) → Shape over m → (r x : ℕ) (v : ℤ) → r < 6 → is_own m r x ≡ true → Wrote m (rewrite_at m r (own_index m r x) v).memory r x v
unfolding rewrite_at value_for
rewrote m S r x v h o =
    let u = ltb-true (own_index m r x) (write_count (row_in m r)) o in
    record {
      found = λ t. refl;
      stage = refl;
      new = rw o (get_or-set_same m.txns.writes (8 * r + own_index m r x) v (pos 0) (omega (arith, S.lengths.writes)));
      old = λ i d. bool_by (is_own m r i)
          (λ p. let l = ltb-true (own_index m r i) (write_count (row_in m r)) p in
          rw p (get_or-set_other m.txns.writes (8 * r + own_index m r x) (8 * r + own_index m r i) v (pos 0)
          (λ e. let q : own_index m r i ≡ own_index m r x = omega arith in
          d (sym (own-found m S r i h l) ∙ ap (item_at m.txns.items r) q ∙ own-found m S r x h u))))
          (λ p. rw p);
    }

-- a new item
module _ {over : ℕ} (m : Memory) (S : Shape over m) (r x : ℕ) (v : ℤ) (h : r < 6) (room : write_count (row_in m r) < 8) where
  abbrev count : ℕ
  count = write_count (row_in m r)

  abbrev at : ℕ
  at = count_below x (items_of r (row_in m r) m.txns.items) 0

  abbrev after : Memory
  after = with_txns m m.counts (record {
    table = set m.txns.table r (record { ticket = (row_in m r).ticket; stage = (row_in m r).stage; snapshot = (row_in m r).snapshot; writes = count + 1 });
    queue = m.txns.queue;
    items = insert_at (8 * r + at) (count - at) x m.txns.items;
    writes = insert_at (8 * r + at) (count - at) v m.txns.writes;
    snapshots = m.txns.snapshots;
  })

  at-fits : at ≤ count
  at-fits = below-part x (8 * r) count m.txns.items (omega (arith, S.lengths.items))

  in-items : 8 * r + at + (count - at) < length m.txns.items
  in-items = omega (arith, at-fits, S.lengths.items)

  in-writes : 8 * r + at + (count - at) < length m.txns.writes
  in-writes = omega (arith, at-fits, S.lengths.writes)

  row-after : row_in after r ≡ record { ticket = (row_in m r).ticket; stage = (row_in m r).stage; snapshot = (row_in m r).snapshot; writes = count + 1 }
  row-after = get_or-set_same m.txns.table r _ closed (omega (arith, S.lengths.table))

  count-after : write_count (row_in after r) ≡ count + 1
  count-after = ap write_count row-after ∙ omega arith

  -- items and values stand where they did, or one further
  module _ {A : Type 0} (l : List A) (a d : A) (fits : 8 * r + at + (count - at) < length l) where
    before : (k : ℕ) → k < at → get_or (insert_at (8 * r + at) (count - at) a l) (8 * r + k) d ≡ get_or l (8 * r + k) d
    before k u = insert-before (8 * r + at) (count - at) a l fits (8 * r + k) d (omega arith)

    moved : (k : ℕ) → at ≤ k → k < count → get_or (insert_at (8 * r + at) (count - at) a l) (8 * r + (k + 1)) d ≡ get_or l (8 * r + k) d
    moved k u w =
        let e : 8 * r + (k + 1) - 1 ≡ 8 * r + k = omega arith in
        insert-moved (8 * r + at) (count - at) a l fits (8 * r + (k + 1)) d (omega arith) (omega (arith, at-fits)) ∙ ap (λ (i : ℕ). get_or l i d) e

  module _ (T : Shape over after) where
    value-new : value_for after r x ≡ v
    value-new =
        value-own after T r x h at (omega (arith, count-after, at-fits)) (insert-here (8 * r + at) (count - at) x m.txns.items in-items 0)
        ∙ insert-here (8 * r + at) (count - at) v m.txns.writes in-writes (pos 0)

    kept : (i k : ℕ) → k < count → item_at m.txns.items r k ≡ i → value_for after r i ≡ get_or m.txns.writes (8 * r + k) (pos 0)
    kept i k u e =
        less_by k at
        (λ l. value-own after T r i h k (omega (arith, count-after)) (before m.txns.items x 0 in-items k l ∙ e)
        ∙ before m.txns.writes v (pos 0) in-writes k l)
        (λ l. value-own after T r i h (k + 1) (omega (arith, count-after)) (moved m.txns.items x 0 in-items k l u ∙ e)
        ∙ moved m.txns.writes v (pos 0) in-writes k l u)

    none_after : (i : ℕ) → (i ≡ x → ⊥) → ((k : ℕ) → k < count → item_at m.txns.items r k ≡ i → ⊥)
        → (k : ℕ) → k < write_count (row_in after r) → item_at after.txns.items r k ≡ i → ⊥
    none_after i d none k u e =
        less_by k at
        (λ l. none k (omega (arith, at-fits)) (sym (before m.txns.items x 0 in-items k l) ∙ e))
        (λ l. same_by k at
        (λ q. d (sym e ∙ ap (item_at after.txns.items r) q ∙ insert-here (8 * r + at) (count - at) x m.txns.items in-items 0))
        (λ q. let b : k - 1 + 1 ≡ k = omega (arith, q) in
        none (k - 1) (omega (arith, q, count-after))
        (sym (moved m.txns.items x 0 in-items (k - 1) (omega (arith, q)) (omega (arith, q, count-after)))
        ∙ ap (item_at after.txns.items r) b ∙ e)))

    inserted-after : Wrote m after r x v
    inserted-after = record {
      found = λ t. row-of-set t m.txns.table r _ refl;
      stage = ap (λ (t : Txn). t.stage) row-after;
      new = value-new;
      old = λ i d. value-by m S r i h (λ (z : ℤ). value_for after r i ≡ z) (kept i) (λ none. value_none after T r i h (none_after i d none));
    }

inserted : {over : ℕ} (m : Memory) → Shape over m → (r x : ℕ) (v : ℤ) → r < 6 → write_count (row_in m r) < 8 → Shape over (insert_write m r (row_in m r) x v).memory
    → Wrote m (insert_write m r (row_in m r) x v).memory r x v
unfolding insert_write
inserted m S r x v h room T = inserted-after m S r x v h room T

-- ---- the other rows

module _ {over : ℕ} (m n : Memory) (S : Shape over m) (T : Shape over n) (r : ℕ) (f : WriteFrame m n r) (q : ℕ) (h : q < 6) (d : q ≡ r → ⊥) where
  row_kept : row_in n q ≡ row_in m q
  row_kept = f.rows q d

  -- row q's part lies outside row r's
  beside : (k : ℕ) → k < 8 → (8 * q + k < 8 * r) ⊎ (8 * r + 8 ≤ 8 * q + k)
  beside k u = less_by q r (λ l. inl (omega arith)) (λ l. inr (omega (arith, d)))

  item-kept : (k : ℕ) → k < 8 → item_at n.txns.items q k ≡ item_at m.txns.items q k
  item-kept k u = f.items (8 * q + k) (beside k u)

  value-kept : (i : ℕ) → value_for n q i ≡ value_for m q i
  value-kept i =
      value-by m S q i h (λ (z : ℤ). value_for n q i ≡ z)
      (λ k u e. value-own n T q i h k (rw row_kept u) (item-kept k (omega arith) ∙ e) ∙ f.writes (8 * q + k) (beside k (omega arith)))
      (λ none. value_none n T q i h (rw row_kept (λ k u e. none k u (sym (item-kept k (omega arith)) ∙ e)))
      ∙ ap (λ (l : List ℤ). get_or l (128 * q + i) (pos 0)) f.snapshots)

-- ---- the reads after it

module _ {over : ℕ} (m n : Memory) (S : Shape over m) (T : Shape over n) (t x : ℕ) (v : ℤ) (p : WritePassed m t x) (f : WriteFrame m n (row_no m t))
    (w : Wrote m n (row_no m t) x v) where
  abbrev r : ℕ
  r = row_no m t

  back : (step n (read t x)).answer ≡ got v
  back =
      read_got n t x (rw (w.found t) (read_allowed n T (row_no m t) x p.item p.own.row (w.stage ∙ p.own.active)))
      ∙ ap got (rw (w.found t) w.new)

  other : (u i : ℕ) → ((u ≡ t) × (i ≡ x) → ⊥) → (step n (read u i)).answer ≡ (step m (read u i)).answer
  other u i d =
      same_by (read_refusal m (row_no m u) i) 0
      (λ e. read_got n u i (same-refusal ∙ e) ∙ ap got (same_value_lem (read-row m (row_no m u) i e)) ∙ sym (read_got m u i e))
      (λ e. read-refused n u i (λ z. e (sym same-refusal ∙ z)) ∙ ap refused same-refusal ∙ sym (read-refused m u i e))
    where
      same-stage : (row_in n (row_no m u)).stage ≡ (row_in m (row_no m u)).stage
      same-stage = same_by (row_no m u) (row_no m t) (λ e. rw e w.stage) (λ z. ap (λ (a : Txn). a.stage) (f.rows (row_no m u) z))

      same-refusal : read_refusal n (row_no n u) i ≡ read_refusal m (row_no m u) i
      same-refusal = rw (w.found u) (refusal_same m n S T (row_no m u) i same-stage)

      -- one row, one ticket
      same-ticket : row_no m u < 6 → row_no m u ≡ row_no m t → u ≡ t
      same-ticket h e =
          sym (row-found u m.txns.table S.lengths.table h).is
          ∙ ap (λ (k : ℕ). (row_in m k).ticket) e
          ∙ (row-found t m.txns.table S.lengths.table p.own.row).is

      same_value_lem : row_no m u < 6 → value_for n (row_no n u) i ≡ value_for m (row_no m u) i
      same_value_lem h =
          rw (w.found u)
          (same_by (row_no m u) (row_no m t) (λ e. rw e (w.old i (λ q. d (same-ticket h e, q)))) (λ z. value-kept m n S T (row_no m t) f (row_no m u) h z i))

-- what holds of the reads after a write of v to x under t
abbrev pub ReadsAfter : Memory → ℕ → ℕ → ℤ → Memory → Type 0
ReadsAfter m t x v n =
    ((step n (read t x)).answer ≡ got v)
    × ((u i : ℕ) → ((u ≡ t) × (i ≡ x) → ⊥) → (step n (read u i)).answer ≡ (step m (read u i)).answer)

refused_not : (n : ℕ) → (n ≡ 0 → ⊥) → refused n ≡ wrote → ⊥
refused_not n z e = z (ap number_of e)

pub reads_after : {over : ℕ} (m : Memory) → Shape over m → (t x : ℕ) (v : ℤ) → (step m (write t x v)).answer ≡ wrote
    → ReadsAfter m t x v (step m (write t x v)).memory
unfolding stale_at
reads_after {over} m S t x v a =
    write-by (λ (o : Outcome). o.answer ≡ wrote → WriteFrame m o.memory (row_no m t) → Shape over o.memory → ReadsAfter m t x v o.memory) m t x v
    (λ e b. absurd (refused_not 9 (λ z. omega arith) b))
    (λ e o b f T. let p = write_passed m t x e in let w = rewrote m S (row_no m t) x v p.own.row o in (back m _ S T t x v p f w, other m _ S T t x v p f w))
    (λ e o b f T.
    let p = write_passed m t x e in
    let w = inserted m S (row_no m t) x v p.own.row (p.room o) T in
    (back m _ S T t x v p f w, other m _ S T t x v p f w))
    (λ n k z b. absurd (refused_not n z b))
    a (frames.writes m t x v) (shapes.each m S (write t x v))
