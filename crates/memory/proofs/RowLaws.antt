-- One step of the count of open rows and of the search for a holder, over the rows and their writes; how far a search goes; a part put back in its list. Assumes nothing.
use Prim.Native.Nat.{ℕ, zero, suc, ◌+◌, ◌*◌, ◌≤◌, ◌<◌, min}
use mathlib.Core.Path.{◌≡◌, ap, ◌∙◌}
use mathlib.Core.Bool.{Bool, true, false, cond}
use mathlib.Core.List.{List, [], ◌∷◌}
use native.Mathlib.Nat.{zero-min, min-zero, suc-min-suc}
use native.Mathlib.Numerals.{add-one}
use native.Mathlib.Omega.{arith}
use borrow.Rule.Slice.PartMut.{put_mid}
use borrow.Author.Tests.{eq-eqb, ne_eqb}
use lib.Dec.{eqb, ltb}
use lib.ListN.{length, get_or, set, take, drop, length-take, length-drop, drop_of_length-le}
use lib.Seq.{set-get_or, slice, slice-cons, drop-cons, drop-length, drop-drop, take-take, length-take-le}
use Rattle.block.proofs.ListLaws.{take-drop}
use Rattle.std.specs.Prelude.{Option, Some, None}
use Rattle.memory.specs.declared.Txn.{Txn}
use Rattle.memory.specs.Rows.{closed, open_count, row_at, row_from, index_from, has, holder_from, count_below, shift_in, insert_at}

-- ---- the part of a list from place k up to place t

module _ (l : List ℕ) (k t x : ℕ) where
  part-cons : k < t → t ≤ length l → slice k t l ≡ get_or l k 0 ∷ slice (k + 1) t l
  part-cons h fits = rw (add-one k) (slice-cons k t l 0 h fits)

  has-found : k < t → t ≤ length l → get_or l k 0 ≡ x → has x (slice k t l) ≡ true
  unfolding has
  has-found h fits e = rw (part-cons h fits, eq-eqb (get_or l k 0) x e)

  has-next : k < t → t ≤ length l → (get_or l k 0 ≡ x → ⊥) → has x (slice k t l) ≡ has x (slice (k + 1) t l)
  unfolding has
  has-next h fits e = rw (part-cons h fits, ne_eqb (get_or l k 0) x e)

  has_end : t ≤ k → has x (slice k t l) ≡ false
  unfolding has
  has_end h = rw (drop_of_length-le (take t l) {i = k} (omega (arith, length-take t l)))

  -- the same under the choice of a holder
  module _ (j : ℕ) (rest : Option ℕ) {h : Option ℕ} (e : h ≡ cond (has x (slice k t l)) (Some j) rest) where
    pub scan-found : k < t → t ≤ length l → get_or l k 0 ≡ x → h ≡ Some j
    scan-found p fits q = e ∙ ap (λ (w : Bool). cond w (Some j) rest) (has-found p fits q)

    pub scan-next : k < t → t ≤ length l → (get_or l k 0 ≡ x → ⊥) → h ≡ cond (has x (slice (k + 1) t l)) (Some j) rest
    scan-next p fits q = e ∙ ap (λ (w : Bool). cond w (Some j) rest) (has-next p fits q)

    pub scan-end : t ≤ k → h ≡ rest
    scan-end p = e ∙ ap (λ (w : Bool). cond w (Some j) rest) (has_end p)

-- what is taken ends where its list does
take_within : {A : Type 0} (t : ℕ) (l : List A) → take (min t (length l)) l ≡ take t l
take_within zero l = rw (zero-min (length l))
take_within (suc t) [] = rw (min-zero (suc t))
take_within (suc t) (x ∷ l) = rw (suc-min-suc t (length l), take_within t l)

-- ---- the rows from row i on

module _ (d : Txn) (rows : List Txn) (i : ℕ) (h : i < length rows) where
  pub count-open : ((get_or rows i d).ticket ≡ 0 → ⊥) → open_count (drop i rows) ≡ open_count (drop (i + 1) rows) + 1
  unfolding open_count
  count-open e = rw (drop-cons rows i d h, ne_eqb (get_or rows i d).ticket 0 e, add-one i, add-one (open_count (drop (suc i) rows)))

  pub count-closed : (get_or rows i d).ticket ≡ 0 → open_count (drop i rows) ≡ open_count (drop (i + 1) rows)
  unfolding open_count
  count-closed e = rw (drop-cons rows i d h, eq-eqb (get_or rows i d).ticket 0 e, add-one i)

  module _ (items : List ℕ) (me item : ℕ) where
    pub holder-me : i ≡ me → holder_from items me item i (drop i rows) ≡ holder_from items me item (i + 1) (drop (i + 1) rows)
    unfolding holder_from
    holder-me e = rw (drop-cons rows i d h, eq-eqb i me e, add-one i)

    pub holder-closed : (i ≡ me → ⊥) → (get_or rows i d).ticket ≡ 0
        → holder_from items me item i (drop i rows) ≡ holder_from items me item (i + 1) (drop (i + 1) rows)
    unfolding holder_from
    holder-closed e z = rw (drop-cons rows i d h, ne_eqb i me e, eq-eqb (get_or rows i d).ticket 0 z, add-one i)

    pub holder-open : (i ≡ me → ⊥) → ((get_or rows i d).ticket ≡ 0 → ⊥) → (n end : ℕ) → n ≡ min (get_or rows i d).writes 8 → end ≡ min (8 * i + n) (length items)
        → holder_from items me item i (drop i rows)
        ≡ cond (has item (slice (8 * i) end items)) (Some i) (holder_from items me item (i + 1) (drop (i + 1) rows))
    unfolding holder_from
    holder-open e z n end q r =
        rw (drop-cons rows i d h, ne_eqb i me e, ne_eqb (get_or rows i d).ticket 0 z, r, take_within (8 * i + n) items, q, add-one i)

module _ (rows : List Txn) (i : ℕ) (e : length rows ≡ i) where
  pub count-end : open_count (drop i rows) ≡ 0
  unfolding open_count
  count-end = rw (← e, drop-length rows)

  pub holder-end : (items : List ℕ) (me item : ℕ) → holder_from items me item i (drop i rows) ≡ None
  unfolding holder_from
  holder-end items me item = rw (← e, drop-length rows)

-- ---- the part that a caller lent, back in its list

module _ {A : Type 0} (l : List A) (at n : ℕ) where
  -- of n + 1 elements
  pub insert-back : (k : ℕ) → k ≡ suc n → at + n < length l → (x : A) → put_mid at k l (shift_in x (take k (drop at l))) ≡ insert_at at n x l
  insert-back k e h x =
      let f : length (take (suc n) (drop at l)) ≡ suc n = length-take-le (suc n) (drop at l) (omega (arith, length-drop at l)) in
      let g : at + suc n ≡ at + n + 1 = omega arith in
      rw (e, f, take-take n (suc n) (drop at l) (omega arith), take-drop n at l, drop-drop (suc n) at l, g)

-- ---- how far a search goes

cond_within : (b : Bool) (m n t : ℕ) → m ≤ t → n ≤ t → cond b m n ≤ t
cond_within true m n t h k = h
cond_within false m n t h k = k

pub below-within : (x : ℕ) (l : List ℕ) (i : ℕ) → count_below x l i ≤ i + length l
unfolding count_below
below-within x [] i = omega arith
below-within x (y ∷ l) i = cond_within (ltb y x) _ _ _ (omega (arith, below-within x l (suc i))) (omega arith)

pub index_within : (x : ℕ) (l : List ℕ) (i : ℕ) → index_from x l i ≤ i + length l
unfolding index_from
index_within x [] i = omega arith
index_within x (y ∷ l) i = cond_within (eqb y x) _ _ _ (omega arith) (omega (arith, index_within x l (suc i)))

pub row_within : (x : ℕ) (l : List Txn) (i : ℕ) → row_from x i l ≤ i + length l
unfolding row_from
row_within x [] i = omega arith
row_within x (t ∷ l) i = cond_within (eqb t.ticket x) _ _ _ (omega arith) (omega (arith, row_within x l (suc i)))

-- a row put back as it was
pub same_row : (table : List Txn) (at : ℕ) (t : Txn) → t ≡ row_at table at → set table at t ≡ table
same_row table at t e = rw e (set-get_or table at closed)
