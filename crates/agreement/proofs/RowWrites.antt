-- The writes of a row: whether there are any, and what they say of an item. Assumes nothing.
use Prim.Native.Nat.{ℕ, suc, ◌+◌, ◌*◌, ◌<◌}
use mathlib.Core.Path.{◌≡◌, refl, sym, ◌∙◌}
use mathlib.Core.Bool.{Bool, true, false, cond}
use mathlib.Core.List.{List, [], ◌∷◌, map}
use native.Mathlib.Nat.{zero-add, suc-add, add-suc, add-zero}
use native.Mathlib.Omega.{arith}
use lib.Dec.{eqb, ltb}
use lib.IntN.{ℤ, pos}
use lib.ListN.{length, get_or}
use lib.Seq.{slice, slice_empty, length-slice}
use borrow.Author.Tests.{lt-ltb, le-ltb}
use Rattle.block.proofs.ListLaws.{get_or-slice}
use Rattle.block.specs.Writing.{entries_from}
use Rattle.memory.specs.declared.Txn.{Txn}
use Rattle.memory.specs.Rows.{write_count, items_of, index_from, index_of}
use Rattle.protocol.specs.Writesets.{value_or}
use Rattle.protocol.specs.Client.{is_empty}
use Rattle.agreement.specs.Group.{write_of}
use Rattle.agreement.proofs.View.{row_writes}

-- ---- items and values

entries_some : (is : List ℕ) (vs : List ℤ) → 0 < length is → length vs ≡ length is → is_empty (map write_of (entries_from is vs)) ≡ false
unfolding entries_from is_empty
entries_some [] vs h e = absurd (omega arith)
entries_some (i ∷ is) [] h e = absurd (omega arith)
entries_some (i ∷ is) (v ∷ vs) h e = refl

-- f has the values from j on
entries_say : (i : ℕ) (d : ℤ) (f : ℕ → ℤ) (n : ℕ) (is : List ℕ) (vs : List ℤ) (j : ℕ) → j + length is ≡ n → length vs ≡ length is
    → ((k : ℕ) → k < length is → f (j + k) ≡ get_or vs k (pos 0)) → value_or i d (map write_of (entries_from is vs)) ≡ cond (ltb (index_from i is j) n) (f (index_from i is j)) d
unfolding entries_from value_or index_from
entries_say i d f n [] vs j e l g = rw (le-ltb j n (omega arith))
entries_say i d f n (y ∷ ys) [] j e l g = absurd (omega arith)
entries_say i d f n (y ∷ ys) (v ∷ vs) j e l g =
    go (eqb y i) (entries_say i d f n ys vs (suc j) (omega arith) (omega arith) (λ k h. rw (suc-add, ← add-suc j k) (g (suc k) (omega arith))))
  where
    first : v ≡ cond (ltb j n) (f j) d
    first = rw (lt-ltb j n (omega arith)) (sym (rw add-zero at (g 0 (omega arith))))

    go : (b : Bool) → value_or i d (map write_of (entries_from ys vs)) ≡ cond (ltb (index_from i ys (suc j)) n) (f (index_from i ys (suc j))) d
        → cond b v (value_or i d (map write_of (entries_from ys vs)))
        ≡ cond (ltb (cond b j (index_from i ys (suc j))) n) (f (cond b j (index_from i ys (suc j)))) d
    go true q = first
    go false q = q

-- ---- a row's

pub no_writes : (r : ℕ) (t : Txn) (items : List ℕ) (writes : List ℤ) → write_count t ≡ 0 → row_writes r t items writes ≡ []
unfolding entries_from
no_writes r t items writes e = rw (e, add-zero (8 * r), slice_empty (8 * r) items)

module _ (r : ℕ) (t : Txn) (items : List ℕ) (writes : List ℤ) (h : r < 6) (long : length items ≡ 48) (wide : length writes ≡ 48) where
  part_length : {A : Type 0} (l : List A) → length l ≡ 48 → length (slice (8 * r) (8 * r + write_count t) l) ≡ write_count t
  part_length l e = length-slice (8 * r) (8 * r + write_count t) l (omega (arith, h)) ∙ omega arith

  same_length : length (slice (8 * r) (8 * r + write_count t) writes) ≡ length (items_of r t items)
  same_length = part_length writes wide ∙ sym (part_length items long)

  pub some-writes : (write_count t ≡ 0 → ⊥) → is_empty (row_writes r t items writes) ≡ false
  some-writes z = entries_some (items_of r t items) (slice (8 * r) (8 * r + write_count t) writes) (rw (part_length items long) (omega (arith, z))) same_length

  -- the value written to the item, else d
  pub writes-say : (i : ℕ) (d : ℤ) → value_or i d (row_writes r t items writes)
      ≡ cond (ltb (index_of i (items_of r t items)) (write_count t)) (get_or writes (8 * r + index_of i (items_of r t items)) (pos 0)) d
  writes-say i d =
      entries_say i d (λ k. get_or writes (8 * r + k) (pos 0)) (write_count t) (items_of r t items) (slice (8 * r) (8 * r + write_count t) writes) 0
      (omega (arith, part_length items long)) same_length
      (λ k u. let v : k < write_count t = rw (part_length items long) at u in
      rw zero-add (sym (get_or-slice writes (pos 0) (8 * r) (8 * r + write_count t) k (8 * r + k) refl (omega (arith, v)))))
