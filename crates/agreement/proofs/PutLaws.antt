-- A row's items and values as a list of writes: the items it has, one written again, and a new one put into its place. Assumes nothing.
use Prim.Native.Nat.{ℕ, zero, suc, ◌+◌, ◌-◌, ◌≤◌, ◌<◌}
use mathlib.Core.Path.{◌≡◌, refl, sym, ap, ◌∙◌}
use mathlib.Core.Logic.{◌⊎◌, inl, inr}
use mathlib.Core.Bool.{Bool, true, false, cond}
use mathlib.Core.List.{List, [], ◌∷◌, ◌++◌, map, append_assoc}
use native.Mathlib.Nat.{zero-add, suc-add, add-suc, add-zero, not-suc-le-zero}
use native.Mathlib.Omega.{arith}
use lib.Dec.{eqb, ltb}
use lib.IntN.{ℤ}
use lib.ListN.{length, get_or, take, drop, set, length-append, length-drop}
use lib.Seq.{slice, ext_get_or, length-slice, length-take-le, take-add, take-set-lt, drop-set-add, drop-drop}
use borrow.Author.Tests.{eq-eqb, ne_eqb, lt-ltb, le-ltb}
use Rattle.block.specs.Writing.{entries_from}
use Rattle.block.proofs.ListLaws.{get_or-slice, part-take, part_in, slice_at}
use Rattle.memory.specs.Rows.{index_from, index_of, has, insert_at}
use Rattle.engine.proofs.HasLaws.{index_by}
use Rattle.engine.proofs.PartLaws.{insert-before, insert-after, length-insert}
use Rattle.protocol.specs.Writesets.{Write, put}
use Rattle.agreement.specs.Group.{write_of}

-- ---- the writes of items and the values beside them

abbrev pub writes_of : List ℕ → List ℤ → List (Write ℤ)
writes_of is vs = map write_of (entries_from is vs)

pub length_writes : (is : List ℕ) (vs : List ℤ) → length is ≡ length vs → length (writes_of is vs) ≡ length is
unfolding entries_from
length_writes [] vs e = refl
length_writes (i ∷ is) [] e = absurd (omega arith)
length_writes (i ∷ is) (v ∷ vs) e = ap suc (length_writes is vs (omega arith))

pub has_writes : (x : ℕ) (is : List ℕ) (vs : List ℤ) → length is ≡ length vs → Rattle.protocol.specs.Writesets.has x (writes_of is vs) ≡ has x is
unfolding entries_from has Rattle.protocol.specs.Writesets.has
has_writes x [] vs e = refl
has_writes x (i ∷ is) [] e = absurd (omega arith)
has_writes x (i ∷ is) (v ∷ vs) e = rw (has_writes x is vs (omega arith))

-- a list has x where the search stops before its end
pub index_has : (x : ℕ) (l : List ℕ) (i : ℕ) → ltb (index_from x l i) (i + length l) ≡ has x l
unfolding index_from has
index_has x [] i = rw add-zero (le-ltb i i (omega arith))
index_has x (y ∷ ys) i = go (eqb y x) (rw (suc-add, ← add-suc i (length ys)) at (index_has x ys (suc i)))
  where
    go : (b : Bool) → ltb (index_from x ys (suc i)) (i + suc (length ys)) ≡ has x ys
        → ltb (cond b i (index_from x ys (suc i))) (i + suc (length ys)) ≡ cond b true (has x ys)
    go true h = lt-ltb i (i + suc (length ys)) (omega arith)
    go false h = h

-- where it stops, x stands
pub index_is : (x : ℕ) (l : List ℕ) → index_of x l < length l → get_or l (index_of x l) 0 ≡ x
index_is x l =
    index_by (λ (p : ℕ). p < length l → get_or l p 0 ≡ x) x l 0 (λ k h e u. rw zero-add e) (λ none u. absurd (let z : ⊥ = omega arith in z))

-- ---- one put in

-- x at p, the elements from there on behind it
abbrev pub inserted : {A : Type 0} → ℕ → A → List A → List A
inserted p x l = take p l ++ (x ∷ drop p l)

-- the item stands at k, behind smaller ones
pub put_again : (i : ℕ) (v : ℤ) (is : List ℕ) (vs : List ℤ) (k : ℕ) → length is ≡ length vs → k < length is → get_or is k 0 ≡ i
    → ((j : ℕ) → j < k → get_or is j 0 < i) → put i v (writes_of is vs) ≡ writes_of is (set vs k v)
unfolding put entries_from
put_again i v [] vs k e h q f = absurd (not-suc-le-zero h)
put_again i v (x ∷ is) [] k e h q f = absurd (omega arith)
put_again i v (x ∷ is) (w ∷ vs) zero e h q f = rw (eq-eqb x i q, q)
put_again i v (x ∷ is) (w ∷ vs) (suc k) e h q f =
    let low : x < i = f 0 (omega arith) in
    rw (ne_eqb x i (λ z. omega arith), le-ltb i x (omega arith), put_again i v is vs k (omega arith) (omega arith) q (λ j u. f (suc j) (omega arith)))

-- the item stands nowhere; p smaller ones come first
pub put-new : (i : ℕ) (v : ℤ) (is : List ℕ) (vs : List ℤ) (p : ℕ) → length is ≡ length vs → p ≤ length is → ((j : ℕ) → j < p → get_or is j 0 < i)
    → (p < length is → i < get_or is p 0) → put i v (writes_of is vs) ≡ writes_of (inserted p i is) (inserted p v vs)
unfolding put entries_from
put-new i v [] [] zero e h f g = refl
put-new i v [] [] (suc p) e h f g = absurd (not-suc-le-zero h)
put-new i v [] (w ∷ vs) p e h f g = absurd (omega arith)
put-new i v (x ∷ is) [] p e h f g = absurd (omega arith)
put-new i v (x ∷ is) (w ∷ vs) zero e h f g =
    let high : i < x = g (omega arith) in
    rw (ne_eqb x i (λ z. omega arith), lt-ltb i x high)
put-new i v (x ∷ is) (w ∷ vs) (suc p) e h f g =
    let low : x < i = f 0 (omega arith) in
    rw (ne_eqb x i (λ z. omega arith), le-ltb i x (omega arith), put-new i v is vs p (omega arith) (omega arith) (λ j u. f (suc j) (omega arith)) (λ u. g (omega arith)))

-- ---- parts of a list

module _ {A : Type 0} where
  -- two lists with the same elements there have the same part
  pub slice-same : (d : A) (f n : ℕ) (k l : List A) → f + n ≤ length k → f + n ≤ length l → ((j : ℕ) → j < n → get_or k (f + j) d ≡ get_or l (f + j) d)
      → slice f (f + n) k ≡ slice f (f + n) l
  slice-same d f n k l h u e =
      ext_get_or d (slice f (f + n) k) (slice f (f + n) l) (length-slice f (f + n) k h ∙ sym (length-slice f (f + n) l u))
      (λ j w. let s : j < n = omega (arith, length-slice f (f + n) k h) in
      get_or-slice k d f (f + n) j (f + j) refl (omega arith) ∙ e j s ∙ sym (get_or-slice l d f (f + n) j (f + j) refl (omega arith)))

  pub slice_set : (f n k : ℕ) (l : List A) (a : A) → k < n → slice f (f + n) (set l (f + k) a) ≡ set (slice f (f + n) l) k a
  slice_set f n k l a h = ap (drop f) (take-set-lt (f + n) l (f + k) a (omega arith)) ∙ drop-set-add f (take (f + n) l) k a

  module _ (f n p : ℕ) (x : A) (l : List A) (h : p ≤ n) (u : f + n < length l) where
    abbrev front : List A
    front = take p (drop f l)

    abbrev back : List A
    back = slice (f + p) (f + n) l

    front_length : length (take p (drop f l)) ≡ p
    front_length = length-take-le p (drop f l) (rw (length-drop f l) (omega arith))

    back-length : length (slice (f + p) (f + n) l) ≡ n - p
    back-length = length-slice (f + p) (f + n) l (omega arith) ∙ omega arith

    long : f + length (take p (drop f l) ++ (x ∷ slice (f + p) (f + n) l)) ≡ f + (n + 1)
    long = rw (length-append front (x ∷ back)) (omega (arith, front_length, back-length))

    apart : insert_at (f + p) (n - p) x l ≡ take f l ++ ((front ++ (x ∷ back)) ++ drop (f + n + 1) l)
    apart =
        let e : f + p + (n - p) ≡ f + n = omega arith in
        rw e
        (ap (λ (k : List A). k ++ (x ∷ (back ++ drop (f + n + 1) l))) (take-add f p l)
        ∙ append_assoc (take f l) front (x ∷ (back ++ drop (f + n + 1) l))
        ∙ ap (λ (k : List A). take f l ++ k) (sym (append_assoc front (x ∷ back) (drop (f + n + 1) l))))

    pub slice-insert : slice f (f + (n + 1)) (insert_at (f + p) (n - p) x l) ≡ inserted p x (slice f (f + n) l)
    slice-insert =
        ap (λ (k : List A). slice f (f + (n + 1)) k) apart
        ∙ slice_at (take f l) (front ++ (x ∷ back)) (drop (f + n + 1) l) f (f + (n + 1)) (length-take-le f l (omega arith)) long
        ∙ sym (rw (drop-drop p f (take (f + n) l), part_in l f (f + n) 0 p f (f + p) (add-zero f) refl (omega arith)) (ap (λ (k : List A). k ++ (x ∷ back)) (part-take f p l)))

  pub slice-beside : (d : A) (f n at s : ℕ) (x : A) (l : List A) → at + s < length l → f + n ≤ length l → (f + n ≤ at) ⊎ (at + s < f)
      → slice f (f + n) (insert_at at s x l) ≡ slice f (f + n) l
  slice-beside d f n at s x l h u (inl w) =
      slice-same d f n (insert_at at s x l) l (omega (arith, length-insert at s x l h)) u (λ j b. insert-before at s x l h (f + j) d (omega arith))
  slice-beside d f n at s x l h u (inr w) =
      slice-same d f n (insert_at at s x l) l (omega (arith, length-insert at s x l h)) u (λ j b. insert-after at s x l h (f + j) d (omega arith))
