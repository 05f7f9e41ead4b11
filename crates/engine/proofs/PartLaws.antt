-- A list with a part put in place of another, and an element put into its place among rising ones. Assumes nothing.
use Prim.Native.Nat.{ℕ, zero, suc, ◌+◌, ◌-◌, ◌≤◌, ◌<◌}
use mathlib.Core.Path.{◌≡◌, sym, ap, ◌∙◌}
use mathlib.Core.Bool.{true}
use mathlib.Core.Logic.{inl, inr}
use mathlib.Core.List.{List, [], ◌∷◌, ◌++◌, append_assoc}
use native.Mathlib.Nat.{zero-add, suc-add, add-suc, add-zero, not-suc-le-zero}
use native.Mathlib.Omega.{arith}
use lib.Dec.{ltb}
use lib.ListN.{length, get_or, take, drop, set, length-append, length-drop, get_or-append}
use lib.Seq.{slice, paste, length-slice, length-take-le, length_paste_head, get_or-append-add, get_or_at, get_or-take, get_or-drop, get_or-set_other}
use borrow.Author.Tests.{ltb-true, ltb-false}
use Rattle.block.proofs.ListLaws.{get_or-slice}
use Rattle.memory.specs.Rows.{count_below, insert_at}
use Rattle.engine.specs.Frames.{SameBut}
use Rattle.engine.proofs.Tests.{cond_by, less_by, same_by}

-- ---- a part put in

get_or_behind : {A : Type 0} (xs ys : List A) (d : A) (i k : ℕ) → length xs + k ≡ i → get_or (xs ++ ys) i d ≡ get_or ys k d
get_or_behind xs ys d i k e = ap (λ (j : ℕ). get_or (xs ++ ys) j d) (sym e) ∙ get_or-append-add xs ys k d

module _ {A : Type 0} (d : A) where
  pub set-but : (l : List A) (at n k : ℕ) (a : A) → at ≤ k → k < at + n → SameBut d at n l (set l k a)
  set-but l at n k a h u i (inl s) = get_or-set_other l k i a d (λ e. omega arith)
  set-but l at n k a h u i (inr s) = get_or-set_other l k i a d (λ e. omega arith)

  -- the first n elements of k in place of n others
  pub paste-but : (l k : List A) (at n : ℕ) → at + n ≤ length l → n ≤ length k → SameBut d at n l (paste l at k n)
  paste-but l k at n h u i (inl s) =
      ap (λ (z : List A). get_or z i d) (append_assoc (take at l) (take n k) (drop (at + n) l))
      ∙ get_or-append (take at l) (take n k ++ drop (at + n) l) d i (rw (length-take-le at l (omega arith)) s)
      ∙ get_or-take at l i d s
  paste-but l k at n h u i (inr s) =
      let rest : at + n + (i - (at + n)) ≡ i = omega arith in
      get_or_behind (take at l ++ take n k) (drop (at + n) l) d i (i - (at + n)) (omega (arith, length_paste_head l at k n (omega arith) u))
      ∙ get_or-drop (at + n) l (i - (at + n)) d
      ∙ ap (λ (j : ℕ). get_or l j d) rest

-- ---- x at the index and n elements moved up

module _ {A : Type 0} (at n : ℕ) (x : A) (l : List A) (room : at + n < length l) where
  abbrev rest : List A
  rest = slice at (at + n) l ++ drop (at + n + 1) l

  front : length (take at l) ≡ at
  front = length-take-le at l (omega arith)

  middle : length (slice at (at + n) l) ≡ n
  middle = length-slice at (at + n) l (omega arith) ∙ omega arith

  pub length-insert : length (insert_at at n x l) ≡ length l
  length-insert = simp (length-append, length-append, front, middle, length-drop) (omega arith)

  pub insert-before : (i : ℕ) (d : A) → i < at → get_or (insert_at at n x l) i d ≡ get_or l i d
  insert-before i d h = get_or-append (take at l) (x ∷ rest) d i (rw front h) ∙ get_or-take at l i d h

  pub insert-here : (d : A) → get_or (insert_at at n x l) at d ≡ x
  insert-here d = get_or_at (take at l) x rest d at front

  past : (i k : ℕ) (d : A) → at + suc k ≡ i → get_or (insert_at at n x l) i d ≡ get_or rest k d
  past i k d e = get_or_behind (take at l) (x ∷ rest) d i (suc k) (ap (λ (a : ℕ). a + suc k) front ∙ e)

  pub insert-moved : (i : ℕ) (d : A) → at < i → i ≤ at + n → get_or (insert_at at n x l) i d ≡ get_or l (i - 1) d
  insert-moved i d h u =
      let k : ℕ = i - 1 - at in
      past i k d (omega arith)
      ∙ get_or-append (slice at (at + n) l) (drop (at + n + 1) l) d k (rw middle (omega arith))
      ∙ get_or-slice l d at (at + n) k (i - 1) (omega arith) (omega arith)

  pub insert-after : (i : ℕ) (d : A) → at + n < i → get_or (insert_at at n x l) i d ≡ get_or l i d
  insert-after i d h =
      let k : ℕ = i - 1 - at - n in
      past i (n + k) d (omega arith)
      ∙ get_or_behind (slice at (at + n) l) (drop (at + n + 1) l) d (n + k) k (ap (λ (a : ℕ). a + k) middle)
      ∙ get_or-drop (at + n + 1) l k d
      ∙ (let e : at + n + 1 + k ≡ i = omega arith in ap (λ (j : ℕ). get_or l j d) e)

-- all in the part of `size` elements that begins at `from`
pub insert_but : {A : Type 0} (d : A) (l : List A) (at n : ℕ) (x : A) (from size : ℕ) → from ≤ at → at + n < from + size → at + n < length l
    → SameBut d from size l (insert_at at n x l)
insert_but d l at n x from size f t h i (inl s) = insert-before at n x l h i d (omega arith)
insert_but d l at n x from size f t h i (inr s) = insert-after at n x l h i d (omega arith)

-- ---- how many of the first are below x

pub record Below (x : ℕ) (l : List ℕ) (p : ℕ) : Type 0 where
  pub fits : p ≤ length l
  pub under : (k : ℕ) → k < p → get_or l k 0 < x
  pub over : p < length l → x ≤ get_or l p 0

below_by : (P : ℕ → Type 0) (x : ℕ) (l : List ℕ) (i : ℕ) → ((p : ℕ) → Below x l p → P (i + p)) → P (count_below x l i)
unfolding count_below
below_by P x [] i f = rw add-zero at (f 0 (record { fits = omega arith; under = λ k h. absurd (not-suc-le-zero h); over = λ h. absurd (not-suc-le-zero h) }))
below_by P x (y ∷ ys) i f =
    cond_by P (ltb y x) (λ e. below_by P x ys (suc i) (λ p b. rw (suc-add, ← add-suc i p) (f (suc p) (more e p b))))
    (λ e. rw add-zero at (f 0 (record { fits = omega arith; under = λ k h. absurd (not-suc-le-zero h); over = λ h. ltb-false y x e })))
  where
    more : ltb y x ≡ true → (p : ℕ) → Below x ys p → Below x (y ∷ ys) (suc p)
    more e p b = record { fits = omega arith; under = under; over = λ h. b.over (omega arith) }
      where
        under : (k : ℕ) → k < suc p → get_or (y ∷ ys) k 0 < x
        under zero h = ltb-true y x e
        under (suc k) h = b.under k (omega arith)

pub below : (x : ℕ) (l : List ℕ) → Below x l (count_below x l 0)
below x l = below_by (Below x l) x l 0 (λ p b. rw zero-add b)

pub below-part : (x f n : ℕ) (l : List ℕ) → f + n ≤ length l → count_below x (slice f (f + n) l) 0 ≤ n
below-part x f n l h = omega (arith, (below x (slice f (f + n) l)).fits, length-slice f (f + n) l h)

-- ---- rising

-- n numbers f and the n + 1 numbers g with x at p among them
pub record Inserted (f g : ℕ → ℕ) (n p x : ℕ) : Type 0 where
  pub fits : p ≤ n
  pub before : (k : ℕ) → k < p → g k ≡ f k
  pub here : g p ≡ x
  pub moved : (k : ℕ) → p < k → k ≤ n → g k ≡ f (k - 1)

module _ (f g : ℕ → ℕ) (n p x : ℕ) (i : Inserted f g n p x) where
  -- each is x or one of the old ones
  pub inserted_by : (P : ℕ → Type 0) → P x → ((k : ℕ) → k < n → P (f k)) → (k : ℕ) → k < n + 1 → P (g k)
  inserted_by P new old k h =
      less_by k p (λ a. rw (i.before k a) (old k (omega (arith, i.fits))))
      (λ a. same_by k p (λ e. rw (e, i.here) new) (λ e. rw (i.moved k (omega (arith, e)) (omega arith)) (old (k - 1) (omega (arith, e)))))

  pub inserted-rises : ((j k : ℕ) → j < k → k < n → f j < f k) → ((k : ℕ) → k < p → f k < x) → ((k : ℕ) → p ≤ k → k < n → x < f k)
      → (j k : ℕ) → j < k → k < n + 1 → g j < g k
  inserted-rises rises under over j k h u =
      less_by k p (λ a. rw (i.before k a, i.before j (omega arith)) (rises j k h (omega (arith, i.fits))))
      (λ a. same_by k p (λ e. rw (e, i.here, i.before j (omega arith)) (under j (omega arith)))
      (λ e. let a : p < k = omega (arith, e) in
      rw (i.moved k a (omega arith))
      (less_by j p (λ b. rw (i.before j b) (rises j (k - 1) (omega arith) (omega arith)))
      (λ b. same_by j p (λ q. rw (q, i.here) (over (k - 1) (omega arith) (omega arith)))
      (λ q. let c : p < j = omega (arith, q) in rw (i.moved j c (omega arith)) (rises (j - 1) (k - 1) (omega arith) (omega arith)))))))
