-- What a list of numbers has, and where. Assumes nothing.
use Prim.Native.Nat.{ℕ, zero, suc, ◌+◌, ◌≤◌, ◌<◌}
use mathlib.Core.Path.{◌≡◌, refl, sym, ◌∙◌}
use mathlib.Core.Bool.{Bool, true, false}
use mathlib.Core.List.{List, [], ◌∷◌, ◌++◌}
use native.Mathlib.Nat.{zero-add, suc-add, add-suc, add-zero, not-suc-le-zero, le_of_suc-le-suc}
use native.Mathlib.Omega.{arith}
use lib.Dec.{eqb}
use lib.ListN.{length, get_or, length-append, get_or-append}
use lib.Seq.{slice, length-slice, get_or_at}
use borrow.Author.Tests.{eqb-true, eqb-false, eq-eqb}
use Rattle.block.proofs.ListLaws.{get_or-slice}
use Rattle.memory.specs.Rows.{index_from, has}
use Rattle.engine.proofs.Tests.{cond_by, clash}

-- ---- what it has

pub has-at : (x : ℕ) (l : List ℕ) (k : ℕ) → k < length l → get_or l k 0 ≡ x → has x l ≡ true
unfolding has
has-at x [] k h e = absurd (not-suc-le-zero h)
has-at x (y ∷ ys) zero h e = rw (eq-eqb y x e)
has-at x (y ∷ ys) (suc k) h e = cond_by (λ (b : Bool). b ≡ true) (eqb y x) (λ q. refl) (λ q. has-at x ys k (le_of_suc-le-suc h) e)

-- one of the n elements from f on is x
pub record At (l : List ℕ) (f n x : ℕ) : Type 0 where
  pub place : ℕ
  pub within : place < n
  pub is : get_or l (f + place) 0 ≡ x

pub record Where (x : ℕ) (l : List ℕ) : Type 0 where
  pub place : ℕ
  pub within : place < length l
  pub is : get_or l place 0 ≡ x

pub has_where : (x : ℕ) (l : List ℕ) → has x l ≡ true → Where x l
unfolding has
has_where x [] e = clash e refl
has_where x (y ∷ ys) e =
    cond_by (λ (b : Bool). b ≡ true → Where x (y ∷ ys)) (eqb y x)
    (λ q h. record { place = 0; within = omega arith; is = eqb-true y x q })
    (λ q h. let w = has_where x ys h in record { place = suc w.place; within = omega (arith, w.within); is = w.is }) e

pub has_not : (x y : ℕ) (ys : List ℕ) → has x (y ∷ ys) ≡ false → (x ≡ y → ⊥) × (has x ys ≡ false)
unfolding has
has_not x y ys =
    cond_by (λ (b : Bool). b ≡ false → (x ≡ y → ⊥) × (has x ys ≡ false)) (eqb y x) (λ e h. clash {b = true} refl h)
    (λ e h. ((λ q. eqb-false y x e (sym q)), h))

pub has-append : (x : ℕ) (l k : List ℕ) → has x l ≡ true → has x (l ++ k) ≡ true
has-append x l k h =
    let w = has_where x l h in
    has-at x (l ++ k) w.place (omega (arith, w.within, length-append l k)) (get_or-append l k 0 w.place w.within ∙ w.is)

pub has_last : (x : ℕ) (l : List ℕ) → has x (l ++ (x ∷ [])) ≡ true
has_last x l = has-at x (l ++ (x ∷ [])) (length l) (omega (arith, length-append l (x ∷ []))) (get_or_at l x [] 0 (length l) refl)

-- ---- a part of it

-- the n elements from f on have x, and so one of them is x
pub has_part : (x : ℕ) (l : List ℕ) (n f : ℕ) → f + n ≤ length l → has x (slice f (f + n) l) ≡ true → At l f n x
has_part x l n f h e =
    let w = has_where x (slice f (f + n) l) e in
    let u : w.place < n = omega (arith, w.within, length-slice f (f + n) l h) in
    record { place = w.place; within = u; is = sym (get_or-slice l 0 f (f + n) w.place (f + w.place) refl (omega arith)) ∙ w.is }

-- and the other way
pub part-has : (x : ℕ) (l : List ℕ) (n f k : ℕ) → f + n ≤ length l → k < n → get_or l (f + k) 0 ≡ x → has x (slice f (f + n) l) ≡ true
part-has x l n f k h u e =
    has-at x (slice f (f + n) l) k (rw (length-slice f (f + n) l h) (omega arith)) (get_or-slice l 0 f (f + n) k (f + k) refl (omega arith) ∙ e)

-- ---- where it has it

-- to prove P of the place found, prove it of each place that has x, and of one past the last where none has it
pub index_by : (P : ℕ → Type 0) (x : ℕ) (l : List ℕ) (i : ℕ) → ((k : ℕ) → k < length l → get_or l k 0 ≡ x → P (i + k))
    → (((k : ℕ) → k < length l → get_or l k 0 ≡ x → ⊥) → P (i + length l)) → P (index_from x l i)
unfolding index_from
index_by P x [] i f g = rw add-zero at (g (λ k h. absurd (not-suc-le-zero h)))
index_by P x (y ∷ ys) i f g =
    cond_by P (eqb y x) (λ e. rw add-zero at (f 0 (omega arith) (eqb-true y x e)))
    (λ e. index_by P x ys (suc i) (λ k h q. rw (suc-add, ← add-suc i k) (f (suc k) (omega arith) q))
    (λ no_one. rw (suc-add, ← add-suc i (length ys)) (g (none e no_one))))
  where
    none : eqb y x ≡ false → ((k : ℕ) → k < length ys → get_or ys k 0 ≡ x → ⊥) → (k : ℕ) → k < suc (length ys) → get_or (y ∷ ys) k 0 ≡ x → ⊥
    none e h zero u = eqb-false y x e
    none e h (suc k) u = h k (omega arith)

-- where it stays below, the place has x
pub index_at : (x : ℕ) (l : List ℕ) → index_from x l 0 < length l → get_or l (index_from x l 0) 0 ≡ x
index_at x l =
    index_by (λ (p : ℕ). p < length l → get_or l p 0 ≡ x) x l 0 (λ k h e u. rw zero-add e) (λ f u. absurd (let z : ⊥ = omega arith in z))

-- where the search goes past the last, no place has x
pub index_none : (x : ℕ) (l : List ℕ) → length l ≤ index_from x l 0 → (k : ℕ) → k < length l → get_or l k 0 ≡ x → ⊥
index_none x l =
    index_by (λ (p : ℕ). length l ≤ p → (k : ℕ) → k < length l → get_or l k 0 ≡ x → ⊥) x l 0 (λ k h e u. absurd (let z : ⊥ = omega arith in z)) (λ f u. f)
