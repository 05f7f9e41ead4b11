-- Case analysis on tests and on lists of refusals: to prove P of a choice, prove it of both sides, each with what its test tells. Assumes nothing.
use Prim.Native.Nat.{ℕ, zero, suc, ◌≤◌, ◌<◌}
use mathlib.Core.Path.{◌≡◌, refl, sym, ◌∙◌}
use mathlib.Core.Bool.{Bool, true, false, cond, not, ◌&&◌, true≢false}
use mathlib.Core.List.{List, [], ◌∷◌}
use native.Mathlib.Omega.{arith}
use lib.Dec.{eqb, ltb}
use borrow.Author.Tests.{eqb-true, eqb-false, ltb-true, ltb-false, not-true}
use Rattle.block.proofs.BoolLaws.{both}
use Rattle.block.specs.Answers.{Refusal, first_of}
use Rattle.memory.specs.Memory.{Memory, bump}
use Rattle.engine.specs.Answers.{Outcome, outcome, unless}
use Rattle.engine.specs.Answers.Answer.{refused}

-- ---- tests

pub cond_by : {A : Type 0} (P : A → Type 0) (b : Bool) {x y : A} → (b ≡ true → P x) → (b ≡ false → P y) → P (cond b x y)
cond_by P true f g = f refl
cond_by P false f g = g refl

pub bool_by : {P : Type 0} (b : Bool) → (b ≡ true → P) → (b ≡ false → P) → P
bool_by true f g = f refl
bool_by false f g = g refl

pub same_by : {P : Type 0} (a b : ℕ) → (a ≡ b → P) → ((a ≡ b → ⊥) → P) → P
same_by a b f g = bool_by (eqb a b) (λ e. f (eqb-true a b e)) (λ e. g (eqb-false a b e))

pub less_by : {P : Type 0} (a b : ℕ) → (a < b → P) → (b ≤ a → P) → P
less_by a b f g = bool_by (ltb a b) (λ e. f (ltb-true a b e)) (λ e. g (ltb-false a b e))

pub clash : {P : Type 0} {b : Bool} → b ≡ true → b ≡ false → P
clash t f = absurd (true≢false (sym t ∙ f))

-- ---- refusals

-- what a call does where it is not refused, and the refusal
pub unless-by : (P : Outcome → Type 0) (n : ℕ) (m : Memory) {o : Outcome}
    → (n ≡ 0 → P o) → ((n ≡ 0 → ⊥) → P (outcome (refused n) m)) → P (unless n m o)
unless-by P n m f g = cond_by P (eqb n 0) (λ e. f (eqb-true n 0 e)) (λ e. g (eqb-false n 0 e))

-- a number that is not 0 and no refusal of the list has
abbrev pub lacks : ℕ → List Refusal → Bool
lacks k [] = not (eqb 0 k)
lacks k (r ∷ rs) = not (eqb r.number k) && lacks k rs

not_it : (a k : ℕ) → not (eqb a k) ≡ true → a ≡ k → ⊥
not_it a k h = eqb-false a k (not-true (eqb a k) h)

pub not_first : (k : ℕ) (l : List Refusal) → lacks k l ≡ true → first_of l ≡ k → ⊥
unfolding first_of
not_first k [] h = not_it 0 k h
not_first k (r ∷ rs) h =
    let b = both _ _ h in
    cond_by (λ n. n ≡ k → ⊥) r.holds (λ e. not_it r.number k b.left) (λ e. not_first k rs b.right)

-- a refusal with another number than the one answered does not hold, and the answer comes from the rest
pub passes : (r : Refusal) (rs : List Refusal) {k : ℕ} → eqb r.number k ≡ false → first_of (r ∷ rs) ≡ k → (r.holds ≡ false) × (first_of rs ≡ k)
unfolding first_of
passes r rs {k} h =
    cond_by (λ n. n ≡ k → (r.holds ≡ false) × (first_of rs ≡ k)) r.holds (λ t z. absurd (eqb-false r.number k h z)) (λ f z. (f, z))

-- ---- counts

-- a count below its type's limit
pub bump_is : (n : ℕ) → n < 4_294_967_295 → bump n ≡ suc n
unfolding bump
bump_is n h = omega arith

-- no more numbers below n, all different, than n
pub pigeons : (n : ℕ) (f : ℕ → ℕ) → ((k : ℕ) → k ≤ n → f k < n) → ((j k : ℕ) → j < k → k ≤ n → f j ≡ f k → ⊥) → ⊥
pigeons zero f small apart = omega (arith, small 0 (omega arith))
pigeons (suc n) f small apart = pigeons n g small' apart'
  where
    g : ℕ → ℕ
    g k = cond (eqb (f k) n) (f (suc n)) (f k)

    small' : (k : ℕ) → k ≤ n → g k < n
    small' k h = cond_by (λ (x : ℕ). x < n) (eqb (f k) n)
        (λ e. same_by (f (suc n)) n
        (λ q. absurd (apart k (suc n) (omega arith) (omega arith) (eqb-true (f k) n e ∙ sym q)))
        (λ q. omega (arith, small (suc n) (omega arith), q)))
        (λ e. omega (arith, small k (omega arith), eqb-false (f k) n e))

    apart' : (j k : ℕ) → j < k → k ≤ n → g j ≡ g k → ⊥
    apart' j k h u = cond_by (λ (x : ℕ). x ≡ g k → ⊥) (eqb (f j) n)
        (λ e. cond_by (λ (x : ℕ). f (suc n) ≡ x → ⊥) (eqb (f k) n)
        (λ d. absurd (apart j k h (omega arith) (eqb-true (f j) n e ∙ sym (eqb-true (f k) n d))))
        (λ d q. apart k (suc n) (omega arith) (omega arith) (sym q)))
        (λ e. cond_by (λ (x : ℕ). f j ≡ x → ⊥) (eqb (f k) n)
        (λ d q. apart j (suc n) (omega arith) (omega arith) q)
        (λ d q. apart j k h (omega arith) q))

-- n numbers below n, all different, leave none of these out
pub no_other : (n : ℕ) (f : ℕ → ℕ) (r : ℕ) → r < n → ((k : ℕ) → k < n → f k < n) → ((j k : ℕ) → j < k → k < n → f j ≡ f k → ⊥)
    → ((k : ℕ) → k < n → f k ≡ r → ⊥) → ⊥
no_other n f r h small apart other = pigeons n g small' apart'
  where
    g : ℕ → ℕ
    g k = cond (ltb k n) (f k) r

    small' : (k : ℕ) → k ≤ n → g k < n
    small' k u = cond_by (λ (x : ℕ). x < n) (ltb k n) (λ e. small k (ltb-true k n e)) (λ e. h)

    apart' : (j k : ℕ) → j < k → k ≤ n → g j ≡ g k → ⊥
    apart' j k v u = cond_by (λ (x : ℕ). x ≡ g k → ⊥) (ltb j n)
        (λ e. cond_by (λ (x : ℕ). f j ≡ x → ⊥) (ltb k n)
        (λ d. apart j k v (ltb-true k n d))
        (λ d. other j (ltb-true j n e)))
        (λ e. absurd (omega (arith, ltb-false j n e)))
