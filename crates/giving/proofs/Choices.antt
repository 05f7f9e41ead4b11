-- The choice of the giver: the first candidate with the highest turn. Assumes nothing.
-- modules are checked in the order of their names, this one first: so what is computed comes before the proofs, and a wrong definition is refused there
use Rattle.giving.proofs.Worked.{right_choices, right_givings}
use Prim.Native.Nat.{ℕ, zero, suc, ◌+◌, ◌≤◌, ◌<◌}
use mathlib.Core.Path.{◌≡◌, refl, sym, subst}
use mathlib.Core.Bool.{Bool, true, false, cond, not}
use mathlib.Core.Logic.{◌⊎◌, inl, inr}
use mathlib.Core.List.{List}
use native.Mathlib.Nat.{mod-lt}
use native.Mathlib.Omega.{arith}
use lib.Dec.{eqb, ltb}
use lib.ListN.{length}
use borrow.Author.Tests.{eqb-false, ltb-true, ltb-false, eq-eqb, ne_eqb, not-true}
use Rattle.block.proofs.BoolLaws.{both, not_so}
use Rattle.engine.proofs.Tests.{cond_by, less_by, clash}
use Rattle.giving.specs.Choice.{told_turn, may_give, is_better, candidate, best_of, giver_of}
use Rattle.giving.specs.Statement.{FirstHighest, Choices}

-- who may give is another
pub not_own : (own : ℕ) (told : List ℕ) (g : ℕ) → may_give own told g ≡ true → g ≡ own → ⊥
not_own own told g h = eqb-false g own (not-true (eqb g own) (both (not (eqb g own)) _ h).left)

-- ---- the best of the first c in an order, found one by one

module _ (own : ℕ) (told : List ℕ) (order : ℕ → ℕ) where
  -- g is the first with the highest turn
  pub record FirstIn (c g : ℕ) : Type 0 where
    pub place : ℕ
    pub among : place < c
    pub is : g ≡ order place
    pub may : may_give own told g ≡ true
    pub highest : (i : ℕ) → i < c → may_give own told (order i) ≡ true → told_turn told (order i) ≤ told_turn told g
    pub first : (i : ℕ) → i < place → may_give own told (order i) ≡ true → told_turn told (order i) < told_turn told g

  abbrev pub NoneOf : ℕ → Type 0
  NoneOf c = (i : ℕ) → i < c → may_give own told (order i) ≡ false

  abbrev pub Best : ℕ → ℕ → Type 0
  Best c g = ((g ≡ own) × NoneOf c) ⊎ FirstIn c g

  abbrev test : ℕ → ℕ → Bool
  test c g = is_better own told g (order c)

  none_more : (c : ℕ) → NoneOf c → may_give own told (order c) ≡ false → NoneOf (suc c)
  none_more c n e i h = less_by i c (n i) (λ u. let z : i ≡ c = omega arith in rw z e)

  -- nobody yet
  from-none : (c g : ℕ) → g ≡ own → NoneOf c → Best (suc c) (cond (test c g) (order c) g)
  from-none c g e n = cond_by (Best (suc c)) (test c g)
      (λ t. let m = (both (may_give own told (order c)) _ t).left in
      inr (record {
        place = c;
        among = omega arith;
        is = refl;
        may = m;
        highest = λ i h q. less_by i c (λ u. clash q (n i u)) (λ u. let z : i ≡ c = omega arith in rw z (omega arith));
        first = λ i h q. clash q (n i h);
      }))
      (λ t. inl (e, none_more c n (not_so (may_give own told (order c)) (λ m. clash {b = test c g} (rw (m, eq-eqb g own e) refl) t))))

  -- g so far
  from_some : (c g : ℕ) → FirstIn c g → Best (suc c) (cond (test c g) (order c) g)
  from_some c g F =
      let d : eqb g own ≡ false = ne_eqb g own (not_own own told g F.may) in
      cond_by (Best (suc c)) (test c g)
      (λ t.
      let b = both (may_give own told (order c)) _ t in
      let l : told_turn told g < told_turn told (order c) = ltb-true (told_turn told g) (told_turn told (order c)) (rw d at b.right) in
      inr (record {
        place = c;
        among = omega arith;
        is = refl;
        may = b.left;
        highest = λ i h q. less_by i c (λ u. let a = F.highest i u q in omega arith) (λ u. let z : i ≡ c = omega arith in rw z (omega arith));
        first = λ i h q. let a = F.highest i h q in omega arith;
      }))
      (λ t. inr (record {
        place = F.place;
        among = (let a = F.among in omega arith);
        is = F.is;
        may = F.may;
        highest = λ i h q. less_by i c (λ u. F.highest i u q) (λ u.
            let z : i ≡ c = omega arith in
            let q' : may_give own told (order c) ≡ true = rw z at q in
            let l : ltb (told_turn told g) (told_turn told (order c)) ≡ false = not_so _ (λ y. clash {b = test c g} (rw (q', d, y) refl) t) in
            rw z (ltb-false (told_turn told g) (told_turn told (order c)) l));
        first = F.first;
      }))

  -- best c is the best of the first c
  module _ (best : ℕ → ℕ) (none : best 0 ≡ own) (more : (c : ℕ) → best (suc c) ≡ cond (is_better own told (best c) (order c)) (order c) (best c)) where
    pub best-in : (c : ℕ) → Best c (best c)
    best-in zero = inl (none, λ i h. absurd (let z : ⊥ = omega arith in z))
    best-in (suc c) = subst (Best (suc c)) (sym (more c)) (go (best-in c))
      where
        go : Best c (best c) → Best (suc c) (cond (test c (best c)) (order c) (best c))
        go (inl n) = from-none c (best c) n.0 n.1
        go (inr F) = from_some c (best c) F

-- ---- candidate by candidate

pub best_none : (own : ℕ) (told : List ℕ) → best_of own told 0 ≡ own
unfolding best_of
best_none own told = refl

pub best_more : (own : ℕ) (told : List ℕ) (c : ℕ)
    → best_of own told (suc c) ≡ cond (is_better own told (best_of own told c) (candidate own (length told) c)) (candidate own (length told) c) (best_of own told c)
unfolding best_of
best_more own told c = refl

pub best : (own : ℕ) (told : List ℕ) (c : ℕ) → Best own told (candidate own (length told)) c (best_of own told c)
best own told = best-in own told (candidate own (length told)) (best_of own told) (best_none own told) (best_more own told)

-- a candidate is one that a turn is told of
pub candidate-below : (own n i : ℕ) → i < n → candidate own n i < n
candidate-below own n i h = mod-lt (own + 1 + i) {m = n} (omega arith)

-- and so is the giver, another one that is up
pub giver_may : (own : ℕ) (told : List ℕ) → (giver_of own told ≡ own → ⊥) → (giver_of own told < length told) × (may_give own told (giver_of own told) ≡ true)
giver_may own told d = go (best own told (length told))
  where
    go : Best own told (candidate own (length told)) (length told) (giver_of own told) → (giver_of own told < length told) × (may_give own told (giver_of own told) ≡ true)
    go (inl q) = absurd (d q.0)
    go (inr F) = (rw F.is (candidate-below own (length told) F.place F.among), F.may)

pub choices : Choices
choices = record { best = λ own told c. go own told c (best own told c) }
  where
    go : (own : ℕ) (told : List ℕ) (c : ℕ) → Best own told (candidate own (length told)) c (best_of own told c)
        → ((best_of own told c ≡ own) × ((i : ℕ) → i < c → may_give own told (candidate own (length told) i) ≡ false)) ⊎ FirstHighest own told c (best_of own told c)
    go own told c (inl q) = inl q
    go own told c (inr F) = inr (record { place = F.place; among = F.among; is = F.is; may = F.may; highest = F.highest; first = F.first })
