-- One candidate more. Assumes nothing.
use Rattle.std.proofs.Common.{ℕ, ◌≡◌, sym, ◌∙◌, Bool, true, false, List, length, ◌+◌, add-one}
use mathlib.Core.Bool.{true≢false}
use borrow.Author.Tests.{eq-eqb}
use Rattle.block.proofs.BoolLaws.{both}
use Rattle.giving.specs.Choice.{may_give, is_better, candidate, best_of}

-- candidate i is looked at, after those before it
module _ (own : ℕ) (told : List ℕ) (i best next : ℕ) (so_far : best ≡ best_of own told i) (is : next ≡ candidate own (length told) i)
    (better : Bool) (said : better ≡ is_better own told best next) where
  pub best-next : better ≡ true → next ≡ best_of own told (i + 1)
  unfolding best_of
  best-next e = rw (add-one i, ← so_far, ← is, ← said, e)

  pub best-stays : better ≡ false → best ≡ best_of own told (i + 1)
  unfolding best_of
  best-stays e = rw (add-one i, ← so_far, ← is, ← said, e)

-- who is better is another
pub another_may : (own : ℕ) (told : List ℕ) (best next : ℕ) → is_better own told best next ≡ true → next ≡ own → ⊥
another_may own told best next better e =
    let may = (both (may_give own told next) _ better).left in
    let no : may_give own told next ≡ false = rw (eq-eqb next own e) in
    true≢false (sym may ∙ no)
