-- The reader refuses nothing just where its three tests hold; what the last of them says. Assumes nothing.
-- modules are checked in the order of their names, this one first: so what is computed comes before the proofs, and a wrong definition is refused there
use Prim.Native.Nat.{ℕ}
use mathlib.Core.Path.{◌≡◌, refl}
use mathlib.Core.Bool.{Bool, true, false, not, ◌&&◌}
use mathlib.Core.List.{List, [], ◌∷◌}
use native.Mathlib.Omega.{arith}
use lib.Dec.{eqb}
use lib.ListN.{length}
use borrow.Author.Tests.{eqb-true, eq-eqb}
use Rattle.block.specs.Check.{check_matches}
use Rattle.block.specs.Message.{valid}
use Rattle.block.specs.Form.{message_of, padded, well_formed}
use Rattle.block.specs.Answers.{refuse, first_of, block_refusal}
use Rattle.block.proofs.BoolLaws.{both}

pub record Taken (b : List ℕ) : Type 0 where
  pub long : length b ≡ 512
  pub checks : check_matches b ≡ true
  pub forms : well_formed b ≡ true

pub not_refused : (b : List ℕ) → Taken b → block_refusal b ≡ 0
unfolding block_refusal first_of
not_refused b t = rw (eq-eqb (length b) 512 t.long, t.checks, t.forms)

none_holds : (l c w : Bool) → first_of (refuse 1 (not l) ∷ refuse 14 (not c) ∷ refuse 15 (not w) ∷ []) ≡ 0 → (l ≡ true) × (c ≡ true) × (w ≡ true)
unfolding first_of
none_holds true true true h = (refl, refl, refl)
none_holds true true false h = absurd (omega arith)
none_holds true false w h = absurd (omega arith)
none_holds false c w h = absurd (omega arith)

pub is_taken : (b : List ℕ) → block_refusal b ≡ 0 → Taken b
unfolding block_refusal
is_taken b h =
    let t = none_holds (eqb (length b) 512) (check_matches b) (well_formed b) h in
    record { long = eqb-true (length b) 512 t.0; checks = t.1; forms = t.2 }

-- what a well-formed block's test says beside its length
pub record Formed (b : List ℕ) : Type 0 where
  pub fields : valid (message_of b) ≡ true
  pub unused : padded b ≡ true

pub is_formed : (b : List ℕ) → well_formed b ≡ true → Formed b
unfolding well_formed
is_formed b h =
    let c = both (valid (message_of b)) (padded b) (both (eqb (length b) 512) (valid (message_of b) && padded b) h).right in
    record { fields = c.left; unused = c.right }
