-- Whether a window has a block for a slot, and for each of a range: each answer from the tests that lead to it. Assumes nothing.
use Prim.Native.Nat.{ℕ, ◌+◌, ◌≤◌}
use mathlib.Core.Path.{◌≡◌, ◌∙◌}
use mathlib.Core.Bool.{Bool, not, ◌&&◌}
use mathlib.Core.List.{List, [], ◌∷◌}
use native.Mathlib.Omega.{arith}
use lib.Dec.{eqb}
use lib.ListN.{length, get_or}
use borrow.Author.Tests.{ne_eqb}
use Rattle.block.specs.Answers.{header_of}
use Rattle.block.specs.Numbers.{number_from}
use Rattle.block.proofs.NumberLaws.{number-four}
use Rattle.memory.specs.Memory.{window_slots, window_bytes}
use Rattle.memory.specs.Turns.{place_start}
use Rattle.memory.specs.Window.{kept_block}
use Rattle.engine.proofs.PlaceLaws.{place-fits, empty_block}
use Rattle.giving.specs.Giving.{holds}

-- a slot's block lies in the window
pub kept_fits : (s : ℕ) → place_start window_slots s + 512 ≤ window_bytes
kept_fits s = omega (arith, place-fits window_slots s (omega arith))

-- ---- one slot

module _ (b : List ℕ) (s : ℕ) where
  pub for-slot : (get_or b 0 0 ≡ 0 → ⊥) → 8 ≤ length b → (n : ℕ) → n ≡ number_from (get_or b 4 0 ∷ get_or b 5 0 ∷ get_or b 6 0 ∷ get_or b 7 0 ∷ [])
      → eqb n s ≡ (not (eqb (get_or b 0 0) 0) && eqb (header_of b).slot s)
  unfolding header_of
  for-slot h long n e = rw (ne_eqb (get_or b 0 0) 0 h, e ∙ number-four b 4 long)

pub holds_for : (w : List ℕ) (s : ℕ) (b : List ℕ) → b ≡ kept_block w s → (r : Bool) → r ≡ (not (eqb (get_or b 0 0) 0) && eqb (header_of b).slot s) → r ≡ holds w s
unfolding holds
holds_for w s b e r is = is ∙ rw (e, empty_block window_slots s w)
