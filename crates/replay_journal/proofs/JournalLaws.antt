-- A journal with bytes appended, in its page. Assumes nothing.
use Prim.Native.Nat.{ℕ, ◌≤◌, min}
use mathlib.Core.Path.{◌≡◌, sym, ◌∙◌}
use mathlib.Core.List.{List}
use native.Mathlib.Decide.{dec_le}
use native.Mathlib.Omega.{arith}
use lib.ListN.{length, take, length-take}
use lib.Seq.{take_all, take-take, take-length}

-- ---- first elements

-- of the first b the first a
pub take-both : (a b : ℕ) (l : List ℕ) → take a (take b l) ≡ take (min a b) l
take-both a b l = go (dec_le a b)
  where
    go : Dec (a ≤ b) → take a (take b l) ≡ take (min a b) l
    go (yes h) =
        let e : min a b ≡ a = omega arith in
        rw e (take-take a b l h)
    go (no h) =
        let e : min a b ≡ b = omega arith in
        rw e (take_all a (take b l) (omega (arith, length-take b l)))

-- no more than there are
pub take_there : (n : ℕ) (l : List ℕ) → take (min n (length l)) l ≡ take n l
take_there n l = sym (take-both n (length l) l) ∙ rw (take-length l)
