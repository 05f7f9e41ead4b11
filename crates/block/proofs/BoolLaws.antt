-- Tests joined by `&&`, taken apart and put together. Assumes nothing.
use Prim.Native.Nat.{ℕ, ◌≤◌}
use mathlib.Core.Path.{◌≡◌, refl}
use mathlib.Core.Bool.{Bool, true, false, ◌&&◌, false≢true}
use borrow.Author.Tests.{leb-true}
use Rattle.block.specs.Message.{within}

pub record Both (a b : Bool) : Type 0 where
  pub left : a ≡ true
  pub right : b ≡ true

pub both : (a b : Bool) → a && b ≡ true → Both a b
both true b h = record { left = refl; right = h }
both false b h = absurd (false≢true h)

pub joined : {a b : Bool} → a ≡ true → b ≡ true → a && b ≡ true
joined {a} {b} p q = rw (p, q) refl

pub not_so : (a : Bool) → (a ≡ true → ⊥) → a ≡ false
not_so true h = absurd (h refl)
not_so false h = refl

pub record Within (low high x : ℕ) : Type 0 where
  pub above : low ≤ x
  pub below : x ≤ high

pub is_within : (low high x : ℕ) → within low high x ≡ true → Within low high x
unfolding within
is_within low high x h =
    let b = both _ _ h in
    record { above = leb-true low x b.left; below = leb-true x high b.right }
