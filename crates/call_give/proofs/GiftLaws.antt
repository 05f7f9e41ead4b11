-- A giving with a lent table. Assumes nothing.
use Prim.Native.Nat.{ℕ}
use mathlib.Core.Path.{◌≡◌}
use mathlib.Core.List.{List}
use borrow.Author.Tests.{eq-eqb, ne_eqb}
use lib.ListN.{length}
use Rattle.memory.specs.Memory.{Memory}
use Rattle.call_give.specs.Gifts.{gift, no_gift, gift_called}

module _ (m : Memory) (told lent : List ℕ) where
  pub gift-six : length m.txns.table ≡ 6 → gift_called m told lent ≡ gift m told lent
  unfolding gift_called
  gift-six h = rw (eq-eqb (length m.txns.table) 6 h)

  pub gift-other : (length m.txns.table ≡ 6 → ⊥) → gift_called m told lent ≡ record { reply = no_gift 1; memory = m }
  unfolding gift_called
  gift-other h = rw (ne_eqb (length m.txns.table) 6 h)
