-- Outages: an owner that is out. Assumes nothing.
use Prim.Native.Nat.{ℕ, ◌≤◌, ◌<◌}
use mathlib.Core.Path.{◌≡◌, refl, sym}
use mathlib.Core.Bool.{Bool, true, false}
use mathlib.Core.List.{List}
use native.Mathlib.Omega.{arith}
use lib.Dec.{ltb, leb}
use lib.ListN.{length, get_or, get_or-eq_default}
use borrow.Author.Tests.{ltb-true, ltb-false}
use Rattle.block.proofs.BoolLaws.{both}
use Rattle.memory.specs.declared.Group.{Group}
use Rattle.memory.specs.Memory.{slot_limit, owner_at}
use Rattle.memory.specs.Notices.{is_out}

-- past the sixth there is no outage
none_past : (l : List ℕ) → length l ≡ 6 → (k : ℕ) → 6 ≤ k → 0 ≡ get_or l k 0
none_past l six k h = sym (get_or-eq_default l 0 (omega arith))

-- an owner that is out is one of the six
pub owner_within : (g : Group) (s : ℕ) → length g.until ≡ 6 → is_out g s ≡ true → owner_at g s < 6
owner_within g s six h = go (ltb (owner_at g s) 6) refl
  where
    ends : s < get_or g.until (owner_at g s) 0
    ends = ltb-true s _ (both (leb (get_or g.from (owner_at g s) 0) s) _ (both (ltb s slot_limit) _ h).right).right

    go : (b : Bool) → ltb (owner_at g s) 6 ≡ b → owner_at g s < 6
    go true e = ltb-true (owner_at g s) 6 e
    go false e = absurd (omega (arith, ends, none_past g.until six (owner_at g s) (ltb-false (owner_at g s) 6 e)))
