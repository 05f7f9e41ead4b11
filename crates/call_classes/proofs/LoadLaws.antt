-- Classes all in range. Assumes nothing.
use Prim.Native.Nat.{ℕ}
use mathlib.Core.Path.{◌≡◌, refl}
use mathlib.Core.List.{List, [], ◌∷◌}
use Rattle.std.specs.List.{list_all}
use Rattle.block.specs.Message.{within}
use Rattle.engine.specs.Classes.{are_classes}

pub classes_all : (l : List ℕ) → list_all (within 1 8) l ≡ are_classes l
unfolding are_classes
classes_all [] = refl
classes_all (c ∷ l) = rw (classes_all l)
