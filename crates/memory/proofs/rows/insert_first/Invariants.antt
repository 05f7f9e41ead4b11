-- The first j, what is in hand and the others are the item and what was there.
use Rattle.std.proofs.Common.{◌≡◌, take, drop, ◌∷◌, ◌++◌}
use Rattle.memory.proofs.rows.insert_first.Given as goal

abbrev pub invariant-loop-j : goal.invariant-loop-j
invariant-loop-j g l = take l.j l.items ++ (l.next ∷ drop l.j l.items) ≡ l.fn.item ∷ l.initial.items
