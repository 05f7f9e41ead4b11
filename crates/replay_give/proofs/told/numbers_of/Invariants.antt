-- `told::numbers_of` meets its contract. The loop's invariant: what is read, and what stands from the place on, make the whole.
use Prim.Native.Nat.{◌-◌, ◌≤◌}
use mathlib.Core.Path.{◌≡◌}
use mathlib.Core.List.{[]}
use lib.ListN.{length, take, drop}
use Rattle.replay_give.specs.Told.{numbers_from}
use Rattle.replay_give.proofs.told.numbers_of.Given as goal

abbrev pub invariant-loop-at : goal.invariant-loop-at
invariant-loop-at l =
    (l.count ≤ 6) × (length l.turns ≡ 6) × (numbers_from (6 - l.count) (take l.count l.turns) (drop l.at l.line) ≡ numbers_from 6 [] (drop 3 l.line))

abbrev pub decreases-loop-at : goal.decreases-loop-at
decreases-loop-at l = 6 - l.count
