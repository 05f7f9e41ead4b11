-- `giver` meets its contract. The loop's invariant: `best` is the best of the first i candidates, and another replica.
use Rattle.std.proofs.Common.{◌≡◌, Some, unwrap_or}
use Rattle.giving.specs.Choice.{best_of}
use Rattle.call_giver.proofs.giver.Given as goal

abbrev pub invariant-loop-i : goal.invariant-loop-i
invariant-loop-i l = (unwrap_or l.best l.own ≡ best_of l.own l.turns l.i) × (l.best ≡ Some l.own → ⊥)
