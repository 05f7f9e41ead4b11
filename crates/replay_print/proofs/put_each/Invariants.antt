-- The loop's invariant: the texts of the first items are put.
use mathlib.Core.Path.{◌≡◌}
use lib.ListN.{length, take}
use Rattle.replay_print.specs.Text.{each, Appends}
use Rattle.replay_print.proofs.put_each.Given as goal

abbrev pub invariant-loop-item : goal.invariant-loop-item
invariant-loop-item g l = (length l.out ≡ length l.initial.out) × Appends (each g.T.Listed.text (take l.item-index l.items)) l.initial.out l.at l.out l.end
