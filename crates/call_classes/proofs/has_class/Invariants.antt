-- `has_class` meets its contract. The loop's invariant: an item has the class if that of an entry from e on has. Assumes nothing.
use Rattle.std.proofs.Common.{◌≡◌}
use Rattle.engine.specs.Moves.{writeset_at}
use Rattle.engine.specs.Classes.{has_class}
use Rattle.call_commit.proofs.EntryLaws.{rest}
use Rattle.call_classes.proofs.has_class.Given as goal

abbrev pub invariant-loop-e : goal.invariant-loop-e
invariant-loop-e l = has_class l.classes l.class (writeset_at l.block l.j).entries ≡ has_class l.classes l.class (rest l.block l.j l.e-end l.e)
