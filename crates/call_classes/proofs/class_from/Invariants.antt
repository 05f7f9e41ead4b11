-- `class_from` meets its contract. The loop's invariant: a record has the class if one from the j-th on has. Assumes nothing.
use Rattle.std.proofs.Common.{◌≡◌, ◌-◌}
use Rattle.engine.specs.Classes.{class_from}
use Rattle.call_classes.proofs.class_from.Given as goal

abbrev pub invariant-loop-j : goal.invariant-loop-j
invariant-loop-j l = class_from l.classes l.class l.block l.from (l.j-end - l.from) ≡ class_from l.classes l.class l.block l.j (l.j-end - l.j)
