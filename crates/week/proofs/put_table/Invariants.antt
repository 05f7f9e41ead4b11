-- `put_table` meets its contract.
use mathlib.Core.Path.{◌≡◌}
use mathlib.Core.List.{◌++◌}
use lib.ListN.{take}
use Rattle.week.specs.Texts.{rows_text, with_text}
use Rattle.week.proofs.put_table.Given as goal

abbrev pub invariant-loop-k : goal.invariant-loop-k
invariant-loop-k l =
    (l.output ≡ with_text l.initial.output (rows_text l.week.replicas l.k)) × (take l.output.held l.out ≡ take l.initial.output.held l.initial.out ++ rows_text l.week.replicas l.k)
