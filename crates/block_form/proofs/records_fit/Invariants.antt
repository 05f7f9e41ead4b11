-- All of the records fit just if those from j on do.
use mathlib.Core.Path.{◌≡◌}
use Rattle.block.proofs.FormLaws.{records_good, records_rest}
use Rattle.block_form.proofs.records_fit.Given as goal

abbrev pub invariant-loop-j : goal.invariant-loop-j
invariant-loop-j l = records_good l.count l.body ≡ records_rest l.count l.j l.body
