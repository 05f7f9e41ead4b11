-- All of the tickets differ just if those from record j on do.
use mathlib.Core.Path.{◌≡◌}
use Rattle.block.specs.Message.{tickets_differ}
use Rattle.block.specs.Form.{records_of}
use Rattle.block.proofs.FormLaws.{records_from}
use Rattle.block_form.proofs.tickets_differ.Given as goal

abbrev pub invariant-loop-j : goal.invariant-loop-j
invariant-loop-j l = tickets_differ (records_of l.count l.body) ≡ tickets_differ (records_from l.count l.j l.body)
