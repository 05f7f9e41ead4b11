-- The ticket is absent from `from` on just if it is from i on.
use mathlib.Core.Path.{◌≡◌}
use Rattle.block.specs.Message.{ticket_absent}
use Rattle.block.proofs.FormLaws.{records_from}
use Rattle.block_form.proofs.ticket_absent.Given as goal

abbrev pub invariant-loop-i : goal.invariant-loop-i
invariant-loop-i l = ticket_absent l.ticket (records_from l.count l.from l.body) ≡ ticket_absent l.ticket (records_from l.count l.i l.body)
