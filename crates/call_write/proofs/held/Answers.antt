-- An item that stands nowhere is held by nobody, any other by whom the search names.
use mathlib.Core.Path.{sym, ◌∙◌}
use Rattle.call_write.proofs.HeldLaws.{nobody}
use Rattle.call_write.proofs.held.Goals as goal

pub returns-else-holds : goal.returns-else-holds
returns-else-holds c = rw (nobody c.args.item c.args.items.now (sym c.holds.ensures ∙ c.if-holds.false) c.args.at 0 c.args.rows) c.if-holds.false
