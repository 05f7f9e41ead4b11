-- `report` meets its contract.
use mathlib.Core.Path.{refl}
use Rattle.engine.specs.Client.{report_of, report_step}
use Rattle.call_client.proofs.report.Goals as goal

pub returns : goal.returns
unfolding report_step report_of
returns c = λ m. (rw c.open_count.ensures, refl)
