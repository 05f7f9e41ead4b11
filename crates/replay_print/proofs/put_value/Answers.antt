-- `put_value` meets its contract.
use mir.Facts.{to_z-of_z}
use Rattle.replay_print.proofs.TextLaws.{appends_then}
use Rattle.replay_print.proofs.put_value.Goals as goal

pub returns : goal.returns
returns c = rw (to_z-of_z c.ranges.value) at (appends_then c.put-end.ensures c.put_signed.ensures)
