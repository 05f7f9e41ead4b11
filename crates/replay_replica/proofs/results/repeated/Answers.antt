-- `results::repeated` meets its contract.
use mir.Facts.{to_z-of_z}
use Rattle.replay_replica.proofs.results.repeated.Goals as goal

pub returns : goal.returns
returns c = rw (to_z-of_z c.ranges.value)
