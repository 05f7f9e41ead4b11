use Rattle.memory.specs.Memory.{bump}
use Rattle.memory.proofs.rows.bump.Goals as goal

pub returns : goal.returns
unfolding bump
returns c = c.saturating_add.ensures
