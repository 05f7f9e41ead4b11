use Rattle.std.proofs.Common.{◌∙◌}
use Rattle.block.specs.Message.{owner_of}
use Rattle.memory.proofs.SearchLaws.{rem_or}
use Rattle.memory.proofs.cursor.owner_at.Goals as goal

pub returns : goal.returns
unfolding owner_of
returns c = c.unwrap_or.ensures ∙ rem_or _ _ _ c.checked_rem.ensures
