use Rattle.std.proofs.Common.{◌∙◌, sym}
use Rattle.memory.proofs.SearchLaws.{has_is}
use Rattle.memory.proofs.rows.holds.Goals as goal

pub returns : goal.returns
returns c = c.contains.ensures.value ∙ sym (has_is _ _)
