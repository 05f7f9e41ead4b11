use mathlib.Core.Path.{◌∙◌}
use Rattle.block.proofs.NumberLaws.{number-four}
use Rattle.block.proofs.number_at.Goals as goal

pub returns : goal.returns
returns c = c.number.ensures ∙ number-four c.args.bytes.now c.args.at c.requires
