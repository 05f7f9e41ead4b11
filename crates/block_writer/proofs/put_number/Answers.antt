use mathlib.Core.Path.{◌∙◌}
use Rattle.block.proofs.WriteLaws.{le_bytes}
use Rattle.block_writer.proofs.put_number.Goals as goal

pub returns : goal.returns
returns c = c.copy_from_slice.ensures.after ∙ c.to_le_bytes.ensures ∙ le_bytes _
