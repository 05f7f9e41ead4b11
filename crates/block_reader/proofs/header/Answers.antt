use Rattle.block.specs.Answers.{header_of}
use Rattle.block_reader.proofs.header.Goals as goal

pub returns : goal.returns
unfolding header_of
returns c = rw c.number_at.ensures
