-- `word` meets its contract: it is the number in its two bytes.
use borrow.Author.Rules.{rules}
use Rattle.block.specs.Numbers.{number_from}
use Rattle.block.specs.Check.{word}
use Rattle.block_check.proofs.word.Goals as goal

pub returns : goal.returns
unfolding word number_from
returns c = search rules
