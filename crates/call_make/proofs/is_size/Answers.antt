-- `is_size` meets its contract: the ends of the range are tests.
use Rattle.std.proofs.Common.{ℕ, ◌≡◌, ◌∙◌, arith}
use Rattle.std.proofs.lemmas.Bool.Decides.{nat_tests}
use Rattle.std.specs.Ordering.{is_le, nat_cmp}
use lib.Dec.{leb}
use Rattle.block.specs.Message.{within}
use Rattle.call_make.proofs.is_size.Goals as goal

level : (a b : ℕ) → is_le (nat_cmp a b) ≡ leb a b
level a b = grind (arith, nat_tests)

pub returns : goal.returns
unfolding within
returns c = c.contains.ensures.value ∙ rw (c.new.ensures.start, c.new.ensures.end, c.new.ensures.exhausted, level 2 c.args.n, level c.args.n 6)
