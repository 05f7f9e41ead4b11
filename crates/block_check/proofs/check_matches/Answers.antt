use mathlib.Core.Path.{◌≡◌, ◌∙◌, ap}
use borrow.Author.Rules.{rules}
use lib.ListN.{length}
use Rattle.block.specs.Check.{check_matches}
use Rattle.block.proofs.CheckLaws.{matches-short, matches-first, matches-second}
use Rattle.block_check.proofs.check_matches.Goals as goal

pub returns-in_default : goal.returns-in_default
returns-in_default c = matches-short _ (search rules)

pub returns-else-s-number_at : goal.returns-else-s-number_at
returns-else-s-number_at c =
    let whole : c.in-Some.block.now ≡ c.args.block.now = search rules in
    let long : length c.in-Some.block.now ≡ 512 = search rules in
    matches-first c.in-Some.block.now long c.sums-s.result.first c.sums-s.ensures.0 c.number_at.result c.number_at.ensures c.if-s-number_at.false ∙ ap check_matches whole

pub returns-then-s-number_at : goal.returns-then-s-number_at
returns-then-s-number_at c =
    let whole : c.in-Some.block.now ≡ c.args.block.now = search rules in
    let long : length c.in-Some.block.now ≡ 512 = search rules in
    matches-second c.in-Some.block.now long c.sums-s.result.first c.sums-s.ensures.0 c.number_at.result c.number_at.ensures c.if-s-number_at.true
    c.sums-s.result.second c.sums-s.ensures.1 c.number_at-then-s-number_at.result c.number_at-then-s-number_at.ensures
    ∙ ap check_matches whole
