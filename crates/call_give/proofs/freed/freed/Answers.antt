-- `freed` meets its contract: a mark for each of the six rows.
use mathlib.Core.Path.{◌≡◌}
use lib.ListN.{length}
use Rattle.call_give.proofs.FreedLaws.{six-marks}
use borrow.Author.Rules.{rules}
use Rattle.call_give.proofs.freed.freed.Goals as goal

pub returns : goal.returns
returns c =
    let before-long : length c.args.before ≡ 6 = search rules in
    let after-long : length c.args.after ≡ 6 = search rules in
    six-marks c.args.before c.args.after (before-long) (after-long) c.is_freed.result c.is_freed-2.result c.is_freed-3.result c.is_freed-4.result c.is_freed-5.result c.is_freed-6.result
    c.is_freed.ensures c.is_freed-2.ensures c.is_freed-3.ensures c.is_freed-4.ensures c.is_freed-5.ensures c.is_freed-6.ensures
