-- `reply` meets its contract.
use mathlib.Core.Path.{sym}
use borrow.Author.Rules.{rules}
use Rattle.week.proofs.WeekLaws.{replies-wrong}
use Rattle.week.proofs.reply.Goals as goal

pub returns-in_default : goal.returns-in_default
returns-in_default c =
    let l = c in
    let a = l.args in
    replies-wrong a.week a.line.now (sym search rules)
