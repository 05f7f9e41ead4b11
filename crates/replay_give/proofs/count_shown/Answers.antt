-- `count_shown` meets its contract.
use native.Mathlib.Omega.{arith}
use borrow.Author.Rules.{rules}
use Rattle.replay_give.proofs.GiveLaws.{count_none, count-one, count-all}
use Rattle.replay_give.proofs.count_shown.Goals as goal

pub returns-in-1 : goal.returns-in-1
returns-in-1 c = (count_none c.args.number c.args.count c.in-1.is, omega arith)

pub returns-in-31 : goal.returns-in-31
returns-in-31 c = (count-one c.args.number c.args.count c.in-31.is, omega arith)

pub returns-in_default : goal.returns-in_default
returns-in_default c = (count-all c.args.number c.args.count (search rules) (search rules), omega arith)
