-- `put` meets its contract.
use Rattle.replay_print.proofs.TextLaws.{append-one, append-out}
use Rattle.replay_print.proofs.put.Goals as goal

pub returns-then-at-out : goal.returns-then-at-out
returns-then-at-out c = append-one c.args.out.now c.args.at c.args.byte c.if-at-out.true

pub returns : goal.returns
returns c = append-out c.args.out.now c.args.at c.args.byte c.if-at-out.false
