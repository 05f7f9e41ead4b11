-- `end` meets its contract.
use Rattle.week.proofs.TextLaws.{puts_none}
use Rattle.week.proofs.end.Goals as goal

pub returns-then-failed : goal.returns-then-failed
returns-then-failed c =
    let a = c.args in
    rw c.if-failed.true (puts_none a.output a.out.now)

pub returns-else-failed : goal.returns-else-failed
returns-else-failed c = rw c.if-failed.false c.put_table.ensures
