-- `lend` meets its contract.
use Rattle.replay_journal.proofs.PartLaws.{lend-is}
use Rattle.replay_journal.proofs.lend.Goals as goal

pub returns : goal.returns
returns c =
    let a = c.args in
    let start = c.min-start in
    let end = c.min-end in
    lend-is a.page.now a.given.now a.from a.to start.result end.result end.ensures start.ensures c.copy_over.ensures (rw c.copy_over.auto.to at c.min.ensures)
