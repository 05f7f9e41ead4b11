use Rattle.std.proofs.Common.{refl}
use Rattle.memory.specs.Memory.{Memory}
use Rattle.engine.specs.Client.{withdraw_step}
use Rattle.call_reply.specs.Parts.{withdraw_parts}
use Rattle.call_reply.proofs.CalledLaws.{called-six, called-other}
use Rattle.memory.proofs.RowLaws.{same_row}
use Rattle.replica_client.proofs.stemline_withdraw.Goals as goal

pub returns-then-table-ne6 : goal.returns-then-table-ne6
returns-then-table-ne6 c = λ m.
    let a = c.args in
    rw (c.number.ensures, called-other (λ (x : Memory). withdraw_step x a.ticket) (withdraw_parts m a.counts.now a.table.now) c.if-table-ne6.true) (refl, refl)

pub returns-in-Ok : goal.returns-in-Ok
returns-in-Ok c = λ m.
    let a = c.args in
    rw (c.end.ensures, called-six (λ (x : Memory). withdraw_step x a.ticket) (withdraw_parts m a.counts.now a.table.now) c.if-table-ne6.false, ← c.find-at.ensures)
    (c.in-Ok.ensures m a.table.now c.row.ensures)

pub returns-in-Err : goal.returns-in-Err
returns-in-Err c = λ m.
    let a = c.args in
    rw (c.number-in-Err.ensures, called-six (λ (x : Memory). withdraw_step x a.ticket) (withdraw_parts m a.counts.now a.table.now) c.if-table-ne6.false, ← c.find-at.ensures)
    (rw (same_row a.table.now c.find-at.result c.row.result c.row.ensures) at (c.in-Err.ensures m a.table.now c.row.ensures))
