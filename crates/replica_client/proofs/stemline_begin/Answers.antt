use Rattle.std.proofs.Common.{refl}
use Rattle.memory.specs.Memory.{Memory}
use Rattle.memory.specs.Rows.{free_row}
use Rattle.engine.specs.Client.{begin_step}
use Rattle.call_reply.specs.Parts.{begin_parts}
use Rattle.call_reply.proofs.CalledLaws.{called-six, called-other}
use Rattle.memory.proofs.RowLaws.{same_row}
use Rattle.replica_client.proofs.stemline_begin.Goals as goal

pub returns-then-table-ne6 : goal.returns-then-table-ne6
returns-then-table-ne6 c = λ m.
    let a = c.args in
    rw (c.into.ensures, called-other (λ (x : Memory). begin_step x) (begin_parts m a.table.now a.counts.now a.values.now a.snapshots.now) c.if-table-ne6.true) (refl, refl)

pub returns-in-Ok : goal.returns-in-Ok
unfolding free_row
returns-in-Ok c = λ m.
    let a = c.args in
    rw (c.put.ensures, called-six (λ (x : Memory). begin_step x) (begin_parts m a.table.now a.counts.now a.values.now a.snapshots.now) c.if-table-ne6.false, ← c.scan-at.ensures)
    (c.in-Ok.ensures m a.table.now c.row.ensures)

pub returns-in-Err : goal.returns-in-Err
unfolding free_row
returns-in-Err c = λ m.
    let a = c.args in
    rw (c.into-in-Err.ensures, called-six (λ (x : Memory). begin_step x) (begin_parts m a.table.now a.counts.now a.values.now a.snapshots.now) c.if-table-ne6.false, ← c.scan-at.ensures)
    (rw (same_row a.table.now c.scan-at.result c.row.result c.row.ensures) at (c.in-Err.ensures m a.table.now c.row.ensures))
