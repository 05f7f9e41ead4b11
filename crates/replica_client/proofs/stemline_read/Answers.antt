use Rattle.std.proofs.Common.{refl, rules}
use mir.Facts.{to_z-of_z}
use mir.Syntax.{w32}
use Rattle.memory.specs.Memory.{Memory}
use Rattle.engine.specs.Client.{read_step}
use Rattle.call_reply.specs.Parts.{read_parts}
use Rattle.call_reply.proofs.CalledLaws.{called-six, called-other}
use Rattle.replica_client.proofs.stemline_read.Goals as goal

pub returns-then-table-ne6 : goal.returns-then-table-ne6
returns-then-table-ne6 c = λ m.
    let a = c.args in
    rw (c.into.ensures, called-other (λ (x : Memory). read_step x a.ticket a.item) (read_parts m a.table.now a.items.now a.writes.now a.snapshots.now) c.if-table-ne6.true) (refl, refl)

pub returns-in-Ok : goal.returns-in-Ok
returns-in-Ok c = λ m.
    let a = c.args in
    rw (to_z-of_z {w = w32} {z = c.in-Ok.value} (search rules), called-six (λ (x : Memory). read_step x a.ticket a.item) (read_parts m a.table.now a.items.now a.writes.now a.snapshots.now) c.if-table-ne6.false, ← c.find-at.ensures)
    (c.in-Ok.ensures m a.table.now c.row.ensures)

pub returns-in-Err : goal.returns-in-Err
returns-in-Err c = λ m.
    let a = c.args in
    rw (c.into-in-Err.ensures, called-six (λ (x : Memory). read_step x a.ticket a.item) (read_parts m a.table.now a.items.now a.writes.now a.snapshots.now) c.if-table-ne6.false, ← c.find-at.ensures)
    (c.in-Err.ensures m a.table.now c.row.ensures)
