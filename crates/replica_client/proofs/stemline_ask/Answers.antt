use Rattle.std.proofs.Common.{refl, ap}
use Rattle.std.specs.Prelude.{Ok}
use Rattle.memory.specs.Memory.{Memory}
use Rattle.engine.specs.Client.{ask_step}
use Rattle.call_reply.specs.Parts.{ask_parts}
use Rattle.call_reply.proofs.CalledLaws.{called-six, called-other}
use Rattle.memory.proofs.RowLaws.{same_row}
use Rattle.replica_client.proofs.stemline_ask.Goals as goal

pub returns-then-table-ne6 : goal.returns-then-table-ne6
returns-then-table-ne6 c = λ m.
    let a = c.args in
    rw (c.into.ensures, called-other (λ (x : Memory). ask_step x a.ticket) (ask_parts m a.counts.now a.table.now a.queue.now) c.if-table-ne6.true) (refl, refl)

pub returns-in-Ok-ReadOnly : goal.returns-in-Ok-ReadOnly
returns-in-Ok-ReadOnly c = λ m.
    let a = c.args in
    rw (c.end.ensures, called-six (λ (x : Memory). ask_step x a.ticket) (ask_parts m a.counts.now a.table.now a.queue.now) c.if-table-ne6.false, ← c.find-at.ensures)
    (rw c.in-Ok-ReadOnly.field-0-is at (c.in-Ok-ReadOnly.ensures.gives m a.table.now c.row.ensures))

pub returns-in-Ok-Queued : goal.returns-in-Ok-Queued
returns-in-Ok-Queued c = λ m.
    let a = c.args in
    let asked = c.in-Ok-Queued.ensures.queued _ (ap Ok c.in-Ok-Queued.field-0-is) in
    rw (c.set_stage.ensures, ← c.row.ensures, ← asked, called-six (λ (x : Memory). ask_step x a.ticket) (ask_parts m a.counts.now a.table.now a.queue.now) c.if-table-ne6.false, ← c.find-at.ensures)
    (rw c.in-Ok-Queued.field-0-is at (c.in-Ok-Queued.ensures.gives m a.table.now c.row.ensures))

pub returns-in-Err : goal.returns-in-Err
returns-in-Err c = λ m.
    let a = c.args in
    rw (c.into-in-Err.ensures, called-six (λ (x : Memory). ask_step x a.ticket) (ask_parts m a.counts.now a.table.now a.queue.now) c.if-table-ne6.false, ← c.find-at.ensures)
    (rw (same_row a.table.now c.find-at.result c.row.result c.row.ensures) at (c.in-Err.ensures.gives m a.table.now c.row.ensures))
