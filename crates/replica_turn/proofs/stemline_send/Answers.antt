use Rattle.std.proofs.Common.{◌∙◌, ap, map}
use Rattle.memory.specs.Turns.{mark_sent}
use Rattle.engine.specs.Moves.{send_row, send_step}
use Rattle.call_reply.specs.Parts.{send_parts}
use Rattle.host_table.proofs.TableLaws.{loaded-six}
use Rattle.replica_turn.proofs.Facts.{length_refused, sent_on_six}
use Rattle.replica_turn.proofs.stemline_send.Goals as goal

pub returns-then-table-ne6 : goal.returns-then-table-ne6
returns-then-table-ne6 c = λ m.
    let a = c.args in
    let before = send_parts m a.group.now a.turn.now a.table.now a.queue.now a.items.now a.writes.now a.outbox.now in
    rw c.number-then-table-ne6.ensures (length_refused (λ x. send_step x a.block.now) before c.if-group.false a.block.now c.if-table-ne6.true)

pub returns-in-Ok : goal.returns-in-Ok
returns-in-Ok c = λ m.
    let a = c.args in
    let before = send_parts m a.group.now a.turn.now a.table.now a.queue.now a.items.now a.writes.now a.outbox.now in
    let same = c.load-rows.ensures ∙ loaded-six a.table.now c.if-table-ne6.false in
    let turn = c.in-Ok.ensures.sent.0 ∙ ap mark_sent c.copy_turn-cursor.ensures in
    let rows = c.in-Ok.ensures.sent.1 ∙ ap (map send_row) same in
    let said = rw (turn, rows, same, c.copy_turn-cursor.ensures) at (c.in-Ok.ensures.gives m) in
    rw (c.mark_rows.ensures, c.mark_sent.ensures) (sent_on_six (λ x. send_step x a.block.now) before c.if-group.false a.block.now c.if-table-ne6.false said)

pub returns-in-Err : goal.returns-in-Err
returns-in-Err c = λ m.
    let a = c.args in
    let before = send_parts m a.group.now a.turn.now a.table.now a.queue.now a.items.now a.writes.now a.outbox.now in
    let same = c.load-rows.ensures ∙ loaded-six a.table.now c.if-table-ne6.false in
    let said = rw (same, c.copy_turn-cursor.ensures) at (c.in-Err.ensures.gives m) in
    rw c.number-in-Err.ensures (sent_on_six (λ x. send_step x a.block.now) before c.if-group.false a.block.now c.if-table-ne6.false said)
