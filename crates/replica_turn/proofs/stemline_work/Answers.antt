use Rattle.std.proofs.Common.{◌∙◌, refl}
use Rattle.engine.specs.Moves.{work_step}
use Rattle.call_commit.proofs.EndLaws.{end_none}
use Rattle.call_reply.specs.Parts.{work_parts}
use Rattle.call_reply.proofs.CalledLaws.{called-six}
use Rattle.host_table.proofs.TableLaws.{loaded-six}
use Rattle.replica_turn.proofs.Facts.{work_refused, stepped_to}
use Rattle.replica_turn.proofs.stemline_work.Goals as goal

pub returns-then-table-ne6 : goal.returns-then-table-ne6
returns-then-table-ne6 c = λ m.
    let a = c.args in
    let before = work_parts m a.group.now a.turn.now a.counts.now a.table.now a.queue.now a.items.now a.values.now a.stamps.now a.places.now a.window.now in
    rw c.into.ensures (work_refused work_step before c.if-table-ne6.true)

pub returns-in-Ok : goal.returns-in-Ok
returns-in-Ok c = λ m.
    let a = c.args in
    let before = work_parts m a.group.now a.turn.now a.counts.now a.table.now a.queue.now a.items.now a.values.now a.stamps.now a.places.now a.window.now in
    let same = c.load-rows.ensures ∙ loaded-six a.table.now c.if-table-ne6.false in
    let said = rw (same, c.copy_turn-cursor.ensures) at (c.in-Ok.ensures m) in
    let turn = stepped_to before refl said.0 in
    rw (c.into-in-Ok.ensures, c.end_rows.ensures, c.step_turn.ensures, turn, called-six work_step before c.if-table-ne6.false) said.0

pub returns-in-Err : goal.returns-in-Err
returns-in-Err c = λ m.
    let a = c.args in
    let before = work_parts m a.group.now a.turn.now a.counts.now a.table.now a.queue.now a.items.now a.values.now a.stamps.now a.places.now a.window.now in
    let same = c.load-rows.ensures ∙ loaded-six a.table.now c.if-table-ne6.false in
    let said = rw (same, c.copy_turn-cursor.ensures, end_none 6 a.table.now) at (c.in-Err.ensures m) in
    rw (c.into-in-Err.ensures, called-six work_step before c.if-table-ne6.false) said.0
