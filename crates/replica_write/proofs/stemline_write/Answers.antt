use Rattle.std.proofs.Common.{refl, rules}
use borrow.Author.Tests.{ne_eqb}
use mir.Facts.{to_z-of_z}
use mir.Syntax.{w32}
use Rattle.memory.specs.Memory.{Memory}
use Rattle.memory.proofs.RowLaws.{same_row}
use Rattle.engine.specs.Client.{write_step}
use Rattle.call_reply.specs.Parts.{write_parts}
use Rattle.call_reply.proofs.CalledLaws.{called-six, called-other}
use Rattle.call_reply.proofs.FaultLaws.{written_kept}
use Rattle.host_table.proofs.TableLaws.{loaded-six}
use Rattle.replica_write.proofs.stemline_write.Goals as goal
use Rattle.replica_write.proofs.stemline_write.Goals.{in-Stale, in_default}

pub returns-then-table-ne6 : goal.returns-then-table-ne6
returns-then-table-ne6 c = λ m.
    let a = c.args in
    let o = write_parts m a.group.now a.turn.now a.counts.now a.table.now a.items.now a.writes.now a.stamps.now a.classes.now a.places.now in
    rw (c.number-then-table-ne6.ensures, ne_eqb a.group.now.own 255 c.if-group.false, called-other (λ (x : Memory). write_step x a.ticket a.item a.value) o c.if-table-ne6.true) (refl, refl)

pub returns-in-Ok : goal.returns-in-Ok
returns-in-Ok c = λ m.
    let a = c.args in
    let o = write_parts m a.group.now a.turn.now a.counts.now a.table.now a.items.now a.writes.now a.stamps.now a.classes.now a.places.now in
    let value = to_z-of_z {w = w32} {z = a.value} (search rules) in
    rw (c.set_writes.ensures, ne_eqb a.group.now.own 255 c.if-group.false, called-six (λ (x : Memory). write_step x a.ticket a.item a.value) o c.if-table-ne6.false, ← c.find-at.ensures)
    (rw (value, c.load.ensures, loaded-six a.table.now c.if-table-ne6.false, same_row a.table.now c.find-at.result c.row-t.result c.row-t.ensures, c.row-t.ensures) at (c.in-Ok.ensures.0 m))

pub returns-after-fault : goal.returns-after-fault
returns-after-fault c = λ m.
    let a = c.args in
    let o = write_parts m a.group.now a.turn.now a.counts.now a.table.now a.items.now a.writes.now a.stamps.now a.classes.now a.places.now in
    let value = to_z-of_z {w = w32} {z = a.value} (search rules) in
    let same = same_row a.table.now c.find-at.result c.row-t.result c.row-t.ensures in
    let six = loaded-six a.table.now c.if-table-ne6.false in
    let said = rw (value, c.load.ensures, six, same) at (c.in-Err.ensures.0 m) in
    rw (c.number-in-Err.ensures, ne_eqb a.group.now.own 255 c.if-group.false, called-six (λ (x : Memory). write_step x a.ticket a.item a.value) o c.if-table-ne6.false, ← c.find-at.ensures)
    (elim c.match-fault.branch [
      | in-Stale w ↦ rw (w.table-is, w.counts-is, w.end.ensures, w.bump-counts.ensures, w.in-Stale.is) (rw w.in-Stale.is at said)
      | in_default w ↦
          let kept = written_kept c.in-Err.fault a.counts.now c.row-t.result w.in_default.not-Stale in
          rw (w.table-is, w.counts-is) (rw (kept.0, kept.1, same) at said)
    ])
