-- `stemline_restart` meets its contract: what `restart` gave, put where it lies. Assumes nothing.
use Rattle.std.proofs.Common.{rules, refl}
use Rattle.memory.specs.Memory.{Memory}
use Rattle.call_reply.specs.Parts.{all_parts}
use Rattle.call_reply.specs.Notices.{restart_lent}
use Rattle.call_reply.proofs.CalledLaws.{called-six, called-other}
use Rattle.replica_make.proofs.stemline_restart.Goals as goal

pub returns-then-table-ne6 : goal.returns-then-table-ne6
returns-then-table-ne6 c =
    let a = c.args in
    let m = all_parts a.group.now a.turn.now a.counts.now a.table.now a.queue.now a.items.now a.writes.now a.snapshots.now a.values.now a.stamps.now a.classes.now a.places.now a.outbox.now a.window.now in
    rw (c.into.ensures, called-other (λ (x : Memory). restart_lent x a.n a.own a.start.now a.journal.now a.notices.now a.block.now) m c.if-table-ne6.true) ((refl, refl), refl)

pub returns-in-Err : goal.returns-in-Err
returns-in-Err c =
    let a = c.args in
    let m = all_parts a.group.now a.turn.now a.counts.now a.table.now a.queue.now a.items.now a.writes.now a.snapshots.now a.values.now a.stamps.now a.classes.now a.places.now a.outbox.now a.window.now in
    rw (c.into-in-Err.ensures, called-six (λ (x : Memory). restart_lent x a.n a.own a.start.now a.journal.now a.notices.now a.block.now) m c.if-table-ne6.false) (c.in-Err.ensures.gives a.group.now a.turn.now a.counts.now a.table.now)

pub returns-in-Ok : goal.returns-in-Ok
returns-in-Ok c =
    let a = c.args in
    let m = all_parts a.group.now a.turn.now a.counts.now a.table.now a.queue.now a.items.now a.writes.now a.snapshots.now a.values.now a.stamps.now a.classes.now a.places.now a.outbox.now a.window.now in
    rw (c.fill.ensures.after (search rules), c.if-table-ne6.false, c.free.ensures, c.replace_turn.ensures, called-six (λ (x : Memory). restart_lent x a.n a.own a.start.now a.journal.now a.notices.now a.block.now) m c.if-table-ne6.false) (c.in-Ok.ensures.gives a.group.now a.turn.now a.counts.now a.table.now)
