use Rattle.std.proofs.Common.{refl}
use Rattle.memory.specs.Memory.{Memory}
use Rattle.engine.specs.Client.{report_step}
use Rattle.call_reply.specs.Parts.{report_parts}
use Rattle.call_reply.proofs.CalledLaws.{called-six, called-other}
use Rattle.host_table.proofs.TableLaws.{loaded-six}
use Rattle.replica_client.proofs.stemline_report.Goals as goal

pub returns-then-table-ne6 : goal.returns-then-table-ne6
returns-then-table-ne6 c = λ m.
    let a = c.args in
    rw (c.into.ensures, called-other (λ (x : Memory). report_step x) (report_parts m a.turn.now a.counts.now a.table.now) c.if-table-ne6.true) (refl, refl)

pub returns : goal.returns
returns c = λ m.
    let a = c.args in
    rw (called-six (λ (x : Memory). report_step x) (report_parts m a.turn.now a.counts.now a.table.now) c.if-table-ne6.false)
    (rw (c.load.ensures, loaded-six a.table.now c.if-table-ne6.false) at (c.report.ensures m))
