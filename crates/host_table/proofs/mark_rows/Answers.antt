use Rattle.std.proofs.Common.{◌∙◌, ◌<◌, length, arith}
use Rattle.host_table.proofs.TableLaws.{sent-asked, sent-other, sent-all}
use Rattle.host_table.proofs.mark_rows.Goals as goal
use Rattle.host_table.proofs.mark_rows.Goals.{then-table-i-eq1, else-table-i-eq1}

pub loop-i-preserved : goal.loop-i-preserved
loop-i-preserved c =
    let h : c.loop-i.i < length c.args.table.now = omega arith in
    elim c.if-table-i-eq1.branch [
      | then-table-i-eq1 w ↦ w.table-is ∙ sent-asked c.loop-i.i c.args.table.now c.loop-i.table c.loop-i.invariant h w.if-table-i-eq1.true
      | else-table-i-eq1 w ↦ w.table-is ∙ sent-other c.loop-i.i c.args.table.now c.loop-i.table c.loop-i.invariant h w.if-table-i-eq1.false
    ]

pub returns : goal.returns
returns c = c.loop-i.invariant ∙ sent-all c.loop-i.i c.args.table.now (omega arith)
