use Rattle.std.proofs.Common.{rules, ◌≡◌, arith, length}
use Rattle.memory.proofs.RowLaws.{count-open, count-closed, count-end}
use Rattle.memory.proofs.rows.open_count.Goals as goal
use Rattle.memory.proofs.rows.open_count.Goals.{then-t-ne0, else-t-ne0}

pub loop-t-preserved : goal.loop-t-preserved
loop-t-preserved c =
    let e : length c.args.table ≡ 6 = search rules in
    elim c.if-t-ne0.branch [
      | then-t-ne0 w ↦ (let o = count-open _ c.args.table c.loop-t.t-index (omega arith) w.if-t-ne0.true in (omega (arith, w.n-is), omega (arith, w.n-is, o)))
      | else-t-ne0 w ↦ (let o = count-closed _ c.args.table c.loop-t.t-index (omega arith) w.if-t-ne0.false in (omega (arith, w.n-is), omega (arith, w.n-is, o)))
    ]

pub returns : goal.returns
returns c =
    let e : length c.args.table ≡ 6 = search rules in
    omega (arith, count-end c.args.table c.loop-t.t-index (omega arith))
