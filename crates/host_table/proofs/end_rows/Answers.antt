use Rattle.std.proofs.Common.{Bool, List, ◌≡◌, ◌∙◌, ◌<◌, ◌≤◌, ap, length, set, take_all, arith, rules}
use Rattle.memory.specs.declared.Txn.{Txn}
use Rattle.memory.specs.Rows.{closed, end_rows}
use Rattle.host_table.proofs.TableLaws.{ended_none, ended-hit, ended-miss}
use Rattle.host_table.proofs.end_rows.Goals as goal
use Rattle.host_table.proofs.end_rows.Goals.{then-mark, else-mark}

pub loop-at-init : goal.loop-at-init
loop-at-init c = ended_none c.args.table.now

pub loop-at-preserved : goal.loop-at-preserved
loop-at-preserved c =
    let six : length c.args.ended ≡ 6 = search rules in
    let h : c.loop-at.at < length c.args.ended = omega arith in
    elim c.if-mark.branch [
      | then-mark w ↦ w.table-is ∙ w.end.ensures ∙ ap (λ (t : List Txn). set t c.loop-at.at closed) c.loop-at.invariant ∙ ended-hit c.args.ended c.loop-at.at c.args.table.now h w.if-mark.true
      | else-mark w ↦ w.table-is ∙ c.loop-at.invariant ∙ ended-miss c.args.ended c.loop-at.at c.args.table.now h w.if-mark.false
    ]

pub returns : goal.returns
returns c =
    let six : length c.args.ended ≡ 6 = search rules in
    let e : length c.args.ended ≤ c.loop-at.at = omega arith in
    c.loop-at.invariant ∙ ap (λ (es : List Bool). end_rows es c.args.table.now) (take_all c.loop-at.at c.args.ended e)
