-- `put_row` meets its contract.
use lib.ListN.{take}
use Rattle.week_calls.proofs.StepLaws.{report_numbers, row_is}
use Rattle.week_calls.proofs.put_row.Goals as goal

pub returns : goal.returns
returns c =
    let p = c in
    let q = p in
    let r = q in
    let w = r in
    let a = w.args in
    row_is a.replica a.k (take r.run-played.result.count r.run-played.result.numbers) q.number_at.result q.number_at-2.result q.number_at-3.result
    (report_numbers a.replica r.run-played.result _ _ _ (rw w.call_with.ensures at r.run-played.ensures))
    q.number_at.ensures q.number_at-2.ensures q.number_at-3.ensures p.put_answer.ensures
