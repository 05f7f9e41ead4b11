-- `made` meets its contract.
use Rattle.week_calls.proofs.StepLaws.{made_is}
use Rattle.week_calls.proofs.made.Goals as goal

pub returns : goal.returns
returns c =
    let r = c in
    let a = r.args in
    made_is a.n a.k r.run-played.result _ _ _ (rw (r.call_with.ensures, r.nobody.ensures) at r.run-played.ensures)
