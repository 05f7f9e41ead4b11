use Rattle.std.proofs.lemmas.Result.{err_from_is_err_and}
use Rattle.engine.specs.Client.{withdraw_refusal, withdraw_at, withdraw_row}
use Rattle.call_reply.specs.Parts.{withdraw_parts}
use Rattle.call_reply.specs.Replies.{number}
use Rattle.call_reply.proofs.ReplyLaws.{gives}
use Rattle.call_reply.proofs.FaultLaws.{refused_by, accepted_by}
use Rattle.memory.proofs.RowLaws.{same_row}
use Rattle.call_client.proofs.withdraw.Goals as goal

pub returns-in_err-check_active : goal.returns-in_err-check_active
unfolding withdraw_row withdraw_refusal
returns-in_err-check_active c = λ m table here.
    let a = c.args in
    let o = withdraw_parts m a.counts table in
    let p = err_from_is_err_and c.from_residual.result c.from_residual.ensures.1 in
    rw (p.1, p.2, same_row table a.at a.t here)
    (gives number (refused_by _ (withdraw_refusal o a.at) o (withdraw_at o a.at) (rw here at c.in_err-check_active.ensures.number)))

pub returns : goal.returns
unfolding withdraw_row withdraw_refusal withdraw_at
returns c = λ m table here.
    let a = c.args in
    let o = withdraw_parts m a.counts table in
    rw c.bump.ensures
    (gives number (accepted_by (withdraw_refusal o a.at) o (withdraw_at o a.at) (rw here at c.in_ok-check_active.ensures.number)))
