-- `notice` meets its contract: the refusal's number, or the group with the notice in force.
use Rattle.call_reply.specs.Replies.{number}
use Rattle.call_reply.proofs.FaultLaws.{handed_on}
use Rattle.call_reply.proofs.ReplyLaws.{gives}
use Rattle.call_notice.proofs.NoticeLaws.{notice-refused, notice-taken}
use Rattle.call_notice.proofs.notice.Goals as goal

pub returns-in_err-check : goal.returns-in_err-check
returns-in_err-check c = λ m.
    let f = c.in_err-check.field-0.0 in
    rw (handed_on c.from_residual.result f c.from_residual.ensures.1)
    (gives number (notice-refused _ _ f (c.in_err-check.ensures m)))

pub returns : goal.returns
returns c = λ m. gives number (notice-taken _ _ (c.in_ok-check.ensures m) c.with_notice.result c.with_notice.ensures)
