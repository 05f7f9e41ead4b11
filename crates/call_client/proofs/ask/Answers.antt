use Rattle.std.proofs.Common.{refl, arith, length}
use borrow.Author.Tests.{eq-eqb, ne_eqb}
use Rattle.std.proofs.Math.Seq.{set_out}
use Rattle.std.proofs.lemmas.Result.{err_from_is_err_and}
use Rattle.block.specs.Answers.{first_of}
use Rattle.engine.specs.Client.{ask_refusal, read_only_at, queue_at, ask_row}
use Rattle.call_reply.specs.Parts.{ask_parts}
use Rattle.call_reply.specs.Replies.{ask_reply}
use Rattle.call_reply.proofs.ReplyLaws.{gives}
use Rattle.call_reply.proofs.FaultLaws.{refused_by}
use Rattle.memory.proofs.RowLaws.{same_row}
use Rattle.call_client.proofs.AskLaws.{ask-empty, ask-taken}
use Rattle.call_client.proofs.ask.Goals as goal

pub returns-then-queue-ne6-clause-gives : goal.returns-then-queue-ne6-clause-gives
unfolding ask_row ask_refusal first_of
returns-then-queue-ne6-clause-gives c = λ m table here.
    let a = c.args in
    rw (same_row table a.at a.t here, ne_eqb (length a.queue.now) 6 c.if-queue-ne6.true) (refl, refl)

pub returns-in_err-check_active-clause-gives : goal.returns-in_err-check_active-clause-gives
unfolding ask_row ask_refusal first_of
returns-in_err-check_active-clause-gives c = λ m table here.
    let a = c.args in
    let o = ask_parts m a.counts table a.queue.now in
    let p = err_from_is_err_and c.from_residual.result c.from_residual.ensures.1 in
    rw (p.1, p.2, same_row table a.at a.t here)
    (gives ask_reply (refused_by _ (ask_refusal o a.at) o _ (rw (eq-eqb (length a.queue.now) 6 c.if-queue-ne6.false) (rw here at c.in_err-check_active.ensures.number))))

pub returns-then-t-eq0-clause-gives : goal.returns-then-t-eq0-clause-gives
unfolding ask_refusal first_of read_only_at
returns-then-t-eq0-clause-gives c = λ m table here.
    let a = c.args in
    rw c.bump.ensures
    (gives ask_reply (ask-empty (ask_parts m a.counts table a.queue.now) a.at a.t here
    (rw (eq-eqb (length a.queue.now) 6 c.if-queue-ne6.false) (rw here at c.in_ok-check_active.ensures.number)) c.if-t-eq0.true))

pub returns-then-end-lt6-clause-gives : goal.returns-then-end-lt6-clause-gives
unfolding ask_refusal first_of queue_at
returns-then-end-lt6-clause-gives c = λ m table here.
    let a = c.args in
    rw c.queue_end-end.ensures
    (gives ask_reply (ask-taken (ask_parts m a.counts table a.queue.now) a.at a.t here
    (rw (eq-eqb (length a.queue.now) 6 c.if-queue-ne6.false) (rw here at c.in_ok-check_active.ensures.number)) c.if-t-eq0.false))

pub returns-else-end-lt6-clause-gives : goal.returns-else-end-lt6-clause-gives
unfolding ask_refusal first_of queue_at
returns-else-end-lt6-clause-gives c = λ m table here.
    let a = c.args in
    let e = ask-taken (ask_parts m a.counts table a.queue.now) a.at a.t here
    (rw (eq-eqb (length a.queue.now) 6 c.if-queue-ne6.false) (rw here at c.in_ok-check_active.ensures.number)) c.if-t-eq0.false in
    gives ask_reply (rw (← c.queue_end-end.ensures, set_out a.queue.now c.queue_end-end.result a.t.ticket (omega (arith, c.if-end-lt6.false, c.if-queue-ne6.false))) at e)
