use Rattle.std.proofs.lemmas.Result.{err_from_is_err_and}
use Rattle.memory.specs.Memory.{with_classes}
use Rattle.engine.specs.Answers.{outcome}
use Rattle.engine.specs.Answers.Answer.{loaded}
use Rattle.engine.specs.Classes.{load_refusal, load_step}
use Rattle.call_reply.specs.Parts.{load_parts}
use Rattle.call_reply.specs.Replies.{number}
use Rattle.call_reply.proofs.ReplyLaws.{gives}
use Rattle.call_reply.proofs.FaultLaws.{refused_by, accepted_by}
use Rattle.call_classes.proofs.load_classes.Goals as goal

pub returns-in_err-check_load : goal.returns-in_err-check_load
unfolding load_step load_refusal
returns-in_err-check_load c = λ m.
    let a = c.args in
    let o = load_parts m a.turn a.classes.now in
    let p = err_from_is_err_and c.from_residual.result c.from_residual.ensures.1 in
    rw (p.1, p.2) (gives number (refused_by _ (load_refusal o a.given.now) o (outcome loaded (with_classes o a.given.now)) c.in_err-check_load.ensures.number))

pub returns : goal.returns
unfolding load_step load_refusal
returns c = λ m.
    let a = c.args in
    let o = load_parts m a.turn a.classes.now in
    rw c.copy_all.ensures (gives number (accepted_by (load_refusal o a.given.now) o (outcome loaded (with_classes o a.given.now)) c.in_ok-check_load.ensures.number))
