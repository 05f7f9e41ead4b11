use Rattle.std.proofs.Common.{rules}
use mir.Syntax.{w32}
use mir.Facts.{to_z-of_z}
use Rattle.std.proofs.lemmas.Result.{err_from_is_err_and}
use Rattle.engine.specs.Answers.{outcome}
use Rattle.engine.specs.Answers.Answer.{got}
use Rattle.engine.specs.Client.{read_refusal, value_for, read_row}
use Rattle.call_reply.specs.Parts.{read_parts}
use Rattle.call_reply.specs.Replies.{read_reply}
use Rattle.call_reply.proofs.ReplyLaws.{gives}
use Rattle.call_reply.proofs.FaultLaws.{refused_by, accepted_by}
use Rattle.call_client.proofs.read.Goals as goal

pub returns-in_err-check_item : goal.returns-in_err-check_item
unfolding read_row read_refusal
returns-in_err-check_item c = λ m table here.
    let a = c.args in
    let o = read_parts m table a.items.now a.writes.now a.snapshots.now in
    let p = err_from_is_err_and c.from_residual.result c.from_residual.ensures.1 in
    rw (p.1, p.2)
    (gives read_reply (refused_by _ (read_refusal o a.at a.item) o (outcome (got (value_for o a.at a.item)) o) (rw (c.lengths_fit-fits.ensures, here) at c.in_err-check_item.ensures.number)))

pub returns : goal.returns
unfolding read_row read_refusal
returns c = λ m table here.
    let a = c.args in
    let o = read_parts m table a.items.now a.writes.now a.snapshots.now in
    rw (to_z-of_z {w = w32} {z = c.value_for.result} (search rules), c.value_for.ensures m table here)
    (gives read_reply (accepted_by (read_refusal o a.at a.item) o (outcome (got (value_for o a.at a.item)) o) (rw (c.lengths_fit-fits.ensures, here) at c.in_ok-check_item.ensures.number)))
