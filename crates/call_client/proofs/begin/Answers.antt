use Rattle.std.proofs.Common.{◌≡◌, ◌+◌, ◌-◌, ◌*◌, sym, length, arith}
use Rattle.std.proofs.lemmas.Slice.{put_mid-paste}
use Rattle.std.proofs.lemmas.Result.{err_from_is_err_and}
use Rattle.engine.specs.Client.{begin_refusal, begin_at, begin_row}
use Rattle.call_reply.specs.Parts.{begin_parts}
use Rattle.call_reply.specs.Replies.{begin_reply}
use Rattle.call_reply.proofs.ReplyLaws.{gives}
use Rattle.call_reply.proofs.FaultLaws.{refused_by, accepted_by}
use Rattle.memory.proofs.RowLaws.{same_row}
use Rattle.call_client.proofs.begin.Goals as goal

pub returns-in_err-check_begin : goal.returns-in_err-check_begin
unfolding begin_row begin_refusal
returns-in_err-check_begin c = λ m table here.
    let a = c.args in
    let o = begin_parts m table a.counts a.values.now a.snapshots.now in
    let p = err_from_is_err_and c.from_residual.result c.from_residual.ensures.1 in
    rw (p.1, p.2, same_row table a.at a.t here)
    (gives begin_reply (refused_by _ (begin_refusal o a.at) o (begin_at o a.at) c.in_err-check_begin.ensures.number))

pub returns : goal.returns
unfolding begin_row begin_refusal begin_at
returns c = λ m table here.
    let a = c.args in
    let o = begin_parts m table a.counts a.values.now a.snapshots.now in
    let long : 128 ≡ length a.values.now = sym c.in_ok-check_begin.ensures.passed.0 in
    rw (put_mid-paste (128 * a.at) (128 * a.at + 128 - 128 * a.at) a.snapshots.now c.copy_all.new.to a.values.now 128 c.copy_all.ensures (omega arith) long)
    (gives begin_reply (accepted_by (begin_refusal o a.at) o (begin_at o a.at) c.in_ok-check_begin.ensures.number))
