-- `send` meets its contract: the refusal's number, or what writing, copying and clearing leave.
use Rattle.std.proofs.Common.{rules, refl, sym, ◌∙◌, []}
use Rattle.engine.specs.Make.{made_memory}
use Rattle.call_reply.specs.Parts.{send_parts}
use Rattle.call_reply.proofs.FaultLaws.{handed_on}
use Rattle.call_reply.proofs.ReplyLaws.{gives_block}
use Rattle.call_send.proofs.SendLaws.{send-long, send-refused, send-taken}
use Rattle.call_send.proofs.send.Goals as goal

pub returns-in_err-check-clause-gives : goal.returns-in_err-check-clause-gives
returns-in_err-check-clause-gives c = λ m.
    let a = c.args in
    let before = send_parts m a.group a.turn a.rows a.queue.now a.items.now a.writes.now a.outbox.now in
    let f = c.in_err-check.field-0.0 in
    rw (handed_on c.from_residual.result f c.from_residual.ensures.1)
    (gives_block a.block.now (send-refused before a.block.now f (c.in_err-check.ensures before a.block.now refl refl (sym c.lengths_fit-fits.ensures))))

-- what is known once the send is not refused
pub put_block-requires : goal.put_block-requires
put_block-requires c =
    let a = c.args in
    let before = send_parts (made_memory 0 0 []) a.group a.turn a.rows a.queue.now a.items.now a.writes.now a.outbox.now in
    let long = send-long before a.block.now (c.in_ok-check.ensures before a.block.now refl refl (sym c.lengths_fit-fits.ensures)) in
    (long.lent, long.queue, long.items, long.writes)

pub copy_all-requires : goal.copy_all-requires
copy_all-requires c =
    let a = c.args in
    let before = send_parts (made_memory 0 0 []) a.group a.turn a.rows a.queue.now a.items.now a.writes.now a.outbox.now in
    let long = send-long before a.block.now (c.in_ok-check.ensures before a.block.now refl refl (sym c.lengths_fit-fits.ensures)) in
    c.put_block.auto.block ∙ long.lent ∙ sym long.outbox

pub returns-clause-gives : goal.returns-clause-gives
returns-clause-gives c = λ m.
    let a = c.args in
    let before = send_parts m a.group a.turn a.rows a.queue.now a.items.now a.writes.now a.outbox.now in
    gives_block a.block.now
    (send-taken before a.block.now (c.in_ok-check.ensures before a.block.now refl refl (sym c.lengths_fit-fits.ensures))
    c.mark_sent.result c.send_rows.result c.fill.new.self c.copy_all.new.to c.put_block.new.block
    c.mark_sent.ensures c.send_rows.ensures (c.fill.ensures.after (search rules)) c.copy_all.ensures (c.put_block.ensures before))
