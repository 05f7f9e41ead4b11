-- `deliver` meets its contract: each answer by its law.
use Rattle.std.proofs.Common.{sym, ◌∙◌, arith}
use Rattle.call_reply.specs.Parts.{deliver_parts}
use Rattle.call_reply.specs.Replies.{number}
use Rattle.call_reply.proofs.FaultLaws.{handed_on}
use Rattle.call_reply.proofs.ReplyLaws.{gives}
use Rattle.call_deliver.proofs.DeliverLaws.{reader_took, deliver-lengths, deliver-unread, deliver-refused, deliver_room, deliver_kept}
use Rattle.call_deliver.proofs.deliver.Goals as goal

pub returns-then-not-lengths_fit : goal.returns-then-not-lengths_fit
returns-then-not-lengths_fit c = λ m. gives number (deliver-lengths _ _ (sym c.lengths_fit.ensures ∙ c.if-not-lengths_fit.true))

pub returns-in_default : goal.returns-in_default
returns-in_default c = λ m.
    rw c.into.ensures
    (gives number (deliver-unread _ _ (sym c.lengths_fit.ensures ∙ c.if-not-lengths_fit.false) c.read_block-read.result c.unwrap_err.result c.unwrap_err.ensures c.read_block-read.ensures))

-- the reader took the bytes, and the header is theirs
pub check-requires : goal.check-requires
check-requires c =
    let took = reader_took _ c.read_block-read.result _ c.in-Ok.is c.read_block-read.ensures in
    (sym c.lengths_fit.ensures ∙ c.if-not-lengths_fit.false, took.0, took.1)

pub returns-in_err-check : goal.returns-in_err-check
returns-in_err-check c = λ m.
    let f = c.in_err-check.field-0.0 in
    rw (handed_on c.from_residual.result f c.from_residual.ensures.1)
    (gives number (deliver-refused _ _ f (c.in_err-check.ensures m)))

pub overflow_add-at : goal.overflow_add-at
overflow_add-at c =
    let a = c.args in
    let fits = sym c.lengths_fit.ensures ∙ c.if-not-lengths_fit.false in
    omega (arith, deliver_room a.group a.turn _ a.places.now a.outbox.now a.bytes.now fits (c.in_ok-check.ensures) _ c.place_start-at.ensures)

pub slice_bounds-copy_all-end : goal.slice_bounds-copy_all-end
slice_bounds-copy_all-end c =
    let a = c.args in
    let fits = sym c.lengths_fit.ensures ∙ c.if-not-lengths_fit.false in
    deliver_room a.group a.turn _ a.places.now a.outbox.now a.bytes.now fits (c.in_ok-check.ensures) _ c.place_start-at.ensures

pub returns : goal.returns
returns c = λ m.
    let a = c.args in
    let took = reader_took _ c.read_block-read.result _ c.in-Ok.is c.read_block-read.ensures in
    gives number
    (deliver_kept (deliver_parts m a.group a.turn a.places.now a.outbox.now) a.bytes.now (c.in_ok-check.ensures m) c.in-Ok.header took.1
    c.place_start-at.result c.place_start-at.ensures c.copy_all.new.to c.copy_all.ensures)
