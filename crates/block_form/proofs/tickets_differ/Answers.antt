use mathlib.Core.Path.{◌≡◌, sym, ◌∙◌}
use native.Mathlib.Nat.{sub-zero}
use native.Mathlib.Omega.{arith}
use Rattle.block.proofs.FormLaws.{refused, passed, differ-twice, differ-next, differ-end}
use Rattle.block_form.proofs.tickets_differ.Goals as goal

pub loop-j-init : goal.loop-j-init
loop-j-init c = rw sub-zero

pub returns-then-not-ticket_absent : goal.returns-then-not-ticket_absent
returns-then-not-ticket_absent c =
    sym
    (c.loop-j.invariant
    ∙ differ-twice c.args.count c.loop-j.j c.args.body.now (omega arith) (refused (rw c.number_at-ticket.ensures at c.ticket_absent.ensures) c.if-not-ticket_absent.true))

pub loop-j-preserved : goal.loop-j-preserved
loop-j-preserved c =
    c.loop-j.invariant
    ∙ differ-next c.args.count c.loop-j.j c.args.body.now (omega arith) (passed (rw c.number_at-ticket.ensures at c.ticket_absent.ensures) c.if-not-ticket_absent.false)

pub returns : goal.returns
returns c =
    let e : c.loop-j.j ≡ c.args.count = omega arith in
    sym (c.loop-j.invariant ∙ rw e (differ-end c.args.count c.args.body.now))
