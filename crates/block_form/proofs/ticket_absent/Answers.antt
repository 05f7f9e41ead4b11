use mathlib.Core.Path.{◌≡◌, sym, ◌∙◌}
use native.Mathlib.Omega.{arith}
use Rattle.block.proofs.FormLaws.{absent-found, absent-next, absent-end}
use Rattle.block_form.proofs.ticket_absent.Goals as goal

pub returns-then-number_at-ticket : goal.returns-then-number_at-ticket
returns-then-number_at-ticket c =
    let a = c.args in
    sym (c.loop-i.invariant ∙ absent-found a.count c.loop-i.i a.body.now (omega arith) a.ticket (sym c.number_at.ensures ∙ c.if-number_at-ticket.true))

pub loop-i-preserved : goal.loop-i-preserved
loop-i-preserved c =
    let a = c.args in
    c.loop-i.invariant ∙ absent-next a.count c.loop-i.i a.body.now (omega arith) a.ticket (λ e. c.if-number_at-ticket.false (c.number_at.ensures ∙ e))

pub returns : goal.returns
returns c =
    let a = c.args in
    let e : c.loop-i.i ≡ a.count = omega arith in
    sym (c.loop-i.invariant ∙ rw e (absent-end a.count a.body.now a.ticket))
