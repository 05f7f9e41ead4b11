use Rattle.std.proofs.Common.{◌≡◌, ℕ, refl, sym, ◌∙◌, ap, true, false, Some, unwrap_or, not, ◌&&◌}
use borrow.Author.Tests.{eq-eqb}
use Rattle.block.proofs.BoolLaws.{both}
use Rattle.giving.specs.Choice.{may_give, best_of}
use Rattle.call_giver.proofs.ChoiceLaws.{another_may, best-next, best-stays}
use Rattle.call_giver.proofs.giver.Goals as goal
use Rattle.call_giver.proofs.giver.Goals.{then-is_better, else-is_better}

pub loop-i-init : goal.loop-i-init
unfolding best_of
loop-i-init c = (refl, λ e. cc)

pub loop-i-preserved : goal.loop-i-preserved
loop-i-preserved c =
    let a = c.args in
    let l = c.loop-i in
    let next = c.candidate-next in
    let said = c.is_better in
    let best = unwrap_or l.best a.own in
    elim c.if-is_better.branch [
      | then-is_better w ↦ rw w.best-is (
        best-next a.own a.turns.now l.i best next.result l.invariant.0 next.ensures said.result said.ensures w.if-is_better.true,
        λ e. another_may a.own a.turns.now best next.result (sym said.ensures ∙ w.if-is_better.true) (ap (λ o. unwrap_or o 0) e),
      )
      | else-is_better w ↦ rw w.best-is (best-stays a.own a.turns.now l.i best next.result l.invariant.0 next.ensures said.result said.ensures w.if-is_better.false, l.invariant.1)
    ]
