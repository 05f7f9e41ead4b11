use Rattle.std.proofs.Common.{rules, ◌≡◌, ◌∙◌, sym, ap, List, length}
use Rattle.week_kept.specs.declared.Sent.{Sent}
use Rattle.week_kept.specs.Blocks.{found_in}
use Rattle.week_kept.proofs.KeptLaws.{take_within, found_here, found_later, found_end}
use Rattle.week_kept.proofs.find.Goals as goal

pub loop-one-init : goal.loop-one-init
loop-one-init c =
    let kept = c.args.kept in
    let sixteen : length kept.blocks ≡ 16 = search rules in
    ap (λ (l : List Sent). found_in c.args.slot l) (take_within kept.blocks kept.count c.min.result sixteen c.min.ensures)

pub returns-then-one-slot : goal.returns-then-one-slot
returns-then-one-slot c = sym (c.loop-one.invariant ∙ found_here c.args.slot _ c.loop-one.one-index _ c.loop-one-test.true c.if-one-slot.true)

pub loop-one-preserved : goal.loop-one-preserved
loop-one-preserved c = c.loop-one.invariant ∙ found_later c.args.slot _ c.loop-one.one-index _ c.loop-one-test.true c.if-one-slot.false

pub returns : goal.returns
returns c = sym (c.loop-one.invariant ∙ found_end c.args.slot _ c.loop-one.one-index c.loop-one-test.false)
