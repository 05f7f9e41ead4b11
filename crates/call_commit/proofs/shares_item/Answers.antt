use Rattle.std.proofs.Common.{sym, ◌∙◌}
use Rattle.call_commit.proofs.EntryLaws.{share-start, share-here, share-later, share-end}
use Rattle.call_commit.proofs.shares_item.Goals as goal

pub loop-e-init : goal.loop-e-init
loop-e-init c = share-start c.args.block.now c.args.j _ c.entry_count-e-end.ensures c.args.items.now

pub returns-then-holds : goal.returns-then-holds
returns-then-holds c =
    let a = c.args in
    sym (c.loop-e.invariant ∙ share-here a.block.now a.j _ c.loop-e.e c.loop-e-test.true _ c.entry_at.ensures a.items.now (sym c.if-holds.ensures))

pub loop-e-preserved : goal.loop-e-preserved
loop-e-preserved c =
    let a = c.args in
    c.loop-e.invariant ∙ share-later a.block.now a.j _ c.loop-e.e c.loop-e-test.true _ c.entry_at.ensures a.items.now (sym c.if-holds.ensures)

pub returns : goal.returns
returns c =
    let a = c.args in
    sym (c.loop-e.invariant ∙ share-end a.block.now a.j _ c.loop-e.e c.loop-e-test.false a.items.now)
