use Rattle.std.proofs.Common.{refl, arith}
use Rattle.replay_print.specs.Text.{each}
use Rattle.replay_print.proofs.TextLaws.{appends_none, each_turn}
use Rattle.replay_print.proofs.put_each.Goals as goal

pub loop-item-init : goal.loop-item-init
unfolding each
loop-item-init g c = (refl, appends_none c.args.out.now c.args.at)

pub loop-item-preserved : goal.loop-item-preserved
loop-item-preserved g c =
    let l = c.loop-item in
    let e = c.item-item.is in
    (omega (arith, l.invariant.0, c.put_at-end.auto.out), each_turn g.T.Listed.text c.args.items.now l.item-index c.item-item.result c.loop-item-test.true l.invariant.1 (rw e at c.put_at-end.ensures))
