use Rattle.std.proofs.Common.{arith, ◌/◌, ◌%◌, take}
use Rattle.replay_delivery.proofs.DeliveryLaws.{filled-short, flipped-in, flipped-out}
use Rattle.replay_delivery.proofs.copied_but.Goals as goal

pub bounds-whole-at : goal.bounds-whole-at
bounds-whole-at c = omega (arith, filled-short c.copied-whole.result c.args.block.now c.copied-whole.ensures, c.if-at-whole.true)

pub bounds-whole-at-then-at-whole : goal.bounds-whole-at-then-at-whole
bounds-whole-at-then-at-whole c = omega (arith, filled-short c.copied-whole.result c.args.block.now c.copied-whole.ensures, c.if-at-whole.true)

pub returns-then-at-whole : goal.returns-then-at-whole
returns-then-at-whole c = rw c.flipped.ensures (flipped-in (take 2100 c.args.block.now) c.copied-whole.result (c.args.bit / 8) (c.args.bit % 8) c.copied-whole.ensures c.if-at-whole.true)

pub returns-else-at-whole : goal.returns-else-at-whole
returns-else-at-whole c = flipped-out (take 2100 c.args.block.now) c.copied-whole.result (c.args.bit / 8) (c.args.bit % 8) c.copied-whole.ensures c.if-at-whole.false
