use Rattle.std.proofs.Common.{arith, refl}
use Rattle.memory.proofs.SearchLaws.{shift-next, shift-end}
use Rattle.memory.proofs.rows.insert_first.Goals as goal

pub loop-j-init : goal.loop-j-init
loop-j-init g c = refl

pub loop-j-preserved : goal.loop-j-preserved
loop-j-preserved g c = shift-next c.loop-j.items _ c.loop-j.j c.loop-j.next c.index-items-j.result (omega arith) c.index-items-j.is c.loop-j.invariant

pub returns : goal.returns
returns g c = shift-end c.loop-j.items c.args.items.now c.args.item c.loop-j.next c.loop-j.j c.loop-j.auto.items (omega arith) c.loop-j.invariant
