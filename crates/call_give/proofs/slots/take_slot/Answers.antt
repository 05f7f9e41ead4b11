-- `take_slot` meets its contract: the deliver where the block is wanted, then the works.
use mathlib.Core.Path.{refl}
use Rattle.memory.specs.Memory.{Memory}
use Rattle.call_give.specs.Gifts.{give_parts}
use Rattle.call_give.proofs.SlotLaws.{stands-placed, stands-taken}
use Rattle.call_give.proofs.slots.take_slot.Goals as goal

-- the memory lent
pub returns : goal.returns
returns c =
    let lent : Memory → Memory = λ m. let a = c.args in
    give_parts m a.group a.before.turn a.before.counts a.before.rows a.queue.now a.items.now a.values.now a.stamps.now a.places.now a.outbox.now a.window.now in
    let a = c.args in (
      c.work_out.ensures.0,
      λ m g S.
          let M = lent m in
          let D = c.deliver_wanted-number.ensures M g S.memory S.number in
          stands-taken g a.block.now M S.memory c.work_out.result _
          (c.work_out.ensures.1 M _ (stands-placed g a.block.now a.before M S _ D.1 D.2 _ D.0 refl refl)),
    )
