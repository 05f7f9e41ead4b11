-- `work_out` meets its contract. The loop's invariant: the code is where so many works leave the giving.
use Rattle.memory.specs.Memory.{Memory}
use Rattle.giving.specs.Giving.{Going, work_out}
use Rattle.call_give.specs.Gifts.{give_parts, Stands, Room}
use Rattle.call_give.proofs.slots.work_out.Given as goal

abbrev pub invariant-loop-work : goal.invariant-loop-work
invariant-loop-work l =
    Room l.after
    × ((m : Memory) (g : Going) →
    Stands g l.initial.after (give_parts m l.group l.initial.after.turn l.initial.after.counts l.initial.after.rows l.initial.queue l.items l.initial.values l.initial.stamps l.initial.places m.blocks.outbox l.initial.window)
    → Stands (work_out l.slot l._work g) l.after (give_parts m l.group l.after.turn l.after.counts l.after.rows l.queue l.items l.values l.stamps l.places m.blocks.outbox l.window))
