-- `give_slots` meets its contract. The loop's invariant: the code is where so many slots leave the giving.
use Rattle.memory.specs.Memory.{Memory}
use Rattle.giving.specs.Giving.{Going, give_slots}
use Rattle.call_give.specs.Gifts.{give_parts, Stands, Room}
use Rattle.call_give.proofs.slots.give_slots.Given as goal

abbrev pub invariant-loop-slot : goal.invariant-loop-slot
invariant-loop-slot l =
    Room l.after
    × ((m : Memory) (g : Going) →
    Stands g l.initial.after (give_parts m l.group l.initial.after.turn l.initial.after.counts l.initial.after.rows l.initial.queue l.items l.initial.values l.initial.stamps l.initial.places l.outbox l.initial.window)
    → Stands (give_slots l.lent l._slot g) l.after (give_parts m l.group l.after.turn l.after.counts l.after.rows l.queue l.items l.values l.stamps l.places l.outbox l.window))
