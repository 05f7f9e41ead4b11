use Rattle.std.proofs.Common.{◌≡◌, ◌+◌, refl, arith}
use Rattle.block.proofs.ListLaws.{lent_slice}
use Rattle.giving.specs.Giving.{give_slots}
use Rattle.call_give.proofs.RangeLaws.{kept_fits}
use Rattle.call_give.proofs.SlotLaws.{stands-slot, stands-stopped}
use Rattle.call_give.proofs.slots.give_slots.Goals as goal

pub loop-slot-init : goal.loop-slot-init
unfolding give_slots
loop-slot-init c = (c.requires.0, λ m g S. S)

pub overflow_add-block : goal.overflow_add-block
overflow_add-block c = omega (arith, c.place_start-at.ensures, kept_fits c.loop-slot.after.turn.slot)

pub slice_bounds-block-end : goal.slice_bounds-block-end
slice_bounds-block-end c = omega (arith, c.place_start-at.ensures, kept_fits c.loop-slot.after.turn.slot, c.requires.1)

pub take_slot-after-requires : goal.take_slot-after-requires
take_slot-after-requires c = c.loop-slot.invariant.0

pub loop-slot-preserved : goal.loop-slot-preserved
loop-slot-preserved c =
    let l = c.loop-slot in
    let at = c.place_start-at.result in (
      c.take_slot-after.ensures.0,
      λ m g S. stands-slot c.args.lent.now l._slot g l.after _ refl (l.invariant.1 m g S) c.if-after-ne0.false at c.place_start-at.ensures _ (lent_slice at (at + 512) c.args.lent.now (omega arith)) c.take_slot-after.result _
          (c.take_slot-after.ensures.1 m (give_slots c.args.lent.now l._slot g)),
    )

pub returns-then-after-ne0 : goal.returns-then-after-ne0
returns-then-after-ne0 c =
    let l = c.loop-slot in
    λ m g S. stands-stopped _ l._slot g l.after _ refl (l.invariant.1 m g S) c.if-after-ne0.true _ (omega arith)

pub returns-after-loop-slot : goal.returns-after-loop-slot
returns-after-loop-slot c =
    let e : c.loop-slot._slot ≡ c.args.count = omega arith in
    rw (← e) c.loop-slot.invariant.1
