use Rattle.std.proofs.Common.{◌≡◌, refl, arith}
use Rattle.giving.specs.Giving.{work_out}
use Rattle.call_give.proofs.SlotLaws.{stands_on, stands-over}
use Rattle.call_give.proofs.slots.work_out.Goals as goal

pub loop-work-init : goal.loop-work-init
unfolding work_out
loop-work-init c = (c.requires, λ m g S. S)

pub do_work-requires : goal.do_work-requires
do_work-requires c = c.loop-work.invariant.0

pub loop-work-preserved : goal.loop-work-preserved
loop-work-preserved c =
    let l = c.loop-work in (
      c.do_work.ensures.0,
      λ m g S. stands_on _ l._work g l.after _ refl (l.invariant.1 m g S) c.goes_on.result c.goes_on.ensures c.if-not-goes_on.false c.do_work.new.state _ (c.do_work.ensures.1 m (work_out c.args.slot l._work g)),
    )

pub returns-then-not-goes_on : goal.returns-then-not-goes_on
returns-then-not-goes_on c =
    let l = c.loop-work in (
      l.invariant.0,
      λ m g S. stands-over _ l._work g l.after _ refl (l.invariant.1 m g S) c.goes_on.result c.goes_on.ensures c.if-not-goes_on.true (omega arith),
    )

pub returns-after-loop-work : goal.returns-after-loop-work
returns-after-loop-work c =
    let e : c.loop-work._work ≡ 6 = omega arith in
    (c.loop-work.invariant.0, rw (← e) c.loop-work.invariant.1)
