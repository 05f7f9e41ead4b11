use Rattle.std.proofs.Common.{◌<◌, ◌/◌, length, sym, ◌∙◌, arith}
use borrow.Author.Tests.{eq-eqb, ne_eqb, le-leb, lt-leb}
use mathlib.Core.Bool.{and-false}
use Rattle.call_journal.proofs.NoticeLaws.{out-turn, out-end}
use Rattle.call_journal.proofs.notices.puts_out.Goals as goal
use Rattle.call_journal.proofs.notices.puts_out.Goals.{then-about-replica+then-from-slot, else-about-replica, else-about-replica-via-then-about-replica+else-from-slot, else-about-replica-via-else-about-replica}

pub loop-about-preserved : goal.loop-about-preserved
loop-about-preserved c =
    let here : c.loop-about.about-index < length c.args.notices.now / 3 = omega arith in
    let turn = out-turn c.args.notices.now c.loop-about.about-index c.as_chunks.result.0.now c.as_chunks.ensures.front here c.loop-about.out c.if-about-replica.out c.args.replica c.args.slot in
    c.loop-about.invariant
    ∙ turn (elim c.if-about-replica.branch [
      | then-about-replica+then-from-slot w ↦ rw (eq-eqb _ c.args.replica w.if-about-replica.true, le-leb _ c.args.slot w.if-from-slot.true) w.out-is
      | else-about-replica w ↦ elim w.else-about-replica.branch [
        | else-about-replica-via-then-about-replica+else-from-slot v ↦ rw (lt-leb _ c.args.slot v.if-from-slot.false, and-false) w.out-is
        | else-about-replica-via-else-about-replica v ↦ rw (ne_eqb _ c.args.replica v.if-about-replica.false) w.out-is
      ]
    ])

pub returns : goal.returns
returns c = sym (c.loop-about.invariant ∙ out-end c.args.notices.now c.loop-about.about-index c.loop-about.out c.args.replica c.args.slot (omega arith))
