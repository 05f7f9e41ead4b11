use Rattle.std.proofs.Common.{sym, ◌∙◌, arith}
use Rattle.call_commit.proofs.ListLaws.{has_any}
use Rattle.call_commit.proofs.QueueLaws.{kept-none, kept-gone, kept-stays}
use Rattle.call_commit.proofs.queue_without.Goals as goal
use Rattle.call_commit.proofs.queue_without.Goals.{then-not-contains, else-not-contains}

pub loop-i-init : goal.loop-i-init
loop-i-init c = kept-none (c.args.gone.now) c.args.queue.now

pub loop-i-preserved : goal.loop-i-preserved
loop-i-preserved c =
    let gone = c.args.gone.now in
    let l = c.loop-i in
    elim c.if-not-contains.branch [
      | then-not-contains w ↦ rw (w.queue-is, w.kept-is) (kept-stays gone c.args.queue.now l.queue l.kept l.i (omega arith) l.invariant (sym (has_any _ gone) ∙ sym c.contains.ensures.value ∙ w.if-not-contains.true))
      | else-not-contains w ↦ rw (w.queue-is, w.kept-is) (kept-gone gone c.args.queue.now l.queue l.kept l.i (omega arith) l.invariant (sym (has_any _ gone) ∙ sym c.contains.ensures.value ∙ w.if-not-contains.false))
    ]
