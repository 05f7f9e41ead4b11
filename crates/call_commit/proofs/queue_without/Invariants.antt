-- `queue_without` meets its contract. The loop's invariant: the first places have what stays of the first i tickets of the queue, and the rest is
-- as it was; the zeros go behind the last. Assumes nothing.
use Rattle.call_commit.proofs.QueueLaws.{Kept}
use Rattle.call_commit.proofs.queue_without.Given as goal

abbrev pub invariant-loop-i : goal.invariant-loop-i
invariant-loop-i l = Kept l.gone l.initial.queue l.queue l.kept l.i
