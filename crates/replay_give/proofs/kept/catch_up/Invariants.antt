-- `kept::catch_up` meets its contract. The loop's invariant: the journal with the blocks of the slots to come is the one that is to be.
use Rattle.replay_give.proofs.KeptLaws.{Follows}
use Rattle.replay_give.proofs.kept.catch_up.Given as goal

abbrev pub invariant-loop-slot : goal.invariant-loop-slot
invariant-loop-slot l = Follows l.window l.turn l.first l.fn.held l.initial.page l.slot l.after l.page
