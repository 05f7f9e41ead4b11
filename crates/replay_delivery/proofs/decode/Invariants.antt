-- The loop's invariant: the first 2·i digits are read.
use Rattle.replay_delivery.proofs.DeliveryLaws.{Decoded}
use Rattle.replay_delivery.proofs.decode.Given as goal

abbrev pub invariant-loop-i : goal.invariant-loop-i
invariant-loop-i l = Decoded l.digits l.bytes l.i
