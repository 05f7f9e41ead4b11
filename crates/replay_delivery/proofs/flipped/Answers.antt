use Rattle.replay_delivery.proofs.DeliveryLaws.{flip_is}
use Rattle.replay_delivery.proofs.flipped.Goals as goal

pub returns : goal.returns
returns c = flip_is c.args.byte c.args.t c.ranges.byte.fits c.requires
