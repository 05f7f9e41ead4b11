use Rattle.std.proofs.lemmas.List.{drop-replicate}
use Rattle.replay_delivery.proofs.DeliveryLaws.{copied_is}
use Rattle.replay_delivery.proofs.copied.Goals as goal

pub returns : goal.returns
returns c = copied_is c.args.block.now _ _ c.min-count.result c.min-count.ensures c.copy_from_slice.ensures.after (drop-replicate c.min-count.result 2100 0)
