-- `results::with_number` meets its contract.
use Rattle.replay_replica.proofs.EffectLaws.{numbered}
use Rattle.replay_replica.proofs.results.with_number.Goals as goal

pub returns : goal.returns
returns c =
    let e = c.with_numbers.ensures in
    numbered e c.accepted.ensures.0
