-- `givings::run` meets its contract.
use Rattle.replay.proofs.GivingLaws.{gives_at}
use Rattle.replay.proofs.givings.run.Goals as goal

pub returns : goal.returns
returns c =
    let a = c.args in
    gives_at a.told.now a.lent.now a.place a.page.now c.give-played.ensures c.catch_up-held.ensures
