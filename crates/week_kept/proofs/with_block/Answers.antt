use Rattle.week_kept.proofs.KeptLaws.{kept_with_lem}
use Rattle.week_kept.proofs.with_block.Goals as goal

pub returns : goal.returns
returns c =
    let a = c.args in
    kept_with_lem a.one a.kept.blocks c.moved_on.result a.kept.count c.min.result c.min.ensures c.moved_on.ensures
