use Rattle.std.proofs.Common.{◌-◌, length, refl}
use Rattle.call_commit.proofs.RisingLaws.{rising-put}
use Rattle.call_commit.proofs.insert_rising.Goals as goal

pub returns : goal.returns
returns c =
    let l = c.args.list.now in
    rising-put c.args.ticket _ (length l - 1) l c.requires refl c.count_before-at.ensures _ c.insert_first.ensures
