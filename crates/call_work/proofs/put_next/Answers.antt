-- `put_next` meets its contract: zeros, the header, the check (`next-put`).
use mathlib.Core.Path.{◌≡◌, refl}
use lib.ListN.{replicate}
use Rattle.call_work.proofs.OutLaws.{next-put}
use borrow.Author.Rules.{rules}
use Rattle.call_work.proofs.put_next.Goals as goal

pub returns : goal.returns
returns c =
    let zeros : c.fill.new.self ≡ replicate 512 0 = rw (c.fill.ensures.after (search rules), c.requires) in
    next-put c.args.sender c.args.replicas c.args.slot 512 c.write_header.result c.write_check.result
    c.fill.new.self c.write_header.new.part c.write_check.new.block
    refl zeros c.write_header.ensures (search rules) c.write_check.ensures
