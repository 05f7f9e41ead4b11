-- `places::play` meets its contract.
use borrow.Author.Rules.{rules}
use mir.Syntax.{w32}
use Rattle.std.proofs.Common.{to_z-of_z}
use Rattle.replay_journal.specs.Taken.{taken_of}
use Rattle.replay.proofs.PlaceLaws.{plays-other, plays-again}
use Rattle.replay.proofs.places.play.Goals as goal

pub returns-then-call-ne90 : goal.returns-then-call-ne90
returns-then-call-ne90 c =
    let r = c in
    let a = r.args in
    plays-other a.call a.replica a.bytes.now a.block.now (taken_of a.taken) r.if-call-ne90.true r.run.ensures

pub returns : goal.returns
returns c =
    let a = c.args in
    plays-again a.call a.replica a.bytes.now a.block.now (taken_of a.taken) c.if-call-ne90.false c.lent.ensures
    (rw (to_z-of_z {w = w32} {z = a.call.value} (search rules)) at c.restart.ensures)
