-- `places::run` meets its contract.
use Rattle.replay_journal.specs.Journals.{journal_of}
use Rattle.replay.proofs.PlaceLaws.{given-at, plays-at}
use Rattle.replay.proofs.places.run.Goals as goal

pub returns : goal.returns
returns c =
    let k = c in
    let p = k in
    let g = p in
    let l = g in
    let a = l.args in
    plays-at a.call a.place a.bytes.now a.block.now a.page.now
    (given-at a.call a.bytes.now (journal_of a.place.held a.page.now) l.large_buffer-given.ensures g.give-n.ensures)
    p.play-played.ensures k.keep.ensures c.after.ensures
