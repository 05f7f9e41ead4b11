-- `restart_alone` meets its contract.
use lib.ListN.{replicate}
use mir.Facts.{to_z-of_z}
use Rattle.replay_replica.specs.Effects.{places_size, memory_of}
use Rattle.replay_moves.proofs.MoveLaws.{lent_none}
use Rattle.replay_moves.proofs.restart_alone.Goals as goal

pub returns : goal.returns
returns c =
    let r = c in
    let s = r in
    let a = s.args in
    rw (← lent_none (memory_of (places_size a.n) a.replica) a.n a.own (replicate 128 a.value) a.journal.now a.block.now)
    (rw (to_z-of_z s.ranges.value) at r.restart.ensures)
