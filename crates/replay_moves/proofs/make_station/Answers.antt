-- `make_station` meets its contract.
use lib.ListN.{replicate}
use mir.Facts.{to_z-of_z}
use Rattle.replay_replica.specs.Effects.{places_size}
use Rattle.replay_moves.proofs.StationLaws.{station-kept, station-made}
use Rattle.replay_moves.proofs.make_station.Goals as goal

pub returns-then-made-ne0 : goal.returns-then-made-ne0
returns-then-made-ne0 c =
    let s = c in
    let a = s.args in
    station-kept (places_size a.n) a.replica a.n (replicate 128 a.value) (rw (to_z-of_z s.ranges.value) at c.make-made.ensures) c.if-made-ne0.true

pub returns : goal.returns
returns c =
    let m = c in
    let s = m in
    let a = s.args in
    station-made (places_size a.n) a.replica a.n (replicate 128 a.value) (rw (to_z-of_z s.ranges.value) at m.make-made.ensures) c.if-made-ne0.false (rw c.without_number.ensures at c.bare.ensures)
