-- `make` meets its contract.
use Prim.Native.Nat.{ℕ}
use lib.ListN.{replicate, length-replicate}
use mir.Facts.{to_z-of_z}
use Rattle.replay_replica.specs.Effects.{places_size}
use Rattle.replay_moves.proofs.MoveLaws.{plays-make}
use Rattle.replay_moves.proofs.make.Goals as goal

pub returns : goal.returns
returns c =
    let s = c in
    let a = s.args in
    plays-make (places_size a.n) a.replica a.n a.own (replicate 128 a.value) (replicate 512 0) (length-replicate {A = ℕ} 512 0) (rw (to_z-of_z s.ranges.value) at c.restart_alone-made.ensures) (rw c.changing.ensures at c.bare.ensures)
