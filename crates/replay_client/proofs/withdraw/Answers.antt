use Rattle.std.proofs.Common.{refl, ap, drop}
use Rattle.memory.proofs.RowLaws.{same_row}
use Rattle.replay_replica.specs.Effects.{memory_of}
use Rattle.replay_replica.specs.declared.Replica.{Replica}
use Rattle.replay_replica.proofs.EffectLaws.{plays-bare, bare-effect}
use Rattle.replay_client.proofs.ClientLaws.{bare-withdraw}
use Rattle.replay_client.proofs.withdraw.Goals as goal

pub returns-in-Ok : goal.returns-in-Ok
returns-in-Ok c =
    λ size lent.
    let s = c.args.replica in
    let g = c.in-Ok.ensures (memory_of size s) s.rows c.row_at-row.ensures in
    plays-bare
    c.bare.ensures
    (rw (c.with_row-after.ensures, c.free.ensures, ← c.row_of-at.ensures) (bare-effect lent (bare-withdraw lent (memory_of size s) c.row_of-at.result) g))
    (ap (λ (r : Replica). drop size r.places) c.with_row-after.ensures)

pub returns-in-Err : goal.returns-in-Err
returns-in-Err c =
    λ size lent.
    let s = c.args.replica in
    let g = rw (same_row s.rows c.row_of-at.result c.row_at-row.result c.row_at-row.ensures) at (c.in-Err.ensures (memory_of size s) s.rows c.row_at-row.ensures) in
    plays-bare
    (rw c.number.ensures at c.bare-in-Err.ensures)
    (rw (← c.row_of-at.ensures) (bare-effect lent (bare-withdraw lent (memory_of size s) c.row_of-at.result) g))
    refl
