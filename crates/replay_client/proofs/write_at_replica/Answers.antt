use Rattle.std.proofs.Common.{refl, ap, drop}
use mir.Facts.{to_z-of_z}
use Rattle.memory.proofs.RowLaws.{same_row}
use Rattle.call_reply.proofs.FaultLaws.{written_kept}
use Rattle.replay_replica.specs.Effects.{memory_of}
use Rattle.replay_replica.specs.declared.Replica.{Replica}
use Rattle.replay_replica.proofs.EffectLaws.{plays-bare, bare-effect}
use Rattle.replay_client.proofs.ClientLaws.{bare-write}
use Rattle.replay_client.proofs.write_at_replica.Goals as goal

pub returns-in-Ok : goal.returns-in-Ok
returns-in-Ok c =
    let a = c.args in
    let size = c.places_size-size.result in
    let g = rw (to_z-of_z c.ranges.value, same_row a.replica.rows c.row_of-at.result c.row_at-row.result c.row_at-row.ensures) at (c.in-Ok.ensures.0 (memory_of size a.replica)) in
    rw (← c.places_size-size.ensures.0)
    (λ lent.
    plays-bare
    c.bare.ensures
    (rw (c.with_row-after.ensures, ← c.row_of-at.ensures) (bare-effect lent (bare-write lent (memory_of size a.replica) c.row_of-at.result a.item a.value) g))
    (ap (λ (x : Replica). drop size x.places) c.with_row-after.ensures))

pub returns-in-Stale : goal.returns-in-Stale
returns-in-Stale c =
    let a = c.args in
    let size = c.places_size-size.result in
    let g = rw (c.in-Stale.is, to_z-of_z c.ranges.value, same_row a.replica.rows c.row_of-at.result c.row_at-row.result c.row_at-row.ensures) at (c.in-Err.ensures.0 (memory_of size a.replica)) in
    rw (← c.places_size-size.ensures.0)
    (λ lent.
    plays-bare
    (rw (c.number.ensures, c.in-Stale.is) at c.bare-in-Stale.ensures)
    (rw (c.with_row-after-in-Stale.ensures, c.free.ensures, c.bump.ensures, ← c.row_of-at.ensures) (bare-effect lent (bare-write lent (memory_of size a.replica) c.row_of-at.result a.item a.value) g))
    (ap (λ (x : Replica). drop size x.places) c.with_row-after-in-Stale.ensures))

pub returns-in_default : goal.returns-in_default
returns-in_default c =
    let a = c.args in
    let size = c.places_size-size.result in
    let kept = written_kept c.in-Err.fault a.replica.counts c.row_at-row.result c.in_default.not-Stale in
    let same = same_row a.replica.rows c.row_of-at.result c.row_at-row.result c.row_at-row.ensures in
    let g = rw (kept.0, kept.1, to_z-of_z c.ranges.value, same) at (c.in-Err.ensures.0 (memory_of size a.replica)) in
    rw (← c.places_size-size.ensures.0)
    (λ lent.
    plays-bare
    (rw c.number-in_default.ensures at c.bare-in_default.ensures)
    (rw (← c.row_of-at.ensures) (bare-effect lent (bare-write lent (memory_of size a.replica) c.row_of-at.result a.item a.value) g))
    refl)
