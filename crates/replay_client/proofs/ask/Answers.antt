use Rattle.std.proofs.Common.{refl, ap, eqb, drop, arith}
use Rattle.memory.proofs.RowLaws.{same_row}
use Rattle.replay_replica.specs.Effects.{memory_of}
use Rattle.replay_replica.specs.declared.Replica.{Replica}
use Rattle.replay_replica.proofs.EffectLaws.{plays-numbers, one-few}
use Rattle.replay_client.proofs.ClientLaws.{ask-effect}
use Rattle.call_reply.specs.Faults.{fault_number}
use Rattle.replay_client.proofs.ask.Goals as goal

pub returns-in-Ok-ReadOnly : goal.returns-in-Ok-ReadOnly
returns-in-Ok-ReadOnly c =
    λ size lent.
    let s = c.args.replica in
    let g = rw c.in-Ok-ReadOnly.field-0-is at (c.in-Ok-ReadOnly.ensures.gives (memory_of size s) s.rows c.row_at-row.ensures) in
    plays-numbers
    (rw c.flag.ensures at c.with_number.ensures)
    (rw (c.with_row-after.ensures, c.free.ensures, ← c.row_of-at.ensures) (ask-effect (memory_of size s) lent (drop 1 c.with_number.result.numbers) c.row_of-at.result g))
    (ap (λ (r : Replica). drop size r.places) c.with_row-after.ensures)
    (omega arith)

pub returns-in-Ok-Queued : goal.returns-in-Ok-Queued
returns-in-Ok-Queued c =
    λ size lent.
    let s = c.args.replica in
    let g = rw c.in-Ok-Queued.field-0-is at (c.in-Ok-Queued.ensures.gives (memory_of size s) s.rows c.row_at-row.ensures) in
    plays-numbers
    (rw c.flag-in-Ok-Queued.ensures at c.with_number-in-Ok-Queued.ensures)
    (rw (c.with_row-after-in-Ok-Queued.ensures, ← c.row_of-at.ensures) (ask-effect (memory_of size s) lent (drop 1 c.with_number-in-Ok-Queued.result.numbers) c.row_of-at.result g))
    (ap (λ (r : Replica). drop size r.places) c.with_row-after-in-Ok-Queued.ensures)
    (omega arith)

pub returns-in-Err : goal.returns-in-Err
returns-in-Err c =
    λ size lent.
    let s = c.args.replica in
    let g = rw (same_row s.rows c.row_of-at.result c.row_at-row.result c.row_at-row.ensures) at (c.in-Err.ensures.gives (memory_of size s) s.rows c.row_at-row.ensures) in
    plays-numbers
    (rw (c.number.ensures, c.flag-in-Err.ensures) at c.with_number-in-Err.ensures)
    (rw (← c.row_of-at.ensures) (ask-effect (memory_of size s) lent (drop 1 c.with_number-in-Err.result.numbers) c.row_of-at.result g))
    refl
    (one-few (eqb (fault_number c.in-Err.fault) 0))
