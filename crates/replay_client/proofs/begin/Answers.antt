use Rattle.std.proofs.Common.{refl, ap, eqb, drop, arith}
use Rattle.memory.proofs.RowLaws.{same_row}
use Rattle.replay_replica.specs.Effects.{memory_of}
use Rattle.replay_replica.specs.declared.Replica.{Replica}
use Rattle.replay_replica.proofs.EffectLaws.{plays-numbers, one-few}
use Rattle.replay_client.proofs.ClientLaws.{begin-effect}
use Rattle.call_reply.specs.Faults.{fault_number}
use Rattle.replay_client.proofs.begin.Goals as goal

pub returns-in-Ok : goal.returns-in-Ok
returns-in-Ok c =
    λ size lent.
    let s = c.args.replica in
    let g = c.in-Ok.ensures (memory_of size s) s.rows c.row_at-row.ensures in
    plays-numbers
    c.with_number.ensures
    (rw (c.with_row-after.ensures, ← c.free_row-at.ensures) (begin-effect (memory_of size s) lent (drop 1 c.with_number.result.numbers) c.free_row-at.result g))
    (ap (λ (r : Replica). drop size r.places) c.with_row-after.ensures)
    (omega arith)

pub returns-in-Err : goal.returns-in-Err
returns-in-Err c =
    λ size lent.
    let s = c.args.replica in
    let g = rw (same_row s.rows c.free_row-at.result c.row_at-row.result c.row_at-row.ensures) at (c.in-Err.ensures (memory_of size s) s.rows c.row_at-row.ensures) in
    plays-numbers
    (rw c.number.ensures at c.with_number-in-Err.ensures)
    (rw (← c.free_row-at.ensures) (begin-effect (memory_of size s) lent (drop 1 c.with_number-in-Err.result.numbers) c.free_row-at.result g))
    refl
    (one-few (eqb (fault_number c.in-Err.fault) 0))
