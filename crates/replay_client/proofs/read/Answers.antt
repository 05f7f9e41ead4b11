use Rattle.std.proofs.Common.{refl, arith, rules}
use mir.Facts.{to_z-of_z}
use mir.Syntax.{w32}
use mir.Val.{SFits}
use Rattle.call_reply.proofs.FaultLaws.{fault_some}
use borrow.Author.Tests.{ne_eqb}
use Rattle.call_reply.specs.Faults.{fault_number}
use Rattle.replay_replica.specs.Effects.{memory_of}
use Rattle.replay_replica.proofs.EffectLaws.{plays-values}
use Rattle.replay_client.proofs.ClientLaws.{read-effect}
use Rattle.replay_client.proofs.read.Goals as goal

pub returns-in-Ok : goal.returns-in-Ok
returns-in-Ok c =
    λ size lent.
    let s = c.args.replica in
    let g = c.in-Ok.ensures (memory_of size s) s.rows c.row_at-row.ensures in
    let told : SFits w32 c.in-Ok.value = search rules in
    plays-values
    c.with_values.ensures
    (rw (c.repeated.ensures, to_z-of_z told, ← c.row_of-at.ensures) (read-effect (memory_of size s) lent c.row_of-at.result c.args.item g))
    refl
    (omega arith)

pub returns-in-Err : goal.returns-in-Err
returns-in-Err c =
    λ size lent.
    let s = c.args.replica in
    let f = c.in-Err.fault in
    let g = c.in-Err.ensures (memory_of size s) s.rows c.row_at-row.ensures in
    plays-values
    (rw c.number.ensures at c.with_values-in-Err.ensures)
    (rw (← c.row_of-at.ensures) (rw (ne_eqb (fault_number f) 0 (fault_some f)) at (read-effect (memory_of size s) lent c.row_of-at.result c.args.item g)))
    refl
    (omega arith)
