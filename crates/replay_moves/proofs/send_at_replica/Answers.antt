-- `send_at_replica` meets its contract.
use mathlib.Core.Path.{refl}
use borrow.Author.Tests.{ne_eqb}
use Rattle.call_reply.specs.Faults.{fault_number}
use Rattle.call_reply.proofs.FaultLaws.{fault_some}
use Rattle.replay_replica.specs.Effects.{memory_of}
use Rattle.replay_replica.proofs.EffectLaws.{plays-bare}
use Rattle.replay_moves.proofs.MoveLaws.{send-effect}
use Rattle.replay_moves.proofs.send_at_replica.Goals as goal

pub returns-in-Ok : goal.returns-in-Ok
returns-in-Ok c = λ size.
    let m = memory_of size c.args.replica in
    plays-bare c.bare.ensures (send-effect m c.args.block.now (c.in-Ok.ensures.gives m)) refl

pub returns-in-Err : goal.returns-in-Err
returns-in-Err c = λ size.
    let m = memory_of size c.args.replica in
    let f = c.in-Err.fault in
    plays-bare c.bare-in-Err.ensures (rw c.number.ensures (rw (ne_eqb (fault_number f) 0 (fault_some f)) at (send-effect m c.args.block.now (c.in-Err.ensures.gives m)))) refl
