use Rattle.std.proofs.Common.{refl}
use Rattle.replay_replica.specs.Effects.{memory_of}
use Rattle.replay_replica.proofs.EffectLaws.{plays-bare, bare-effect}
use Rattle.replay_client.proofs.ClientLaws.{bare-load}
use Rattle.replay_client.proofs.load.Goals as goal

pub returns-in-Ok : goal.returns-in-Ok
returns-in-Ok c = λ size lent.
    let a = c.args in
    plays-bare c.bare.ensures (bare-effect lent (bare-load lent (memory_of size a.replica) a.bytes.now) (c.in-Ok.ensures (memory_of size a.replica))) refl

pub returns-in-Err : goal.returns-in-Err
returns-in-Err c = λ size lent.
    let a = c.args in
    plays-bare (rw c.number.ensures at c.bare-in-Err.ensures) (bare-effect lent (bare-load lent (memory_of size a.replica) a.bytes.now) (c.in-Err.ensures (memory_of size a.replica))) refl
