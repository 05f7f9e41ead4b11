-- `notice` meets its contract.
use mathlib.Core.Path.{refl}
use Rattle.replay_replica.specs.Effects.{memory_of}
use Rattle.replay_replica.proofs.EffectLaws.{plays-bare, bare-effect}
use Rattle.replay_moves.proofs.MoveLaws.{bare-notice}
use Rattle.replay_moves.proofs.notice.Goals as goal

pub returns-in-Ok : goal.returns-in-Ok
returns-in-Ok c =
    let a = c.args in
    let m = memory_of c.places_size-size.result a.replica in
    rw (← c.places_size-size.ensures.0)
    (λ lent. plays-bare c.bare.ensures (bare-effect lent (bare-notice lent m (record { about = a.about; out = a.out; slot = a.slot })) (c.in-Ok.ensures m)) refl)

pub returns-in-Err : goal.returns-in-Err
returns-in-Err c =
    let a = c.args in
    let m = memory_of c.places_size-size.result a.replica in
    rw (← c.places_size-size.ensures.0)
    (λ lent. plays-bare (rw c.number.ensures at c.bare-in-Err.ensures) (bare-effect lent (bare-notice lent m (record { about = a.about; out = a.out; slot = a.slot })) (c.in-Err.ensures m)) refl)
