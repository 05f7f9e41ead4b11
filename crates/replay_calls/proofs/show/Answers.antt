-- `show` meets its contract.
use mathlib.Core.Path.{refl}
use Rattle.replay_replica.proofs.EffectLaws.{plays-bare}
use Rattle.replay_calls.proofs.show.Goals as goal

pub returns : goal.returns
returns c = λ size. plays-bare c.bare.ensures (rw c.copy_over.ensures) refl
