-- `shown` meets its contract.
use mathlib.Core.List.{List, []}
use mathlib.Core.Path.{◌≡◌, refl, ap}
use native.Mathlib.Omega.{arith}
use borrow.Author.Rules.{rules}
use lib.IntN.{ℤ}
use lib.ListN.{length}
use lib.Seq.{take_all}
use Rattle.replay_journal.specs.declared.Change.TheVariants.{Stays}
use Rattle.replay_replica.specs.Effects.{memory_of}
use Rattle.replay_replica.proofs.EffectLaws.{plays-values}
use Rattle.replay_calls.proofs.shown.Goals as goal

pub returns : goal.returns
returns c =
    let values-long : length c.args.replica.values ≡ 128 = search rules in
    λ size lent. plays-values c.with_values.ensures (ap (λ (l : List ℤ). record { number = 0; numbers = []; values = l; block = lent; memory = memory_of size c.args.replica; change = Stays }) (take_all 128 c.args.replica.values (omega (arith, values-long)))) refl (omega arith)
