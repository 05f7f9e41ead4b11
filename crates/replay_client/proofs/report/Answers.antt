use Rattle.std.proofs.Common.{[], ◌∷◌, refl, arith}
use Rattle.replay_replica.specs.Effects.{memory_of}
use Rattle.replay_replica.proofs.EffectLaws.{plays-numbers}
use Rattle.replay_client.proofs.ClientLaws.{report-effect}
use Rattle.replay_client.proofs.report.Goals as goal

pub returns : goal.returns
returns c =
    λ size lent.
    let s = c.args.replica in
    plays-numbers c.with_numbers.ensures (report-effect (memory_of size s) lent (0 ∷ (0 ∷ [])) (c.report-report.ensures (memory_of size s))) refl (omega arith)
