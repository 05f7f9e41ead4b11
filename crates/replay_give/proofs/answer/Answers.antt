-- `answer` meets its contract.
use mathlib.Core.Path.{◌≡◌, ap}
use mathlib.Core.List.{[], ◌∷◌}
use borrow.Author.Rules.{rules}
use lib.ListN.{length}
use Rattle.replay_replica.specs.declared.Played.{Played}
use Rattle.replay_replica.proofs.EffectLaws.{six_is}
use Rattle.replay_give.proofs.answer.Goals as goal

pub returns : goal.returns
returns c =
    let aborted-long : length c.args.reply.aborted ≡ 6 = search rules in
    let s = c in
    let n = c in
    let e = rw (n.count_shown.ensures.0, six_is s.args.reply.aborted (0 ∷ (0 ∷ [])) (aborted-long)) at c.with_numbers.ensures in
    (e, rw (← ap (λ (p : Played). p.count) c.with_numbers.ensures) at n.count_shown.ensures.1)
