-- `step_of` meets its contract.
use mathlib.Core.Path.{◌≡◌, ap}
use mathlib.Core.List.{[], append-nil}
use borrow.Author.Rules.{rules}
use lib.ListN.{length}
use Rattle.replay_replica.specs.declared.Played.{Played}
use Rattle.replay_replica.proofs.EffectLaws.{six_is}
use Rattle.replay_moves.proofs.step_of.Goals as goal

pub returns : goal.returns
returns c =
    let aborted-long : length c.args.reply.aborted ≡ 6 = search rules in
    let s = c in
    let e = rw (c.accepted.ensures.0, c.flag.ensures, six_is s.args.reply.aborted [] (aborted-long), append-nil s.args.reply.aborted, c.growing.ensures) at c.with_numbers.ensures in
    (e, rw (← ap (λ (p : Played). p.count) c.with_numbers.ensures) at c.accepted.ensures.1)
