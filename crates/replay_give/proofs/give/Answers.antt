-- `give` meets its contract.
use Prim.Native.Nat.{◌≤◌}
use mathlib.Core.Path.{◌≡◌, ap, ◌∙◌}
use mathlib.Core.List.{[], ◌∷◌}
use native.Mathlib.Omega.{arith}
use borrow.Author.Rules.{rules}
use lib.ListN.{length, drop}
use lib.Seq.{length-take-le, take_at, drop_at}
use Rattle.replay_replica.specs.Effects.{memory_of}
use Rattle.replay_replica.specs.declared.Played.{Played}
use Rattle.replay_replica.proofs.EffectLaws.{plays-numbers}
use Rattle.replay_give.proofs.GiveLaws.{give_effect_lem, give_few}
use Rattle.replay_give.proofs.give.Goals as goal

pub returns : goal.returns
returns c =
    let places-long : length c.args.replica.places ≡ 3072 = search rules in
    let aborted-long : length c.give-given.result.reply.aborted ≡ 6 =  -- what owning the reply's array tells
    let array = c.give-given.type_inv.1.1.0.1.1.1.1.1.0 in
    search rules in
    let x = c in
    let w = x in
    let z = w in
    let a = z.args in
    let s = a.replica in
    let size = z.places_size-size.result in
    let left = w.give-given.new.places in
    let l : length left ≡ size = w.give-given.auto.places ∙ length-take-le size s.places (omega (arith, z.places_size-size.ensures.1, places-long)) in
    let g = w.give-given.ensures (memory_of size s) in
    let few : w.give-given.result.reply.count ≤ 6 = give_few (memory_of size s) a.turns.now a.lent.now g.0 (aborted-long) in
    let short : c.answer.result.count ≤ 10 = omega (arith, c.answer.ensures.1, few) in
    rw (← z.places_size-size.ensures.0)
    (λ block.
    plays-numbers
    c.answer.ensures.0
    (rw (take_at left (drop size s.places) size l) (give_effect_lem block (memory_of size s) a.turns.now a.lent.now (0 ∷ (0 ∷ [])) g.0 (rw x.end_rows.ensures g.1)))
    (drop_at left (drop size s.places) size l)
    (rw (ap (λ (p : Played). p.count) c.answer.ensures.0) at short))
