-- `deliver` meets its contract.
use mathlib.Core.Path.{◌≡◌, ◌∙◌}
use native.Mathlib.Omega.{arith}
use borrow.Author.Rules.{rules}
use lib.ListN.{length, drop}
use lib.Seq.{length-take-le, take_at, drop_at}
use Rattle.replay_replica.specs.Effects.{memory_of}
use Rattle.replay_replica.proofs.EffectLaws.{plays-bare, bare-effect}
use Rattle.replay_moves.proofs.MoveLaws.{bare-deliver}
use Rattle.replay_moves.proofs.deliver.Goals as goal

pub returns : goal.returns
returns c =
    let places-long : length c.args.replica.places ≡ 3072 = search rules in
    let s = c.args.replica in
    let size = c.places_size-size.result in
    let left = c.deliver-delivered.new.places in
    let l : length left ≡ size = c.deliver-delivered.auto.places ∙ length-take-le size s.places (omega (arith, c.places_size-size.ensures.1, places-long)) in
    rw (← c.places_size-size.ensures.0)
    (λ lent.
    plays-bare
    c.bare.ensures
    (rw (c.number_of.ensures, take_at left (drop size s.places) size l) (bare-effect lent (bare-deliver lent (memory_of size s) c.args.bytes.now) (c.deliver-delivered.ensures (memory_of size s))))
    (drop_at left (drop size s.places) size l))
