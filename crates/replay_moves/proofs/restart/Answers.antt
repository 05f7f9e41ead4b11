-- `restart` meets its contract.
use mathlib.Core.Path.{◌≡◌, ◌∙◌}
use native.Mathlib.Omega.{arith}
use borrow.Author.Rules.{rules}
use lib.Dec.{eqb}
use lib.ListN.{length, drop, replicate}
use lib.Seq.{length-take-le, take_at, drop_at}
use mir.Facts.{to_z-of_z}
use mir.Syntax.{w32}
use Rattle.replay_replica.specs.Effects.{memory_of}
use Rattle.replay_replica.proofs.EffectLaws.{plays-numbers, one-few}
use Rattle.replay_moves.proofs.MoveLaws.{restart-effect}
use Rattle.replay_moves.proofs.restart.Goals as goal

-- the values start alike
pub returns : goal.returns
returns c =
    let places-long : length c.args.replica.places ≡ 3072 = search rules in
    let start_is : c.repeated.result ≡ replicate 128 c.args.value = rw (to_z-of_z {w = w32} {z = c.args.value} c.ranges.value) at c.repeated.ensures in
    let a = c.args in
    let s = a.replica in
    let size = c.places_size-size.result in
    let left = c.restart-restarted.new.places in
    let l : length left ≡ size = c.restart-restarted.auto.places ∙ length-take-le size s.places (omega (arith, c.places_size-size.ensures.1, places-long)) in
    let g = rw (start_is) at (c.restart-restarted.ensures.gives s.group s.turn s.counts s.rows) in
    rw (← c.places_size-size.ensures.0)
    (plays-numbers
    (rw (c.changing-change.ensures) at c.with_number.ensures)
    (rw (c.if_made-after.ensures, take_at left (drop size s.places) size l) (restart-effect (memory_of size s) a.n a.own (replicate 128 a.value) a.journal.now a.notices.now a.block.now (drop 1 c.with_number.result.numbers) (rw (← c.reply-reply.ensures) at g)))
    (rw c.if_made-after.ensures (drop_at left (drop size s.places) size l))
    (one-few (eqb c.reply-reply.result.number 0)))
