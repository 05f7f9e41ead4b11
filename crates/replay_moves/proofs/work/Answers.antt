-- `work` meets its contract.
use Prim.Native.Nat.{◌≤◌}
use mathlib.Core.Path.{◌≡◌, refl, ap, ◌∙◌}
use native.Mathlib.Omega.{arith}
use borrow.Author.Rules.{rules}
use lib.ListN.{length, drop}
use lib.Seq.{length-take-le, take_at, drop_at}
use Rattle.engine.specs.Moves.{work_step}
use Rattle.call_commit.proofs.EndLaws.{end_none}
use Rattle.replay_replica.specs.Effects.{memory_of}
use Rattle.replay_replica.specs.declared.Played.{Played}
use Rattle.replay_replica.proofs.EffectLaws.{plays-numbers}
use Rattle.replay_moves.proofs.MoveLaws.{work-effect, work_few}
use Rattle.replay_moves.proofs.work.Goals as goal

-- the window that is left has its length
pub put_kept-requires : goal.put_kept-requires
put_kept-requires c =
    let window-long : length c.args.replica.window ≡ 32768 = search rules in
    let window-left : length c.work-worked.new.window ≡ 32768 = c.work-worked.auto.window ∙ window-long in
    window-left

pub returns-in-Ok : goal.returns-in-Ok
returns-in-Ok c =
    let places-long : length c.args.replica.places ≡ 3072 = search rules in
    let aborted-long : length c.in-Ok.worked.aborted ≡ 6 = search rules in
    let s = c.args.replica in
    let lent = c.args.block.now in
    let size = c.places_size-size.result in
    let left = c.work-worked.new.places in
    let l : length left ≡ size = c.work-worked.auto.places ∙ length-take-le size s.places (omega (arith, c.places_size-size.ensures.1, places-long)) in
    let g = (c.in-Ok.ensures (memory_of size s)).0 in
    let few : c.in-Ok.worked.count ≤ 6 = work_few (work_step (memory_of size s)) g aborted-long in
    let said = rw c.into.ensures at c.step_of.ensures in
    let short : c.step_of.result.count ≤ 10 = omega (arith, said.1, few) in
    rw (← c.places_size-size.ensures.0)
    (plays-numbers
    said.0
    (rw (c.end_rows.ensures, take_at left (drop size s.places) size l) (work-effect (memory_of size s) lent g c.put_kept.ensures))
    (drop_at left (drop size s.places) size l)
    (rw (ap (λ (p : Played). p.count) said.0) at short))

pub returns-in-Err : goal.returns-in-Err
returns-in-Err c =
    let places-long : length c.args.replica.places ≡ 3072 = search rules in
    let s = c.args.replica in
    let lent = c.args.block.now in
    let size = c.places_size-size.result in
    let left = c.work-worked.new.places in
    let l : length left ≡ size = c.work-worked.auto.places ∙ length-take-le size s.places (omega (arith, c.places_size-size.ensures.1, places-long)) in
    let g = rw (end_none 6 s.rows) at (c.in-Err.ensures (memory_of size s)) in
    let said = rw c.into-in-Err.ensures at c.step_of-in-Err.ensures in
    let short : c.step_of-in-Err.result.count ≤ 10 = omega (arith, said.1) in
    rw (← c.places_size-size.ensures.0)
    (plays-numbers
    said.0
    (rw (take_at left (drop size s.places) size l) (work-effect (memory_of size s) lent g.0 refl))
    (drop_at left (drop size s.places) size l)
    (rw (ap (λ (p : Played). p.count) said.0) at short))
