use Prim.Native.Nat.{◌<◌}
use mathlib.Core.Path.{refl, ◌∙◌}
use native.Mathlib.Omega.{arith}
use borrow.Author.Rules.{rules}
use lib.ListN.{length-set}
use Rattle.replay_parse.proofs.LineLaws.{none_read, some_read}
use Rattle.replay_give.proofs.ToldLaws.{tells_none, told-all, told-full, told-missing, told-next}
use Rattle.replay_give.proofs.told.numbers_of.Goals as goal

pub loop-at-init : goal.loop-at-init
loop-at-init c = (omega arith, refl, refl)

pub returns-then-count-ge6 : goal.returns-then-count-ge6
returns-then-count-ge6 c =
    let l = c in
    let line = l.args.line.now in
    tells_none c.none.ensures.0 (told-full line l.loop-at.at l.loop-at.count l.loop-at.turns l.loop-at.invariant.2 c.loop-at-test.true c.if-count-ge6.true)

pub returns-in_default : goal.returns-in_default
returns-in_default c =
    let r = c in
    let l = r in
    let line = l.args.line.now in
    tells_none c.none-in_default.ensures.0
    (told-missing line l.loop-at.at l.loop-at.count l.loop-at.turns l.loop-at.invariant.2 r.loop-at-test.true (omega (arith, r.if-count-ge6.false))
    (none_read r.take_number.ensures search rules))

pub returns : goal.returns
returns c =
    let l = c in
    record {
      first = told-all l.args.line.now l.loop-at.at l.loop-at.count l.loop-at.turns l.loop-at.invariant.2 (omega (arith, c.loop-at-test.false));
      within = l.loop-at.invariant.0;
    }

pub loop-at-preserved : goal.loop-at-preserved
loop-at-preserved c =
    let r = c in
    let l = r in
    let line = l.args.line.now in
    let few : l.loop-at.count < 6 = omega (arith, r.if-count-ge6.false) in (
      omega (arith, few),
      length-set l.loop-at.turns l.loop-at.count c.in-Some.n ∙ l.loop-at.invariant.1,
      told-next line l.loop-at.at l.loop-at.count l.loop-at.turns l.loop-at.invariant.2 r.loop-at-test.true few c.in-Some.n c.in-Some.end l.loop-at.invariant.1
          (some_read r.take_number.ensures c.in-Some.is),
    )
