use Prim.Native.Nat.{◌+◌, ◌*◌}
use mathlib.Core.Path.{◌≡◌, refl}
use native.Mathlib.Omega.{arith}
use Rattle.block.specs.Check.{sum_to, weighted_to, first_check, second_check}
use Rattle.block.proofs.CheckLaws.{sum-next, weighted-turn, weighted_last, zeros-second}
use Rattle.block_check.proofs.sums.Goals.{After-loop-turn}
use Rattle.block_check.proofs.sums.Goals as goal

pub loop-turn-init : goal.loop-turn-init
unfolding sum_to weighted_to
loop-turn-init c = (omega arith, omega arith, omega arith, omega arith, omega arith, omega arith, omega arith, omega arith, refl, refl)

pub loop-turn-preserved : goal.loop-turn-preserved
loop-turn-preserved c =
    let b = c.args.bytes.now in
    let l = c.loop-turn in
    let v = l.invariant in
    let i = 4 * l.turn in
    let next : 4 * (l.turn + 1) ≡ i + 4 = omega arith in
    let more = sum-next b i (omega arith) _ _ _ _ c.word.ensures c.word-in-loop-turn.ensures c.word-in-loop-turn-2.ensures c.word-in-loop-turn-3.ensures in
    let turn =
    weighted-turn b i (omega arith) _ _ _ _ c.word.ensures c.word-in-loop-turn.ensures c.word-in-loop-turn-2.ensures c.word-in-loop-turn-3.ensures
    l.a l.b l.c l.d l.e l.f l.g l.h v.9 in
    rw next (omega arith, omega arith, omega arith, omega arith, omega arith, omega arith, omega arith, omega arith, omega arith, turn)

-- the first sum is whole
first : (c : After-loop-turn) → c.loop-turn.a + c.loop-turn.b + c.loop-turn.c + c.loop-turn.d ≡ first_check c.args.bytes.now
unfolding first_check
first c = let e : c.loop-turn.turn ≡ 63 = omega arith in rw e at c.loop-turn.invariant.8

-- four times the sums of sums have what b, c and d have too much
last : (c : After-loop-turn) → 4 * (c.loop-turn.e + c.loop-turn.f + c.loop-turn.g + c.loop-turn.h) ≡ second_check c.args.bytes.now + (c.loop-turn.b + 2 * c.loop-turn.c + 3 * c.loop-turn.d)
last c = let e : c.loop-turn.turn ≡ 63 = omega arith in weighted_last c.args.bytes.now c.loop-turn.a _ _ _ _ _ _ _ (rw e at c.loop-turn.invariant.9)

pub returns-then-first-eq0 : goal.returns-then-first-eq0
returns-then-first-eq0 c =
    let e = first (goal.at.returns-then-first-eq0 c).After-loop-turn in
    (e, zeros-second c.args.bytes.now (omega arith))

pub overflow_sub-second : goal.overflow_sub-second
overflow_sub-second c = omega (arith, last (goal.at.overflow_sub-second c).After-loop-turn)

pub returns : goal.returns
returns c =
    let x = (goal.at.returns c).After-loop-turn in
    (first x, omega (arith, last x))
