use Prim.Native.Nat.{◌+◌, ◌*◌, ◌-◌}
use mathlib.Core.Path.{◌≡◌, sym, ◌∙◌}
use native.Mathlib.Omega.{arith}
use lib.ListN.{length}
use Rattle.block.proofs.FormLaws.{eight-start, eight-differ, eight-next, eight-end}
use Rattle.block_form.proofs.zero.Goals as goal

pub loop-turn-init : goal.loop-turn-init
loop-turn-init c =
    let l = c.args.part.now in
    eight-start l (length l - 8) _ (omega arith) c.number64_at-last.ensures

pub returns-then-number64_at-last : goal.returns-then-number64_at-last
returns-then-number64_at-last c =
    let l = c.args.part.now in
    sym
    (c.loop-turn.invariant
    ∙ eight-differ l (length l - 8) _ (omega arith) c.number64_at-last.ensures (8 * c.loop-turn.turn) _ c.number64_at.ensures c.if-number64_at-last.true)

pub loop-turn-preserved : goal.loop-turn-preserved
loop-turn-preserved c =
    let l = c.args.part.now in
    let next : 8 * (c.loop-turn.turn + 1) ≡ 8 * c.loop-turn.turn + 8 = omega arith in
    c.loop-turn.invariant
    ∙ rw next (eight-next l (length l - 8) _ (omega arith) c.number64_at-last.ensures (8 * c.loop-turn.turn) _ c.number64_at.ensures c.if-number64_at-last.false)

pub returns : goal.returns
returns c =
    let l = c.args.part.now in
    sym (c.loop-turn.invariant ∙ eight-end l (length l - 8) _ (omega arith) c.number64_at-last.ensures (8 * c.loop-turn.turn) (omega arith))
