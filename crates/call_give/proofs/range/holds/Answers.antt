-- `holds` meets its contract: what is in the slot's place is a block for it.
use Prim.Native.Nat.{◌+◌}
use mathlib.Core.Path.{◌∙◌}
use native.Mathlib.Omega.{arith}
use Rattle.block.proofs.ListLaws.{lent, lent_slice}
use Rattle.call_give.proofs.RangeLaws.{kept_fits, holds_for}
use Rattle.call_give.proofs.range.holds.Goals as goal

pub overflow_add-at : goal.overflow_add-at
overflow_add-at c = omega (arith, c.place_start-at.ensures, kept_fits c.args.slot)

pub slice_bounds-is_for-end : goal.slice_bounds-is_for-end
slice_bounds-is_for-end c = omega (arith, c.place_start-at.ensures, kept_fits c.args.slot, c.requires)

pub returns : goal.returns
returns c =
    let a = c.args in
    let at = c.place_start-at.result in
    holds_for a.window.now a.slot (lent at (at + 512) a.window.now) (lent_slice at (at + 512) a.window.now (omega arith) ∙ rw c.place_start-at.ensures) c.is_for.result c.is_for.ensures
