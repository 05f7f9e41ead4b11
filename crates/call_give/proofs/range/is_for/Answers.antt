-- `is_for` meets its contract.
use native.Mathlib.Omega.{arith}
use Rattle.call_give.proofs.RangeLaws.{for-slot}
use Rattle.call_give.proofs.range.is_for.Goals as goal

pub returns-then-place-ne0 : goal.returns-then-place-ne0
returns-then-place-ne0 c = for-slot c.args.place.now c.args.slot c.if-place-ne0.true (omega (arith, c.requires)) c.number.result c.number.ensures
