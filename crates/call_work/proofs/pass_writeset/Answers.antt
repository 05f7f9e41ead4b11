-- `pass_writeset` meets its contract: the last of its block, or not.
use Prim.Native.Nat.{◌+◌}
use mathlib.Core.Path.{refl}
use native.Mathlib.Omega.{arith}
use borrow.Author.Tests.{le-leb, lt-leb}
use Rattle.block.proofs.ListLaws.{lent_slice}
use Rattle.call_work.proofs.pass_writeset.Goals as goal

pub returns-then-count-next : goal.returns-then-count-next
returns-then-count-next c =
    let part = lent_slice c.args.at (c.args.at + 512) c.args.places.now (omega arith) in
    rw (c.committed.ensures, c.advance.ensures, le-leb _ _ c.if-count-next.true) (refl, refl, rw part at c.keep.ensures)

pub returns-else-count-next : goal.returns-else-count-next
returns-else-count-next c = rw (c.committed-else-count-next.ensures, lt-leb _ _ c.if-count-next.false) (refl, refl, refl)
