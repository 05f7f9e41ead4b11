-- `put_kept` meets its contract: the slot's place lies in the window.
use Prim.Native.Nat.{◌+◌}
use native.Mathlib.Omega.{arith}
use Rattle.block.proofs.ListLaws.{lent_slice}
use Rattle.memory.proofs.WindowLaws.{window_fits}
use Rattle.replay_moves.proofs.put_kept.Goals as goal

pub overflow_add-at : goal.overflow_add-at
overflow_add-at c = omega (arith, c.place_start-at.ensures, window_fits c.args.slot, c.requires)

pub slice_bounds-copy_over-end : goal.slice_bounds-copy_over-end
slice_bounds-copy_over-end c = omega (arith, c.place_start-at.ensures, window_fits c.args.slot, c.requires)

pub returns-then-append : goal.returns-then-append
returns-then-append c =
    let at = c.place_start-at.result in
    rw (c.if-append.true, ← c.place_start-at.ensures, ← lent_slice at (at + 512) c.args.window.now (omega arith)) c.copy_over.ensures

pub returns-else-append : goal.returns-else-append
returns-else-append c = rw c.if-append.false
