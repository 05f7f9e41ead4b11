-- The slot's place lies in the window, and the block is pasted there. Assumes nothing.
use Prim.Native.Nat.{◌+◌, ◌≤◌}
use native.Mathlib.Omega.{arith}
use lib.ListN.{length}
use Rattle.memory.proofs.ByteLaws.{put-paste}
use Rattle.memory.proofs.WindowLaws.{window_fits}
use Rattle.memory.proofs.window.keep.Goals as goal

-- the place lies in the window
inside : (c : goal.After-place_start-at) → c.place_start-at.result + 512 ≤ length c.args.window.now
inside c = omega (arith, c.place_start-at.ensures, window_fits c.args.slot, c.requires.0)

pub overflow_add-at : goal.overflow_add-at
overflow_add-at c = omega (arith, inside c)

pub slice_bounds-copy_all-end : goal.slice_bounds-copy_all-end
slice_bounds-copy_all-end c = inside c

pub returns : goal.returns
returns c = rw (c.copy_all.ensures, put-paste c.place_start-at.result c.args.window.now c.args.block.now c.requires.1, c.place_start-at.ensures)
