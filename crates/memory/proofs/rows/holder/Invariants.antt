-- The holder is among the rows from i on; it is row i if the item is among its items from k on.
use Prim.Native.Nat.{◌+◌, ◌≤◌}
use mathlib.Core.Path.{◌≡◌}
use mathlib.Core.Bool.{cond}
use lib.ListN.{length, drop}
use lib.Seq.{slice}
use Rattle.std.specs.Prelude.{Some, None}
use Rattle.memory.specs.Rows.{has, holder_from, holder_of}
use Rattle.memory.proofs.rows.holder.Given as goal

abbrev pub invariant-loop-k : goal.invariant-loop-k
invariant-loop-k l =
    (l.end ≤ length l.items) × (l.found ≡ None)
    × (holder_of l.t-items l.items l.me l.item ≡ cond (has l.item (slice l.k l.end l.items)) (Some l.i) (holder_from l.items l.me l.item (l.i + 1) (drop (l.i + 1) l.t-items)))

abbrev pub invariant-search : goal.invariant-search
invariant-search l = (l.found ≡ None) × (holder_of l.t-items l.items l.me l.item ≡ holder_from l.items l.me l.item l.i (drop l.i l.t-items))
