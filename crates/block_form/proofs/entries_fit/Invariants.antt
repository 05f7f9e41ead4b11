-- All of the entries fit just if the last one read is at most 127 and those from e on, above it, fit.
use Prim.Native.Nat.{◌+◌}
use mathlib.Core.Bool.{◌&&◌}
use mathlib.Core.Path.{◌≡◌}
use lib.Dec.{leb}
use Rattle.block.proofs.FormLaws.{entries_good, entries_rest}
use Rattle.block_form.proofs.entries_fit.Given as goal

abbrev pub invariant-loop-e : goal.invariant-loop-e
invariant-loop-e l = entries_good 0 l.n l.part ≡ (leb l.last 127 && entries_rest (l.last + 1) l.n l.e l.part)
