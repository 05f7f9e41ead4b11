-- The part is all zero just if its last eight bytes are, and all behind the turns so far.
use Prim.Native.Nat.{◌*◌}
use mathlib.Core.Path.{◌≡◌}
use mathlib.Core.Bool.{◌&&◌}
use lib.Dec.{eqb}
use lib.ListN.{drop}
use Rattle.block.specs.Form.{all_zero}
use Rattle.block_form.proofs.zero.Given as goal

abbrev pub invariant-loop-turn : goal.invariant-loop-turn
invariant-loop-turn l = all_zero l.part ≡ (eqb l.last 0 && all_zero (drop (8 * l.turn) l.part))
