-- `play` is safe: the line lies within its buffer, and what is held leaves room for a line and for the table.
use mathlib.Core.Path.{◌≡◌}
use lib.ListN.{length}
use Rattle.week.proofs.play.Given as goal

abbrev pub invariant-loop-turn : goal.invariant-loop-turn
invariant-loop-turn g l = (length l.out ≡ 65536) × (length l.line ≡ 64) × (length l.buffer ≡ length l.initial.buffer)
