-- The loop's invariant: what is kept of the line lies within its slice.
use Rattle.std.proofs.Common.{◌≤◌, length}
use Rattle.text_lines.proofs.input.next_line.Given as goal

abbrev pub invariant-loop-turn : goal.invariant-loop-turn
invariant-loop-turn g l = l.length ≤ length l.line
