-- `main` is safe: nothing is held before the first number.
use native.Mathlib.Omega.{arith}
use borrow.Author.Rules.{rules}
use Rattle.week.proofs.main.Goals as goal

pub put_number-output-requires : goal.put_number-output-requires
put_number-output-requires c = (rw c.nothing.ensures (omega arith), search rules)
