-- A call with a lent table.
use Rattle.std.specs.Prelude.{cond, eqb, length}
use Rattle.memory.specs.Memory.{Memory}
use Rattle.engine.specs.Answers.{Outcome, outcome}
use Rattle.engine.specs.Answers.Answer.{refused}

-- 1 where the table is not six rows, else the call's own step
unfoldable pub called : (Memory → Outcome) → Memory → Outcome
called step m = cond (eqb (length m.txns.table) 6) (step m) (outcome (refused 1) m)
