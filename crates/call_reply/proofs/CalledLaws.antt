-- A call with a table of six rows is its step, with any other it is refused by 1. Assumes nothing.
use mathlib.Core.Path.{◌≡◌}
use borrow.Author.Tests.{eq-eqb, ne_eqb}
use lib.ListN.{length}
use Rattle.memory.specs.Memory.{Memory}
use Rattle.engine.specs.Answers.{Outcome, outcome}
use Rattle.engine.specs.Answers.Answer.{refused}
use Rattle.call_reply.specs.Called.{called}

module _ (step : Memory → Outcome) (m : Memory) where
  pub called-six : length m.txns.table ≡ 6 → called step m ≡ step m
  unfolding called
  called-six h = rw (eq-eqb (length m.txns.table) 6 h)

  pub called-other : (length m.txns.table ≡ 6 → ⊥) → called step m ≡ outcome (refused 1) m
  unfolding called
  called-other h = rw (ne_eqb (length m.txns.table) 6 h)
