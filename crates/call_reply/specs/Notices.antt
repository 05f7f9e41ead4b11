-- Notices as a restart is lent them, in numbers: three for each, the replica, 0 for a Back and any other for an Out, and the slot.
use Rattle.std.specs.Prelude.{ℕ, ◌%◌, cond, not, List, [], ◌∷◌, eqb, ℤ, length}
use Rattle.memory.specs.Memory.{Memory}
use Rattle.memory.specs.Notices.{Notice}
use Rattle.engine.specs.Answers.{Outcome, outcome}
use Rattle.engine.specs.Answers.Answer.{refused}
use Rattle.engine.specs.Restart.{restart_step}

abbrev pub notice_of : (replica kind slot : ℕ) → Notice
notice_of replica kind slot = record { about = replica; out = not (eqb kind 0); slot = slot }

-- one or two numbers behind the last notice are none
unfoldable pub notices_in : List ℕ → List Notice
notices_in [] = []
notices_in (replica ∷ []) = []
notices_in (replica ∷ (kind ∷ [])) = []
notices_in (replica ∷ (kind ∷ (slot ∷ l))) = notice_of replica kind slot ∷ notices_in l

-- 1 where the numbers are not three for each, else the restart with the notices
unfoldable pub restart_lent : Memory → ℕ → ℕ → List ℤ → (journal notices block : List ℕ) → Outcome
restart_lent m n own values journal notices block =
    cond (eqb (length notices % 3) 0) (restart_step m n own values journal (notices_in notices) block) (outcome (refused 1) m)
