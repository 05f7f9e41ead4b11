-- Document 02's Req 07, worked: calls lead to an item that is newer than a snapshot and held by another. What is answered there now: `RightAnswers.stale-first` (engine's `specs/Worked.antt`).
use Rattle.std.specs.Prelude.{ℕ, ◌≡◌, true, List, [], ◌∷◌, pos}
use Rattle.memory.specs.Memory.{Memory}
use Rattle.engine.specs.Answers.{number_of}
use Rattle.engine.specs.Calls.{after}
use Rattle.engine.specs.Calls.Call.{withdraw}
use Rattle.engine.specs.Staleness.{lock_first_write, stale_and_held}
use Rattle.engine.specs.Worked.{fresh, to_stale_and_held}

abbrev pub held : Memory
held = after (fresh 2 0) to_stale_and_held

-- what ticket 1's write to item 5 was answered before
abbrev pub formerly : Memory → ℕ
formerly m = number_of (lock_first_write m 1 5 (pos 8)).answer

pub record WorkedStaleness : Type 0 where
  pub met : stale_and_held held 1 5 ≡ true
  -- 8, and 9 all the same once the holder has withdrawn
  pub waited : formerly held ∷ formerly (after held (withdraw 2 ∷ [])) ∷ [] ≡ 8 ∷ 9 ∷ []
