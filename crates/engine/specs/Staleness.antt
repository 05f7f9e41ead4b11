-- Document 02's Req 07: "Staleness comes first from now on. On the same state, the only answers that change are those where both held: 8 with the transaction open becomes 9 with it ended."
-- The order of before, 8 before 9, stands here alone among the definitions.
use Rattle.std.specs.Prelude.{ℕ, ◌≡◌, Bool, true, false, cond, not, ◌&&◌, [], ◌∷◌, ◌++◌, ℤ}
use Rattle.block.specs.Answers.{refuse, first_of}
use Rattle.memory.specs.Memory.{Memory, is_station}
use Rattle.engine.specs.Answers.{Outcome, outcome, unless_station}
use Rattle.engine.specs.Answers.Answer.{refused}
use Rattle.engine.specs.Classes.{must_wait}
use Rattle.engine.specs.Client.{row_no, item_out, no_row, not_active, is_own, write_lent, early_refusals, held_by_other, is_stale, is_full, stale_at, write_unless}
use Rattle.engine.specs.Calls.{step}
use Rattle.engine.specs.Calls.Call.{write}

-- the refusals of a write before Req 07: the lock is looked at first
unfoldable pub lock_first_refusal : Memory → ℕ → ℕ → ℕ
lock_first_refusal m r item =
    first_of
    (early_refusals (write_lent m) m r item
    ++ (refuse 7 (must_wait m item)
    ∷ cond (is_own m r item) [] (refuse 8 (held_by_other m r item) ∷ refuse 9 (is_stale m r item) ∷ refuse 10 (is_full m r) ∷ [])))

-- a write before Req 07
abbrev pub lock_first_write : Memory → ℕ → ℕ → ℤ → Outcome
lock_first_write m ticket item value = unless_station m (write_unless (lock_first_refusal m (row_no m ticket) item) m (row_no m ticket) item value)

-- no refusal before 9 and 8 is met, and the item is not the transaction's own
abbrev pub reaches_last : Memory → ℕ → ℕ → Bool
reaches_last m r item =
    not (is_station m) && (write_lent m && (not (item_out item) && (not (no_row r) && (not (not_active m r) && (not (must_wait m item) && not (is_own m r item))))))

-- both hold: the item is newer than the snapshot, and another open transaction holds it
unfoldable pub stale_and_held : Memory → ℕ → ℕ → Bool
stale_and_held m ticket item = reaches_last m (row_no m ticket) item && (is_stale m (row_no m ticket) item && held_by_other m (row_no m ticket) item)

-- on every memory, one that no list of calls leads to as well
pub record StalenessFirst : Type 0 where
  -- 8, and the memory stays as it was, where both hold
  pub before : (m : Memory) (ticket item : ℕ) (value : ℤ) → stale_and_held m ticket item ≡ true → lock_first_write m ticket item value ≡ outcome (refused 8) m
  -- 9 there now, and the transaction ends as aborted
  pub now : (m : Memory) (ticket item : ℕ) (value : ℤ) → stale_and_held m ticket item ≡ true → step m (write ticket item value) ≡ stale_at m (row_no m ticket)
  -- everywhere else answer and memory are what they were
  pub else : (m : Memory) (ticket item : ℕ) (value : ℤ) → stale_and_held m ticket item ≡ false → step m (write ticket item value) ≡ lock_first_write m ticket item value
  -- and where both hold the answer does change
  pub only : (m : Memory) (ticket item : ℕ) (value : ℤ) → (step m (write ticket item value)).answer ≡ (lock_first_write m ticket item value).answer → stale_and_held m ticket item ≡ false
