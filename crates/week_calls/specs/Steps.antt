-- What a line of a week does at its replica, with the blocks that are kept; and what a replica is at the week's start, and prints at its end.
use Rattle.std.specs.Prelude.{ℕ, ◌≡◌, Bool, cond, not, ◌&&◌, List, [], ◌∷◌, eqb, pos, drop, get_or, replicate, is_some, unwrap_or}
use Rattle.memory.specs.Memory.{Memory}
use Rattle.engine.specs.Answers.{Outcome}
use Rattle.engine.specs.Make.{make_step}
use Rattle.replay_parse.specs.declared.Call.{Call}
use Rattle.replay_print.specs.Text.{answer_text}
use Rattle.replay_replica.specs.declared.Replica.{Replica}
use Rattle.replay_replica.specs.Effects.{places_size, no_replica, memory_of, numbers_of, Effect}
use Rattle.replay_calls.specs.Letters.{played}
use Rattle.week_kept.specs.declared.Sent.{Sent}
use Rattle.week_kept.specs.Blocks.{blocks_of, kept_with, found_in}
use Rattle.week_calls.specs.declared.Answered.{Answered}

-- ---- a line

-- the number of a line, and the memory and the blocks that are kept after it
pub record Told : Type 0 where
  pub number : ℕ
  pub memory : Memory
  pub kept : List Sent

-- D of a block that is not kept
abbrev pub is_missing : Call → List Sent → Bool
is_missing c kept = eqb c.letter 68 && not (is_some (found_in c.first kept))

-- the block of its slot, zeros where it is not kept
abbrev pub block_for : Call → List Sent → List ℕ
block_for c kept = unwrap_or (found_in c.first kept) (replicate 512 0)

-- the call of the program `replay`, by the engine's step; D is given the block of its slot
abbrev pub played_at : Call → Memory → List Sent → Effect
played_at c m kept = played c (block_for c kept) (replicate 512 0) m

-- a block is kept where it was sent, and no other
abbrev pub is_sent : ℕ → ℕ → Bool
is_sent letter number = eqb letter 83 && eqb number 0

-- it is the latest then, of the turn at which it was sent
abbrev pub kept_after : ℕ → ℕ → Sent → List Sent → List Sent
kept_after letter number one kept = cond (is_sent letter number) (kept_with one kept) kept

abbrev pub told : Call → ℕ → List Sent → Effect → Told
told c slot kept e = record {
  number = e.number;
  memory = e.memory;
  kept = kept_after c.letter e.number (record { slot = slot; bytes = e.block }) kept;
}

-- 26 changes nothing; else the number is the engine's
unfoldable pub week_step : Call → Memory → List Sent → Told
week_step c m kept = cond (is_missing c kept) (record { number = 26; memory = m; kept = kept }) (told c m.turn.slot kept (played_at c m kept))

-- what the program has of it
abbrev pub told_of : ℕ → Answered → Told
told_of size a = record { number = a.number; memory = memory_of size a.replica; kept = blocks_of a.kept }

-- that step, with `size` bytes of places lent; the others stay
pub record Answers (size : ℕ) (c : Call) (replica : Replica) (kept : List Sent) (a : Answered) : Type 0 where
  pub is : told_of size a ≡ week_step c (memory_of size replica) kept
  pub rest : drop size a.replica.places ≡ drop size replica.places

-- ---- start and end

-- the memory of replica k of n, all values 0, by Make's step
abbrev pub start_of : ℕ → ℕ → Memory
start_of n k = (make_step (memory_of (places_size n) no_replica) n k (replicate 128 (pos 0))).memory

-- of a report turn, commit count and open transactions
abbrev pub row_numbers : List ℕ → List ℕ
row_numbers numbers = get_or numbers 0 0 ∷ (get_or numbers 1 0 ∷ (get_or numbers 3 0 ∷ []))

-- the line of replica k, by its report
abbrev pub row_text : ℕ → Outcome → List ℕ
row_text k o = answer_text k (row_numbers (numbers_of o.answer)) [] []
