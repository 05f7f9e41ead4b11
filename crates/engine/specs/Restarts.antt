-- What holds of every restart, beside its shape and its report.
use Rattle.std.specs.Prelude.{ℕ, ◌≡◌, List, [], ℤ, length}
use Rattle.memory.specs.Memory.{Memory}
use Rattle.memory.specs.Notices.{Notice}
use Rattle.engine.specs.Answers.{number_of}
use Rattle.engine.specs.Make.{made_memory}
use Rattle.engine.specs.Restart.{blocks_in, first_blocks, restarted_memory, restart_refusal, restart_step}

pub record Restarts : Type 0 where
  -- a number is answered where its condition is the first to hold, and at no other time; then all is left as before
  pub number : (m : Memory) (n own : ℕ) (values : List ℤ) (journal : List ℕ) (notices : List Notice) (block : List ℕ)
      → number_of (restart_step m n own values journal notices block).answer ≡ restart_refusal m n own values block
  pub unchanged : (m : Memory) (n own : ℕ) (values : List ℤ) (journal : List ℕ) (notices : List Notice) (block : List ℕ) → (restart_refusal m n own values block ≡ 0 → ⊥)
      → (restart_step m n own values journal notices block).memory ≡ m
  -- what the lent parts hold is no matter
  pub any-parts : (m k : Memory) (n own : ℕ) (values : List ℤ) (journal : List ℕ) (notices : List Notice) (block : List ℕ) → restart_refusal m n own values block ≡ 0 → restart_refusal k n own values block ≡ 0
      → restart_step m n own values journal notices block ≡ restart_step k n own values journal notices block
  -- the blocks committed are the journal's first
  pub first : (n : ℕ) (journal : List ℕ) → first_blocks (length (blocks_in n journal)) journal ≡ blocks_in n journal
  -- of an empty journal, lent no notices: a replica just made
  pub empty : (n own : ℕ) (values : List ℤ) → restarted_memory n own values [] (blocks_in n []) ≡ made_memory n own values
