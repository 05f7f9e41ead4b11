-- What each call but a restart does to the window, on every memory; a restart fills it anew (`refilled`).
use Rattle.std.specs.Prelude.{ℕ, ◌≡◌, cond, List, []}
use Rattle.block.specs.Bytes.{block_of}
use Rattle.memory.specs.Memory.{Memory}
use Rattle.memory.specs.Window.{kept_block, keeping}
use Rattle.engine.specs.Answers.{WorkDone}
use Rattle.engine.specs.Answers.Answer.{worked}
use Rattle.engine.specs.Moves.{out_at_turn, block_at_turn, next_at_turn}
use Rattle.engine.specs.Calls.{Call, step}
use Rattle.engine.specs.Calls.Call.{work}

-- the block of the turn's slot as it is journaled: the *next* of an out slot, else the one that waits
abbrev pub journaled_block : Memory → List ℕ
journaled_block m = cond (out_at_turn m) (block_of (next_at_turn m)) (block_at_turn m)

pub record WindowClaims : Type 0 where
  -- a work keeps the block of the slot that the turn leaves, and where the turn stays, nothing
  pub works : (m : Memory) (s : WorkDone) → (step m work).answer ≡ worked s
      → (step m work).memory.blocks.window ≡ cond s.moved (keeping m.blocks.window m.turn.slot (journaled_block m)) m.blocks.window
  -- every other call leaves it
  pub others : (m : Memory) (c : Call) → (c ≡ work → ⊥) → (step m c).memory.blocks.window ≡ m.blocks.window
  -- what is to be appended to the journal is the block kept
  pub appends : (m : Memory) (s : WorkDone) → (step m work).answer ≡ worked s → (s.append ≡ [] → ⊥)
      → kept_block (step m work).memory.blocks.window m.turn.slot ≡ s.append
