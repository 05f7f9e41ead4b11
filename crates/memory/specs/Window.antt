-- Document 02's *window*, Req 11: the last 64 blocks that the turn has left, as journaled. A ring: the block of slot s stands in place s mod 64, zeros where no slot was left.
use Rattle.std.specs.Prelude.{ℕ, suc, List, [], ◌∷◌, replicate}
use Rattle.std.proofs.Math.Seq.{paste}
use Rattle.memory.specs.Memory.{window_slots, window_bytes}
use Rattle.memory.specs.Turns.{place_start, block_in}

-- of a replica just made
unfoldable pub empty_window : List ℕ
empty_window = replicate window_bytes 0

-- the block of slot s
abbrev pub kept_block : List ℕ → ℕ → List ℕ
kept_block window s = block_in window_slots s window

-- with the block of one more slot, over that of 64 slots before
abbrev pub keeping : List ℕ → ℕ → List ℕ → List ℕ
keeping window s block = paste window (place_start window_slots s) block 512

-- with those of the slots from s on
unfoldable pub keeping_all : List ℕ → ℕ → List (List ℕ) → List ℕ
keeping_all window s [] = window
keeping_all window s (b ∷ bs) = keeping_all (keeping window s b) (suc s) bs
