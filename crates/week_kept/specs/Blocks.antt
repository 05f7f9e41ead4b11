-- The blocks sent last, the latest first: 16 at most.
use Rattle.std.specs.Prelude.{ℕ, cond, List, [], ◌∷◌, eqb, take, Option, Some, None}
use Rattle.week_kept.specs.declared.Sent.{Sent}
use Rattle.week_kept.specs.declared.Kept.{Kept}

-- what the program has of them
abbrev pub blocks_of : Kept → List Sent
blocks_of kept = take kept.count kept.blocks

-- with one more: of 16 the earliest goes
abbrev pub kept_with : Sent → List Sent → List Sent
kept_with one blocks = take 16 (one ∷ blocks)

-- the bytes of the block of that slot, of those that are kept
unfoldable pub found_in : ℕ → List Sent → Option (List ℕ)
found_in slot [] = None
found_in slot (one ∷ blocks) = cond (eqb one.slot slot) (Some one.bytes) (found_in slot blocks)
