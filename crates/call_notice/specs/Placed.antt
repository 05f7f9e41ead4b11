-- A place, as an Out looks at it.
use Rattle.std.specs.Prelude.{ℕ, Bool, not, ◌&&◌, List, eqb, leb, get_or}
use Rattle.block.specs.Answers.{header_of}

-- it has a block of replica k for slot v or a later one
abbrev pub placed_in : List ℕ → (k v : ℕ) → Bool
placed_in place k v = not (eqb (get_or place 0 0) 0) && (eqb (header_of place).sender k && leb v (header_of place).slot)
