-- The turn and the places: the marks, where a slot's block waits, and the block that waits there.
use Rattle.std.specs.Prelude.{ℕ, ◌+◌, ◌*◌, ◌%◌, Bool, cond, not, List, eqb, get_or, set}
use Rattle.std.proofs.Math.Seq.{slice}
use Rattle.memory.specs.declared.Turn.{Turn}
use Rattle.memory.specs.Memory.{bump}

-- a mark is a number: 0 off, any other on
abbrev pub is_on : ℕ → Bool
is_on n = not (eqb n 0)

-- the sent mark goes on
abbrev pub mark_sent : Turn → Turn
mark_sent t = record { slot = t.slot; sent = 1; applying = t.applying }

-- the applying mark goes on
abbrev pub mark_applying : Turn → Turn
mark_applying t = record { slot = t.slot; sent = t.sent; applying = 1 }

-- the turn goes up by one, and both marks go off
abbrev pub advance : Turn → Turn
advance t = record { slot = bump t.slot; sent = 0; applying = 0 }

-- after a step that is done: the turn advances where the step says so; else it is applying, unless what was processed is the replica's own
abbrev pub step_turn : Bool → Bool → Turn → Turn
step_turn moved mine t = cond moved (advance t) (cond mine t (mark_applying t))

-- with so many places, the message of slot s waits in place s mod span, which begins at this byte
unfoldable pub place_start : ℕ → ℕ → ℕ
place_start span slot = 512 * (slot % span)

-- the block of the place
abbrev pub block_in : ℕ → ℕ → List ℕ → List ℕ
block_in span slot places = slice (place_start span slot) (place_start span slot + 512) places

abbrev pub is_empty : ℕ → ℕ → List ℕ → Bool
is_empty span slot places = eqb (get_or places (place_start span slot) 0) 0

-- the place empties: its first byte becomes 0
abbrev pub emptied : ℕ → ℕ → List ℕ → List ℕ
emptied span slot places = set places (place_start span slot) 0
