-- What a week prints: the lines that are put behind those which are held.
use Rattle.std.specs.Prelude.{ℕ, zero, suc, ◌+◌, ◌≤◌, min, ◌≡◌, Bool, cond, List, [], ◌++◌, length, get_or, take}
use Rattle.engine.specs.Client.{report_step}
use Rattle.replay_print.specs.Text.{answer_text}
use Rattle.replay_replica.specs.declared.Replica.{Replica}
use Rattle.replay_replica.specs.Effects.{places_size, no_replica, memory_of}
use Rattle.text_lines.specs.declared.output.Output.{Output}
use Rattle.week_calls.specs.Steps.{row_text}
use Rattle.week.specs.declared.Week.{Week}

-- ---- texts

-- the line of a line's number
abbrev pub number_text : ℕ → List ℕ
number_text number = answer_text number [] [] []

-- the line of replica k at the end, by the engine's report
abbrev pub row_of : ℕ → Replica → List ℕ
row_of k replica = row_text k (report_step (memory_of (places_size replica.group.replicas) replica))

-- the lines of the first k
unfoldable pub rows_text : List Replica → ℕ → List ℕ
rows_text replicas zero = []
rows_text replicas (suc k) = rows_text replicas k ++ row_of k (get_or replicas k no_replica)

-- of all: a week has at most four
abbrev pub table_text : Week → List ℕ
table_text w = rows_text w.replicas (min w.n 4)

-- at the end of the input, which could be read or not
abbrev pub end_text : Bool → Week → List ℕ
end_text failed w = cond failed [] (table_text w)

-- ---- the buffer

-- what is held: its first bytes
abbrev pub held_in : Output → List ℕ → List ℕ
held_in o out = take o.held out

-- as `with_room` leaves it: room for a line, and for the table
abbrev pub HasRoom : Output → List ℕ → Type 0
HasRoom o out = (o.held ≤ 61_440) × (length out ≡ 65_536)

-- so many bytes more are held, which answer no line
abbrev pub with_text : Output → List ℕ → Output
with_text o text = record { held = o.held + length text; answered = o.answered; written = o.written; failed = o.failed }

-- what was held, and then the text, whole
abbrev pub Prints : List ℕ → Output → List ℕ → Output → List ℕ → Type 0
Prints text o out after left = held_in after left ≡ held_in o out ++ text
