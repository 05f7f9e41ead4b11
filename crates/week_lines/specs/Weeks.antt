-- The lines of a week. Behind the first they are lines of the program `replay`, of six letters, at a replica of the week.
use Rattle.std.specs.Prelude.{ℕ, ◌-◌, ◌<◌, ◌≡◌, Bool, cond, ◌||◌, ◌&&◌, List, eqb, ltb, length, get_or, Option, Some, None}
use Rattle.block.specs.Message.{within}
use Rattle.replay_parse.specs.declared.Call.{Call}
use Rattle.replay_parse.specs.Lines.{call_of, place_named}

-- `N`, a space and one digit from 2 to 4
abbrev pub is_first : List ℕ → Bool
is_first line = eqb (length line) 3 && (eqb (get_or line 0 0) 78 && (eqb (get_or line 1 0) 32 && within 50 52 (get_or line 2 0)))

-- how many replicas the week has that the line begins
unfoldable pub group_of : List ℕ → Option ℕ
group_of line = cond (is_first line) (Some (get_or line 2 0 - 48)) None

-- B, C, D, K, S, W
unfoldable pub is_weekly : ℕ → Bool
is_weekly letter = eqb letter 66 || (eqb letter 67 || (eqb letter 68 || (eqb letter 75 || (eqb letter 83 || eqb letter 87))))

-- a call at replica k of n, of which a week has four at most
abbrev pub asked : ℕ → Option ℕ → Option Call → Option (ℕ × Call)
asked n None c = None
asked n (Some k) None = None
asked n (Some k) (Some c) = cond (ltb k n) (cond (ltb k 4) (cond (is_weekly c.letter) (Some (k, c)) None) None) None

-- what the line asks of a week of n: a call at one of its replicas
unfoldable pub line_of : ℕ → List ℕ → Option (ℕ × Call)
line_of n line = asked n (place_named line) (call_of line)

-- the replica that it names
abbrev pub replica_of : Option (ℕ × Call) → ℕ
replica_of None = 0
replica_of (Some (k, c)) = k

-- the longest is a W with the longest numbers
abbrev pub LongWrong : Type 0
LongWrong = (n : ℕ) (line : List ℕ) → 37 < length line → line_of n line ≡ None
