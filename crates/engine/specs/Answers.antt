-- What a call answers, and what it leaves.
use Rattle.std.specs.Prelude.{ℕ, Bool, cond, List, eqb, ℤ}
use Rattle.engine.specs.declared.Report.{Report}
use Rattle.memory.specs.Memory.{Memory, is_station}

-- what a work did: whose writeset it committed (ticket 0 for a *next*, or for an out slot), whether the turn moved, the tickets it aborted, rising, and the block to append to
-- the journal: another's, where the turn leaves its slot, and the *next* of an out slot; else no byte
pub record WorkDone : Type 0 where
  pub sender : ℕ
  pub ticket : ℕ
  pub moved : Bool
  pub aborted : List ℕ
  pub append : List ℕ

-- a refusal's number, of document 01's table or of document 02, or what an accepted call gives
pub data Answer : Type 0 where
  refused : ℕ → Answer
  made : Answer
  began : ℕ → Answer
  got : ℤ → Answer
  wrote : Answer
  queued : Answer
  read_only : Answer
  withdrew : Answer
  reported : Report → Answer
  sent : List ℕ → Answer
  kept : Answer
  worked : WorkDone → Answer
  -- a table of classes is loaded
  loaded : Answer
  -- a notice is taken
  noticed : Answer
  -- how many blocks were committed, and the last own one of them outside out slots, 512 zeros where there is none
  restarted : ℕ → List ℕ → Answer

-- the refusal's number: 0 where the call is accepted
abbrev pub number_of : Answer → ℕ
number_of (refused n) = n
number_of made = 0
number_of (began t) = 0
number_of (got v) = 0
number_of wrote = 0
number_of queued = 0
number_of read_only = 0
number_of withdrew = 0
number_of (reported r) = 0
number_of (sent b) = 0
number_of kept = 0
number_of (worked s) = 0
number_of loaded = 0
number_of noticed = 0
number_of (restarted c b) = 0

pub record Outcome : Type 0 where
  pub answer : Answer
  pub memory : Memory

abbrev pub outcome : Answer → Memory → Outcome
outcome a m = record { answer = a; memory = m }

-- the refusal n, with the memory as it was, or where n is 0 what the call does
abbrev pub unless : ℕ → Memory → Outcome → Outcome
unless n m o = cond (eqb n 0) o (outcome (refused n) m)

-- 25 at a station, whatever else is wrong, with the memory as it was; at a replica what the call does
abbrev pub unless_station : Memory → Outcome → Outcome
unless_station m o = cond (is_station m) (outcome (refused 25) m) o
