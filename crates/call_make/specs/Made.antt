-- What stands where a make may have put something new, and why one is refused.
use Rattle.std.specs.Prelude.{ℕ, Bool, not, ◌&&◌, [], ◌∷◌, eqb, Result, Ok, Err}
use Rattle.block.specs.Answers.{refuse, first_of}
use Rattle.memory.specs.Memory.{group_of}
use Rattle.engine.specs.Make.{turn_zero, counts_zero, size_out}
use Rattle.call_reply.specs.declared.Made.{Made}
use Rattle.call_reply.specs.declared.faults.Fault.{Fault}

-- the new where the call is accepted, the old where it is refused
abbrev pub if_made : {T A : Type 0} → Result T Fault → A → A → A
if_made (Ok x) new old = new
if_made (Err f) new old = old

-- with nobody out, and no call behind it
abbrev pub made_of : (replicas own : ℕ) → Made
made_of replicas own = record { group = group_of replicas own; turn = turn_zero; counts = counts_zero }

-- the number of a make's refusal, 0 where there is none: by the number of starting values, and whether the parts and the places have their lengths
abbrev pub refusal_of : (n own start : ℕ) (parts places : Bool) → ℕ
refusal_of n own start parts places = first_of (refuse 1 (not (eqb start 128 && (parts && places))) ∷ refuse 2 (size_out n own) ∷ [])
