-- The answer to who gives: a number of the tables, or the giver.
use Rattle.std.specs.Prelude.{ℕ, cond, List, eqb, Result, Ok, Err}
use Rattle.memory.specs.Memory.{Memory}
use Rattle.giving.specs.Choice.{giver_of}
use Rattle.giving.specs.Giving.{giver_refusal}
use Rattle.call_reply.specs.declared.faults.Fault.{Fault}
use Rattle.call_reply.specs.Faults.{fault_number}
use Rattle.call_giver.specs.declared.GiverReply.{GiverReply}

-- the giver is 0 where the question is refused
abbrev pub giver_reply : Memory → List ℕ → GiverReply
giver_reply m told = record { number = giver_refusal m told; giver = cond (eqb (giver_refusal m told) 0) (giver_of m.group.own told) 0 }

-- as a host is answered
abbrev pub reply_of : Result ℕ Fault → GiverReply
reply_of (Ok giver) = record { number = 0; giver = giver }
reply_of (Err f) = record { number = fault_number f; giver = 0 }
