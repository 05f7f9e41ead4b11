-- What a client's call that may be refused says, and what it leaves of the counts and of the transaction's row.
use Rattle.std.specs.Prelude.{ℕ, ℤ, pos, true, false, Result, Ok, Err}
use Rattle.memory.specs.declared.Counts.{Counts}
use Rattle.memory.specs.declared.Txn.{Txn}
use Rattle.memory.specs.Memory.{bump, with_tickets, with_read_only, with_aborted, with_withdrawn}
use Rattle.memory.specs.Rows.{closed}
use Rattle.call_reply.specs.declared.faults.Fault.{Fault}
use Rattle.call_reply.specs.declared.faults.Fault.TheVariants.{Stale}
use Rattle.call_reply.specs.declared.AskReply.{AskReply}
use Rattle.call_reply.specs.declared.Asked.{Asked}
use Rattle.call_reply.specs.declared.Asked.TheVariants.{ReadOnly, Queued}
use Rattle.call_reply.specs.declared.BeginReply.{BeginReply}
use Rattle.call_reply.specs.declared.ReadReply.{ReadReply}
use Rattle.call_reply.specs.Faults.{fault_number}

-- ---- begin: the row begun, whose ticket is the last one given

abbrev pub begin_said : Result Txn Fault → BeginReply
begin_said (Ok t) = record { number = 0; ticket = t.ticket }
begin_said (Err f) = record { number = fault_number f; ticket = 0 }

abbrev pub counts_begun : Result Txn Fault → Counts → Counts
counts_begun (Ok t) counts = with_tickets counts t.ticket
counts_begun (Err f) counts = counts

-- ---- read

abbrev pub read_said : Result ℤ Fault → ReadReply
read_said (Ok v) = record { number = 0; value = v }
read_said (Err f) = record { number = fault_number f; value = pos 0 }

-- ---- write: how many items the row then has; a stale one is refused, and its transaction ends

abbrev pub counts_written : Result ℕ Fault → Counts → Counts
counts_written (Ok n) counts = counts
counts_written (Err Stale) counts = with_aborted counts (bump counts.aborted)
counts_written (Err _) counts = counts

abbrev pub row_written : Result ℕ Fault → Txn → Txn
row_written (Ok n) t = record { ticket = t.ticket; stage = t.stage; snapshot = t.snapshot; writes = n }
row_written (Err Stale) t = closed
row_written (Err _) t = t

-- ---- ask

abbrev pub ask_said : Result Asked Fault → AskReply
ask_said (Ok (ReadOnly n)) = record { number = 0; read_only = true }
ask_said (Ok (Queued u)) = record { number = 0; read_only = false }
ask_said (Err f) = record { number = fault_number f; read_only = false }

abbrev pub counts_asked : Result Asked Fault → Counts → Counts
counts_asked (Ok (ReadOnly n)) counts = with_read_only counts n
counts_asked (Ok (Queued u)) counts = counts
counts_asked (Err f) counts = counts

abbrev pub row_asked : Result Asked Fault → Txn → Txn
row_asked (Ok (ReadOnly n)) t = closed
row_asked (Ok (Queued u)) t = u
row_asked (Err f) t = t

-- ---- withdraw: the count then

abbrev pub counts_withdrawn : Result ℕ Fault → Counts → Counts
counts_withdrawn (Ok n) counts = with_withdrawn counts n
counts_withdrawn (Err f) counts = counts

abbrev pub row_withdrawn : Result ℕ Fault → Txn → Txn
row_withdrawn (Ok n) t = closed
row_withdrawn (Err f) t = t
