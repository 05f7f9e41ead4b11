-- What a call hands a host beside the memory: each reply is a function of the call's outcome.
use Rattle.std.specs.Prelude.{ℕ, ◌-◌, ◌≡◌, Bool, true, false, not, List, [], ◌++◌, eqb, ℤ, pos, length, replicate}
use Rattle.memory.specs.declared.Counts.{Counts}
use Rattle.memory.specs.declared.Turn.{Turn}
use Rattle.memory.specs.Memory.{Memory}
use Rattle.engine.specs.declared.Report.{Report}
use Rattle.engine.specs.Answers.{WorkDone, Answer, number_of, Outcome}
use Rattle.engine.specs.Answers.Answer.{refused, made, began, got, wrote, queued, read_only, withdrew, reported, sent, kept, worked, loaded, noticed, restarted}
use Rattle.call_reply.specs.declared.BeginReply.{BeginReply}
use Rattle.call_reply.specs.declared.ReadReply.{ReadReply}
use Rattle.call_reply.specs.declared.AskReply.{AskReply}
use Rattle.call_reply.specs.declared.ReportReply.{ReportReply}
use Rattle.call_reply.specs.declared.WorkReply.{WorkReply}
use Rattle.call_reply.specs.declared.RestartReply.{RestartReply}
use Rattle.call_reply.specs.declared.Worked.{Worked}

-- ---- what an answer gives; nothing, as 0 or empty, where it is another call's or refused

abbrev pub ticket_in : Answer → ℕ
ticket_in (began t) = t
ticket_in (refused n) = 0
ticket_in made = 0
ticket_in (got v) = 0
ticket_in wrote = 0
ticket_in queued = 0
ticket_in read_only = 0
ticket_in withdrew = 0
ticket_in (reported r) = 0
ticket_in (sent b) = 0
ticket_in kept = 0
ticket_in (worked s) = 0
ticket_in loaded = 0
ticket_in noticed = 0
ticket_in (restarted c b) = 0

abbrev pub value_in : Answer → ℤ
value_in (got v) = v
value_in (refused n) = pos 0
value_in made = pos 0
value_in (began t) = pos 0
value_in wrote = pos 0
value_in queued = pos 0
value_in read_only = pos 0
value_in withdrew = pos 0
value_in (reported r) = pos 0
value_in (sent b) = pos 0
value_in kept = pos 0
value_in (worked s) = pos 0
value_in loaded = pos 0
value_in noticed = pos 0
value_in (restarted c b) = pos 0

abbrev pub is_read_only : Answer → Bool
is_read_only read_only = true
is_read_only (refused n) = false
is_read_only made = false
is_read_only (began t) = false
is_read_only (got v) = false
is_read_only wrote = false
is_read_only queued = false
is_read_only withdrew = false
is_read_only (reported r) = false
is_read_only (sent b) = false
is_read_only kept = false
is_read_only (worked s) = false
is_read_only loaded = false
is_read_only noticed = false
is_read_only (restarted c b) = false

abbrev pub no_report : Report
no_report = record { turn = 0; commits = 0; tickets = 0; open_count = 0; committed = 0; read_only = 0; aborted = 0; withdrawn = 0 }

abbrev pub report_in : Answer → Report
report_in (reported r) = r
report_in (refused n) = no_report
report_in made = no_report
report_in (began t) = no_report
report_in (got v) = no_report
report_in wrote = no_report
report_in queued = no_report
report_in read_only = no_report
report_in withdrew = no_report
report_in (sent b) = no_report
report_in kept = no_report
report_in (worked s) = no_report
report_in loaded = no_report
report_in noticed = no_report
report_in (restarted c b) = no_report

abbrev pub no_step : WorkDone
no_step = record { sender = 0; ticket = 0; moved = false; aborted = []; append = [] }

abbrev pub step_in : Answer → WorkDone
step_in (worked s) = s
step_in (refused n) = no_step
step_in made = no_step
step_in (began t) = no_step
step_in (got v) = no_step
step_in wrote = no_step
step_in queued = no_step
step_in read_only = no_step
step_in withdrew = no_step
step_in (reported r) = no_step
step_in (sent b) = no_step
step_in kept = no_step
step_in loaded = no_step
step_in noticed = no_step
step_in (restarted c b) = no_step

abbrev pub count_in : Answer → ℕ
count_in (restarted c b) = c
count_in (refused n) = 0
count_in made = 0
count_in (began t) = 0
count_in (got v) = 0
count_in wrote = 0
count_in queued = 0
count_in read_only = 0
count_in withdrew = 0
count_in (reported r) = 0
count_in (sent b) = 0
count_in kept = 0
count_in (worked s) = 0
count_in loaded = 0
count_in noticed = 0

-- ---- the replies

-- the number of the refusal, 0 where the call is accepted
abbrev pub number : Outcome → ℕ
number o = number_of o.answer

abbrev pub begin_reply : Outcome → BeginReply
begin_reply o = record { number = number o; ticket = ticket_in o.answer }

abbrev pub read_reply : Outcome → ReadReply
read_reply o = record { number = number o; value = value_in o.answer }

abbrev pub ask_reply : Outcome → AskReply
ask_reply o = record { number = number o; read_only = is_read_only o.answer }

abbrev pub report_reply : Outcome → ReportReply
report_reply o = record { number = number o; report = report_in o.answer }

-- the tickets aborted, zeros behind, six in all
abbrev pub six_of : List ℕ → List ℕ
six_of tickets = tickets ++ replicate (6 - length tickets) 0

abbrev pub work_reply : Outcome → WorkReply
work_reply o =
    let s = step_in o.answer in
    record {
      number = number o;
      sender = s.sender;
      moved = s.moved;
      count = length s.aborted;
      ticket = s.ticket;
      aborted = six_of s.aborted;
      append = not (eqb (length s.append) 0);
    }

-- the same, from what a work did, and its number
abbrev pub worked_reply : ℕ → Worked → WorkReply
worked_reply n w = record { number = n; sender = w.sender; moved = w.moved; count = w.count; ticket = w.ticket; aborted = w.aborted; append = w.append }

-- what a refused work did: nothing
abbrev pub unworked : Turn → Counts → Worked
unworked turn counts = record {
  aborted = replicate 6 0;
  ticket = 0;
  counts = counts;
  turn = turn;
  sender = 0;
  moved = false;
  count = 0;
  append = false;
  ended = replicate 6 false;
}

abbrev pub restart_reply : Outcome → RestartReply
restart_reply o = record { number = number o; count = count_in o.answer }

-- ---- what a contract says

-- the reply is that of the outcome, and what is left is its memory
abbrev pub Gives : {R : Type 0} → (Outcome → R) → Outcome → R → Memory → Type 0
Gives of o r left = (r ≡ of o) × (left ≡ o.memory)

-- a send and a restart also leave a block in the lent bytes; any other answer leaves what was there
abbrev pub block_left : Answer → List ℕ → List ℕ
block_left (sent b) old = b
block_left (restarted c b) old = b
block_left (refused n) old = old
block_left made old = old
block_left (began t) old = old
block_left (got v) old = old
block_left wrote old = old
block_left queued old = old
block_left read_only old = old
block_left withdrew old = old
block_left (reported r) old = old
block_left kept old = old
block_left (worked s) old = old
block_left loaded old = old
block_left noticed old = old

abbrev pub GivesWith : {R : Type 0} → (Outcome → R) → Outcome → List ℕ → R → Memory → List ℕ → Type 0
GivesWith of o lent r left block = Gives of o r left × (block ≡ block_left o.answer lent)

abbrev pub GivesBlock : Outcome → List ℕ → ℕ → Memory → List ℕ → Type 0
GivesBlock o lent r left block = GivesWith number o lent r left block
