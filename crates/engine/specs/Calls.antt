-- The calls at a replica or a station that was made, as data, and the step of each.
use Rattle.std.specs.Prelude.{ℕ, cond, List, [], ◌∷◌, ℤ}
use Rattle.memory.specs.Memory.{Memory, is_station}
use Rattle.memory.specs.Notices.{Notice}
use Rattle.engine.specs.Answers.{Outcome, unless_station}
use Rattle.engine.specs.Classes.{load_refusal, load_step}
use Rattle.engine.specs.Client.{row_no, free_no, begin_refusal, begin_step, read_refusal, read_step, write_refusal, write_step, ask_refusal, ask_step, withdraw_refusal, withdraw_step, report_step}
use Rattle.engine.specs.Moves.{send_refusal, send_step, deliver_refusal, deliver_step, work_refusal, work_step}
use Rattle.engine.specs.Notices.{notice_refusal, notice_step}

-- tickets, items, values, the lent block of a send, the bytes of a deliver, the classes of a load and the notices are any
pub data Call : Type 0 where
  begin : Call
  read : ℕ → ℕ → Call
  write : ℕ → ℕ → ℤ → Call
  ask : ℕ → Call
  withdraw : ℕ → Call
  report : Call
  send : List ℕ → Call
  deliver : List ℕ → Call
  work : Call
  load : List ℕ → Call
  notice : Notice → Call

-- a station neither writes nor sends; every other call is the same there
unfoldable pub step : Memory → Call → Outcome
step m begin = begin_step m
step m (read ticket item) = read_step m ticket item
step m (write ticket item value) = unless_station m (write_step m ticket item value)
step m (ask ticket) = ask_step m ticket
step m (withdraw ticket) = withdraw_step m ticket
step m report = report_step m
step m (send block) = unless_station m (send_step m block)
step m (deliver bytes) = deliver_step m bytes
step m work = work_step m
step m (load classes) = load_step m classes
step m (notice a) = notice_step m a

-- the first refusal of each call's list that holds, 0 where none does
unfoldable pub refusal_of : Memory → Call → ℕ
refusal_of m begin = begin_refusal m (free_no m)
refusal_of m (read ticket item) = read_refusal m (row_no m ticket) item
refusal_of m (write ticket item value) = cond (is_station m) 25 (write_refusal m (row_no m ticket) item)
refusal_of m (ask ticket) = ask_refusal m (row_no m ticket)
refusal_of m (withdraw ticket) = withdraw_refusal m (row_no m ticket)
refusal_of m report = 0
refusal_of m (send block) = cond (is_station m) 25 (send_refusal m block)
refusal_of m (deliver bytes) = deliver_refusal m bytes
refusal_of m work = work_refusal m
refusal_of m (load classes) = load_refusal m classes
refusal_of m (notice a) = notice_refusal m a

-- the memory that a list of calls leaves
unfoldable pub after : Memory → List Call → Memory
after m [] = m
after m (c ∷ cs) = after (step m c).memory cs
