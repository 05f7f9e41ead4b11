-- A host's calls are the engine's. The contracts of the exported functions that are lent a table have `called`, which puts the test of its length in front of a step (a deliver,
-- a load, an out and a back are lent none, and have the step itself). In front of the table's length a write and a send have the test for a station, `unless_station`. A restart is
-- lent its notices as numbers, `restart_lent`: three for each, and any other length is refused by 1. So what is proved of lists of calls, the agreement of the copies too, is proved of what
-- hosts' calls do, one after the other, restarts too.
use Rattle.std.specs.Prelude.{ℕ, ◌%◌, ◌≡◌, true, false, cond, List, [], ◌∷◌, map, ℤ, length}
use Rattle.memory.specs.Memory.{Memory, is_station}
use Rattle.memory.specs.Notices.{Notice}
use Rattle.engine.specs.Answers.{Outcome, outcome, unless_station}
use Rattle.engine.specs.Answers.Answer.{refused}
use Rattle.engine.specs.Make.{Setting, SettingOf, made_memory, make_step}
use Rattle.engine.specs.Moves.{send_step, deliver_step, work_step}
use Rattle.engine.specs.Classes.{load_step}
use Rattle.engine.specs.Client.{begin_step, read_step, write_step, ask_step, withdraw_step, report_step}
use Rattle.engine.specs.Notices.{notice_step}
use Rattle.engine.specs.Calls.{Call, step, after}
use Rattle.engine.specs.Calls.Call.{begin, read, write, ask, withdraw, report, send, deliver, work, load, notice}
use Rattle.engine.specs.Station.{station_memory, station_step}
use Rattle.engine.specs.History.{AnyCall, any_step, after_all}
use Rattle.engine.specs.History.AnyCall.{call, restart}
use Rattle.call_reply.specs.Called.{called}
use Rattle.call_reply.specs.Notices.{notices_in, restart_lent}
use Rattle.agreement.specs.Group.{Members, CallAt, next_by, fresh, run, Calls}

-- *Out k from v* and *Back k at w*: each is a call of its own
abbrev pub out_step : Memory → (k v : ℕ) → Outcome
out_step m k v = notice_step m (record { about = k; out = true; slot = v })

abbrev pub back_step : Memory → (k w : ℕ) → Outcome
back_step m k w = notice_step m (record { about = k; out = false; slot = w })

-- a host's call at one replica or station
abbrev pub host_step : Memory → Call → Outcome
host_step m begin = called begin_step m
host_step m (read t i) = called (λ x. read_step x t i) m
host_step m (write t i v) = unless_station m (called (λ x. write_step x t i v) m)
host_step m (ask t) = called (λ x. ask_step x t) m
host_step m (withdraw t) = called (λ x. withdraw_step x t) m
host_step m report = called report_step m
host_step m (send b) = unless_station m (called (λ x. send_step x b) m)
host_step m (deliver b) = deliver_step m b
host_step m work = called work_step m
host_step m (load l) = load_step m l
host_step m (notice a) = cond a.out (out_step m a.about a.slot) (back_step m a.about a.slot)

-- the notices in numbers
unfoldable pub numbers_of : List Notice → List ℕ
numbers_of [] = []
numbers_of (a ∷ l) = a.about ∷ (cond a.out 1 0 ∷ (a.slot ∷ numbers_of l))

-- or a restart
abbrev pub host_any : Memory → AnyCall → Outcome
host_any m (call c) = host_step m c
host_any m (restart n own values journal notices block) = called (λ x. restart_lent x n own values journal (numbers_of notices) block) m

-- what a list of them leaves
unfoldable pub host_after : Memory → List AnyCall → Memory
host_after m [] = m
host_after m (c ∷ cs) = host_after (host_any m c).memory cs

-- of a group: a host's call acts on the memory that the last call at its member left
unfoldable pub host_run : Members → List CallAt → Members
host_run g [] = g
host_run g (c ∷ cs) = host_run (next_by (host_any (g.memories c.at) c.does) g c) cs

pub record Hosted : Type 0 where
  -- a make on a table of six rows, whatever else is lent
  pub makes : (m : Memory) (n own : ℕ) (values : List ℤ) → length m.txns.table ≡ 6 → called (λ x. make_step x n own values) m ≡ make_step m n own values
  pub station-makes : (m : Memory) (n : ℕ) (values : List ℤ) → length m.txns.table ≡ 6 → called (λ x. station_step x n values) m ≡ station_step m n values
  -- at a station 25, whatever the table
  pub station_writes : (m : Memory) → is_station m ≡ true → (ticket item : ℕ) (value : ℤ) → host_step m (write ticket item value) ≡ outcome (refused 25) m
  pub station-sends : (m : Memory) → is_station m ≡ true → (block : List ℕ) → host_step m (send block) ≡ outcome (refused 25) m
  -- a restart that is lent three numbers for each notice, a kind above 1 also for an Out
  pub restarts : (m : Memory) (n own : ℕ) (values : List ℤ) (journal numbers block : List ℕ) → length numbers % 3 ≡ 0
      → called (λ x. restart_lent x n own values journal numbers block) m ≡ host_any m (restart n own values journal (notices_in numbers) block)
  -- lent any other length it is refused by 1, whatever the table, and the memory is as before
  pub restarts-not : (m : Memory) (n own : ℕ) (values : List ℤ) (journal numbers block : List ℕ) → (length numbers % 3 ≡ 0 → ⊥)
      → called (λ x. restart_lent x n own values journal numbers block) m ≡ outcome (refused 1) m
  -- one call or restart
  pub steps : (n own : ℕ) (values : List ℤ) → SettingOf n own values → (cs : List AnyCall) (c : AnyCall)
      → let m = after_all (made_memory n own values) cs in host_any m c ≡ any_step m c
  -- a list of calls and restarts
  pub lists : (n own : ℕ) (values : List ℤ) → SettingOf n own values → (cs : List AnyCall)
      → host_after (made_memory n own values) cs ≡ after_all (made_memory n own values) cs
  -- the same of a station, which has no restart
  pub station-steps : (n : ℕ) (values : List ℤ) → Setting n values → (cs : List Call) (c : Call)
      → let m = after (station_memory n values) cs in host_step m c ≡ step m c
  pub station-lists : (n : ℕ) (values : List ℤ) → Setting n values → (cs : List Call)
      → host_after (station_memory n values) (map call cs) ≡ after (station_memory n values) cs
  -- a group with its stations, with any bytes, any journals and no premise
  pub groups : (n : ℕ) (start : List ℤ) → Setting n start → (cs : List CallAt) → Calls n cs
      → host_run (fresh n start) cs ≡ run (fresh n start) cs
