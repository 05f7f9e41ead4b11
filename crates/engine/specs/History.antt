-- Report's numbers and the queue, from what calls answered, with restarts among them.
use Rattle.std.specs.Prelude.{ℕ, suc, ◌+◌, ◌-◌, ◌≡◌, cond, not, ◌&&◌, List, [], ◌∷◌, ◌++◌, eqb, ℤ, length, get_or}
use Rattle.memory.specs.Memory.{Memory}
use Rattle.memory.specs.Notices.{Notice}
use Rattle.engine.specs.declared.Report.{Report}
use Rattle.engine.specs.Answers.{Answer, number_of, Outcome}
use Rattle.engine.specs.Answers.Answer.{refused, made, began, got, wrote, queued, read_only, withdrew, reported, sent, kept, worked, loaded, noticed, restarted}
use Rattle.engine.specs.Make.{SettingOf, made_memory}
use Rattle.engine.specs.Client.{report_of}
use Rattle.engine.specs.Moves.{waiting, without}
use Rattle.engine.specs.Calls.{Call, step, after}
use Rattle.engine.specs.Restart.{blocks_in, highest_own, own_writesets, repeated, restarted_memory, restart_step}
use Rattle.engine.specs.Calls.Call.{begin, read, write, ask, withdraw, report, send, deliver, work, load, notice}

pub record Tally : Type 0 where
  pub turn : ℕ
  pub commits : ℕ
  pub tickets : ℕ
  pub committed : ℕ
  pub read_onlies : ℕ
  pub aborted : ℕ
  pub withdrawn : ℕ

abbrev pub no_calls : Tally
no_calls = record { turn = 0; commits = 0; tickets = 0; committed = 0; read_onlies = 0; aborted = 0; withdrawn = 0 }

-- one more answer, at replica `own`, or at a station, with `no_number` for it: a begin gives a ticket; an ask of an empty writeset, a withdraw and a write answered 9 each end one transaction;
-- a work moves the turn, commits a writeset where its ticket is not 0, its own where the replica sent it, and aborts those it names;
-- `made` and `restarted` answer no `Call`: a history begins anew there (`begun`)
unfoldable pub counted : ℕ → Tally → Answer → Tally
counted own t (refused n) = record {
  turn = t.turn;
  commits = t.commits;
  tickets = t.tickets;
  committed = t.committed;
  read_onlies = t.read_onlies;
  aborted = cond (eqb n 9) (suc t.aborted) t.aborted;
  withdrawn = t.withdrawn;
}
counted own t made = t
counted own t (began k) = record {
  turn = t.turn;
  commits = t.commits;
  tickets = suc t.tickets;
  committed = t.committed;
  read_onlies = t.read_onlies;
  aborted = t.aborted;
  withdrawn = t.withdrawn;
}
counted own t (got v) = t
counted own t wrote = t
counted own t queued = t
counted own t read_only = record {
  turn = t.turn;
  commits = t.commits;
  tickets = t.tickets;
  committed = t.committed;
  read_onlies = suc t.read_onlies;
  aborted = t.aborted;
  withdrawn = t.withdrawn;
}
counted own t withdrew = record {
  turn = t.turn;
  commits = t.commits;
  tickets = t.tickets;
  committed = t.committed;
  read_onlies = t.read_onlies;
  aborted = t.aborted;
  withdrawn = suc t.withdrawn;
}
counted own t (reported r) = t
counted own t (sent b) = t
counted own t kept = t
counted own t (worked s) = record {
  turn = cond s.moved (suc t.turn) t.turn;
  commits = cond (eqb s.ticket 0) t.commits (suc t.commits);
  tickets = t.tickets;
  committed = cond (not (eqb s.ticket 0) && eqb s.sender own) (suc t.committed) t.committed;
  read_onlies = t.read_onlies;
  aborted = t.aborted + length s.aborted;
  withdrawn = t.withdrawn;
}
counted own t loaded = t
counted own t noticed = t
counted own t (restarted c b) = t

unfoldable pub tally : ℕ → Tally → Memory → List Call → Tally
tally own t m [] = t
tally own t m (c ∷ cs) = tally own (counted own t (step m c).answer) (step m c).memory cs

-- how many writesets the blocks have
unfoldable pub writeset_count : List (List ℕ) → ℕ
writeset_count [] = 0
writeset_count (b ∷ bs) = get_or b 3 0 + writeset_count bs

-- what a restart's blocks count as: every writeset of them is committed; aborted is the highest ticket in own blocks less the own writesets, 0 where these
-- are more
abbrev pub restart_tally : ℕ → List (List ℕ) → Tally
restart_tally own bs = record {
  turn = length bs;
  commits = writeset_count bs;
  tickets = highest_own own bs;
  committed = own_writesets own bs;
  read_onlies = 0;
  aborted = highest_own own bs - own_writesets own bs;
  withdrawn = 0;
}

-- all endings of the replica's own transactions
abbrev pub endings : Tally → ℕ
endings t = t.committed + t.read_onlies + t.aborted + t.withdrawn

-- over: the restart's repeated own writesets, 0 where there are none
abbrev pub report_from : ℕ → Tally → Report
report_from over t = record {
  turn = t.turn;
  commits = t.commits;
  tickets = t.tickets;
  open_count = t.tickets + over - endings t;
  committed = t.committed;
  read_only = t.read_onlies;
  aborted = t.aborted;
  withdrawn = t.withdrawn;
}

pub record Reports : Type 0 where
  pub report : (n own : ℕ) (values : List ℤ) → SettingOf n own values → (cs : List Call)
      → report_of (after (made_memory n own values) cs) ≡ report_from 0 (tally own no_calls (made_memory n own values) cs)
  -- tickets given equal open plus all endings
  pub sum : (n own : ℕ) (values : List ℤ) → SettingOf n own values → (cs : List Call)
      → let r = report_of (after (made_memory n own values) cs) in r.tickets ≡ r.open_count + r.committed + r.read_only + r.aborted + r.withdrawn
  -- after a restart from any journal, lent any notices, and calls since then
  pub restarted : (n own : ℕ) (values : List ℤ) → SettingOf n own values → (journal : List ℕ) (notices : List Notice) (cs : List Call)
      → let bs = blocks_in n journal in let m = restarted_memory n own values notices bs in report_of (after m cs)
      ≡ report_from (repeated own bs) (tally own (restart_tally own bs) m cs)

-- ---- the queue

-- the ticket of an ask
abbrev pub asked_ticket : Call → ℕ
asked_ticket begin = 0
asked_ticket (read t i) = 0
asked_ticket (write t i v) = 0
asked_ticket (ask t) = t
asked_ticket (withdraw t) = 0
asked_ticket report = 0
asked_ticket (send b) = 0
asked_ticket (deliver b) = 0
asked_ticket work = 0
asked_ticket (load l) = 0
asked_ticket (notice a) = 0

-- the tickets asked and not yet sent, in the order asked, after one more call and its answer; `made` and `restarted` answer none
unfoldable pub pending_after : List ℕ → Call → Answer → List ℕ
pending_after l c (refused n) = l
pending_after l c made = l
pending_after l c (began k) = l
pending_after l c (got v) = l
pending_after l c wrote = l
pending_after l c queued = l ++ (asked_ticket c ∷ [])
pending_after l c read_only = l
pending_after l c withdrew = l
pending_after l c (reported r) = l
pending_after l c (sent b) = []
pending_after l c kept = l
pending_after l c (worked s) = without s.aborted l
pending_after l c loaded = l
pending_after l c noticed = l
pending_after l c (restarted k b) = []

unfoldable pub pending : List ℕ → Memory → List Call → List ℕ
pending l m [] = l
pending l m (c ∷ cs) = pending (pending_after l c (step m c).answer) (step m c).memory cs

-- the queue is the asked transactions in the order asked
pub record Queues : Type 0 where
  pub queue : (n own : ℕ) (values : List ℤ) → SettingOf n own values → (cs : List Call)
      → waiting (after (made_memory n own values) cs).txns.queue ≡ pending [] (made_memory n own values) cs
  -- after a restart from any journal, lent any notices, and calls since then
  pub restarted : (n own : ℕ) (values : List ℤ) → SettingOf n own values → (journal : List ℕ) (notices : List Notice) (cs : List Call)
      → let m = restarted_memory n own values notices (blocks_in n journal) in waiting (after m cs).txns.queue ≡ pending [] m cs

-- ---- restarts among the calls

-- a call, or a restart with all that it is lent, be it accepted or not
pub data AnyCall : Type 0 where
  call : Call → AnyCall
  restart : (n own : ℕ) (values : List ℤ) (journal : List ℕ) (notices : List Notice) (block : List ℕ) → AnyCall

abbrev pub any_step : Memory → AnyCall → Outcome
any_step m (call c) = step m c
any_step m (restart n own values journal notices block) = restart_step m n own values journal notices block

unfoldable pub after_all : Memory → List AnyCall → Memory
after_all m [] = m
after_all m (c ∷ cs) = after_all (any_step m c).memory cs

-- since the replica was made or last restarted: its number, the own writesets repeated in the blocks it began with, what the answers count to, and the
-- tickets asked and not yet sent
pub record History : Type 0 where
  pub own : ℕ
  pub over : ℕ
  pub tally : Tally
  pub asked : List ℕ

-- it begins with a restart's blocks; with none where the replica is made
abbrev pub begun : ℕ → List (List ℕ) → History
begun own bs = record { own = own; over = repeated own bs; tally = restart_tally own bs; asked = [] }

-- an accepted restart begins it anew, whatever was there
abbrev pub history_after : History → AnyCall → Answer → History
history_after h (call c) a = record { own = h.own; over = h.over; tally = counted h.own h.tally a; asked = pending_after h.asked c a }
history_after h (restart n own values journal notices block) a = cond (eqb (number_of a) 0) (begun own (blocks_in n journal)) h

unfoldable pub history : History → Memory → List AnyCall → History
history h m [] = h
history h m (c ∷ cs) = history (history_after h c (any_step m c).answer) (any_step m c).memory cs

-- Report and the queue are those of the history
pub record Told (h : History) (m : Memory) : Type 0 where
  pub report : report_of m ≡ report_from h.over h.tally
  pub queue : waiting m.txns.queue ≡ h.asked

-- on any list of calls and restarts, after a make or a restart from any journal, lent any notices
pub record Histories : Type 0 where
  pub made : (n own : ℕ) (values : List ℤ) → SettingOf n own values → (cs : List AnyCall)
      → let m = made_memory n own values in Told (history (begun own []) m cs) (after_all m cs)
  pub restarted : (n own : ℕ) (values : List ℤ) → SettingOf n own values → (journal : List ℕ) (notices : List Notice) (cs : List AnyCall)
      → let bs = blocks_in n journal in let m = restarted_memory n own values notices bs in Told (history (begun own bs) m cs) (after_all m cs)
