-- Document 02's stations, Req 05: a make without a number, and what holds of a station. Its other calls are those of `Calls.antt`, on its memory.
use Rattle.std.specs.Prelude.{ℕ, ◌+◌, ◌<◌, ◌≡◌, true, false, cond, not, ◌&&◌, List, [], ◌∷◌, eqb, ℤ, length, get_or}
use Rattle.block.specs.Answers.{refuse, first_of}
use Rattle.block.specs.Message.{within}
use Rattle.memory.specs.Memory.{Memory, no_number, is_station}
use Rattle.memory.specs.Notices.{Notice}
use Rattle.memory.specs.Rows.{row_at}
use Rattle.engine.specs.Answers.{WorkDone, number_of, Outcome, outcome, unless}
use Rattle.engine.specs.Answers.Answer.{refused, made, read_only, worked}
use Rattle.engine.specs.Make.{Setting, SettingOf, made_memory, parts_fit, make_refusal, make_step}
use Rattle.engine.specs.Client.{row_no, no_row, report_of}
use Rattle.engine.specs.Moves.{waiting, sent_already, block_at_turn, nothing_waits}
use Rattle.engine.specs.Restart.{restart_refusal, restart_step}
use Rattle.engine.specs.Calls.{Call, step, after}
use Rattle.engine.specs.Calls.Call.{write, ask, send, work}
use Rattle.engine.specs.Shape.{Shape}
use Rattle.engine.specs.History.{AnyCall, any_step, after_all, no_calls, tally, report_from}

-- ---- make

-- a replica just made, with no number
abbrev pub station_memory : ℕ → List ℤ → Memory
station_memory n values = made_memory n no_number values

-- 2: N out of range
unfoldable pub station_refusal : Memory → ℕ → List ℤ → ℕ
station_refusal m n values =
    first_of
    (refuse 1 (not (eqb (length values) 128 && parts_fit m n))
    ∷ refuse 2 (not (within 2 6 n))
    ∷ [])

-- on the memory lent, whatever its turn, counts and table are
unfoldable pub station_step : Memory → ℕ → List ℤ → Outcome
station_step m n values = unless (station_refusal m n values) m (outcome made (station_memory n values))

-- ---- what holds of it

-- nothing written, asked or sent, and none of its transactions committed or aborted
pub record OnlyReads (m : Memory) : Type 0 where
  pub station : is_station m ≡ true
  pub active : (r : ℕ) → (row_at m.txns.table r).stage ≡ 0
  pub unwritten : (r : ℕ) → (row_at m.txns.table r).writes ≡ 0
  pub unsent : sent_already m ≡ false
  pub committed : m.counts.committed ≡ 0
  pub aborted : m.counts.aborted ≡ 0

-- of a station's make, and of its calls
pub record Stations : Type 0 where
  -- the refusals are those of a replica's make with number 0; a number is answered where its condition is the first to hold, and at no other time; a refused make leaves all as before
  pub make-refusal : (m : Memory) (n : ℕ) (values : List ℤ) → station_refusal m n values ≡ make_refusal m n 0 values
  pub make_number : (m : Memory) (n : ℕ) (values : List ℤ) → number_of (station_step m n values).answer ≡ station_refusal m n values
  pub make_unchanged : (m : Memory) (n : ℕ) (values : List ℤ) → (station_refusal m n values ≡ 0 → ⊥) → (station_step m n values).memory ≡ m
  pub makes : (m : Memory) (n : ℕ) (values : List ℤ) → station_refusal m n values ≡ 0 → (station_step m n values).memory ≡ station_memory n values
  -- on every memory without a number: a write and a send give 25, before any other reason, and change nothing; no call gives 19
  pub writes : (m : Memory) → is_station m ≡ true → (ticket item : ℕ) (value : ℤ) → step m (write ticket item value) ≡ outcome (refused 25) m
  pub sends : (m : Memory) → is_station m ≡ true → (block : List ℕ) → step m (send block) ≡ outcome (refused 25) m
  pub never-19 : (m : Memory) → is_station m ≡ true → (c : Call) → (step m c).answer ≡ refused 19 → ⊥
  -- on any list of calls, with any bytes, after its make: it has a replica's shape, and only reads
  pub shape : (n : ℕ) (values : List ℤ) → Setting n values → (cs : List Call) → Shape 0 (after (station_memory n values) cs)
  pub only-reads : (n : ℕ) (values : List ℤ) → Setting n values → (cs : List Call) → OnlyReads (after (station_memory n values) cs)
  pub queue : (n : ℕ) (values : List ℤ) → Setting n values → (cs : List Call) → waiting (after (station_memory n values) cs).txns.queue ≡ []
  -- Report is that of the history, in which no writeset is its own; tickets given equal open plus endings, read-only and withdrawn
  pub report : (n : ℕ) (values : List ℤ) → Setting n values → (cs : List Call)
      → report_of (after (station_memory n values) cs) ≡ report_from 0 (tally no_number no_calls (station_memory n values) cs)
  pub sum : (n : ℕ) (values : List ℤ) → Setting n values → (cs : List Call)
      → let r = report_of (after (station_memory n values) cs) in r.tickets ≡ r.open_count + r.read_only + r.withdrawn
  -- a block that waits at the turn is another's, so that no writeset that a work meets is its own
  pub others : (n : ℕ) (values : List ℤ) → Setting n values → (cs : List Call)
      → let m = after (station_memory n values) cs in nothing_waits m ≡ false → eqb (get_or (block_at_turn m) 1 0) m.group.own ≡ false
  -- an ask of an open transaction is read-only, never queued; 4 never comes; nobody is aborted
  pub asks : (n : ℕ) (values : List ℤ) → Setting n values → (cs : List Call) (ticket : ℕ)
      → let m = after (station_memory n values) cs in (step m (ask ticket)).answer ≡ cond (no_row (row_no m ticket)) (refused 3) read_only
  pub never-4 : (n : ℕ) (values : List ℤ) → Setting n values → (cs : List Call) (c : Call)
      → (step (after (station_memory n values) cs) c).answer ≡ refused 4 → ⊥
  pub aborts : (n : ℕ) (values : List ℤ) → Setting n values → (cs : List Call) (s : WorkDone)
      → (step (after (station_memory n values) cs) work).answer ≡ worked s → s.aborted ≡ []

-- a replica is no station: no number that a make or a restart is lent gives one, and calls and restarts, from any journal, leave it a replica, with a number below N; so 25 is a station's alone
pub record Numbered : Type 0 where
  pub makes : (m : Memory) (n own : ℕ) (values : List ℤ) → make_refusal m n own values ≡ 0 → is_station (make_step m n own values).memory ≡ false
  pub restarts : (m : Memory) (n own : ℕ) (values : List ℤ) (journal : List ℕ) (notices : List Notice) (block : List ℕ) → restart_refusal m n own values block ≡ 0
      → is_station (restart_step m n own values journal notices block).memory ≡ false
  pub stays : (n own : ℕ) (values : List ℤ) → SettingOf n own values → (cs : List AnyCall)
      → let m = after_all (made_memory n own values) cs in (is_station m ≡ false) × (m.group.own < m.group.replicas)
  pub never-25 : (n own : ℕ) (values : List ℤ) → SettingOf n own values → (cs : List AnyCall) (c : AnyCall)
      → (any_step (after_all (made_memory n own values) cs) c).answer ≡ refused 25 → ⊥
