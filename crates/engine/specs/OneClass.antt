-- With no table of classes loaded a write is that of an engine without classes, on every memory that calls and restarts lead to: what it was before document 02's Req 02, but for the order of 9 and 8,
-- which is today's here (`Staleness.antt` has the order of before).
use Rattle.std.specs.Prelude.{ℕ, ◌≡◌, Bool, true, false, not, ◌&&◌, List, [], ◌∷◌, ◌++◌, ℤ, replicate}
use Rattle.block.specs.Answers.{refuse, first_of}
use Rattle.memory.specs.Memory.{Memory, is_station, writes_lent, stamps_lent}
use Rattle.memory.specs.Notices.{Notice}
use Rattle.engine.specs.Answers.{Outcome}
use Rattle.engine.specs.Answers.Answer.{loaded}
use Rattle.engine.specs.Make.{SettingOf, made_memory}
use Rattle.engine.specs.Classes.{is_applying}
use Rattle.engine.specs.Client.{row_no, early_refusals, late_refusals, write_unless}
use Rattle.engine.specs.Restart.{blocks_in, restarted_memory}
use Rattle.engine.specs.Calls.{Call, step}
use Rattle.engine.specs.Calls.Call.{begin, read, write, ask, withdraw, report, send, deliver, work, load, notice}
use Rattle.engine.specs.History.{AnyCall, after_all}
use Rattle.engine.specs.History.AnyCall.{call, restart}
use Rattle.engine.specs.Shape.{Shape}

-- the refusals of a write without classes: 7 wherever the applying mark is on, and neither classes nor places lent
unfoldable pub unclassed_refusal : Memory → ℕ → ℕ → ℕ
unclassed_refusal m r item =
    first_of (early_refusals (writes_lent m && stamps_lent m) m r item ++ (refuse 7 (is_applying m) ∷ late_refusals m r item))

abbrev pub unclassed_write : Memory → ℕ → ℕ → ℤ → Outcome
unclassed_write m ticket item value = write_unless (unclassed_refusal m (row_no m ticket) item) m (row_no m ticket) item value

-- no table is loaded
abbrev pub Unloaded : Memory → Type 0
Unloaded m = m.store.classes ≡ replicate 128 0

abbrev pub is_load : AnyCall → Bool
is_load (call begin) = false
is_load (call (read t i)) = false
is_load (call (write t i v)) = false
is_load (call (ask t)) = false
is_load (call (withdraw t)) = false
is_load (call report) = false
is_load (call (send b)) = false
is_load (call (deliver b)) = false
is_load (call work) = false
is_load (call (load l)) = true
is_load (call (notice a)) = false
is_load (restart n own values journal notices block) = false

-- no call of the list is a load
unfoldable pub no_loads : List AnyCall → Bool
no_loads [] = true
no_loads (c ∷ cs) = not (is_load c) && no_loads cs

pub record OneClass : Type 0 where
  pub writes : {over : ℕ} (m : Memory) → Shape over m → is_station m ≡ false → Unloaded m → (ticket item : ℕ) (value : ℤ)
      → step m (write ticket item value) ≡ unclassed_write m ticket item value
  -- an accepted load alone changes the table
  pub kept : (m : Memory) (c : Call) → ((step m c).answer ≡ loaded → ⊥) → (step m c).memory.store.classes ≡ m.store.classes
  -- so on any list of calls and restarts without a load, after a make or a restart
  pub made : (n own : ℕ) (values : List ℤ) → SettingOf n own values → (cs : List AnyCall) → no_loads cs ≡ true → (ticket item : ℕ) (value : ℤ)
      → let m = after_all (made_memory n own values) cs in step m (write ticket item value) ≡ unclassed_write m ticket item value
  pub restarted : (n own : ℕ) (values : List ℤ) → SettingOf n own values → (journal : List ℕ) (notices : List Notice) (cs : List AnyCall) → no_loads cs ≡ true
      → (ticket item : ℕ) (value : ℤ)
      → let m = after_all (restarted_memory n own values notices (blocks_in n journal)) cs in step m (write ticket item value) ≡ unclassed_write m ticket item value
