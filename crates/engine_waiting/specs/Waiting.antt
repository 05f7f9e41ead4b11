-- How long a change may wait, document 02's Req 06 with Req 10's notices: "An ask at turn t has ended when the asker's turn is above its first slot after t that Work doesn't pass as out",
-- which is t + N at most where Work passes none of its slots as out. Of one replica, after any calls with any bytes and any notices, restarts from any journal, lent any notices, among them before
-- and after; no premise. At a station no ask is queued (`Stations.asks`).
use Rattle.std.specs.Prelude.{ℕ, ◌+◌, ◌≤◌, ◌<◌, ◌≡◌, Bool, true, false, not, ◌&&◌, ◌||◌, List, [], ◌∷◌, ◌++◌, eqb, ltb, ℤ}
use Rattle.memory.specs.Memory.{Memory, owner_at, span}
use Rattle.memory.specs.Rows.{open_count}
use Rattle.engine.specs.Answers.Answer.{refused, queued}
use Rattle.engine.specs.Make.{SettingOf, made_memory}
use Rattle.engine.specs.Client.{row_no, no_row}
use Rattle.engine.specs.Moves.{out_at_turn}
use Rattle.engine.specs.Calls.{step}
use Rattle.engine.specs.Calls.Call.{ask, withdraw}
use Rattle.engine.specs.Restart.{restart_refusal}
use Rattle.engine.specs.History.{AnyCall, any_step, after_all}
use Rattle.engine.specs.History.AnyCall.{call, restart}

-- ---- the transaction, not its ticket

-- a row has the ticket
abbrev pub is_open_as : ℕ → Memory → Bool
is_open_as ticket m = not (no_row (row_no m ticket))

-- an accepted restart ends every open transaction; the ticket may be given to another then
abbrev pub ends_all : Memory → AnyCall → Bool
ends_all m (call c) = false
ends_all m (restart n own values journal notices block) = eqb (restart_refusal m n own values block) 0

-- the transaction that has the ticket is still open after the calls: no restart of theirs was accepted, and a row has the ticket
unfoldable pub open_after : ℕ → Memory → List AnyCall → Bool
open_after ticket m [] = is_open_as ticket m
open_after ticket m (c ∷ cs) = not (ends_all m c) && open_after ticket (any_step m c).memory cs

-- ---- a slot passed as out

-- the turn is at slot s, which is out, and goes on to t
abbrev pub moves_out : ℕ → Memory → ℕ → Bool
moves_out s m t = eqb m.turn.slot s && (out_at_turn m && ltb s t)

-- a Work does, and no other call; what a restart commits does not count
abbrev pub leaves_out : ℕ → Memory → AnyCall → Bool
leaves_out s m (call c) = moves_out s m (step m c).memory.turn.slot
leaves_out s m (restart n own values journal notices block) = false

-- one of the calls does. Read from the calls, since the memory behind them knows the last outage of each replica alone
unfoldable pub passed_out : ℕ → Memory → List AnyCall → Bool
passed_out s m [] = false
passed_out s m (c ∷ cs) = leaves_out s m c || passed_out s (any_step m c).memory cs

-- ---- the bound

-- what was asked under the ticket, on the memory m, has ended wherever the turn is above slot s, which was not passed as out
abbrev pub EndsBy : Memory → ℕ → ℕ → Type 0
EndsBy m ticket s =
    let asked = (step m (ask ticket)).memory in
    (cs : List AnyCall) → passed_out s asked cs ≡ false → s < (after_all asked cs).turn.slot → open_after ticket asked cs ≡ false

-- s is the first own slot above t that none of the calls passes as out
pub record FirstSlot (m : Memory) (t : ℕ) (cs : List AnyCall) (s : ℕ) : Type 0 where
  pub above : t < s
  pub own : owner_at m.group s ≡ m.group.own
  pub counts : passed_out s m cs ≡ false
  pub first : (u : ℕ) → t < u → u < s → owner_at m.group u ≡ m.group.own → passed_out u m cs ≡ true

pub record Waiting : Type 0 where
  -- it has ended by every own slot after the ask's turn that was not passed as out
  pub slot : (n own : ℕ) (values : List ℤ) → SettingOf n own values → (cs : List AnyCall) (ticket : ℕ)
      → let m = after_all (made_memory n own values) cs in (step m (ask ticket)).answer ≡ queued
      → (s : ℕ) → m.turn.slot < s → owner_at m.group s ≡ m.group.own → EndsBy m ticket s
  -- so by the first of them: there is one, whatever the calls
  pub first : (n own : ℕ) (values : List ℤ) → SettingOf n own values → (cs : List AnyCall) (ticket : ℕ)
      → let m = after_all (made_memory n own values) cs in (step m (ask ticket)).answer ≡ queued
      → let asked = (step m (ask ticket)).memory in (ds : List AnyCall)
      → (s : ℕ) × FirstSlot asked m.turn.slot ds s × (s < (after_all asked ds).turn.slot → open_after ticket asked ds ≡ false)
  -- and by t + N where no own slot up to it was passed as out
  pub bound : (n own : ℕ) (values : List ℤ) → SettingOf n own values → (cs : List AnyCall) (ticket : ℕ)
      → let m = after_all (made_memory n own values) cs in (step m (ask ticket)).answer ≡ queued
      → let asked = (step m (ask ticket)).memory in (ds : List AnyCall)
      → ((s : ℕ) → m.turn.slot < s → s ≤ m.turn.slot + span m.group → owner_at m.group s ≡ m.group.own → passed_out s asked ds ≡ false)
      → m.turn.slot + span m.group < (after_all asked ds).turn.slot → open_after ticket asked ds ≡ false

-- what it means to have ended
pub record Ended : Type 0 where
  -- a withdraw under a ticket that no row has is answered 3
  pub answer : (m : Memory) (ticket : ℕ) → is_open_as ticket m ≡ false → (step m (withdraw ticket)).answer ≡ refused 3
  -- nobody is open after an accepted restart
  pub restarted : (m : Memory) (c : AnyCall) → ends_all m c ≡ true → open_count (any_step m c).memory.txns.table ≡ 0
  -- a ticket that was given is not given again until then: what has ended stays so
  pub stays : (n own : ℕ) (values : List ℤ) → SettingOf n own values → (cs : List AnyCall) (ticket : ℕ)
      → let m = after_all (made_memory n own values) cs in ticket ≤ m.counts.tickets
      → (ds es : List AnyCall) → open_after ticket m ds ≡ false → open_after ticket m (ds ++ es) ≡ false
