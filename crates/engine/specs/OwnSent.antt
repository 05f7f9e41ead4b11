-- Document 02's Req 08: "Show that no sequence of calls from Make, with any bytes, restarts included, can meet it", that is an own writeset whose ticket is not
-- open as sent. It was answered 22, a number that no refusal has any more.
use Rattle.std.specs.Prelude.{ℕ, ◌+◌, ◌≤◌, ◌≡◌, Bool, true, false, cond, not, ◌&&◌, List, [], eqb, ℤ, get_or}
use Rattle.block.specs.Message.{Record}
use Rattle.memory.specs.Memory.{Memory, bump}
use Rattle.memory.specs.Turns.{advance}
use Rattle.engine.specs.Answers.{Outcome}
use Rattle.engine.specs.Answers.Answer.{refused, worked}
use Rattle.engine.specs.Make.{SettingOf, made_memory, make_step}
use Rattle.engine.specs.Moves.{out_at_turn, block_at_turn, writeset_at, applied, stamped, is_sent, work_lent, nothing_waits, turn_blocks, is_last}
use Rattle.engine.specs.Calls.{step}
use Rattle.engine.specs.Calls.Call.{work}
use Rattle.engine.specs.History.{AnyCall, any_step, after_all}

-- the writeset to commit next, and whether it is the replica's own
abbrev pub writeset_met : Memory → Record
writeset_met m = writeset_at (block_at_turn m) m.counts.done

abbrev pub meets_own : Memory → Bool
meets_own m = not (eqb (get_or (block_at_turn m) 0 0) 1) && eqb (get_or (block_at_turn m) 1 0) m.group.own

-- it is committed, turn and place as for any own one, and nobody ends: no ending is counted, no row changes, and the applying mark is not set. What else a work leaves: `Frames.works`
pub record EndsNobody (m : Memory) (o : Outcome) : Type 0 where
  pub answer : o.answer ≡ worked (record { sender = m.group.own; ticket = (writeset_met m).ticket; moved = is_last m; aborted = []; append = [] })
  pub commits : o.memory.counts.commits ≡ bump m.counts.commits
  pub values : o.memory.store.values ≡ applied (writeset_met m).entries m.store.values
  pub stamps : o.memory.store.stamps ≡ stamped (bump m.counts.commits) (writeset_met m).entries m.store.stamps
  pub turn : o.memory.turn ≡ cond (is_last m) (advance m.turn) m.turn
  pub done : o.memory.counts.done ≡ cond (is_last m) 0 (m.counts.done + 1)
  pub blocks : o.memory.blocks ≡ cond (is_last m) (turn_blocks m) m.blocks
  pub txns : o.memory.txns ≡ m.txns
  pub committed : o.memory.counts.committed ≡ m.counts.committed
  -- a count fits 32 bits
  pub aborted : m.counts.aborted ≤ 4_294_967_295 → o.memory.counts.aborted ≡ m.counts.aborted

pub record OwnSent : Type 0 where
  -- at a replica, calls with any arguments, restarts from any journal, accepted or not: an own writeset that a work meets has its ticket open as sent.
  -- What waits at a station's turn is another's (`Stations.others`)
  pub met : (n own : ℕ) (values : List ℤ) → SettingOf n own values → (cs : List AnyCall)
      → let m = after_all (made_memory n own values) cs in nothing_waits m ≡ false → meets_own m ≡ true → is_sent m (writeset_met m).ticket ≡ true
  -- on any memory whose slot at the turn is not out, an altered one too: "on an altered state Work commits such a writeset and ends nobody"
  pub altered : (m : Memory) → work_lent m ≡ true → out_at_turn m ≡ false → nothing_waits m ≡ false → meets_own m ≡ true → is_sent m (writeset_met m).ticket ≡ false → EndsNobody m (step m work)
  -- no call gives 22, on any memory; no other refusal takes the number
  pub gone : (m : Memory) (c : AnyCall) → (any_step m c).answer ≡ refused 22 → ⊥
  pub make-gone : (m : Memory) (n own : ℕ) (values : List ℤ) → (make_step m n own values).answer ≡ refused 22 → ⊥
