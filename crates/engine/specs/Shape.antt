-- The memory's shape: what holds of every memory that calls and restarts lead to from a replica or a station just made, with any bytes, journals, notices and arguments.
use Rattle.std.specs.Prelude.{ℕ, ◌+◌, ◌*◌, ◌-◌, ◌≤◌, ◌<◌, ◌≡◌, true, false, List, [], ◌++◌, ℤ, length, get_or, replicate}
use Rattle.block.specs.Answers.{block_refusal, header_of}
use Rattle.block.specs.Message.{max_ticket}
use Rattle.memory.specs.Memory.{Memory, span, slot_limit, window_bytes, is_station}
use Rattle.memory.specs.Notices.{Notice, is_out}
use Rattle.memory.specs.Rows.{closed, open_count, row_of, row_at, items_of, has}
use Rattle.memory.specs.Turns.{is_on, block_in, is_empty}
use Rattle.engine.specs.Make.{SettingOf, made_memory}
use Rattle.engine.specs.Moves.{waiting, block_at_turn}
use Rattle.engine.specs.Calls.{Call, step}
use Rattle.engine.specs.Restart.{blocks_in, repeated, restarted_memory}
use Rattle.engine.specs.History.{AnyCall, after_all, begun, history}

pub record Lengths (m : Memory) : Type 0 where
  pub table : length m.txns.table ≡ 6
  pub queue : length m.txns.queue ≡ 6
  pub items : length m.txns.items ≡ 48
  pub writes : length m.txns.writes ≡ 48
  pub snapshots : length m.txns.snapshots ≡ 768
  pub values : length m.store.values ≡ 128
  pub stamps : length m.store.stamps ≡ 128
  pub classes : length m.store.classes ≡ 128
  pub places : length m.blocks.places ≡ 512 * span m.group
  pub outbox : length m.blocks.outbox ≡ 512
  pub window : length m.blocks.window ≡ window_bytes
  pub from : length m.group.from ≡ 6
  pub until : length m.group.until ≡ 6

-- over: own writesets that a restart committed above the highest ticket of its own blocks; 0 but where a ticket stands in two of them
pub record Ranges (over : ℕ) (m : Memory) : Type 0 where
  pub least : 2 ≤ m.group.replicas
  pub most : m.group.replicas ≤ 6
  -- a replica's number is below N (`Numbered.stays`: a replica is no station); a station has none
  pub own : is_station m ≡ false → m.group.own < m.group.replicas
  pub slot : m.turn.slot ≤ slot_limit
  pub tickets : m.counts.tickets ≤ max_ticket
  pub commits : m.counts.commits ≤ 6 * m.turn.slot + m.counts.done
  pub repeats : over ≤ 6 * slot_limit
  -- tickets given equal open plus all endings
  pub endings : m.counts.tickets + over
      ≡ open_count m.txns.table + m.counts.committed + m.counts.read_only + m.counts.aborted + m.counts.withdrawn

-- row r
pub record RowShape (m : Memory) (r : ℕ) : Type 0 where
  -- a free row is all zero
  pub free : (row_at m.txns.table r).ticket ≡ 0 → row_at m.txns.table r ≡ closed
  pub given : (row_at m.txns.table r).ticket ≤ m.counts.tickets
  pub stage : (row_at m.txns.table r).stage ≤ 2
  pub since : (row_at m.txns.table r).snapshot ≤ m.counts.commits
  pub few : (row_at m.txns.table r).writes ≤ 8
  -- asked or sent, it has writes
  pub some : 0 < (row_at m.txns.table r).stage → 0 < (row_at m.txns.table r).writes
  -- its items rise and are items
  pub rising : (j k : ℕ) → j < k → k < (row_at m.txns.table r).writes → get_or m.txns.items (8 * r + j) 0 < get_or m.txns.items (8 * r + k) 0
  pub items : (j : ℕ) → j < (row_at m.txns.table r).writes → get_or m.txns.items (8 * r + j) 0 < 128

-- the queue is the asked rows' tickets, each once, and zeros behind
pub record QueueShape (m : Memory) : Type 0 where
  pub zeros : m.txns.queue ≡ waiting m.txns.queue ++ replicate (6 - length (waiting m.txns.queue)) 0
  pub asked : (k : ℕ) → k < length (waiting m.txns.queue)
      → (row_of (get_or m.txns.queue k 0) m.txns.table < 6)
      × ((row_at m.txns.table (row_of (get_or m.txns.queue k 0) m.txns.table)).stage ≡ 1)
  pub queued : (r : ℕ) → r < 6 → (row_at m.txns.table r).stage ≡ 1 → has (row_at m.txns.table r).ticket (waiting m.txns.queue) ≡ true
  pub once : (j k : ℕ) → j < k → k < length (waiting m.txns.queue) → get_or m.txns.queue j 0 ≡ get_or m.txns.queue k 0 → ⊥

-- a block that waits is an accepted one, for its slot and this group, and its slot is not out; writesets done are fewer than the block at the turn has; with the applying mark on one is done, so that
-- one at least is left
pub record PlaceShape (m : Memory) : Type 0 where
  pub waits : (s : ℕ) → m.turn.slot ≤ s → s < m.turn.slot + span m.group
      → is_empty (span m.group) s m.blocks.places ≡ false
      → (block_refusal (block_in (span m.group) s m.blocks.places) ≡ 0)
      × ((header_of (block_in (span m.group) s m.blocks.places)).slot ≡ s)
      × ((header_of (block_in (span m.group) s m.blocks.places)).replicas ≡ m.group.replicas)
  pub clear : (s : ℕ) → m.turn.slot ≤ s → s < m.turn.slot + span m.group → is_out m.group s ≡ true → is_empty (span m.group) s m.blocks.places ≡ true
  pub done : 0 < m.counts.done
      → (is_empty (span m.group) m.turn.slot m.blocks.places ≡ false) × (m.counts.done < get_or (block_at_turn m) 3 0)
  pub applying : is_on m.turn.applying ≡ true → 0 < m.counts.done

pub record Shape (over : ℕ) (m : Memory) : Type 0 where
  pub lengths : Lengths m
  pub ranges : Ranges over m
  pub rows : (r : ℕ) → r < 6 → RowShape m r
  pub distinct : (i j : ℕ) → i < 6 → j < 6 → (i ≡ j → ⊥) → ((row_at m.txns.table i).ticket ≡ 0 → ⊥)
      → (row_at m.txns.table i).ticket ≡ (row_at m.txns.table j).ticket → ⊥
  pub queue : QueueShape m
  pub places : PlaceShape m
  -- at most one open transaction holds an item
  pub single : (i j : ℕ) → i < 6 → j < 6 → (i ≡ j → ⊥) → (x : ℕ) → has x (items_of i (row_at m.txns.table i) m.txns.items) ≡ true
      → has x (items_of j (row_at m.txns.table j) m.txns.items) ≡ true → ⊥

pub record Shapes : Type 0 where
  pub made : (n own : ℕ) (values : List ℤ) → SettingOf n own values → Shape 0 (made_memory n own values)
  pub each : {over : ℕ} (m : Memory) → Shape over m → (c : Call) → Shape over (step m c).memory
  pub all : (n own : ℕ) (values : List ℤ) → SettingOf n own values → (cs : List AnyCall)
      → let m = made_memory n own values in Shape (history (begun own []) m cs).over (after_all m cs)
  -- from any journal, lent any notices
  pub restarted : (n own : ℕ) (values : List ℤ) → SettingOf n own values → (journal : List ℕ) (notices : List Notice)
      → Shape (repeated own (blocks_in n journal)) (restarted_memory n own values notices (blocks_in n journal))
