-- A refused call changes nothing, and what each call may change. On every memory.
use Rattle.std.specs.Prelude.{ℕ, suc, ◌+◌, ◌*◌, ◌≤◌, ◌<◌, ◌≡◌, Bool, true, false, List, map, ◌⊎◌, ℤ, pos, length, get_or, set}
use Rattle.block.specs.declared.Entry.{Entry}
use Rattle.block.specs.Answers.{header_of}
use Rattle.memory.specs.Memory.{Memory, span, window_slots, bump, with_group, with_tickets, with_read_only, with_aborted, with_withdrawn, with_table, with_txns, with_blocks, with_classes}
use Rattle.memory.specs.Notices.{Notice}
use Rattle.memory.specs.Rows.{closed, open_count, free_row, row_at, index_of, has}
use Rattle.memory.specs.Turns.{mark_applying, advance, place_start}
use Rattle.engine.specs.Answers.{number_of}
use Rattle.engine.specs.Make.{made_memory, make_refusal, make_step}
use Rattle.engine.specs.Client.{row_no}
use Rattle.engine.specs.Moves.{block_at_turn, writeset_at}
use Rattle.engine.specs.Calls.{Call, step, refusal_of}
use Rattle.engine.specs.Calls.Call.{begin, read, write, ask, withdraw, report, send, deliver, work, load, notice}

abbrev pub is_write : Call → Bool
is_write begin = false
is_write (read t i) = false
is_write (write t i v) = true
is_write (ask t) = false
is_write (withdraw t) = false
is_write report = false
is_write (send b) = false
is_write (deliver b) = false
is_write work = false
is_write (load l) = false
is_write (notice a) = false

pub record Refusals : Type 0 where
  -- a number is answered where its condition is the first to hold, and at no other time
  pub number : (m : Memory) (c : Call) → number_of (step m c).answer ≡ refusal_of m c
  -- all is left as before, except under 9
  pub unchanged : (m : Memory) (c : Call) → (refusal_of m c ≡ 0 → ⊥) → (refusal_of m c ≡ 9 → ⊥) → (step m c).memory ≡ m
  -- 9 is a write's, and ends its transaction as aborted and does nothing else
  pub nine : (m : Memory) (c : Call) → refusal_of m c ≡ 9 → is_write c ≡ true
  pub stale : (m : Memory) (ticket item : ℕ) (value : ℤ) → refusal_of m (write ticket item value) ≡ 9
      → (step m (write ticket item value)).memory
      ≡ with_txns m (with_aborted m.counts (bump m.counts.aborted)) (with_table m.txns (set m.txns.table (row_no m ticket) closed))
  pub stale_open : (m : Memory) (ticket item : ℕ) (value : ℤ) → length m.txns.table ≡ 6 → refusal_of m (write ticket item value) ≡ 9
      → open_count m.txns.table ≡ suc (open_count (step m (write ticket item value)).memory.txns.table)
  -- a make's
  pub make_number : (m : Memory) (n own : ℕ) (values : List ℤ) → number_of (make_step m n own values).answer ≡ make_refusal m n own values
  pub make_unchanged : (m : Memory) (n own : ℕ) (values : List ℤ) → (make_refusal m n own values ≡ 0 → ⊥) → (make_step m n own values).memory ≡ m

-- the two lists are equal but from `at` to `at + n`
abbrev pub SameBut : {A : Type 0} → A → ℕ → ℕ → List A → List A → Type 0
SameBut d at n l k = (i : ℕ) → (i < at) ⊎ (at + n ≤ i) → get_or k i d ≡ get_or l i d

-- the two lists are equal but at the items of the entries
abbrev pub SameButItems : {A : Type 0} → A → List Entry → List A → List A → Type 0
SameButItems d es l k = (i : ℕ) → has i (map (λ (e : Entry). e.item) es) ≡ false → get_or k i d ≡ get_or l i d

-- the tables are equal but for row r
abbrev pub RowsBut : Memory → Memory → ℕ → Type 0
RowsBut m n r = (i : ℕ) → (i ≡ r → ⊥) → row_at n.txns.table i ≡ row_at m.txns.table i

-- group, turn, values, stamps, classes, places, the block sent last and the window are as they were
pub record TurnKept (m n : Memory) : Type 0 where
  pub group : n.group ≡ m.group
  pub turn : n.turn ≡ m.turn
  pub store : n.store ≡ m.store
  pub blocks : n.blocks ≡ m.blocks

-- a begin changes one row, its snapshot and the tickets
pub record BeginFrame (m n : Memory) : Type 0 where
  pub kept : TurnKept m n
  pub queue : n.txns.queue ≡ m.txns.queue
  pub items : n.txns.items ≡ m.txns.items
  pub writes : n.txns.writes ≡ m.txns.writes
  pub rows : RowsBut m n (free_row m.txns.table)
  pub snapshots : SameBut (pos 0) (128 * free_row m.txns.table) 128 m.txns.snapshots n.txns.snapshots
  pub counts : n.counts ≡ with_tickets m.counts n.counts.tickets

-- a write one row, its items and values, and under 9 the count of aborted ones
pub record WriteFrame (m n : Memory) (r : ℕ) : Type 0 where
  pub kept : TurnKept m n
  pub queue : n.txns.queue ≡ m.txns.queue
  pub snapshots : n.txns.snapshots ≡ m.txns.snapshots
  pub rows : RowsBut m n r
  pub items : SameBut 0 (8 * r) 8 m.txns.items n.txns.items
  pub writes : SameBut (pos 0) (8 * r) 8 m.txns.writes n.txns.writes
  pub counts : n.counts ≡ with_aborted m.counts n.counts.aborted

-- an ask one row, the queue's end or the count of read_only ones
pub record AskFrame (m n : Memory) (r : ℕ) : Type 0 where
  pub kept : TurnKept m n
  pub items : n.txns.items ≡ m.txns.items
  pub writes : n.txns.writes ≡ m.txns.writes
  pub snapshots : n.txns.snapshots ≡ m.txns.snapshots
  pub rows : RowsBut m n r
  pub queue : SameBut 0 (index_of 0 m.txns.queue) 1 m.txns.queue n.txns.queue
  pub counts : n.counts ≡ with_read_only m.counts n.counts.read_only

-- a withdraw one row and the count of withdrawn ones
pub record WithdrawFrame (m n : Memory) (r : ℕ) : Type 0 where
  pub kept : TurnKept m n
  pub queue : n.txns.queue ≡ m.txns.queue
  pub items : n.txns.items ≡ m.txns.items
  pub writes : n.txns.writes ≡ m.txns.writes
  pub snapshots : n.txns.snapshots ≡ m.txns.snapshots
  pub rows : RowsBut m n r
  pub counts : n.counts ≡ with_withdrawn m.counts n.counts.withdrawn

-- a send the sent mark, the stages, the queue and the block sent last
pub record SendFrame (m n : Memory) : Type 0 where
  pub group : n.group ≡ m.group
  pub slot : n.turn.slot ≡ m.turn.slot
  pub applying : n.turn.applying ≡ m.turn.applying
  pub counts : n.counts ≡ m.counts
  pub store : n.store ≡ m.store
  pub places : n.blocks.places ≡ m.blocks.places
  pub window : n.blocks.window ≡ m.blocks.window
  pub items : n.txns.items ≡ m.txns.items
  pub writes : n.txns.writes ≡ m.txns.writes
  pub snapshots : n.txns.snapshots ≡ m.txns.snapshots
  pub tickets : (i : ℕ) → (row_at n.txns.table i).ticket ≡ (row_at m.txns.table i).ticket
  pub since : (i : ℕ) → (row_at n.txns.table i).snapshot ≡ (row_at m.txns.table i).snapshot
  pub counted : (i : ℕ) → (row_at n.txns.table i).writes ≡ (row_at m.txns.table i).writes

-- a deliver one place
pub record DeliverFrame (m n : Memory) (slot : ℕ) : Type 0 where
  pub rest : n ≡ with_blocks m n.blocks
  pub outbox : n.blocks.outbox ≡ m.blocks.outbox
  pub window : n.blocks.window ≡ m.blocks.window
  pub places : SameBut 0 (place_start (span m.group) slot) 512 m.blocks.places n.blocks.places

-- a notice the outage of the replica that it is about
pub record NoticeFrame (m n : Memory) (k : ℕ) : Type 0 where
  pub rest : n ≡ with_group m n.group
  pub replicas : n.group.replicas ≡ m.group.replicas
  pub own : n.group.own ≡ m.group.own
  pub from : SameBut 0 k 1 m.group.from n.group.from
  pub until : SameBut 0 k 1 m.group.until n.group.until

-- a work may set the applying mark or move the turn by one, and change one byte of the places, one block of the window, values and stamps of the items of the writeset to commit, rows by closing them, the
-- queue, and of the counts commits, done, committed and aborted
pub record WorkFrame (m n : Memory) : Type 0 where
  -- the slot is the same, or one more with both marks off
  pub turn : (n.turn ≡ m.turn) ⊎ ((n.turn ≡ mark_applying m.turn) ⊎ (n.turn ≡ advance m.turn))
  pub places : SameBut 0 (place_start (span m.group) m.turn.slot) 1 m.blocks.places n.blocks.places
  pub window : SameBut 0 (place_start window_slots m.turn.slot) 512 m.blocks.window n.blocks.window
  pub values : SameButItems (pos 0) (writeset_at (block_at_turn m) m.counts.done).entries m.store.values n.store.values
  pub stamps : SameButItems 0 (writeset_at (block_at_turn m) m.counts.done).entries m.store.stamps n.store.stamps
  pub classes : n.store.classes ≡ m.store.classes
  pub rows : (i : ℕ) → (row_at n.txns.table i ≡ row_at m.txns.table i) ⊎ (row_at n.txns.table i ≡ closed)
  pub items : n.txns.items ≡ m.txns.items
  pub writes : n.txns.writes ≡ m.txns.writes
  pub snapshots : n.txns.snapshots ≡ m.txns.snapshots
  pub outbox : n.blocks.outbox ≡ m.blocks.outbox
  pub group : n.group ≡ m.group
  pub tickets : n.counts.tickets ≡ m.counts.tickets
  pub read_only : n.counts.read_only ≡ m.counts.read_only
  pub withdrawn : n.counts.withdrawn ≡ m.counts.withdrawn

pub record Frames : Type 0 where
  pub makes : (m : Memory) (n own : ℕ) (values : List ℤ) → make_refusal m n own values ≡ 0 → (make_step m n own values).memory ≡ made_memory n own values
  pub begins : (m : Memory) → BeginFrame m (step m begin).memory
  pub reads : (m : Memory) (ticket item : ℕ) → (step m (read ticket item)).memory ≡ m
  pub writes : (m : Memory) (ticket item : ℕ) (value : ℤ) → WriteFrame m (step m (write ticket item value)).memory (row_no m ticket)
  pub asks : (m : Memory) (ticket : ℕ) → AskFrame m (step m (ask ticket)).memory (row_no m ticket)
  pub withdraws : (m : Memory) (ticket : ℕ) → WithdrawFrame m (step m (withdraw ticket)).memory (row_no m ticket)
  pub reports : (m : Memory) → (step m report).memory ≡ m
  pub sends : (m : Memory) (block : List ℕ) → SendFrame m (step m (send block)).memory
  pub delivers : (m : Memory) (bytes : List ℕ) → DeliverFrame m (step m (deliver bytes)).memory (header_of bytes).slot
  pub works : (m : Memory) → WorkFrame m (step m work).memory
  -- a load the classes
  pub loads : (m : Memory) (classes : List ℕ) → let n = (step m (load classes)).memory in n ≡ with_classes m n.store.classes
  pub notices : (m : Memory) (a : Notice) → NoticeFrame m (step m (notice a)).memory a.about
