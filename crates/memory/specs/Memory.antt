-- A replica's memory.
use Rattle.std.specs.Prelude.{ℕ, ◌+◌, ◌*◌, min, Bool, ◌&&◌, List, eqb, ℤ, length, replicate}
use Rattle.block.specs.Message.{owner_of}
use Rattle.memory.specs.declared.Counts.{Counts}
use Rattle.memory.specs.declared.Group.{Group}
use Rattle.memory.specs.declared.Turn.{Turn}
use Rattle.memory.specs.declared.Txn.{Txn}

-- the open transactions: six rows; the tickets asked and not yet sent, in the order asked, zeros behind; for row r the items it wrote, rising, and the
-- value of each, from 8·r on, and the 128 values of its snapshot, from 128·r on
pub record Transactions : Type 0 where
  pub table : List Txn
  pub queue : List ℕ
  pub items : List ℕ
  pub writes : List ℤ
  pub snapshots : List ℤ

-- the 128 items: the value of each; document 01's *stamp*, the commit count just after its last write; and document 02's *class*, 1 to 8, all 0 where no table is loaded
pub record Store : Type 0 where
  pub values : List ℤ
  pub stamps : List ℕ
  pub classes : List ℕ

-- document 01's *places*, N blocks, the first byte 0 where one is empty; the block sent last; and document 02's *window*, 64 blocks (`Window.antt`)
pub record Blocks : Type 0 where
  pub places : List ℕ
  pub outbox : List ℕ
  pub window : List ℕ

pub record Memory : Type 0 where
  pub group : Group
  pub turn : Turn
  pub counts : Counts
  pub txns : Transactions
  pub store : Store
  pub blocks : Blocks

-- how many slots there are: one more than `max_slot`, the highest
abbrev pub slot_limit : ℕ
slot_limit = 100_000_000

-- stands in place of an own number where there is none, at document 02's *station*; no replica has it
abbrev pub no_number : ℕ
no_number = 255

-- of n replicas, with nobody out
abbrev pub group_of : ℕ → ℕ → Group
group_of n own = record { replicas = n; own = own; from = replicate 6 0; until = replicate 6 0 }

abbrev pub numberless : Group → Bool
numberless g = eqb g.own no_number

abbrev pub is_station : Memory → Bool
is_station m = numberless m.group

-- the replica that a slot belongs to
abbrev pub owner_at : Group → ℕ → ℕ
owner_at g slot = owner_of g.replicas slot

-- how many places there are: blocks of so many slots, from the turn's on, are kept
abbrev pub span : Group → ℕ
span g = g.replicas

-- how many blocks a window has, and how many bytes
abbrev pub window_slots : ℕ
window_slots = 64

abbrev pub window_bytes : ℕ
window_bytes = 32_768

-- one more; at its type's limit, where no list of calls leads, a count stays
unfoldable pub bump : ℕ → ℕ
bump n = min (n + 1) 4_294_967_295

-- ---- lengths: a part that is lent has its own; what is lent for a block, or as one, has 512 bytes

abbrev pub is_block : List ℕ → Bool
is_block bytes = eqb (length bytes) 512

abbrev pub queue_lent : Memory → Bool
queue_lent m = eqb (length m.txns.queue) 6

abbrev pub items_lent : Memory → Bool
items_lent m = eqb (length m.txns.items) 48

-- the items of all rows and their values
abbrev pub writes_lent : Memory → Bool
writes_lent m = items_lent m && eqb (length m.txns.writes) 48

abbrev pub snapshots_lent : Memory → Bool
snapshots_lent m = eqb (length m.txns.snapshots) 768

abbrev pub values_lent : Memory → Bool
values_lent m = eqb (length m.store.values) 128

abbrev pub stamps_lent : Memory → Bool
stamps_lent m = eqb (length m.store.stamps) 128

abbrev pub classes_lent : Memory → Bool
classes_lent m = eqb (length m.store.classes) 128

-- a block for each place
abbrev pub places_lent : Memory → Bool
places_lent m = eqb (length m.blocks.places) (512 * span m.group)

abbrev pub outbox_lent : Memory → Bool
outbox_lent m = is_block m.blocks.outbox

abbrev pub is_window : List ℕ → Bool
is_window bytes = eqb (length bytes) window_bytes

abbrev pub window_lent : Memory → Bool
window_lent m = is_window m.blocks.window

-- ---- a number or a part put in place of another

abbrev pub with_tickets : Counts → ℕ → Counts
with_tickets c n = record {
  commits = c.commits;
  done = c.done;
  tickets = n;
  committed = c.committed;
  read_only = c.read_only;
  aborted = c.aborted;
  withdrawn = c.withdrawn;
}

abbrev pub with_read_only : Counts → ℕ → Counts
with_read_only c n = record {
  commits = c.commits;
  done = c.done;
  tickets = c.tickets;
  committed = c.committed;
  read_only = n;
  aborted = c.aborted;
  withdrawn = c.withdrawn;
}

abbrev pub with_aborted : Counts → ℕ → Counts
with_aborted c n = record {
  commits = c.commits;
  done = c.done;
  tickets = c.tickets;
  committed = c.committed;
  read_only = c.read_only;
  aborted = n;
  withdrawn = c.withdrawn;
}

abbrev pub with_withdrawn : Counts → ℕ → Counts
with_withdrawn c n = record {
  commits = c.commits;
  done = c.done;
  tickets = c.tickets;
  committed = c.committed;
  read_only = c.read_only;
  aborted = c.aborted;
  withdrawn = n;
}

abbrev pub with_done : Counts → ℕ → Counts
with_done c n = record {
  commits = c.commits;
  done = n;
  tickets = c.tickets;
  committed = c.committed;
  read_only = c.read_only;
  aborted = c.aborted;
  withdrawn = c.withdrawn;
}

abbrev pub with_commit : Counts → ℕ → ℕ → ℕ → Counts
with_commit c n k a = record {
  commits = n;
  done = c.done;
  tickets = c.tickets;
  committed = k;
  read_only = c.read_only;
  aborted = a;
  withdrawn = c.withdrawn;
}

abbrev pub with_table : Transactions → List Txn → Transactions
with_table x t = record { table = t; queue = x.queue; items = x.items; writes = x.writes; snapshots = x.snapshots }

abbrev pub with_txns : Memory → Counts → Transactions → Memory
with_txns m c x = record { group = m.group; turn = m.turn; counts = c; txns = x; store = m.store; blocks = m.blocks }

abbrev pub with_group : Memory → Group → Memory
with_group m g = record { group = g; turn = m.turn; counts = m.counts; txns = m.txns; store = m.store; blocks = m.blocks }

abbrev pub with_blocks : Memory → Blocks → Memory
with_blocks m b = record { group = m.group; turn = m.turn; counts = m.counts; txns = m.txns; store = m.store; blocks = b }

abbrev pub with_classes : Memory → List ℕ → Memory
with_classes m l = record {
  group = m.group;
  turn = m.turn;
  counts = m.counts;
  txns = m.txns;
  store = record { values = m.store.values; stamps = m.store.stamps; classes = l };
  blocks = m.blocks;
}

abbrev pub with_turn : Memory → Turn → Counts → Blocks → Memory
with_turn m t c b = record { group = m.group; turn = t; counts = c; txns = m.txns; store = m.store; blocks = b }
