-- The replica with one row changed.
use Rattle.std.specs.Prelude.{ℕ, set}
use Rattle.memory.specs.declared.Counts.{Counts}
use Rattle.memory.specs.declared.Txn.{Txn}
use Rattle.replay_replica.specs.declared.Replica.{Replica}

-- with other numbers, and another record at row r
abbrev pub with_row : Replica → Counts → ℕ → Txn → Replica
with_row replica counts r t = record {
  group = replica.group;
  turn = replica.turn;
  counts = counts;
  rows = set replica.rows r t;
  queue = replica.queue;
  items = replica.items;
  writes = replica.writes;
  snapshots = replica.snapshots;
  values = replica.values;
  stamps = replica.stamps;
  classes = replica.classes;
  places = replica.places;
  outbox = replica.outbox;
  window = replica.window;
}
