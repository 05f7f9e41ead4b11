-- Which parts of a replica's memory each call is lent: the memory m with those in place of its own. A contract speaks of every m.
use Rattle.std.specs.Prelude.{ℕ, List, ℤ}
use Rattle.memory.specs.declared.Counts.{Counts}
use Rattle.memory.specs.declared.Group.{Group}
use Rattle.memory.specs.declared.Turn.{Turn}
use Rattle.memory.specs.declared.Txn.{Txn}
use Rattle.memory.specs.Memory.{Memory}

-- all of them: what a make is lent
abbrev pub all_parts : Group → Turn → Counts → List Txn → List ℕ → List ℕ → List ℤ → List ℤ → List ℤ → List ℕ → List ℕ → List ℕ → List ℕ → List ℕ → Memory
all_parts group turn counts table queue items writes snapshots values stamps classes places outbox window = record {
  group = group;
  turn = turn;
  counts = counts;
  txns = record { table = table; queue = queue; items = items; writes = writes; snapshots = snapshots };
  store = record { values = values; stamps = stamps; classes = classes };
  blocks = record { places = places; outbox = outbox; window = window };
}

abbrev pub begin_parts : Memory → List Txn → Counts → List ℤ → List ℤ → Memory
begin_parts m table counts values snapshots = record {
  group = m.group;
  turn = m.turn;
  counts = counts;
  txns = record { table = table; queue = m.txns.queue; items = m.txns.items; writes = m.txns.writes; snapshots = snapshots };
  store = record { values = values; stamps = m.store.stamps; classes = m.store.classes };
  blocks = m.blocks;
}

abbrev pub read_parts : Memory → List Txn → List ℕ → List ℤ → List ℤ → Memory
read_parts m table items writes snapshots = record {
  group = m.group;
  turn = m.turn;
  counts = m.counts;
  txns = record { table = table; queue = m.txns.queue; items = items; writes = writes; snapshots = snapshots };
  store = m.store;
  blocks = m.blocks;
}

abbrev pub write_parts : Memory → Group → Turn → Counts → List Txn → List ℕ → List ℤ → List ℕ → List ℕ → List ℕ → Memory
write_parts m group turn counts table items writes stamps classes places = record {
  group = group;
  turn = turn;
  counts = counts;
  txns = record { table = table; queue = m.txns.queue; items = items; writes = writes; snapshots = m.txns.snapshots };
  store = record { values = m.store.values; stamps = stamps; classes = classes };
  blocks = record { places = places; outbox = m.blocks.outbox; window = m.blocks.window };
}

abbrev pub ask_parts : Memory → Counts → List Txn → List ℕ → Memory
ask_parts m counts table queue = record {
  group = m.group;
  turn = m.turn;
  counts = counts;
  txns = record { table = table; queue = queue; items = m.txns.items; writes = m.txns.writes; snapshots = m.txns.snapshots };
  store = m.store;
  blocks = m.blocks;
}

abbrev pub withdraw_parts : Memory → Counts → List Txn → Memory
withdraw_parts m counts table = ask_parts m counts table m.txns.queue

abbrev pub report_parts : Memory → Turn → Counts → List Txn → Memory
report_parts m turn counts table = record {
  group = m.group;
  turn = turn;
  counts = counts;
  txns = record { table = table; queue = m.txns.queue; items = m.txns.items; writes = m.txns.writes; snapshots = m.txns.snapshots };
  store = m.store;
  blocks = m.blocks;
}

abbrev pub send_parts : Memory → Group → Turn → List Txn → List ℕ → List ℕ → List ℤ → List ℕ → Memory
send_parts m group turn table queue items writes outbox = record {
  group = group;
  turn = turn;
  counts = m.counts;
  txns = record { table = table; queue = queue; items = items; writes = writes; snapshots = m.txns.snapshots };
  store = m.store;
  blocks = record { places = m.blocks.places; outbox = outbox; window = m.blocks.window };
}

abbrev pub deliver_parts : Memory → Group → Turn → List ℕ → List ℕ → Memory
deliver_parts m group turn places outbox = record {
  group = group;
  turn = turn;
  counts = m.counts;
  txns = m.txns;
  store = m.store;
  blocks = record { places = places; outbox = outbox; window = m.blocks.window };
}

abbrev pub work_parts : Memory → Group → Turn → Counts → List Txn → List ℕ → List ℕ → List ℤ → List ℕ → List ℕ → List ℕ → Memory
work_parts m group turn counts table queue items values stamps places window = record {
  group = group;
  turn = turn;
  counts = counts;
  txns = record { table = table; queue = queue; items = items; writes = m.txns.writes; snapshots = m.txns.snapshots };
  store = record { values = values; stamps = stamps; classes = m.store.classes };
  blocks = record { places = places; outbox = m.blocks.outbox; window = window };
}

abbrev pub notice_parts : Memory → Group → Turn → List ℕ → Memory
notice_parts m group turn places = record {
  group = group;
  turn = turn;
  counts = m.counts;
  txns = m.txns;
  store = m.store;
  blocks = record { places = places; outbox = m.blocks.outbox; window = m.blocks.window };
}

abbrev pub load_parts : Memory → Turn → List ℕ → Memory
load_parts m turn classes = record {
  group = m.group;
  turn = turn;
  counts = m.counts;
  txns = m.txns;
  store = record { values = m.store.values; stamps = m.store.stamps; classes = classes };
  blocks = m.blocks;
}
