-- The replica with what a make or a restart gives it.
use Rattle.std.specs.Prelude.{replicate, Result}
use Rattle.memory.specs.declared.Group.{Group}
use Rattle.memory.specs.Rows.{closed}
use Rattle.call_reply.specs.declared.Restarted.{Restarted}
use Rattle.call_reply.specs.declared.faults.Fault.{Fault}
use Rattle.call_reply.specs.Faults.{left_by}
use Rattle.call_make.specs.Made.{if_made}
use Rattle.replay_replica.specs.declared.Replica.{Replica}

abbrev pub with_group : Replica → Group → Replica
with_group replica group = record {
  group = group;
  turn = replica.turn;
  counts = replica.counts;
  rows = replica.rows;
  queue = replica.queue;
  items = replica.items;
  writes = replica.writes;
  snapshots = replica.snapshots;
  values = replica.values;
  stamps = replica.stamps;
  classes = replica.classes;
  places = replica.places;
  outbox = replica.outbox;
  window = replica.window;
}

-- with group, turn, counts and free rows by a restart, where it is accepted
abbrev pub with_made : Replica → Result Restarted Fault → Replica
with_made replica r =
    let left = left_by r (record { count = 0; group = replica.group; turn = replica.turn; counts = replica.counts }) in
    record {
      group = left.group;
      turn = left.turn;
      counts = left.counts;
      rows = if_made r (replicate 6 closed) replica.rows;
      queue = replica.queue;
      items = replica.items;
      writes = replica.writes;
      snapshots = replica.snapshots;
      values = replica.values;
      stamps = replica.stamps;
      classes = replica.classes;
      places = replica.places;
      outbox = replica.outbox;
      window = replica.window;
    }
