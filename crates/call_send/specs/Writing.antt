-- What is written into the block.
use Rattle.std.specs.Prelude.{ℕ, cond, List, [], eqb, ℤ}
use Rattle.block.specs.declared.Header.{Header}
use Rattle.block.specs.Message.{Record}
use Rattle.memory.specs.declared.Group.{Group}
use Rattle.memory.specs.declared.Turn.{Turn}
use Rattle.memory.specs.declared.Txn.{Txn}
use Rattle.engine.specs.Moves.{writeset_of}

-- a ticket's writeset, from the parts that it stands in
abbrev pub writeset_in : List Txn → List ℕ → List ℤ → ℕ → Record
writeset_in table items writes = writeset_of (record { table = table; queue = []; items = items; writes = writes; snapshots = [] })

-- the header of a message with so many writesets
abbrev pub header_with : Group → Turn → ℕ → Header
header_with group turn n = record {
  kind = cond (eqb n 0) 1 2;
  sender = group.own;
  replicas = group.replicas;
  count = n;
  slot = turn.slot;
}
