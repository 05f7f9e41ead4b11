-- `host_table::end_rows` meets its contract. The loop's invariant: the rows marked by the first marks have ended. Assumes nothing.
use Rattle.std.proofs.Common.{◌≡◌, take}
use Rattle.memory.specs.Rows.{end_rows}
use Rattle.host_table.proofs.end_rows.Given as goal

abbrev pub invariant-loop-at : goal.invariant-loop-at
invariant-loop-at l = l.table ≡ end_rows (take l.at l.fn.ended) l.fn.table
