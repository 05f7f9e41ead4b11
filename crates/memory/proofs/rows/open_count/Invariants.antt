-- n and the open rows behind are all open rows.
use Rattle.std.proofs.Common.{◌≡◌, ◌+◌, ◌≤◌, drop}
use Rattle.memory.specs.Rows.{open_count}
use Rattle.memory.proofs.rows.open_count.Given as goal

abbrev pub invariant-loop-t : goal.invariant-loop-t
invariant-loop-t l = (l.n ≤ l.t-index) × (open_count l.fn.table ≡ l.n + open_count (drop l.t-index l.fn.table))
