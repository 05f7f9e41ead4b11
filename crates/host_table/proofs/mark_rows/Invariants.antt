-- `host_table::mark_rows` meets its contract. The loop's invariant: the first i rows are sent, the others as they were. Assumes nothing.
use Rattle.std.proofs.Common.{◌≡◌}
use Rattle.host_table.proofs.TableLaws.{sent_upto}
use Rattle.host_table.proofs.mark_rows.Given as goal

abbrev pub invariant-loop-i : goal.invariant-loop-i
invariant-loop-i l = l.table ≡ sent_upto l.i l.initial.table
