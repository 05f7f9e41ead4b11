-- `abort_rows` meets its contract. The loop's invariant: the rows from r on that are hit are marked, and their tickets are listed. Assumes nothing.
use Rattle.engine.specs.Moves.{writeset_at}
use Rattle.call_commit.proofs.HitLaws.{Aborting}
use Rattle.call_commit.proofs.abort_rows.Given as goal

abbrev pub invariant-loop-r : goal.invariant-loop-r
invariant-loop-r l = Aborting (writeset_at l.block l.j).entries l.items l.table l.marks l.tickets l.count l.r
