-- `highest_ticket` meets its contract. The loop's invariant: the highest of all is the highest of the one found and those from the j-th on. Assumes nothing.
use Rattle.std.proofs.Common.{◌≡◌, max}
use Rattle.engine.specs.Restart.{writesets_in, highest_ticket}
use Rattle.call_journal.proofs.WritesetLaws.{rest}
use Rattle.call_journal.proofs.highest_ticket.Given as goal

abbrev pub invariant-loop-j : goal.invariant-loop-j
invariant-loop-j l = max l.ticket (highest_ticket (writesets_in l.block)) ≡ max l.highest (highest_ticket (rest l.block l.j-end l.j))
