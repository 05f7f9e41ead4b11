-- `apply` meets its contract. The loop's invariant: the entries from e on, put into the values and stamps as they are, give what all give. Assumes nothing.
use Rattle.std.proofs.Common.{◌≡◌}
use Rattle.engine.specs.Moves.{writeset_at, applied, stamped}
use Rattle.call_commit.proofs.EntryLaws.{rest}
use Rattle.call_commit.proofs.apply.Given as goal

abbrev pub invariant-loop-e : goal.invariant-loop-e
invariant-loop-e l =
    (applied (writeset_at l.block l.j).entries l.initial.values ≡ applied (rest l.block l.j l.e-end l.e) l.values)
    × (stamped l.commits (writeset_at l.block l.j).entries l.initial.stamps ≡ stamped l.commits (rest l.block l.j l.e-end l.e) l.stamps)
