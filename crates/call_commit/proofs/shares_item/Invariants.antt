-- `shares_item` meets its contract. The loop's invariant: an item is shared if the entries from e on share one. Assumes nothing.
use Rattle.std.proofs.Common.{◌≡◌}
use Rattle.engine.specs.Moves.{writeset_at, shares}
use Rattle.call_commit.proofs.EntryLaws.{rest}
use Rattle.call_commit.proofs.shares_item.Given as goal

abbrev pub invariant-loop-e : goal.invariant-loop-e
invariant-loop-e l = shares l.items (writeset_at l.block l.j).entries ≡ shares l.items (rest l.block l.j l.e-end l.e)
