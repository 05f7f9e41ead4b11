-- The loop's invariant: the block is the one found among those that are left.
use Rattle.std.proofs.Common.{◌≡◌, drop}
use Rattle.week_kept.specs.Blocks.{found_in, blocks_of}
use Rattle.week_kept.proofs.find.Given as goal

abbrev pub invariant-loop-one : goal.invariant-loop-one
invariant-loop-one l = found_in l.slot (blocks_of l.fn.kept) ≡ found_in l.slot (drop l.one-index l.one-items)
