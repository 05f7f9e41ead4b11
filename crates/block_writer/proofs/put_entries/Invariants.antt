-- The part starts with the bytes of the first e entries, and the rest is as it was.
use Prim.Native.Nat.{◌*◌}
use Rattle.block.proofs.WriteLaws.{Filled, entries_to}
use Rattle.block_writer.proofs.put_entries.Given as goal

abbrev pub invariant-loop-e : goal.invariant-loop-e
invariant-loop-e l = Filled l.initial.part (8 * l.e) (entries_to l.items l.values l.e) l.part
