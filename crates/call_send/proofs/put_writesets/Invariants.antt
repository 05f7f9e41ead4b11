-- The loop's invariant: the block starts with its first 16 bytes and the bytes of the first j writesets, and the rest is as it was.
use Rattle.std.proofs.Common.{◌+◌, ◌*◌, ◌≡◌, length}
use Rattle.block.proofs.WriteLaws.{Filled}
use Rattle.call_send.proofs.BlockLaws.{block_to}
use Rattle.call_send.proofs.put_writesets.Given as goal

abbrev pub invariant-loop-j : goal.invariant-loop-j
invariant-loop-j l =
    (length l.block ≡ 512) × Filled l.initial.block (16 + 72 * l.j) (block_to l.initial.block l.rows l.queue l.items l.writes l.j) l.block
