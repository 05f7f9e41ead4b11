-- `put_bytes` meets its contract. The loop's invariant: the first i bytes are put.
use mathlib.Core.Path.{◌≡◌}
use lib.ListN.{length, take}
use Rattle.replay_print.specs.Text.{Appends}
use Rattle.replay_print.proofs.put_bytes.Given as goal

abbrev pub invariant-loop-byte : goal.invariant-loop-byte
invariant-loop-byte l = (length l.out ≡ length l.initial.out) × Appends (take l.byte-index l.bytes) l.initial.out l.at l.out l.end
