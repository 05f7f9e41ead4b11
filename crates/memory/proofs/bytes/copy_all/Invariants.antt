-- The first k are copied.
use Rattle.std.proofs.Common.{◌≡◌, length, take}
use Rattle.memory.proofs.bytes.copy_all.Given as goal

abbrev pub invariant-loop-k : goal.invariant-loop-k
invariant-loop-k g l = (length l.to ≡ length l.fn.from) × (take l.k l.to ≡ take l.k l.fn.from)
