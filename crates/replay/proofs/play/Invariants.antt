-- `play` is safe: what is to be read lies within the buffer, and what is held within the other.
use Prim.Native.Nat.{◌≤◌}
use mathlib.Core.Path.{◌≡◌}
use lib.ListN.{length}
use Rattle.replay.proofs.play.Given as goal

abbrev pub invariant-loop-turn : goal.invariant-loop-turn
invariant-loop-turn g l =
    (length l.pages ≡ 524288) × (length l.kept ≡ 32768) × (length l.buffer ≡ 65536) × (length l.out ≡ 65536) × (l.output.held ≤ 65536)
