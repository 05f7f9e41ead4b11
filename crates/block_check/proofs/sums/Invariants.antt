-- Before turn t the sums are those over the first 4·t words, and small enough for four more.
use Prim.Native.Nat.{◌+◌, ◌*◌, ◌-◌, ◌≤◌}
use mathlib.Core.Path.{◌≡◌}
use Rattle.block.specs.Check.{sum_to, weighted_to}
use Rattle.block_check.proofs.sums.Given as goal

abbrev pub invariant-loop-turn : goal.invariant-loop-turn
invariant-loop-turn l =
    (l.a ≤ 65536 * l.turn) × (l.b ≤ 65536 * l.turn) × (l.c ≤ 65536 * l.turn) × (l.d ≤ 65536 * l.turn)
    × (l.e ≤ 4128768 * l.turn) × (l.f ≤ 4128768 * l.turn) × (l.g ≤ 4128768 * l.turn) × (l.h ≤ 4128768 * l.turn)
    × (l.a + l.b + l.c + l.d ≡ sum_to l.bytes (4 * l.turn))
    × (4 * (l.e + l.f + l.g + l.h) + (252 - 4 * l.turn) * (l.a + l.b + l.c + l.d) ≡ weighted_to l.bytes (4 * l.turn) + (l.b + 2 * l.c + 3 * l.d))
