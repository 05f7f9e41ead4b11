-- A slot's place lies in the window. Assumes nothing.
use Prim.Native.Nat.{ℕ, ◌+◌, ◌≤◌}
use native.Mathlib.Nat.{mod-lt}
use native.Mathlib.Omega.{arith}
use Rattle.memory.specs.Memory.{window_slots, window_bytes}
use Rattle.memory.specs.Turns.{place_start}

pub window_fits : (s : ℕ) → place_start window_slots s + 512 ≤ window_bytes
unfolding place_start
window_fits s = let l = mod-lt s {m = 64} (omega arith) in omega arith
