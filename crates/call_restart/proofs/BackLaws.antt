-- The block that a restart gives back, by its number in the journal. Assumes nothing.
use Prim.Native.Nat.{ℕ, zero, suc, ◌+◌, ◌*◌, ◌-◌, ◌<◌}
use mathlib.Core.Path.{◌≡◌}
use mathlib.Core.List.{List}
use native.Mathlib.Omega.{arith}
use lib.ListN.{take, drop, replicate}
use Rattle.call_journal.specs.Replays.{block_number}

pub back_none : (k : ℕ) (journal : List ℕ) → k ≡ 0 → replicate 512 0 ≡ block_number k journal
unfolding block_number
back_none k journal e = rw e

pub back_block : (k : ℕ) (journal : List ℕ) (at : ℕ) → 0 < k → at ≡ 512 * (k - 1) → take (at + 512 - at) (drop at journal) ≡ block_number k journal
unfolding block_number
back_block zero journal at h e = absurd (omega (arith, h))
back_block (suc k) journal at h e =
    let f : at ≡ 512 * k = omega arith in
    let g : at + 512 - at ≡ 512 = omega arith in
    rw (g, f)
