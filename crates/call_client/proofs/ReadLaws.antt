-- The value that a read gives. Assumes nothing.
use Prim.Native.Nat.{ℕ, ◌+◌, ◌*◌, ◌≤◌, ◌<◌, min}
use mathlib.Core.Path.{◌≡◌, ap, ◌∙◌}
use native.Mathlib.Omega.{arith}
use borrow.Author.Tests.{lt-ltb, le-ltb}
use lib.IntN.{pos}
use lib.ListN.{get_or}
use lib.Seq.{slice}
use Rattle.block.proofs.ListLaws.{lent, lent_slice}
use Rattle.memory.specs.declared.Txn.{Txn}
use Rattle.memory.specs.Memory.{Memory}
use Rattle.memory.specs.Rows.{row_at, index_of}
use Rattle.engine.specs.Client.{value_for}

-- the value: n is the row's count, k where the item stands among the row's own
module _ (m : Memory) (r item : ℕ) (t : Txn) (at : t ≡ row_at m.txns.table r) (n k : ℕ) (count : n ≡ min t.writes 8)
    (index : k ≡ index_of item (lent (8 * r) (8 * r + n) m.txns.items)) where
  place : k ≡ index_of item (slice (8 * r) (8 * r + n) m.txns.items)
  place = index ∙ ap (index_of item) (lent_slice (8 * r) (8 * r + n) m.txns.items (omega arith))

  pub value-own : k < n → get_or m.txns.writes (8 * r + k) (pos 0) ≡ value_for m r item
  unfolding value_for
  value-own h = rw (← at, ← count, ← place, lt-ltb k n h)

  pub value-old : n ≤ k → get_or m.txns.snapshots (128 * r + item) (pos 0) ≡ value_for m r item
  unfolding value_for
  value-old h = rw (← at, ← count, ← place, le-ltb k n h)
