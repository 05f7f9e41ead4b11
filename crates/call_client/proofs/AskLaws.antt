-- What an ask that is not refused does, by what its transaction wrote. Assumes nothing.
use Prim.Native.Nat.{ℕ, min}
use mathlib.Core.Path.{◌≡◌}
use native.Mathlib.Omega.{arith}
use borrow.Author.Tests.{ne_eqb}
use Rattle.memory.specs.declared.Txn.{Txn}
use Rattle.memory.specs.Memory.{Memory}
use Rattle.memory.specs.Rows.{row_at}
use Rattle.engine.specs.Client.{ask_refusal, read_only_at, queue_at, ask_row}
use Rattle.call_reply.proofs.FaultLaws.{accepted_by}

module _ (m : Memory) (r : ℕ) (t : Txn) (at : t ≡ row_at m.txns.table r) (accepted : 0 ≡ ask_refusal m r) where
  pub ask-empty : t.writes ≡ 0 → read_only_at m r ≡ ask_row m r
  unfolding ask_row
  ask-empty e = rw (← at, e) (accepted_by (ask_refusal m r) m (read_only_at m r) accepted)

  pub ask-taken : (t.writes ≡ 0 → ⊥) → queue_at m r t ≡ ask_row m r
  unfolding ask_row
  ask-taken e =
      let n : min t.writes 8 ≡ 0 → ⊥ = λ z. e (omega arith) in
      rw (← at, ne_eqb (min t.writes 8) 0 n) (accepted_by (ask_refusal m r) m (queue_at m r t) accepted)
