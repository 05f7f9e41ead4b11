-- A read does what the model does. Assumes nothing.
use Prim.Native.Nat.{ℕ, ◌+◌, ◌*◌, ◌<◌}
use mathlib.Core.Path.{◌≡◌, refl, sym, ap, ◌∙◌}
use mathlib.Core.Option.{some}
use mathlib.Core.List.{List}
use native.Mathlib.Omega.{arith}
use lib.IntN.{ℤ, pos}
use lib.ListN.{get_or}
use borrow.Author.Tests.{eq-eqb, lt-leb, leb-false}
use Rattle.block.proofs.ListLaws.{get_or-slice}
use Rattle.memory.specs.Memory.{Memory}
use Rattle.engine.specs.Answers.{outcome}
use Rattle.engine.specs.Client.{row_no, row_in, read_refusal, value_for}
use Rattle.engine.specs.Calls.{step}
use Rattle.engine.specs.Calls.Call.{read}
use Rattle.engine.proofs.Tests.{not_first, passes}
use Rattle.engine.proofs.Steps.{read_by}
use Rattle.engine.proofs.Passed.{RowPassed, row-passed}
use Rattle.protocol.specs.Writesets.{value_or}
use Rattle.protocol.specs.Replica.{Transaction, Transactions, got}
use Rattle.protocol.specs.Client.{find_txn, answered, read_step}
use Rattle.agreement.specs.Group.{heard}
use Rattle.agreement.proofs.View.{setup, txn_of, view, Sound, Owed, follows, alike_same}
use Rattle.agreement.proofs.RowView.{find-row}
use Rattle.agreement.proofs.RowWrites.{writes-say}
use Rattle.agreement.proofs.ClientStep.{refused-owes}

-- what the transaction sees of the item
abbrev seen : Transaction ℤ → ℕ → ℤ
seen u i = value_or i (get_or u.values i (pos 0)) u.writes

model_reads : (n : ℕ) (start : List ℤ) (k : Transactions ℤ) (t i : ℕ) (u : Transaction ℤ) → i < 128 → find_txn t k.txns ≡ some u → u.stage ≡ 0
    → read_step (setup n start) k t i ≡ answered k (got t i (seen u i))
unfolding read_step
model_reads n start k t i u h f s = rw (lt-leb 128 i h, f, eq-eqb u.stage 0 s)

record ReadPassed (m : Memory) (t i : ℕ) : Type 0 where
  item : i < 128
  own : RowPassed m t

read-passed : (m : Memory) (t i : ℕ) → read_refusal m (row_no m t) i ≡ 0 → ReadPassed m t i
unfolding read_refusal
read-passed m t i e =
    let a = passes _ _ refl e in
    let b = passes _ _ refl a.1 in
    let c = passes _ _ refl b.1 in
    record { item = leb-false 128 i b.0; own = row-passed m t c.0 (passes _ _ refl c.1).0 }

module _ (n : ℕ) (start : List ℤ) (m : Memory) (s : Sound n m) (t i : ℕ) where
  module _ (p : ReadPassed m t i) where
    value-seen : value_for m (row_no m t) i ≡ seen (txn_of m.txns (row_no m t) (row_in m (row_no m t))) i
    unfolding value_for txn_of
    value-seen =
        let r = row_no m t in
        rw (get_or-slice m.txns.snapshots (pos 0) (128 * r) (128 * r + 128) i (128 * r + i) refl (omega (arith, p.item)))
        (sym (writes-say r (row_in m (row_no m t)) m.txns.items m.txns.writes p.own.row s.shape.lengths.items s.shape.lengths.writes i
        (get_or m.txns.snapshots (128 * r + i) (pos 0))))

    model : read_step (setup n start) (view m).transactions t i ≡ answered (view m).transactions (got t i (value_for m (row_no m t) i))
    unfolding txn_of
    model =
        model_reads n start (view m).transactions t i _ p.item (find-row m s.shape t p.own.row) p.own.active
        ∙ ap (λ (v : ℤ). answered (view m).transactions (got t i v)) (sym value-seen)

    got-owes : Owed n start m (read t i) (outcome (Rattle.engine.specs.Answers.Answer.got (value_for m (row_no m t) i)) m)
    unfolding heard Rattle.protocol.specs.System.step
    got-owes = follows (rw model) (rw model (alike_same (view m)))

  pub read-owes : Owed n start m (read t i) (step m (read t i))
  unfolding read_refusal
  read-owes =
      read_by (Owed n start m (read t i)) m t i (λ e. got-owes (read-passed m t i e))
      (λ e. refused-owes n start m (read t i) (read_refusal m (row_no m t) i) (not_first 9 _ refl))
