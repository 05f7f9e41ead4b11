-- A withdraw, a report and a load do what the model does. Assumes nothing.
use Prim.Native.Nat.{ℕ}
use mathlib.Core.Path.{◌≡◌, refl}
use mathlib.Core.Option.{some}
use mathlib.Core.List.{List}
use lib.IntN.{ℤ}
use lib.ListN.{set}
use borrow.Author.Tests.{eq-eqb}
use Rattle.memory.specs.Memory.{Memory, bump, with_withdrawn, with_table}
use Rattle.memory.specs.Rows.{closed}
use Rattle.engine.specs.Classes.{load_refusal}
use Rattle.engine.specs.Client.{row_no, withdraw_refusal, withdraw_at, report_of, report_step}
use Rattle.engine.specs.Calls.{step}
use Rattle.engine.specs.Calls.Call.{withdraw, report, load}
use Rattle.engine.proofs.Tests.{not_first}
use Rattle.engine.proofs.Steps.{withdraw-by, load-by}
use Rattle.engine.proofs.Passed.{RowPassed, withdraw_passed}
use Rattle.engine.proofs.RowLaws.{row-found}
use Rattle.protocol.specs.Replica.{Transaction, Transactions, withdrew}
use Rattle.protocol.specs.Client.{find_txn, withdraw_step}
use Rattle.agreement.specs.Group.{heard}
use Rattle.agreement.proofs.View.{txn_of, view, Sound, Owed, follows, alike_same}
use Rattle.agreement.proofs.RowView.{find-row}
use Rattle.agreement.proofs.RowChange.{row-closed}
use Rattle.agreement.proofs.ClientStep.{ended, refused-owes, client-owes}

-- ---- withdraw

model_withdraws : (k : Transactions ℤ) (t : ℕ) (u : Transaction ℤ) → find_txn t k.txns ≡ some u → u.stage ≡ 0 → withdraw_step k t ≡ ended k t (withdrew t)
unfolding withdraw_step
model_withdraws k t u f s = rw (f, eq-eqb u.stage 0 s)

module _ (n : ℕ) (start : List ℤ) (m : Memory) (s : Sound n m) where
  withdrawn-owes : (t : ℕ) → RowPassed m t → Owed n start m (withdraw t) (withdraw_at m (row_no m t))
  unfolding withdraw_at heard Rattle.protocol.specs.System.step txn_of
  withdrawn-owes t p =
      let f = row-found t m.txns.table s.shape.lengths.table p.row in
      client-owes n start m (withdraw t) (ended (view m).transactions t (withdrew t)) (withdraw_at m (row_no m t))
      (with_withdrawn m.counts (bump m.counts.withdrawn)) (with_table m.txns (set m.txns.table (row_no m t) closed))
      (rw (model_withdraws (view m).transactions t _ (find-row m s.shape t p.row) p.active))
      refl refl
      (record {
        done = refl;
        commits = refl;
        tickets = refl;
        queue = refl;
        txns = row-closed m s.shape (row_no m t) p.row f.live t f.is;
      })

  pub withdraw-owes : (t : ℕ) → Owed n start m (withdraw t) (step m (withdraw t))
  unfolding withdraw_refusal
  withdraw-owes t =
      withdraw-by (Owed n start m (withdraw t)) m t (λ e. withdrawn-owes t (withdraw_passed m t e))
      (λ e. refused-owes n start m (withdraw t) (withdraw_refusal m (row_no m t)) (not_first 9 _ refl))

  -- ---- report

  pub report-owes : Owed n start m report (step m report)
  unfolding step report_step report_of heard Rattle.protocol.specs.System.step
  report-owes = follows refl (alike_same (view m))

  -- ---- load

  pub load-owes : (l : List ℕ) → Owed n start m (load l) (step m (load l))
  unfolding load_refusal heard Rattle.protocol.specs.System.step
  load-owes l =
      load-by (Owed n start m (load l)) m l (λ e. follows refl (alike_same (view m)))
      (λ e. refused-owes n start m (load l) (load_refusal m l) (not_first 9 _ refl))
