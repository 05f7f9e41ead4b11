-- A begin does what the model does. Assumes nothing.
use Prim.Native.Nat.{ℕ, suc, ◌+◌, ◌*◌, ◌≤◌, ◌<◌}
use mathlib.Core.Path.{◌≡◌, refl, ap, ◌∙◌}
use mathlib.Core.Logic.{◌⊎◌, inl, inr}
use mathlib.Core.List.{List, [], ◌∷◌, ◌++◌}
use native.Mathlib.Omega.{arith}
use lib.IntN.{ℤ}
use lib.ListN.{length, set, length-set}
use lib.Seq.{paste}
use borrow.Author.Tests.{lt-leb}
use Rattle.memory.specs.declared.Txn.{Txn}
use Rattle.memory.specs.Memory.{Memory, with_tickets}
use Rattle.memory.specs.Rows.{is_open, open_count, free_row, row_at}
use Rattle.engine.specs.Client.{free_no, begin_refusal, begin_at}
use Rattle.engine.specs.Calls.{step}
use Rattle.engine.specs.Calls.Call.{begin}
use Rattle.engine.proofs.Tests.{cond_by, less_by, not_first}
use Rattle.engine.proofs.Steps.{begin-by}
use Rattle.engine.proofs.Passed.{BeginPassed, begin_passed}
use Rattle.engine.proofs.RowLaws.{free_found, open_set, open_is, free_is}
use Rattle.engine.proofs.PlaceLaws.{slice-paste-other, slice-paste-same}
use Rattle.protocol.specs.Replica.{Setup, Transaction, transaction, Store, Transactions, transactions, began}
use Rattle.protocol.specs.Client.{ClientOutcome, answered, begin_step}
use Rattle.agreement.specs.Group.{heard}
use Rattle.agreement.proofs.View.{setup, txn_of, open_txns, store_of, view, Sound, Owed}
use Rattle.agreement.proofs.RowView.{length_rows}
use Rattle.agreement.proofs.RowChange.{SameMembers, row-taken}
use Rattle.agreement.proofs.RowWrites.{no_writes}
use Rattle.agreement.proofs.ClientStep.{refused-owes, client-owes}

-- ---- the model

-- the transaction that begins
abbrev new : Store ℤ → ℕ → Transaction ℤ
new b k = transaction (k + 1) 0 b.commits b.values []

abbrev joined : Store ℤ → Transactions ℤ → ClientOutcome ℤ
joined b k = answered (transactions (k.tickets + 1) (k.txns ++ (new b k.tickets ∷ [])) k.queue) (began (k.tickets + 1))

model_begins : (S : Setup ℤ) (b : Store ℤ) (k : Transactions ℤ) → length k.txns < 6 → k.tickets < S.ticket_limit → begin_step S b k ≡ joined b k
unfolding begin_step
model_begins S b k h u =
    let e : k.tickets + 1 ≡ suc k.tickets = omega arith in
    rw (lt-leb 6 (length k.txns) h, lt-leb S.ticket_limit k.tickets u, e)

-- ---- room

open_most : (l : List Txn) → open_count l ≤ length l
unfolding open_count
open_most [] = omega arith
open_most (t ∷ ts) = cond_by (λ (k : ℕ). k ≤ suc (length ts)) (is_open t) (λ e. omega (arith, open_most ts)) (λ e. omega (arith, open_most ts))

module _ (n : ℕ) (start : List ℤ) (m : Memory) (s : Sound n m) where
  module _ (p : BeginPassed m) where
    abbrev r : ℕ
    r = free_row m.txns.table

    abbrev row : Txn
    row = record { ticket = m.counts.tickets + 1; stage = 0; snapshot = m.counts.commits; writes = 0 }

    abbrev y : Rattle.memory.specs.Memory.Transactions
    y = record {
      table = set m.txns.table r row;
      queue = m.txns.queue;
      items = m.txns.items;
      writes = m.txns.writes;
      snapshots = paste m.txns.snapshots (128 * r) m.store.values 128;
    }

    is_free : (row_at m.txns.table r).ticket ≡ 0
    is_free = free_found m.txns.table s.shape.lengths.table p.row

    live : row.ticket ≡ 0 → ⊥
    live e = omega arith

    spare : length (open_txns m.txns) < 6
    spare =
        omega (
          arith,
          length_rows m.txns 0 m.txns.table,
          open_most (set m.txns.table r row),
          length-set m.txns.table r row,
          open_set m.txns.table r row (omega (arith, p.row, s.shape.lengths.table)),
          free_is (row_at m.txns.table r) is_free,
          open_is row live,
          s.shape.lengths.table,
        )

    fits : 128 * r + 128 ≤ length m.txns.snapshots
    fits = omega (arith, p.row, p.snapshots)

    here : txn_of y r row ≡ new (store_of m) m.counts.tickets
    unfolding txn_of
    here =
        ap (transaction (m.counts.tickets + 1) 0 m.counts.commits _) (no_writes r row m.txns.items m.txns.writes refl)
        ∙ ap (λ (l : List ℤ). transaction (m.counts.tickets + 1) 0 m.counts.commits l [])
        (slice-paste-same (128 * r) 128 m.txns.snapshots m.store.values fits p.values)

    beside : (k : ℕ) → (k ≡ r → ⊥) → txn_of y k (row_at m.txns.table k) ≡ txn_of m.txns k (row_at m.txns.table k)
    unfolding txn_of
    beside k d =
        let apart : (128 * k + 128 ≤ 128 * r) ⊎ (128 * r + 128 ≤ 128 * k) = less_by k r (λ h. inl (omega arith)) (λ h. inr (omega (arith, d))) in
        rw (slice-paste-other (128 * k) 128 (128 * r) 128 m.txns.snapshots m.store.values fits (omega (arith, p.values)) apart)

    members : SameMembers (open_txns m.txns ++ (new (store_of m) m.counts.tickets ∷ [])) (open_txns y)
    members =
        rw here at (row-taken m s.shape r p.row y row (record { table = refl; free = is_free; live = live; beside = λ k h d. beside k d }))

    begun-owes : Owed n start m begin (begin_at m r)
    unfolding begin_at heard Rattle.protocol.specs.System.step
    begun-owes =
        client-owes n start m begin (joined (store_of m) (view m).transactions) (begin_at m r) (with_tickets m.counts (m.counts.tickets + 1)) y
        (rw (model_begins (setup n start) (store_of m) (view m).transactions spare p.tickets))
        refl refl
        (record { done = refl; commits = refl; tickets = refl; queue = refl; txns = members })

  pub begin-owes : Owed n start m begin (step m begin)
  unfolding begin_refusal
  begin-owes =
      begin-by (Owed n start m begin) m (λ e. begun-owes (begin_passed m e))
      (λ e. refused-owes n start m begin (begin_refusal m (free_no m)) (not_first 9 _ refl))
