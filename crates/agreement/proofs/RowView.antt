-- The open rows as transactions: which they are, the one of a ticket, and what a row closed, changed or taken leaves. Assumes nothing.
use Prim.Native.Nat.{ℕ, zero, suc, ◌+◌, ◌<◌}
use mathlib.Core.Path.{◌≡◌, refl, sym, ap, ◌∙◌}
use mathlib.Core.Logic.{◌⊎◌, inl, inr}
use mathlib.Core.Bool.{Bool, true, false, cond}
use mathlib.Core.Option.{Option, none, some}
use mathlib.Core.List.Memᴰ
use mathlib.Core.List.{List, [], ◌∷◌}
use native.Mathlib.Nat.{zero-add, suc-add, add-suc, add-zero, not-suc-le-zero, le_of_suc-le-suc}
use native.Mathlib.Omega.{arith}
use lib.Dec.{eqb}
use lib.IntN.{ℤ}
use lib.ListN.{length}
use borrow.Author.Tests.{eqb-true, eqb-false, eq-eqb, ne_eqb, not-true}
use Rattle.memory.specs.declared.Txn.{Txn}
use Rattle.memory.specs.Memory.{Transactions, Memory}
use Rattle.memory.specs.Rows.{is_open, open_count, row_of, row_at}
use Rattle.engine.specs.Shape.{Shape}
use Rattle.engine.proofs.Tests.{clash, same_by}
use Rattle.engine.proofs.RowLaws.{FoundRow, row-found}
use Rattle.protocol.specs.Lists.{Mem}
use Rattle.protocol.specs.Replica.{Transaction}
use Rattle.protocol.specs.Client.{find_txn}
use Rattle.protocol.proofs.ListLaws.{first_some, first-none}
use Rattle.agreement.proofs.View.{txn_of, rows_from, open_txns}

-- ---- the members

-- u is one of the open rows of ts, counted from row i on
pub record RowIn (x : Transactions) (i : ℕ) (ts : List Txn) (u : Transaction ℤ) : Type 0 where
  pub row : ℕ
  pub within : row < length ts
  pub live : (row_at ts row).ticket ≡ 0 → ⊥
  pub is : u ≡ txn_of x (i + row) (row_at ts row)

later : (x : Transactions) (i : ℕ) (t : Txn) (ts : List Txn) (u : Transaction ℤ) → RowIn x (suc i) ts u → RowIn x i (t ∷ ts) u
later x i t ts u f = record { row = suc f.row; within = omega (arith, f.within); live = f.live; is = rw (add-suc i f.row, ← suc-add i f.row) f.is }

rows_in : (x : Transactions) (i : ℕ) (ts : List Txn) (u : Transaction ℤ) → Mem u (rows_from x i ts) → RowIn x i ts u
unfolding rows_from
rows_in x i [] u h = absurd (Memᴰ.not-nil h)
rows_in x i (t ∷ ts) u h = go (is_open t) refl h (λ q. later x i t ts u (rows_in x (suc i) ts u q))
  where
    here : is_open t ≡ true → (u ≡ txn_of x i t) ⊎ Mem u (rows_from x (suc i) ts) → (Mem u (rows_from x (suc i) ts) → RowIn x i (t ∷ ts) u) → RowIn x i (t ∷ ts) u
    here e (inl q) ih = record { row = 0; within = omega arith; live = eqb-false t.ticket 0 (not-true _ e); is = rw (add-zero i) q }
    here e (inr q) ih = ih q

    go : (b : Bool) → is_open t ≡ b → Mem u (cond b (txn_of x i t ∷ rows_from x (suc i) ts) (rows_from x (suc i) ts))
        → (Mem u (rows_from x (suc i) ts) → RowIn x i (t ∷ ts) u) → RowIn x i (t ∷ ts) u
    go true e q ih = here e (Memᴰ.cases_cons q) ih
    go false e q ih = ih q

in_rows : (x : Transactions) (i : ℕ) (ts : List Txn) (k : ℕ) → k < length ts → ((row_at ts k).ticket ≡ 0 → ⊥) → Mem (txn_of x (i + k) (row_at ts k)) (rows_from x i ts)
unfolding rows_from
in_rows x i [] k h o = absurd (not-suc-le-zero h)
in_rows x i (t ∷ ts) zero h o = rw (ne_eqb t.ticket 0 o, add-zero i) (Memᴰ.head refl)
in_rows x i (t ∷ ts) (suc k) h o = rw (add-suc i k, ← suc-add i k) (go (is_open t) (in_rows x (suc i) ts k (le_of_suc-le-suc h) o))
  where
    go : (b : Bool) → Mem (txn_of x (suc i + k) (row_at ts k)) (rows_from x (suc i) ts) → Mem (txn_of x (suc i + k) (row_at ts k)) (cond b (txn_of x i t ∷ rows_from x (suc i) ts) (rows_from x (suc i) ts))
    go true q = Memᴰ.tail q
    go false q = q

-- u is an open row
pub record OpenRow (x : Transactions) (u : Transaction ℤ) : Type 0 where
  pub row : ℕ
  pub within : row < length x.table
  pub live : (row_at x.table row).ticket ≡ 0 → ⊥
  pub is : u ≡ txn_of x row (row_at x.table row)

pub open_row : (x : Transactions) (u : Transaction ℤ) → Mem u (open_txns x) → OpenRow x u
open_row x u h = let f = rows_in x 0 x.table u h in record { row = f.row; within = f.within; live = f.live; is = rw zero-add at f.is }

pub row_open : (x : Transactions) (k : ℕ) → k < length x.table → ((row_at x.table k).ticket ≡ 0 → ⊥) → Mem (txn_of x k (row_at x.table k)) (open_txns x)
row_open x k h o = rw zero-add at (in_rows x 0 x.table k h o)

-- ---- how many

pub length_rows : (x : Transactions) (i : ℕ) (ts : List Txn) → length (rows_from x i ts) ≡ open_count ts
unfolding rows_from open_count
length_rows x i [] = refl
length_rows x i (t ∷ ts) = go (is_open t) (length_rows x (suc i) ts)
  where
    go : (b : Bool) → length (rows_from x (suc i) ts) ≡ open_count ts
        → length (cond b (txn_of x i t ∷ rows_from x (suc i) ts) (rows_from x (suc i) ts)) ≡ cond b (suc (open_count ts)) (open_count ts)
    go true e = ap suc e
    go false e = e

-- ---- the transaction of a ticket

pub ticket-of : (x : Transactions) (r : ℕ) (t : Txn) → (txn_of x r t).ticket ≡ t.ticket
unfolding txn_of
ticket-of x r t = refl

module _ {over : ℕ} (m : Memory) (S : Shape over m) where
  abbrev x : Transactions
  x = m.txns

  abbrev table : List Txn
  table = m.txns.table

  -- two open rows with one ticket are one
  pub one-row : (j k : ℕ) → j < 6 → k < 6 → ((row_at table j).ticket ≡ 0 → ⊥) → (row_at table j).ticket ≡ (row_at table k).ticket → j ≡ k
  one-row j k h u o e = same_by j k (λ q. q) (λ d. absurd (S.distinct j k h u d o e))

  module _ (t : ℕ) (h : row_of t table < 6) where
    abbrev r : ℕ
    r = row_of t table

    found : FoundRow t table
    found = row-found t table S.lengths.table h

    pub find-row : find_txn t (open_txns x) ≡ some (txn_of x r (row_at table r))
    find-row = go (find_txn t (open_txns x)) refl
      where
        same : (u : Transaction ℤ) → OpenRow x u → u.ticket ≡ t → u ≡ txn_of x r (row_at table r)
        same u f e =
            f.is ∙ ap (λ (k : ℕ). txn_of x k (row_at table k))
            (one-row f.row r (omega (arith, f.within, S.lengths.table)) h f.live
            (sym (ticket-of x f.row (row_at table f.row)) ∙ ap (λ (v : Transaction ℤ). v.ticket) (sym f.is) ∙ e ∙ sym found.is))

        go : (o : Option (Transaction ℤ)) → find_txn t (open_txns x) ≡ o → o ≡ some (txn_of x r (row_at table r))
        go none e =
            clash (eq-eqb _ t (ticket-of x r (row_at table r) ∙ found.is))
            (first-none (λ u. eqb u.ticket t) (open_txns x) e (txn_of x r (row_at table r)) (row_open x r (omega (arith, h, S.lengths.table)) found.live))
        go (some u) e =
            let f = first_some (λ v. eqb v.ticket t) (open_txns x) u e in
            ap some (same u (open_row x u f.0) (eqb-true u.ticket t f.1))
