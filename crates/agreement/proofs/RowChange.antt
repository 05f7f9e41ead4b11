-- A row closed, changed or taken: the open transactions are those of the model's step, in another order. Assumes nothing.
use Prim.Native.Nat.{ℕ, ◌<◌}
use mathlib.Core.Path.{◌≡◌, refl, sym, ap, ◌∙◌}
use mathlib.Core.Logic.{◌⊎◌, inl, inr}
use mathlib.Core.Bool.{not}
use mathlib.Core.List.Memᴰ
use mathlib.Core.List.{List, [], ◌∷◌, ◌++◌, map}
use native.Mathlib.Omega.{arith}
use lib.Dec.{eqb}
use lib.IntN.{ℤ}
use lib.ListN.{length, set, length-set}
use lib.Seq.{get_or-set_same}
use borrow.Author.Tests.{eqb-false, ne_eqb, not-true}
use Rattle.memory.specs.declared.Txn.{Txn}
use Rattle.memory.specs.Memory.{Transactions, Memory, with_table}
use Rattle.memory.specs.Rows.{closed, row_at}
use Rattle.engine.specs.Shape.{Shape}
use Rattle.engine.proofs.Tests.{same_by}
use Rattle.engine.proofs.RowLaws.{others}
use Rattle.protocol.specs.Lists.{Mem}
use Rattle.protocol.specs.Replica.{Transaction}
use Rattle.protocol.specs.Client.{without}
use Rattle.protocol.proofs.ListLaws.{keep-mem, mem-keep, map-all, mem-map}
use Rattle.agreement.proofs.View.{txn_of, open_txns}
use Rattle.agreement.proofs.RowView.{OpenRow, open_row, row_open, ticket-of, one-row}

-- the same members
pub record SameMembers (l k : List (Transaction ℤ)) : Type 0 where
  pub there : (u : Transaction ℤ) → Mem u l → Mem u k
  pub back : (u : Transaction ℤ) → Mem u k → Mem u l

-- a row as a transaction does not look at the table
pub with_table_lem : (x : Transactions) (l : List Txn) (r : ℕ) (t : Txn) → txn_of (with_table x l) r t ≡ txn_of x r t
unfolding txn_of
with_table_lem x l r t = refl

module _ {over : ℕ} (m : Memory) (S : Shape over m) (r : ℕ) (h : r < 6) where
  abbrev x : Transactions
  x = m.txns

  abbrev row : ℕ → Txn
  row k = row_at m.txns.table k

  six : (k : ℕ) → k < length x.table → k < 6
  six k l = omega (arith, l, S.lengths.table)

  room : r < length x.table
  room = omega (arith, h, S.lengths.table)

  -- ---- closed

  pub row-closed : ((row r).ticket ≡ 0 → ⊥) → (t : ℕ) → (row r).ticket ≡ t → SameMembers (without t (open_txns x)) (open_txns (with_table x (set x.table r closed)))
  row-closed o t e = record { there = there; back = back }
    where
      y : Transactions
      y = with_table x (set x.table r closed)

      there : (u : Transaction ℤ) → Mem u (without t (open_txns x)) → Mem u (open_txns y)
      there u q =
          let p = keep-mem (λ v. not (eqb v.ticket t)) (open_txns x) u q in
          let f = open_row x u p.0 in
          let d : f.row ≡ r → ⊥ = λ s. eqb-false u.ticket t (not-true _ p.1) (ap (λ (v : Transaction ℤ). v.ticket) f.is ∙ ticket-of x f.row (row f.row) ∙ ap (λ (k : ℕ). (row k).ticket) s ∙ e) in
          let a = others x.table r closed f.row d in
          rw (f.is, ← with_table_lem x (set x.table r closed) f.row (row f.row), ← a)
          (row_open y f.row (rw (length-set x.table r closed) f.within) (rw a f.live))

      back : (u : Transaction ℤ) → Mem u (open_txns y) → Mem u (without t (open_txns x))
      back u q =
          let f = open_row y u q in
          let d : f.row ≡ r → ⊥ = λ s. f.live (ap (λ (k : ℕ). (row_at (set x.table r closed) k).ticket) s ∙ ap (λ (v : Txn). v.ticket) (get_or-set_same x.table r closed closed room)) in
          let a = others x.table r closed f.row d in
          let w : f.row < length x.table = rw (length-set x.table r closed) at f.within in
          let live : (row f.row).ticket ≡ 0 → ⊥ = rw a at f.live in
          let is : u ≡ txn_of x f.row (row f.row) = f.is ∙ ap (txn_of y f.row) a ∙ with_table_lem x (set x.table r closed) f.row (row f.row) in
          mem-keep (λ v. not (eqb v.ticket t)) (open_txns x) u (rw is (row_open x f.row w live))
          (ap not (ne_eqb u.ticket t (λ z. d (one-row m S f.row r (six f.row w) h live
          (sym (ap (λ (v : Transaction ℤ). v.ticket) is ∙ ticket-of x f.row (row f.row)) ∙ z ∙ sym e)))))

  -- ---- changed

  -- y has t in row r, and row r of y is what f makes of row r of x; f leaves other tickets alone, and so does y the other rows
  pub record Changed (y : Transactions) (t : Txn) (f : Transaction ℤ → Transaction ℤ) : Type 0 where
    pub table : y.table ≡ set x.table r t
    pub live : (row r).ticket ≡ 0 → ⊥
    pub ticket : t.ticket ≡ (row r).ticket
    pub here : f (txn_of x r (row r)) ≡ txn_of y r t
    pub beside : (k : ℕ) → k < 6 → (k ≡ r → ⊥) → txn_of y k (row k) ≡ txn_of x k (row k)
    pub others : (u : Transaction ℤ) → (u.ticket ≡ (row r).ticket → ⊥) → f u ≡ u

  pub row-changed : (y : Transactions) (t : Txn) (f : Transaction ℤ → Transaction ℤ) → Changed y t f → SameMembers (map f (open_txns x)) (open_txns y)
  row-changed y t f c = record { there = map-all (λ u. Mem u (open_txns y)) f (open_txns x) (λ u q. image u (open_row x u q)); back = λ u q. source u (open_row y u q) }
    where
      long : length y.table ≡ length x.table
      long = rw c.table (length-set x.table r t)

      mine : row_at y.table r ≡ t
      mine = rw c.table (get_or-set_same x.table r t closed room)

      other : (k : ℕ) → (k ≡ r → ⊥) → row_at y.table k ≡ row k
      other k d = rw c.table (Rattle.engine.proofs.RowLaws.others x.table r t k d)

      -- f of row k of x is row k of y
      moved : (k : ℕ) → k < 6 → ((row k).ticket ≡ 0 → ⊥) → f (txn_of x k (row k)) ≡ txn_of y k (row_at y.table k)
      moved k l o =
          same_by k r (λ e. rw (e, mine) c.here)
          (λ d. c.others (txn_of x k (row k)) (λ z. d (one-row m S k r l h o (sym (ticket-of x k (row k)) ∙ z))) ∙ sym (rw (other k d) (c.beside k l d)))

      image : (u : Transaction ℤ) → OpenRow x u → Mem (f u) (open_txns y)
      image u p =
          rw (p.is, moved p.row (six p.row p.within) p.live)
          (row_open y p.row (rw long p.within) (same_by p.row r (λ e. rw (e, mine, c.ticket) c.live) (λ d. rw (other p.row d) p.live)))

      source : (u : Transaction ℤ) → OpenRow y u → Mem u (map f (open_txns x))
      source u p =
          let w : p.row < length x.table = rw long at p.within in
          let live : (row p.row).ticket ≡ 0 → ⊥ = same_by p.row r (λ e. rw e c.live) (λ d. rw (other p.row d) at p.live) in
          rw (p.is, ← moved p.row (six p.row w) live) (mem-map f (open_txns x) (txn_of x p.row (row p.row)) (row_open x p.row w live))

  -- ---- taken

  -- y has the open t in row r, which was free in x; the other rows are as they were
  pub record Taken (y : Transactions) (t : Txn) : Type 0 where
    pub table : y.table ≡ set x.table r t
    pub free : (row r).ticket ≡ 0
    pub live : t.ticket ≡ 0 → ⊥
    pub beside : (k : ℕ) → k < 6 → (k ≡ r → ⊥) → txn_of y k (row k) ≡ txn_of x k (row k)

  pub row-taken : (y : Transactions) (t : Txn) → Taken y t → SameMembers (open_txns x ++ (txn_of y r t ∷ [])) (open_txns y)
  row-taken y t c = record { there = λ u q. there u (Memᴰ.append_cases (open_txns x) q); back = λ u q. back u (open_row y u q) }
    where
      long : length y.table ≡ length x.table
      long = rw c.table (length-set x.table r t)

      mine : row_at y.table r ≡ t
      mine = rw c.table (get_or-set_same x.table r t closed room)

      other : (k : ℕ) → (k ≡ r → ⊥) → row_at y.table k ≡ row k
      other k d = rw c.table (others x.table r t k d)

      new : Mem (txn_of y r t) (open_txns y)
      new = rw mine at (row_open y r (rw long room) (rw mine c.live))

      old : (u : Transaction ℤ) → OpenRow x u → Mem u (open_txns y)
      old u p =
          let d : p.row ≡ r → ⊥ = λ e. p.live (ap (λ (k : ℕ). (row k).ticket) e ∙ c.free) in
          rw (p.is, ← c.beside p.row (six p.row p.within) d)
          (rw (other p.row d) at (row_open y p.row (rw long p.within) (rw (other p.row d) p.live)))

      last : (u : Transaction ℤ) → (u ≡ txn_of y r t) ⊎ Mem u [] → Mem u (open_txns y)
      last u (inl e) = rw e new
      last u (inr q) = absurd (Memᴰ.not-nil q)

      there : (u : Transaction ℤ) → Mem u (open_txns x) ⊎ Mem u (txn_of y r t ∷ []) → Mem u (open_txns y)
      there u (inl q) = old u (open_row x u q)
      there u (inr q) = last u (Memᴰ.cases_cons q)

      back : (u : Transaction ℤ) → OpenRow y u → Mem u (open_txns x ++ (txn_of y r t ∷ []))
      back u p =
          same_by p.row r
          (λ e. Memᴰ.append_right (open_txns x) (Memᴰ.head (p.is ∙ ap (λ (k : ℕ). txn_of y k (row_at y.table k)) e ∙ ap (txn_of y r) mine)))
          (λ d. let w : p.row < length x.table = rw long at p.within in
          Memᴰ.append_left {s = open_txns x} (txn_of y r t ∷ [])
          (rw (p.is, other p.row d, c.beside p.row (six p.row w) d) (row_open x p.row w (rw (other p.row d) at p.live))))
