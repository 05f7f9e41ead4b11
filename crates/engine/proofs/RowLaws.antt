-- The rows of the table: the row of a ticket, how many are open, one row put in place of another, and who holds an item. Assumes nothing.
use Prim.Native.Nat.{ℕ, zero, suc, ◌+◌, ◌*◌, ◌≤◌, ◌<◌}
use mathlib.Core.Path.{◌≡◌, refl, sym, ap, ◌∙◌, subst}
use mathlib.Core.Bool.{Bool, true, false, cond, not}
use mathlib.Core.List.{List, [], ◌∷◌, map}
use native.Mathlib.Nat.{zero-add, suc-add, add-suc, add-zero, not-suc-le-zero, le_of_suc-le-suc}
use native.Mathlib.Omega.{arith}
use lib.Dec.{eqb}
use lib.ListN.{length, set, length-map, get_or-map}
use lib.Seq.{slice_empty, get_or-set_same, get_or-set_other}
use borrow.Author.Tests.{eqb-true, eqb-false, eq-eqb, ne_eqb}
use Rattle.memory.specs.declared.Txn.{Txn}
use Rattle.std.specs.Prelude.{Option, Some}
use Rattle.memory.specs.Rows.{closed, is_open, open_count, row_from, row_of, free_row, row_at, items_of, index_from, has, holder_from, holder_of, is_held}
use Rattle.engine.specs.Moves.{send_row}
use Rattle.engine.proofs.Tests.{cond_by, same_by, clash}
use Rattle.engine.proofs.HasLaws.{index_by}

-- ---- the row of a ticket

abbrev ticket : Txn → ℕ
ticket t = t.ticket

-- a row is searched for as its ticket among the tickets
row_index : (t i : ℕ) (l : List Txn) → row_from t i l ≡ index_from t (map ticket l) i
unfolding row_from index_from
row_index t i [] = refl
row_index t i (x ∷ xs) = rw (row_index t (suc i) xs)

-- to prove P of the row found, prove it of each row with the ticket, and of one past the last where none has it
row_by : (P : ℕ → Type 0) (t i : ℕ) (l : List Txn) → ((k : ℕ) → k < length l → (row_at l k).ticket ≡ t → P (i + k))
    → (((k : ℕ) → k < length l → (row_at l k).ticket ≡ t → ⊥) → P (i + length l)) → P (row_from t i l)
row_by P t i l f g =
    rw (row_index t i l)
    (index_by P t (map ticket l) i (λ k h e. f k (omega (arith, long)) (sym (get_or-map ticket l k closed) ∙ e))
    (λ none. rw long (g (λ k h e. none k (omega (arith, long)) (get_or-map ticket l k closed ∙ e)))))
  where
    long : length (map ticket l) ≡ length l
    long = length-map l ticket

pub free_found : (l : List Txn) → length l ≡ 6 → free_row l < 6 → (row_at l (free_row l)).ticket ≡ 0
unfolding free_row
free_found l six =
    row_by (λ (p : ℕ). p < 6 → (row_at l p).ticket ≡ 0) 0 0 l (λ k h e u. rw zero-add e) (λ none u. absurd (let z : ⊥ = omega arith in z))

-- the row found is open with the ticket
pub record FoundRow (t : ℕ) (table : List Txn) : Type 0 where
  pub some : t ≡ 0 → ⊥
  pub is : (row_at table (row_of t table)).ticket ≡ t
  pub live : (row_at table (row_of t table)).ticket ≡ 0 → ⊥

module _ (t : ℕ) (table : List Txn) (six : length table ≡ 6) where
  row-of-by : (P : ℕ → Type 0) → ((t ≡ 0 → ⊥) → (k : ℕ) → k < 6 → (row_at table k).ticket ≡ t → P k)
      → (((t ≡ 0 → ⊥) → (k : ℕ) → k < 6 → (row_at table k).ticket ≡ t → ⊥) → P 6) → P (row_of t table)
  unfolding row_of
  row-of-by P f g =
      cond_by P (eqb t 0) (λ e. g (λ z. absurd (z (eqb-true t 0 e))))
      (λ e. row_by P t 0 table
      (λ k h q. let s : k ≡ 0 + k = omega arith in subst P s (f (eqb-false t 0 e) k (omega arith) q))
      (λ none. let s : 6 ≡ 0 + length table = omega arith in subst P s (g (λ z k h q. none k (omega arith) q))))

  pub row-found : row_of t table < 6 → FoundRow t table
  row-found h =
      let f = row-of-by (λ (r : ℕ). r < 6 → (t ≡ 0 → ⊥) × ((row_at table r).ticket ≡ t)) (λ z k h e l. (z, e)) (λ none l. absurd (omega arith)) h in
      record { some = f.0; is = f.1; live = λ e. f.0 (sym f.1 ∙ e) }

  -- a ticket that one row alone has
  pub row_is : (t ≡ 0 → ⊥) → (r : ℕ) → r < 6 → (row_at table r).ticket ≡ t → ((j : ℕ) → j < 6 → (r ≡ j → ⊥) → (row_at table j).ticket ≡ t → ⊥)
      → row_of t table ≡ r
  row_is z r h e only =
      row-of-by (λ (k : ℕ). k ≡ r) (λ y k l q. same_by k r (λ s. s) (λ d. absurd (only k l (λ s. d (sym s)) q))) (λ none. absurd (none z r h e))

-- ---- a row put in place of another

pub others : (l : List Txn) (r : ℕ) (t : Txn) (i : ℕ) → (i ≡ r → ⊥) → row_at (set l r t) i ≡ row_at l i
others l r t i h = get_or-set_other l r i t closed h

pub set-row : (table : List Txn) (i : ℕ) (t : Txn) → i < length table → (r : ℕ) → row_at (set table i t) r ≡ cond (eqb r i) t (row_at table r)
set-row table i t h r =
    same_by r i (λ e. rw (eq-eqb r i e, e) (get_or-set_same table i t closed h)) (λ d. rw (ne_eqb r i d) (others table i t r d))

-- one that matches the ticket alike
row_from_set : (q i : ℕ) (l : List Txn) (r : ℕ) (t : Txn) → eqb t.ticket q ≡ eqb (row_at l r).ticket q → row_from q i (set l r t) ≡ row_from q i l
unfolding row_from
row_from_set q i [] r t e = refl
row_from_set q i (x ∷ xs) zero t e = rw e
row_from_set q i (x ∷ xs) (suc r) t e = rw (row_from_set q (suc i) xs r t e)

pub row-of-set : (q : ℕ) (l : List Txn) (r : ℕ) (t : Txn) → eqb t.ticket q ≡ eqb (row_at l r).ticket q → row_of q (set l r t) ≡ row_of q l
unfolding row_of
row-of-set q l r t e = rw (row_from_set q 0 l r t e)

-- all as sent
pub sent-row : (l : List Txn) (i : ℕ) → row_at (map send_row l) i ≡ send_row (row_at l i)
sent-row l i = get_or-map send_row l i closed

-- ---- how many are open

abbrev pub one : Bool → ℕ
one b = cond b 1 0

open_cons : (t : Txn) (ts : List Txn) → open_count (t ∷ ts) ≡ open_count ts + one (is_open t)
unfolding open_count
open_cons t ts = go (is_open t)
  where
    go : (b : Bool) → cond b (suc (open_count ts)) (open_count ts) ≡ open_count ts + one b
    go true = omega arith
    go false = omega arith

pub open_set : (l : List Txn) (r : ℕ) (t : Txn) → r < length l → open_count (set l r t) + one (is_open (row_at l r)) ≡ open_count l + one (is_open t)
open_set [] r t h = absurd (not-suc-le-zero h)
open_set (x ∷ xs) zero t h = omega (arith, open_cons x xs, open_cons t xs)
open_set (x ∷ xs) (suc r) t h = omega (arith, open_cons x xs, open_cons x (set xs r t), open_set xs r t (le_of_suc-le-suc h))

pub open_is : (t : Txn) → (t.ticket ≡ 0 → ⊥) → one (is_open t) ≡ 1
open_is t h = rw (ne_eqb t.ticket 0 h)

pub free_is : (t : Txn) → t.ticket ≡ 0 → one (is_open t) ≡ 0
free_is t h = rw (eq-eqb t.ticket 0 h)

pub open_close : (l : List Txn) (r : ℕ) → r < length l → ((row_at l r).ticket ≡ 0 → ⊥) → open_count l ≡ suc (open_count (set l r closed))
open_close l r h z = omega (arith, open_set l r closed h, open_is (row_at l r) z)

-- all of them, where no row is free
pub open_few : (l : List Txn) → open_count l ≤ length l
open_few [] = unfold open_count in omega arith
open_few (t ∷ ts) = let h = open_few ts in let e = open_cons t ts in let o = one-few (is_open t) in omega arith
  where
    one-few : (b : Bool) → one b ≤ 1
    one-few true = omega arith
    one-few false = omega arith

pub all_open : (l : List Txn) (i : ℕ) → open_count l ≡ length l → row_from 0 i l ≡ i + length l
unfolding row_from open_count
all_open [] i e = sym (add-zero i)
all_open (t ∷ ts) i e = go (eqb t.ticket 0) e (all_open ts (suc i))
  where
    go : (b : Bool) → cond (not b) (suc (open_count ts)) (open_count ts) ≡ suc (length ts) → (open_count ts ≡ length ts → row_from 0 (suc i) ts ≡ suc i + length ts)
        → cond b i (row_from 0 (suc i) ts) ≡ i + suc (length ts)
    go true h ih = absurd (omega (arith, open_few ts))
    go false h ih = omega (arith, ih (omega arith))

pub none_free : (l : List Txn) (i : ℕ) → row_from 0 i l ≡ i + length l → open_count l ≡ length l
unfolding row_from open_count
none_free [] i e = refl
none_free (t ∷ ts) i e = go (eqb t.ticket 0) e (none_free ts (suc i))
  where
    go : (b : Bool) → cond b i (row_from 0 (suc i) ts) ≡ i + suc (length ts) → (row_from 0 (suc i) ts ≡ suc i + length ts → open_count ts ≡ length ts)
        → cond (not b) (suc (open_count ts)) (open_count ts) ≡ suc (length ts)
    go true h ih = absurd (omega arith)
    go false h ih = ap suc (ih (omega arith))

-- ---- who holds an item

pub no_items : (x r : ℕ) (items : List ℕ) → has x (items_of r closed items) ≡ false
unfolding has
no_items x r items = rw (add-zero (8 * r), slice_empty (8 * r) items)

unheld_rest : (a b c : Bool) (i : ℕ) (rest : Option ℕ) → is_held (cond a rest (cond b rest (cond c (Some i) rest))) ≡ false → is_held rest ≡ false
unheld_rest true b c i rest e = e
unheld_rest false true c i rest e = e
unheld_rest false false true i rest e = clash {b = true} refl e
unheld_rest false false false i rest e = e

unheld_first : (a b c : Bool) (i : ℕ) (rest : Option ℕ) → is_held (cond a rest (cond b rest (cond c (Some i) rest))) ≡ false
    → a ≡ false → b ≡ false → c ≡ true → ⊥
unheld_first true b c i rest e p q u = clash {b = true} refl p
unheld_first false true c i rest e p q u = clash {b = true} refl q
unheld_first false false true i rest e p q u = clash {b = true} refl e
unheld_first false false false i rest e p q u = clash {b = false} u refl

-- no row but `me` holds it: no open one has it among its items
none_holds : (items : List ℕ) (me x i : ℕ) (l : List Txn) → is_held (holder_from items me x i l) ≡ false
    → (k : ℕ) → k < length l → (i + k ≡ me → ⊥) → ((row_at l k).ticket ≡ 0 → ⊥) → has x (items_of (i + k) (row_at l k) items) ≡ true → ⊥
unfolding holder_from
none_holds items me x i [] e k h = absurd (not-suc-le-zero h)
none_holds items me x i (t ∷ ts) e zero h =
    rw add-zero (λ d o u.
    unheld_first (eqb i me) (eqb t.ticket 0) (has x (items_of i t items)) i (holder_from items me x (suc i) ts) e (ne_eqb i me d) (ne_eqb t.ticket 0 o) u)
none_holds items me x i (t ∷ ts) e (suc k) h =
    rw (add-suc, ← suc-add i k)
    (none_holds items me x (suc i) ts
    (unheld_rest (eqb i me) (eqb t.ticket 0) (has x (items_of i t items)) i (holder_from items me x (suc i) ts) e) k (le_of_suc-le-suc h))

pub none_else : (table : List Txn) (items : List ℕ) (me x : ℕ) → is_held (holder_of table items me x) ≡ false
    → (k : ℕ) → k < length table → (k ≡ me → ⊥) → ((row_at table k).ticket ≡ 0 → ⊥) → has x (items_of k (row_at table k) items) ≡ true → ⊥
none_else table items me x e k h = rw zero-add at (none_holds items me x 0 table e k h)
