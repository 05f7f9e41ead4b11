-- The rows that another's writeset hits, and their tickets. Assumes nothing.
use Prim.Native.Nat.{ℕ, zero, suc, ◌+◌, ◌<◌}
use mathlib.Core.Path.{◌≡◌, refl, sym, ap, ◌∙◌}
use mathlib.Core.Bool.{Bool, true, false, cond}
use mathlib.Core.List.{List, [], ◌∷◌}
use native.Mathlib.Nat.{add-zero, add-suc, suc-add, le_of_suc-le-suc, not-suc-le-zero}
use native.Mathlib.Omega.{arith}
use lib.Dec.{eqb, ltb}
use lib.ListN.{length}
use borrow.Author.Tests.{eqb-true, eq-eqb, not-true}
use Rattle.block.specs.declared.Entry.{Entry}
use Rattle.block.proofs.BoolLaws.{both, not_so}
use Rattle.memory.specs.declared.Txn.{Txn}
use Rattle.memory.specs.Rows.{closed, is_open, open_count, row_at, has}
use Rattle.engine.specs.Moves.{is_hit, after_aborts, insert_rising, hit_tickets}
use Rattle.engine.proofs.Tests.{cond_by, clash}

-- ---- tickets among others, rising

pub has-rising : (t x : ℕ) (l : List ℕ) → has t (insert_rising x l) ≡ cond (eqb x t) true (has t l)
unfolding has insert_rising
has-rising t x [] = refl
has-rising t x (y ∷ ys) = go (ltb x y) (has-rising t x ys)
  where
    swap : (a b c : Bool) → cond a true (cond b true c) ≡ cond b true (cond a true c)
    swap true true c = refl
    swap true false c = refl
    swap false true c = refl
    swap false false c = refl

    go : (b : Bool) → has t (insert_rising x ys) ≡ cond (eqb x t) true (has t ys)
        → has t (cond b (x ∷ (y ∷ ys)) (y ∷ insert_rising x ys)) ≡ cond (eqb x t) true (has t (y ∷ ys))
    go true ih = refl
    go false ih = rw ih (swap (eqb y t) (eqb x t) (has t ys))

pub length-rising : (x : ℕ) (l : List ℕ) → length (insert_rising x l) ≡ suc (length l)
unfolding insert_rising
length-rising x [] = refl
length-rising x (y ∷ ys) =
    cond_by (λ (k : List ℕ). length k ≡ suc (length (y ∷ ys))) (ltb x y) (λ e. refl) (λ e. ap suc (length-rising x ys))

-- ---- the rows hit

module _ (es : List Entry) (items : List ℕ) where
  pub length-aborts : (r : ℕ) (ts : List Txn) → length (after_aborts es items r ts) ≡ length ts
  unfolding after_aborts
  length-aborts r [] = refl
  length-aborts r (t ∷ ts) = ap suc (length-aborts (suc r) ts)

  pub aborts-at : (r : ℕ) (ts : List Txn) (k : ℕ) → k < length ts
      → row_at (after_aborts es items r ts) k ≡ cond (is_hit es items (r + k) (row_at ts k)) closed (row_at ts k)
  unfolding after_aborts
  aborts-at r [] k h = absurd (not-suc-le-zero h)
  aborts-at r (t ∷ ts) zero h = rw (add-zero r)
  aborts-at r (t ∷ ts) (suc k) h = rw (add-suc r k, ← suc-add r k) (aborts-at (suc r) ts k (le_of_suc-le-suc h))

  pub hit-open : (r : ℕ) (t : Txn) → is_hit es items r t ≡ true → is_open t ≡ true
  hit-open r t e = (both (is_open t) _ e).left

  -- an open row is after_aborts or its ticket is among those hit
  pub aborts-open : (r : ℕ) (ts : List Txn) → open_count (after_aborts es items r ts) + length (hit_tickets es items r ts) ≡ open_count ts
  unfolding after_aborts hit_tickets open_count
  aborts-open r [] = refl
  aborts-open r (t ∷ ts) = go (is_hit es items r t) refl (is_open t) refl (aborts-open (suc r) ts)
    where
      go : (b : Bool) → is_hit es items r t ≡ b → (c : Bool) → is_open t ≡ c
          → open_count (after_aborts es items (suc r) ts) + length (hit_tickets es items (suc r) ts) ≡ open_count ts
          → open_count (cond b closed t ∷ after_aborts es items (suc r) ts)
          + length (cond b (insert_rising t.ticket (hit_tickets es items (suc r) ts)) (hit_tickets es items (suc r) ts))
          ≡ cond c (suc (open_count ts)) (open_count ts)
      go true h true o ih = let l = length-rising t.ticket (hit_tickets es items (suc r) ts) in omega arith
      go true h false o ih = clash (hit-open r t h) o
      go false h true o ih = rw o (omega arith)
      go false h false o ih = rw o ih

  pub hit-has : (r : ℕ) (ts : List Txn) (k : ℕ) → k < length ts → is_hit es items (r + k) (row_at ts k) ≡ true
      → has (row_at ts k).ticket (hit_tickets es items r ts) ≡ true
  unfolding hit_tickets
  hit-has r [] k h e = absurd (not-suc-le-zero h)
  hit-has r (t ∷ ts) zero h e = rw (rw (add-zero r) at e, has-rising t.ticket t.ticket (hit_tickets es items (suc r) ts), eq-eqb t.ticket t.ticket refl)
  hit-has r (t ∷ ts) (suc k) h e =
      let ih = hit-has (suc r) ts k (le_of_suc-le-suc h) (rw (add-suc r k, ← suc-add r k) at e) in
      cond_by (λ (l : List ℕ). has (row_at ts k).ticket l ≡ true) (is_hit es items r t)
      (λ q. has-rising (row_at ts k).ticket t.ticket (hit_tickets es items (suc r) ts)
      ∙ cond_by (λ (b : Bool). b ≡ true) (eqb t.ticket (row_at ts k).ticket) (λ s. refl) (λ s. ih))
      (λ q. ih)

  -- a row hit has the ticket
  abbrev pub HitRow : ℕ → ℕ → List Txn → Type 0
  HitRow x r ts = (k : ℕ) × (k < length ts) × (is_hit es items (r + k) (row_at ts k) ≡ true) × ((row_at ts k).ticket ≡ x)

  later-hit : (x r : ℕ) (t : Txn) (ts : List Txn) → HitRow x (suc r) ts → HitRow x r (t ∷ ts)
  later-hit x r t ts f = (suc f.0, (let l = f.1 in omega arith), rw (add-suc r f.0, ← suc-add r f.0) f.2, f.3)

  pub has-hit : (x r : ℕ) (ts : List Txn) → has x (hit_tickets es items r ts) ≡ true → HitRow x r ts
  unfolding hit_tickets has
  has-hit x r [] e = clash {b = false} e refl
  has-hit x r (t ∷ ts) e = go (is_hit es items r t) refl e (λ h. later-hit x r t ts (has-hit x (suc r) ts h))
    where
      here : is_hit es items r t ≡ true → (b : Bool) → eqb t.ticket x ≡ b → cond b true (has x (hit_tickets es items (suc r) ts)) ≡ true
          → (has x (hit_tickets es items (suc r) ts) ≡ true → HitRow x r (t ∷ ts)) → HitRow x r (t ∷ ts)
      here q true s h ih = (0, omega arith, rw (add-zero r) q, eqb-true t.ticket x s)
      here q false s h ih = ih h

      go : (b : Bool) → is_hit es items r t ≡ b
          → has x (cond b (insert_rising t.ticket (hit_tickets es items (suc r) ts)) (hit_tickets es items (suc r) ts)) ≡ true
          → (has x (hit_tickets es items (suc r) ts) ≡ true → HitRow x r (t ∷ ts)) → HitRow x r (t ∷ ts)
      go true q h ih = here q (eqb t.ticket x) refl (sym (has-rising x t.ticket (hit_tickets es items (suc r) ts)) ∙ h) ih
      go false q h ih = ih h

  -- an open row's ticket is not 0
  pub no_zero : (r : ℕ) (ts : List Txn) → has 0 (hit_tickets es items r ts) ≡ false
  no_zero r ts =
      not_so (has 0 (hit_tickets es items r ts))
      (λ e. let f = has-hit 0 r ts e in clash (eq-eqb (row_at ts f.0).ticket 0 f.3) (not-true _ (hit-open (r + f.0) (row_at ts f.0) f.2)))
