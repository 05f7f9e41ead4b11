-- One turn of each loop over the entries of a record. Assumes nothing.
use Prim.Native.Nat.{ℕ, suc, ◌+◌, ◌-◌, ◌≤◌, ◌<◌, min}
use mathlib.Core.Path.{◌≡◌}
use mathlib.Core.Bool.{true, false}
use mathlib.Core.List.{List, [], ◌∷◌}
use native.Mathlib.Numerals.{add-one}
use native.Mathlib.Omega.{arith}
use lib.IntN.{ℤ}
use lib.ListN.{set}
use Rattle.block.specs.declared.Entry.{Entry}
use Rattle.block.specs.Answers.{record_at, entry_at}
use Rattle.memory.specs.Rows.{has}
use Rattle.engine.specs.Moves.{entries_for, writeset_at, applied, stamped, shares}

-- ---- the entries of record j from entry e up to entry n

abbrev pub rest : List ℕ → ℕ → ℕ → ℕ → List Entry
rest b j n e = entries_for b j e (n - e)

module _ (b : List ℕ) (j n : ℕ) (h : n ≡ min (record_at b j).writes 8) where
  pub rest_all : (writeset_at b j).entries ≡ rest b j n 0
  rest_all = let k : n - 0 ≡ n = omega arith in rw (k, h)

  pub apply-start : (l : List ℤ) → applied (writeset_at b j).entries l ≡ applied (rest b j n 0) l
  apply-start l = rw rest_all

  pub stamp-start : (c : ℕ) (l : List ℕ) → stamped c (writeset_at b j).entries l ≡ stamped c (rest b j n 0) l
  stamp-start c l = rw rest_all

  pub share-start : (l : List ℕ) → shares l (writeset_at b j).entries ≡ shares l (rest b j n 0)
  share-start l = rw rest_all

module _ (b : List ℕ) (j n e : ℕ) (h : e < n) where
  pub rest-cons : rest b j n e ≡ entry_at b j e ∷ rest b j n (e + 1)
  unfolding entries_for
  rest-cons = let k : n - e ≡ suc (n - (e + 1)) = omega arith in rw (k, add-one e)

  module _ (w : Entry) (q : w ≡ entry_at b j e) where
    pub apply-turn : (l k : List ℤ) → k ≡ set l w.item w.value → applied (rest b j n e) l ≡ applied (rest b j n (e + 1)) k
    unfolding applied
    apply-turn l k p = rw (p, q, rest-cons)

    pub stamp-turn : (c : ℕ) (l k : List ℕ) → k ≡ set l w.item c → stamped c (rest b j n e) l ≡ stamped c (rest b j n (e + 1)) k
    unfolding stamped
    stamp-turn c l k p = rw (p, q, rest-cons)

    pub share-here : (l : List ℕ) → has w.item l ≡ true → shares l (rest b j n e) ≡ true
    unfolding shares
    share-here l p = rw (rest-cons, ← q, p)

    pub share-later : (l : List ℕ) → has w.item l ≡ false → shares l (rest b j n e) ≡ shares l (rest b j n (e + 1))
    unfolding shares
    share-later l p = rw (rest-cons, ← q, p)

module _ (b : List ℕ) (j n e : ℕ) (h : n ≤ e) where
  pub rest-none : rest b j n e ≡ []
  unfolding entries_for
  rest-none = let k : n - e ≡ 0 = omega arith in rw k

  pub apply-end : (l : List ℤ) → applied (rest b j n e) l ≡ l
  unfolding applied
  apply-end l = rw rest-none

  pub stamp-end : (c : ℕ) (l : List ℕ) → stamped c (rest b j n e) l ≡ l
  unfolding stamped
  stamp-end c l = rw rest-none

  pub share-end : (l : List ℕ) → shares l (rest b j n e) ≡ false
  unfolding shares
  share-end l = rw rest-none
