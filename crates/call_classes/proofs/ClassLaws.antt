-- One turn of the loop over the entries of a record, and of that over the records of a block. Assumes nothing.
use Prim.Native.Nat.{ℕ, suc, ◌+◌, ◌-◌, ◌≤◌, ◌<◌, min}
use mathlib.Core.Path.{◌≡◌}
use mathlib.Core.Bool.{true, false}
use mathlib.Core.List.{List}
use native.Mathlib.Numerals.{add-one}
use native.Mathlib.Omega.{arith}
use lib.ListN.{get_or}
use borrow.Author.Tests.{eq-eqb, ne_eqb}
use Rattle.block.specs.Answers.{record_at, entry_at}
use Rattle.engine.specs.Moves.{writeset_at}
use Rattle.engine.specs.Classes.{has_class, class_from}
use Rattle.call_commit.proofs.EntryLaws.{rest, rest_all, rest-cons, rest-none}

module _ (l : List ℕ) (c : ℕ) (b : List ℕ) (j : ℕ) where
  pub class-start : (n : ℕ) → n ≡ min (record_at b j).writes 8 → has_class l c (writeset_at b j).entries ≡ has_class l c (rest b j n 0)
  class-start n h = rw (rest_all b j n h)

  module _ (n e : ℕ) (h : e < n) (i x : ℕ) (q : i ≡ (entry_at b j e).item) (g : x ≡ get_or l i 0) where
    pub class-here : x ≡ c → has_class l c (rest b j n e) ≡ true
    unfolding has_class
    class-here p = rw (rest-cons b j n e h, ← q, ← g, eq-eqb x c p)

    pub class-later : (x ≡ c → ⊥) → has_class l c (rest b j n e) ≡ has_class l c (rest b j n (e + 1))
    unfolding has_class
    class-later p = rw (rest-cons b j n e h, ← q, ← g, ne_eqb x c p)

  pub class-end : (n e : ℕ) → n ≤ e → has_class l c (rest b j n e) ≡ false
  unfolding has_class
  class-end n e h = rw (rest-none b j n e h)

  module _ (n : ℕ) where
    pub from-here : j < n → has_class l c (writeset_at b j).entries ≡ true → class_from l c b j (n - j) ≡ true
    unfolding class_from
    from-here h p = let k : n - j ≡ suc (n - (j + 1)) = omega arith in rw (k, p)

    pub from-later : j < n → has_class l c (writeset_at b j).entries ≡ false → class_from l c b j (n - j) ≡ class_from l c b (j + 1) (n - (j + 1))
    unfolding class_from
    from-later h p = let k : n - j ≡ suc (n - (j + 1)) = omega arith in rw (k, p, add-one j)

    pub from_end : n ≤ j → class_from l c b j (n - j) ≡ false
    unfolding class_from
    from_end h = let k : n - j ≡ 0 = omega arith in rw k
