-- The numbers of a line, from a place of it on. Assumes nothing.
use Prim.Native.Nat.{ℕ, zero, suc, ◌+◌, ◌-◌, ◌≤◌, ◌<◌}
use mathlib.Core.Path.{◌≡◌, refl, sym, ap, ◌∙◌}
use mathlib.Core.List.{List, [], ◌∷◌, ◌++◌}
use native.Mathlib.Omega.{arith}
use borrow.Author.Tests.{lt-ltb, le-ltb, eq-eqb, ne_eqb}
use lib.ListN.{length, get_or, take, set, drop}
use Rattle.replay_parse.specs.Lines.{read_number}
use Rattle.replay_parse.specs.Lines.Field.{none, found}
use Rattle.replay_parse.proofs.LineLaws.{text_at, text_past}
use Rattle.replay_give.specs.declared.TurnsTold.{TurnsTold}
use Rattle.replay_give.specs.Told.{numbers_from, told_in, Tells}

all_read : (most : ℕ) (before : List ℕ) → numbers_from most before [] ≡ before
unfolding numbers_from
all_read zero before = refl
all_read (suc most) before = refl

module _ (line : List ℕ) (at : ℕ) (before : List ℕ) where
  pub numbers-end : (most : ℕ) → length line ≤ at → numbers_from most before (drop at line) ≡ before
  numbers-end most h = rw (text_past line at h) (all_read most before)

  module _ (h : at < length line) where
    pub numbers-full : numbers_from 0 before (drop at line) ≡ []
    unfolding numbers_from
    numbers-full = rw (text_at line at h)

    pub numbers-missing : (most : ℕ) → read_number (drop at line) ≡ none → numbers_from (suc most) before (drop at line) ≡ []
    unfolding numbers_from
    numbers-missing most e = rw (e, text_at line at h)

    pub numbers-next : (most n end : ℕ) → read_number (drop at line) ≡ found n (drop end line)
        → numbers_from (suc most) before (drop at line) ≡ numbers_from most (before ++ (n ∷ [])) (drop end line)
    unfolding numbers_from
    numbers-next most n end e = rw (e, text_at line at h)

-- one more
take-set : (l : List ℕ) (i n : ℕ) → i < length l → take (i + 1) (set l i n) ≡ take i l ++ (n ∷ [])
take-set [] i n h = absurd (omega (arith, h))
take-set (x ∷ l) zero n h = refl
take-set (x ∷ l) (suc i) n h =
    let e : suc i + 1 ≡ suc (i + 1) = omega arith in
    rw e (ap (λ (m : List ℕ). x ∷ m) (take-set l i n (omega (arith, h))))

-- ---- in the loop that reads them

pub tells_none : {r : TurnsTold} {total : List ℕ} → r.count ≡ 0 → total ≡ [] → Tells r total
tells_none e t = record { first = rw (e, t) refl; within = rw e (omega arith) }

-- count numbers are read, and the line goes on at the place; `total` is what they come to
module _ (line : List ℕ) (at count : ℕ) (turns : List ℕ) {total : List ℕ} (is : numbers_from (6 - count) (take count turns) (drop at line) ≡ total) where
  pub told-all : length line ≤ at → take count turns ≡ total
  told-all h = sym (numbers-end line at (take count turns) (6 - count) h) ∙ is

  module _ (h : at < length line) where
    pub told-full : 6 ≤ count → total ≡ []
    told-full k =
        let e : 6 - count ≡ 0 = omega arith in
        rw (e, numbers-full line at (take count turns) h) at (sym is)

    module _ (k : count < 6) where
      left : 6 - count ≡ suc (5 - count)
      left = omega arith

      pub told-missing : read_number (drop at line) ≡ none → total ≡ []
      told-missing e = rw (left, numbers-missing line at (take count turns) h (5 - count) e) at (sym is)

      pub told-next : (n end : ℕ) → length turns ≡ 6 → read_number (drop at line) ≡ found n (drop end line)
          → numbers_from (6 - (count + 1)) (take (count + 1) (set turns count n)) (drop end line) ≡ total
      told-next n end l e =
          let f : 6 - (count + 1) ≡ 5 - count = omega arith in
          rw (f, take-set turns count n (omega (arith, l))) (rw (left, numbers-next line at (take count turns) h (5 - count) n end e) at is)

-- ---- by the line's letter

pub told-short : (line : List ℕ) → length line < 3 → told_in line ≡ []
unfolding told_in
told-short line h = rw (lt-ltb (length line) 3 h)

pub told-other : (line : List ℕ) → 3 ≤ length line → (get_or line 0 0 ≡ 71 → ⊥) → told_in line ≡ []
unfolding told_in
told-other line h e = rw (le-ltb (length line) 3 h, ne_eqb (get_or line 0 0) 71 e)

pub told_is : (line : List ℕ) → 3 ≤ length line → get_or line 0 0 ≡ 71 → numbers_from 6 [] (drop 3 line) ≡ told_in line
unfolding told_in
told_is line h e = rw (le-ltb (length line) 3 h, eq-eqb (get_or line 0 0) 71 e)
