-- The recursions over rows and items as what the library's searches say. Assumes nothing.
use Rattle.std.specs.Prelude.{ℕ, zero, suc, ◌%◌, ◌+◌, ◌<◌, ◌≡◌, Bool, true, false, cond, not, ◌||◌, List, [], ◌∷◌, ◌++◌, eqb, ltb, leb, length, set, take, drop, position, Option, Some, None}
use Rattle.std.specs.List.{position_or_len, list_any}
use Rattle.std.specs.Option.{unwrap_or, SomeIff}
use Rattle.std.proofs.lemmas.List.Sums.{prefix_len-le-length}
use borrow.Author.Tests.{ltb-false, lt-ltb, le-ltb, leb-true, leb-false}
use native.Mathlib.Nat.{mod-zero}
use lib.ListN.{get_or}
use lib.Seq.{drop-cons, take-append_seam}
use mathlib.Core.List.{append_assoc}
use native.Mathlib.Numerals.{add-one}
use Rattle.std.proofs.lemmas.List.{take_more_set, drop-set-lt, take_all}
use Rattle.std.proofs.Common.{arith, sym, ap, ◌∙◌, refl}
use Rattle.memory.specs.declared.Txn.{Txn}
use Rattle.memory.specs.Rows.{row_from, index_from, has, count_below, shift_in}

-- where a search ends: at what it finds, or at the end
pub place_or_end : {A : Type 0} (p : A → Bool) (l : List A) → unwrap_or (position p l) (length l) ≡ position_or_len p l
place_or_end p l = go (ltb (position_or_len p l) (length l)) refl
  where
    go : (b : Bool) → ltb (position_or_len p l) (length l) ≡ b → unwrap_or (cond b (Some (position_or_len p l)) None) (length l) ≡ position_or_len p l
    go true e = refl
    go false e = omega (arith, ltb-false _ _ e, prefix_len-le-length (λ x. not (p x)) l)

-- the remainder, by 0 the number itself
pub rem_or : (o : Option ℕ) (s n : ℕ) → SomeIff o (0 < n) (s % n) → unwrap_or o s ≡ s % n
rem_or None s zero h = sym (mod-zero s)
rem_or None s (suc n) h = absurd (h (omega arith))
rem_or (Some x) s n h = h.1

by : (b : Bool) (i m n : ℕ) → m ≡ suc i + n → cond b i m ≡ i + cond (not b) (1 + n) 0
by true i m n h = omega arith
by false i m n h = omega arith

pub index_is : (x : ℕ) (l : List ℕ) (i : ℕ) → index_from x l i ≡ i + position_or_len (λ y. eqb y x) l
unfolding index_from
index_is x [] i = omega arith
index_is x (y ∷ l) i = by (eqb y x) i _ _ (index_is x l (suc i))

pub row_is : (x : ℕ) (l : List Txn) (i : ℕ) → row_from x i l ≡ i + position_or_len (λ (t : Txn). eqb t.ticket x) l
unfolding row_from
row_is x [] i = omega arith
row_is x (t ∷ l) i = by (eqb t.ticket x) i _ _ (row_is x l (suc i))

pub below_is : (x : ℕ) (l : List ℕ) (i : ℕ) → count_below x l i ≡ i + position_or_len (λ y. leb x y) l
unfolding count_below
below_is x [] i = omega arith
below_is x (y ∷ l) i = go (leb x y) refl (below_is x l (suc i))
  where
    go : (b : Bool) → leb x y ≡ b → count_below x l (suc i) ≡ suc i + position_or_len (λ z. leb x z) l
        → cond (ltb y x) (count_below x l (suc i)) i ≡ i + cond (not b) (1 + position_or_len (λ z. leb x z) l) 0
    go true e h = rw (le-ltb y x (leb-true x y e)) (omega arith)
    go false e h = rw (lt-ltb y x (leb-false x y e)) (omega (arith, h))

has_next : (b : Bool) {m n : Bool} → m ≡ n → cond b true m ≡ (b || n)
has_next true h = refl
has_next false h = h

pub has_is : (x : ℕ) (l : List ℕ) → has x l ≡ list_any (λ y. eqb y x) l
unfolding has
has_is x [] = refl
has_is x (y ∷ l) = has_next (eqb y x) (has_is x l)

-- one turn of the loop that moves each up by one: what is in hand is put down, and what stood there taken up
pub shift-next : {A : Type 0} (l all : List A) (j : ℕ) (next moved : A) → j < length l → moved ≡ get_or l j moved → take j l ++ (next ∷ drop j l) ≡ all
    → take (j + 1) (set l j next) ++ (moved ∷ drop (j + 1) (set l j next)) ≡ all
shift-next l all j next moved h e s =
    let q : moved ∷ drop (j + 1) l ≡ drop j l = rw (add-one j) (ap (λ y. y ∷ drop (suc j) l) e ∙ sym (drop-cons l j moved h)) in
    rw (take_more_set l j next h, drop-set-lt (j + 1) l j next (omega arith), append_assoc (take j l) (next ∷ []) (moved ∷ drop (j + 1) l))
    (ap (λ t. take j l ++ (next ∷ t)) q ∙ s)

-- after the last turn
pub shift-end : {A : Type 0} (l before : List A) (x next : A) (j : ℕ) → length l ≡ length before → length l ≡ j → take j l ++ (next ∷ drop j l) ≡ x ∷ before → l ≡ shift_in x before
shift-end l before x next j n h s =
    let all : take j l ≡ l = take_all j l (omega arith) in
    let front : take (length before) (take j l ++ (next ∷ drop j l)) ≡ l = rw (all, ← n) (take-append_seam l (next ∷ drop j l)) in
    sym front ∙ ap (take (length before)) s
