-- The blocks that are kept, and one looked for, place by place.
use Prim.Native.Nat.{ℕ, ◌+◌, ◌≤◌, ◌<◌, min}
use mathlib.Core.Path.{◌≡◌, ap, sym, ◌∙◌}
use mathlib.Core.List.{List, ◌∷◌}
use native.Mathlib.Decide.{dec_le}
use native.Mathlib.Numerals.{add-one}
use native.Mathlib.Omega.{arith}
use borrow.Author.Tests.{eq-eqb, ne_eqb}
use lib.ListN.{length, take, drop, get_or, length-take, drop_of_length-le}
use lib.Seq.{take-take, take_all, drop-cons}
use Rattle.week_kept.specs.declared.Sent.{Sent}
use Rattle.std.specs.Prelude.{Some, None}
use Rattle.week_kept.specs.Blocks.{kept_with, found_in}

-- ---- those that are kept

-- as many as there are
pub take_within : (l : List Sent) (count n : ℕ) → length l ≡ 16 → n ≡ min count 16 → take count l ≡ take n l
take_within l count n e f = go (dec_le 16 count)
  where
    go : Dec (16 ≤ count) → take count l ≡ take n l
    go (yes h) = take_all count l (omega (arith, e)) ∙ sym (take_all n l (omega (arith, e, f)))
    go (no h) =
        let g : n ≡ count = omega (arith, f) in
        rw g

take_crossed : (l : List Sent) (count n : ℕ) → n ≡ min count 15 → take n (take 15 l) ≡ take 15 (take count l)
take_crossed l count n f = go (dec_le count 15)
  where
    go : Dec (count ≤ 15) → take n (take 15 l) ≡ take 15 (take count l)
    go (yes h) =
        let g : n ≡ count = omega (arith, f) in
        rw g (take-take count 15 l h ∙ sym (take_all 15 (take count l) (omega (arith, length-take count l))))
    go (no h) =
        let g : n ≡ 15 = omega (arith, f) in
        rw g (take-take 15 15 l (omega arith) ∙ sym (take-take 15 count l (omega arith)))

pub kept_with_lem : (one : Sent) (l after : List Sent) (count n : ℕ) → n ≡ min count 15 → after ≡ one ∷ take 15 l → take (n + 1) after ≡ kept_with one (take count l)
kept_with_lem one l after count n f e = rw (e, add-one n) (ap (λ (r : List Sent). one ∷ r) (take_crossed l count n f))

-- ---- looked for

module _ (slot : ℕ) (l : List Sent) (i : ℕ) where
  pub found_here : (z : Sent) → i < length l → (get_or l i z).slot ≡ slot → found_in slot (drop i l) ≡ Some (get_or l i z).bytes
  unfolding found_in
  found_here z h e = rw (drop-cons l i z h, eq-eqb (get_or l i z).slot slot e)

  pub found_later : (z : Sent) → i < length l → ((get_or l i z).slot ≡ slot → ⊥) → found_in slot (drop i l) ≡ found_in slot (drop (i + 1) l)
  unfolding found_in
  found_later z h e = rw (drop-cons l i z h, ne_eqb (get_or l i z).slot slot e, add-one i)

  pub found_end : length l ≤ i → found_in slot (drop i l) ≡ None
  unfolding found_in
  found_end h = rw (drop_of_length-le l h)
