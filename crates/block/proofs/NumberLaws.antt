-- Numbers and signed values in bytes read back, and bytes are written again from what they read as. Assumes nothing.
use Prim.Native.Nat.{ℕ, zero, suc, ◌+◌, ◌*◌, ◌/◌, ◌%◌, ◌^◌, ◌≤◌, ◌<◌}
use mathlib.Core.Bool.{true}
use mathlib.Core.List.{List, [], ◌∷◌, ◌++◌}
use mathlib.Core.Path.{◌≡◌, refl, ap, ◌∙◌}
use native.Mathlib.Nat.{not-suc-le-zero, le_of_suc-le-suc, pow-succ', one-le-pow, mul-add, mul_assoc}
use native.Mathlib.Numerals.{add-one}
use native.Mathlib.Omega.{arith}
use borrow.Author.Tests.{ltb-true, lt-ltb}
use lib.IntN.{ℤ, pos, negsuc}
use lib.ListN.{length, get_or}
use lib.Seq.{slice, slice-cons, slice_empty, length-slice}
use mir.Facts.{to_z-of_z, of_z-to_z, Fits-of_z, sfits_to_z}
use mir.Syntax.{w32}
use mir.Val.{Fits, SFits, to_z, of_z}
use Rattle.block.specs.Message.{signed32}
use Rattle.block.specs.Numbers.{bytes_of, number_from, value_bytes, value_of}
use Rattle.block.proofs.ListLaws.{AllBytes, bytes_nil, bytes_cons, bytes_tail, slice-split}

-- ---- numbers

pub length-bytes_of : (n x : ℕ) → length (bytes_of n x) ≡ n
unfolding bytes_of
length-bytes_of zero x = refl
length-bytes_of (suc n) x = ap suc (length-bytes_of n (x / 256))

pub bytes_bytes_of : (n x : ℕ) → AllBytes (bytes_of n x)
unfolding bytes_of
bytes_bytes_of zero x = bytes_nil
bytes_bytes_of (suc n) x = bytes_cons (omega arith) (bytes_bytes_of n (x / 256))

pub number_from-bytes_of : (n x : ℕ) → x < 256 ^ n → number_from (bytes_of n x) ≡ x
unfolding bytes_of number_from
number_from-bytes_of zero x h = omega arith
number_from-bytes_of (suc n) x h = omega (arith, number_from-bytes_of n (x / 256) (omega (arith, pow-succ' 256 n)))

pub bytes_of-number_from : (n : ℕ) (l : List ℕ) → AllBytes l → length l ≡ n → bytes_of n (number_from l) ≡ l
unfolding bytes_of number_from
bytes_of-number_from zero [] f e = refl
bytes_of-number_from zero (x ∷ xs) f e = absurd (omega arith)
bytes_of-number_from (suc n) [] f e = absurd (omega arith)
bytes_of-number_from (suc n) (x ∷ xs) f e =
    let low : (x + 256 * number_from xs) % 256 ≡ x = omega (arith, f.each 0) in
    let rest : (x + 256 * number_from xs) / 256 ≡ number_from xs = omega (arith, f.each 0) in
    rw (low, rest, bytes_of-number_from n xs (bytes_tail f) (omega arith))

pub number_from-below : (n : ℕ) (l : List ℕ) → AllBytes l → length l ≤ n → number_from l < 256 ^ n
unfolding number_from
number_from-below n [] f e = one-le-pow n 256 (omega arith)
number_from-below zero (x ∷ xs) f e = absurd (not-suc-le-zero e)
number_from-below (suc n) (x ∷ xs) f e =
    omega (arith, f.each 0, pow-succ' 256 n, number_from-below n xs (bytes_tail f) (le_of_suc-le-suc e))

pub number_from-append : (l k : List ℕ) → number_from (l ++ k) ≡ number_from l + 256 ^ length l * number_from k
unfolding number_from
number_from-append [] k = omega arith
number_from-append (x ∷ xs) k = rw (number_from-append xs k, pow-succ' 256 (length xs)) (simp (mul-add, mul_assoc) (omega arith))

-- ---- signed values in four bytes

signed_fits : (v : ℤ) → signed32 v ≡ true → SFits w32 v
unfolding signed32
signed_fits (pos n) h = record { sfits = ltb-true n 2147483648 h }
signed_fits (negsuc n) h = record { sfits = ltb-true n 2147483648 h }

fits_signed : (v : ℤ) → SFits w32 v → signed32 v ≡ true
unfolding signed32
fits_signed (pos n) h = lt-ltb n 2147483648 h.sfits
fits_signed (negsuc n) h = lt-ltb n 2147483648 h.sfits

four-fit : (l : List ℕ) → AllBytes l → length l ≤ 4 → Fits w32 (number_from l)
four-fit l f e = record { fits = number_from-below 4 l f e }

pub length-value_bytes : (v : ℤ) → length (value_bytes v) ≡ 4
unfolding value_bytes
length-value_bytes v = length-bytes_of 4 (of_z w32 v)

pub bytes_value_bytes : (v : ℤ) → AllBytes (value_bytes v)
unfolding value_bytes
bytes_value_bytes v = bytes_bytes_of 4 (of_z w32 v)

pub value_of-value_bytes : (v : ℤ) → signed32 v ≡ true → value_of (value_bytes v) ≡ v
unfolding value_bytes value_of
value_of-value_bytes v h =
    let s = signed_fits v h in
    ap (to_z w32) (number_from-bytes_of 4 (of_z w32 v) (Fits-of_z s).fits) ∙ to_z-of_z s

pub value_bytes-value_of : (l : List ℕ) → AllBytes l → length l ≡ 4 → value_bytes (value_of l) ≡ l
unfolding value_bytes value_of
value_bytes-value_of l f e = ap (bytes_of 4) (of_z-to_z (four-fit l f (omega arith))) ∙ bytes_of-number_from 4 l f e

pub signed-value_of : (l : List ℕ) → AllBytes l → length l ≤ 4 → signed32 (value_of l) ≡ true
unfolding value_of
signed-value_of l f e = fits_signed (to_z w32 (number_from l)) (sfits_to_z (four-fit l f e))

-- ---- a number read from a part of a list, byte by byte

module _ (l : List ℕ) where
  pub number_more : (from next to : ℕ) → from + 1 ≡ next → from < to → to ≤ length l
      → number_from (slice from to l) ≡ get_or l from 0 + 256 * number_from (slice next to l)
  unfolding number_from
  number_more from next to e h k = rw (← e, slice-cons from to l 0 h k, add-one from)

  pub number-none : (to : ℕ) → number_from (slice to to l) ≡ 0
  unfolding number_from
  number-none to = rw (slice_empty to l)

  -- of four bytes
  pub number-four : (at : ℕ) → at + 4 ≤ length l
      → number_from (get_or l at 0 ∷ get_or l (at + 1) 0 ∷ get_or l (at + 2) 0 ∷ get_or l (at + 3) 0 ∷ []) ≡ number_from (slice at (at + 4) l)
  unfolding number_from
  number-four at h =
      let p = number_more at (at + 1) (at + 4) refl (omega arith) h in
      let q = number_more (at + 1) (at + 2) (at + 4) (omega arith) (omega arith) h in
      let r = number_more (at + 2) (at + 3) (at + 4) (omega arith) (omega arith) h in
      let s = number_more (at + 3) (at + 4) (at + 4) (omega arith) (omega arith) h in
      let z = number-none (at + 4) in
      omega arith

-- and from two parts of m bytes each: 256 to the m is the weight of the upper
pub number_halves : (l : List ℕ) (at m : ℕ) → at + 2 * m ≤ length l
    → number_from (slice at (at + 2 * m) l) ≡ number_from (slice at (at + m) l) + 256 ^ m * number_from (slice (at + m) (at + m + m) l)
number_halves l at m h =
    let e : at + m + m ≡ at + 2 * m = omega arith in
    let size : length (slice at (at + m) l) ≡ m = length-slice at (at + m) l (omega arith) ∙ omega arith in
    rw (e, slice-split at (at + m) (at + 2 * m) l (omega arith) (omega arith), number_from-append, size)
