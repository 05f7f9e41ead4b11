-- Numbers and fields at a place of a line. Assumes nothing.
use Prim.Native.Nat.{ℕ, zero, suc, ◌+◌, ◌*◌, ◌-◌, ◌≤◌, ◌<◌}
use mathlib.Core.Path.{◌≡◌, refl, sym, ap, ◌∙◌}
use mathlib.Core.Bool.{Bool, true, false, cond, ◌&&◌}
use native.Mathlib.Decide.{dec_le}
use mathlib.Core.List.{List, [], ◌∷◌}
use native.Mathlib.Numerals.{add-one}
use native.Mathlib.Omega.{arith}
use borrow.Author.Tests.{lt-ltb, le-ltb, le-leb, lt-leb, leb-true, ne_eqb}
use lib.Dec.{eqb, ltb, leb}
use lib.IntN.{ℤ}
use lib.ListN.{length, get_or, drop, drop_of_length-le}
use lib.Seq.{drop-cons}
use mir.Facts.{to_z_pos, to_z-neg}
use mir.Syntax.{w32}
use mir.Val.{to_z}
use Rattle.block.specs.Message.{within}
use Rattle.replay_parse.specs.declared.Call.{Call}
use Rattle.std.specs.Prelude.{Option, Some, None}
use Rattle.replay_parse.specs.Lines.{number_up_to, digit_of, field_of, Reads}
use Rattle.replay_parse.specs.Lines.{Field, digit_number, up_to, digits_from, read_digits, positive, negative, read_signed, at_end}
use Rattle.replay_parse.specs.Lines.Field.{none, found}

-- ---- digits

module _ (b : ℕ) where
  pub digit_some : {n : ℕ} → digit_of b ≡ Some n → (digit_number b ≡ n) × (n ≤ 9)
  unfolding digit_number within
  digit_some {n} e = go (dec_le 48 b) (dec_le b 57)
    where
      go : Dec (48 ≤ b) → Dec (b ≤ 57) → (cond (leb 48 b && leb b 57) (b - 48) 10 ≡ n) × (n ≤ 9)
      go (yes h) (yes k) =
          let q : Some (b - 48) ≡ Some n = rw (le-leb 48 b h, le-leb b 57 k) at e in
          let p : b - 48 ≡ n = (cc) in
          (rw (le-leb 48 b h, le-leb b 57 k) p, omega arith)
      go (yes h) (no k) =
          let q : ◌≡◌ {A = Option ℕ} None (Some n) = rw (le-leb 48 b h, lt-leb b 57 (omega (arith, k))) at e in
          (cc)
      go (no h) k =
          let q : ◌≡◌ {A = Option ℕ} None (Some n) = rw (lt-leb 48 b (omega (arith, h))) at e in
          (cc)

  pub digit_none : digit_of b ≡ None → 9 < digit_number b
  unfolding digit_number within
  digit_none e = go (dec_le 48 b) (dec_le b 57)
    where
      go : Dec (48 ≤ b) → Dec (b ≤ 57) → 9 < cond (leb 48 b && leb b 57) (b - 48) 10
      go (yes h) (yes k) =
          let q : Some (b - 48) ≡ None = rw (le-leb 48 b h, le-leb b 57 k) at e in
          (cc)
      go (yes h) (no k) = rw (le-leb 48 b h, lt-leb b 57 (omega (arith, k))) (omega arith)
      go (no h) k = rw (lt-leb 48 b (omega (arith, h))) (omega arith)

either : (t : Bool) {x y z : Field ℕ} → x ≡ z → y ≡ z → cond t x y ≡ z
either true p q = p
either false p q = q

-- digits only add to a number
pub digits_over : (most n : ℕ) (text : List ℕ) → most < n → digits_from most n text ≡ none
unfolding digits_from
digits_over most n [] h = rw (lt-leb n most h)
digits_over most n (b ∷ text) h = either (ltb (digit_number b) 10) (digits_over most (10 * n + digit_number b) text (omega arith)) (rw (lt-leb n most h))

-- ---- the text from a place of the line on

pub text_at : (line : List ℕ) (at : ℕ) → at < length line → drop at line ≡ get_or line at 0 ∷ drop (at + 1) line
text_at line at h = rw add-one (drop-cons line at 0 h)

pub text_past : (line : List ℕ) (at : ℕ) → length line ≤ at → drop at line ≡ []
text_past line at h = drop_of_length-le line h

-- ---- what was read of the line

module _ {A : Type 0} {r : Option (A × ℕ)} {line : List ℕ} {f : Field A} where
  pub reads_none : r ≡ None → none ≡ f → Reads r line f
  reads_none q e = rw (q, sym e) (record { field = refl; end = omega arith })

  pub none_read : Reads r line f → r ≡ None → f ≡ none
  none_read h q = sym h.field ∙ ap (λ (x : Option (A × ℕ)). field_of x line) q

  pub some_read : {x : A} {end : ℕ} → Reads r line f → r ≡ Some (x, end) → f ≡ found x (drop end line)
  some_read h q = sym h.field ∙ ap (λ (x : Option (A × ℕ)). field_of x line) q

  pub some_end : {x : A} {end : ℕ} → Reads r line f → r ≡ Some (x, end) → end ≤ length line
  some_end h q = rw q at h.end

reads_if : (t : Bool) (n end : ℕ) (line : List ℕ) → end ≤ length line → Reads (cond t (Some (n, end)) None) line (cond t (found n (drop end line)) none)
reads_if true n end line h = record { field = refl; end = h }
reads_if false n end line h = record { field = refl; end = omega arith }

pub reads_up_to : (most n end : ℕ) (line : List ℕ) {r : Option (ℕ × ℕ)} {f : Field ℕ} → end ≤ length line → r ≡ number_up_to most n end → up_to most n (drop end line) ≡ f → Reads r line f
reads_up_to most n end line h q e = rw (q, sym e) (reads_if (leb n most) n end line h)

-- on from n, at place i
module _ (most n : ℕ) (line : List ℕ) (i : ℕ) where
  pub digits-end : length line ≤ i → up_to most n (drop i line) ≡ digits_from most n (drop i line)
  unfolding digits_from
  digits-end h = rw (text_past line i h)

  pub digits-stop : i < length line → 9 < digit_number (get_or line i 0) → up_to most n (drop i line) ≡ digits_from most n (drop i line)
  unfolding digits_from
  digits-stop h k =
      let l : 10 ≤ digit_number (get_or line i 0) = omega arith in
      rw (text_at line i h, le-ltb (digit_number (get_or line i 0)) 10 l)

  pub digits-next : i < length line → digit_number (get_or line i 0) ≤ 9 → digits_from most n (drop i line) ≡ digits_from most (10 * n + digit_number (get_or line i 0)) (drop (i + 1) line)
  unfolding digits_from
  digits-next h k =
      let l : digit_number (get_or line i 0) < 10 = omega arith in
      rw (text_at line i h, lt-ltb (digit_number (get_or line i 0)) 10 l)

  -- a number that is too large stays so
  pub digits-over : i < length line → digit_number (get_or line i 0) ≤ 9 → most < 10 * n + digit_number (get_or line i 0) → digits_from most n (drop i line) ≡ none
  digits-over h k big = digits-next h k ∙ digits_over most (10 * n + digit_number (get_or line i 0)) (drop (i + 1) line) big

-- a number that begins at a place
module _ (most : ℕ) (line : List ℕ) (from : ℕ) where
  pub digits-none : length line ≤ from → none ≡ read_digits most (drop from line)
  unfolding read_digits
  digits-none h = rw (text_past line from h)

  pub digits-other : from < length line → 9 < digit_number (get_or line from 0) → none ≡ read_digits most (drop from line)
  unfolding read_digits
  digits-other h k =
      let l : 10 ≤ digit_number (get_or line from 0) = omega arith in
      rw (text_at line from h, le-ltb (digit_number (get_or line from 0)) 10 l)

  pub digits-zero : from < length line → digit_number (get_or line from 0) ≡ 0 → found 0 (drop (from + 1) line) ≡ read_digits most (drop from line)
  unfolding read_digits
  digits-zero h e = rw (text_at line from h, e)

  pub digits-first : from < length line → digit_number (get_or line from 0) ≤ 9 → (digit_number (get_or line from 0) ≡ 0 → ⊥)
      → read_digits most (drop from line) ≡ digits_from most (digit_number (get_or line from 0)) (drop (from + 1) line)
  unfolding read_digits
  digits-first h k e =
      let l : digit_number (get_or line from 0) < 10 = omega arith in
      rw (text_at line from h, lt-ltb (digit_number (get_or line from 0)) 10 l, ne_eqb (digit_number (get_or line from 0)) 0 e)

-- ---- fields

pub signed-plain : (line : List ℕ) (at : ℕ) → at < length line → (get_or line at 0 ≡ 45 → ⊥) → positive (read_digits 2_147_483_647 (drop at line)) ≡ read_signed (drop at line)
unfolding read_signed
signed-plain line at h e = rw (text_at line at h, ne_eqb (get_or line at 0) 45 e)

pub end-not : (line : List ℕ) (end : ℕ) (c : Call) {bytes : Bool} → bytes ≡ false → end < length line → None ≡ at_end bytes c (drop end line)
unfolding at_end
end-not line end c e h = rw (e, text_at line end h)

-- ---- numbers within their bound

-- what was read is at most this
abbrev Most : ℕ → Field ℕ → Type 0
Most most none = Unit {0}
Most most (found n text) = n ≤ most

most_either : (most : ℕ) (t : Bool) (x y : Field ℕ) → Most most x → Most most y → Most most (cond t x y)
most_either most true x y p q = p
most_either most false x y p q = q

most_up_to : (most n : ℕ) (text : List ℕ) (t : Bool) → leb n most ≡ t → Most most (cond t (found n text) none)
most_up_to most n text true e = leb-true n most e
most_up_to most n text false e = tt

most_from : (most n : ℕ) (text : List ℕ) → Most most (digits_from most n text)
unfolding digits_from
most_from most n [] = most_up_to most n [] (leb n most) refl
most_from most n (b ∷ text) =
    most_either most (ltb (digit_number b) 10) (digits_from most (10 * n + digit_number b) text) (up_to most n (b ∷ text))
    (most_from most (10 * n + digit_number b) text)
    (most_up_to most n (b ∷ text) (leb n most) refl)

most_read : (most : ℕ) (text : List ℕ) → Most most (read_digits most text)
unfolding read_digits
most_read most [] = tt
most_read most (b ∷ text) =
    most_either most (ltb (digit_number b) 10) (cond (eqb (digit_number b) 0) (found 0 text) (digits_from most (digit_number b) text)) none
    (most_either most (eqb (digit_number b) 0) (found 0 text) (digits_from most (digit_number b) text) (omega arith) (most_from most (digit_number b) text))
    tt

-- ---- signed numbers

negative_suc : (n : ℕ) (text : List ℕ) → (n ≡ 0 → ⊥) → n ≤ 2147483648 → found (to_z w32 (4294967296 - n)) text ≡ negative (found n text)
negative_suc zero text h k = absurd (h refl)
negative_suc (suc n) text h k = ap (λ (v : ℤ). found v text) (to_z-neg w32 n (omega arith))

pub negative_is : (text : List ℕ) {n : ℕ} {rest : List ℕ} → read_digits 2147483648 text ≡ found n rest → (n ≡ 0 → ⊥) → found (to_z w32 (4294967296 - n)) rest ≡ negative (read_digits 2147483648 text)
negative_is text {n} {rest} e h =
    let m : n ≤ 2147483648 = rw e at (most_read 2147483648 text) in
    rw e (negative_suc n rest h m)

pub positive_is : (text : List ℕ) {n : ℕ} {rest : List ℕ} → read_digits 2147483647 text ≡ found n rest → found (to_z w32 n) rest ≡ positive (read_digits 2147483647 text)
positive_is text {n} {rest} e =
    let m : n ≤ 2147483647 = rw e at (most_read 2147483647 text) in
    rw e (ap (λ (v : ℤ). found v rest) (to_z_pos w32 (omega arith)))
