-- A line as a call: its letter, a space, the digit of its place, and then fields, each behind one space. A number is written as it would be printed.
use Rattle.std.specs.Prelude.{ℕ, zero, suc, ◌+◌, ◌*◌, ◌-◌, ◌≤◌, ◌≡◌, Bool, true, false, cond, ◌||◌, List, [], ◌∷◌, eqb, ltb, leb, ℤ, pos, negsuc, length, get_or, drop, Option, Some, None}
use Rattle.block.specs.Message.{within}
use Rattle.replay_parse.specs.declared.Call.{Call}
use Rattle.replay_parse.specs.declared.Shape.{Shape}

-- ---- numbers

-- what was read, and the text behind it
pub data Field (A : Type 0) : Type 0 where
  none : Field A
  found : A → List ℕ → Field A

-- a decimal digit's number, 10 for any other byte
unfoldable pub digit_number : ℕ → ℕ
digit_number b = cond (within 48 57 b) (b - 48) 10

-- the same as an Option, which the program has of it
abbrev pub digit_of : ℕ → Option ℕ
digit_of b = cond (within 48 57 b) (Some (b - 48)) None

-- at most `most`
abbrev pub up_to : ℕ → ℕ → List ℕ → Field ℕ
up_to most n text = cond (leb n most) (found n text) none

-- the digits in front of a text, on from n
unfoldable pub digits_from : ℕ → ℕ → List ℕ → Field ℕ
digits_from most n [] = up_to most n []
digits_from most n (b ∷ text) = cond (ltb (digit_number b) 10) (digits_from most (10 * n + digit_number b) text) (up_to most n (b ∷ text))

-- a number in front of a text: no 0 in front, but 0 itself
unfoldable pub read_digits : ℕ → List ℕ → Field ℕ
read_digits most [] = none
read_digits most (b ∷ text) =
    cond (ltb (digit_number b) 10) (cond (eqb (digit_number b) 0) (found 0 text) (digits_from most (digit_number b) text)) none

-- a field that is a number of 32 bits
unfoldable pub read_number : List ℕ → Field ℕ
read_number [] = none
read_number (b ∷ text) = cond (eqb b 32) (read_digits 4_294_967_295 text) none

abbrev pub positive : Field ℕ → Field ℤ
positive none = none
positive (found n text) = found (pos n) text

-- `-0` is no number
abbrev pub negative : Field ℕ → Field ℤ
negative none = none
negative (found zero text) = none
negative (found (suc n) text) = found (negsuc n) text

unfoldable pub read_signed : List ℕ → Field ℤ
read_signed [] = none
read_signed (b ∷ text) = cond (eqb b 45) (negative (read_digits 2_147_483_648 text)) (positive (read_digits 2_147_483_647 (b ∷ text)))

-- a field that is a signed number of 32 bits
unfoldable pub read_value : List ℕ → Field ℤ
read_value [] = none
read_value (b ∷ text) = cond (eqb b 32) (read_signed text) none

-- a number that is at most `most`, and the place behind it
abbrev pub number_up_to : ℕ → ℕ → ℕ → Option (ℕ × ℕ)
number_up_to most n end = cond (leb n most) (Some (n, end)) None

-- what the program has of a field of the line
abbrev pub field_of : {A : Type 0} → Option (A × ℕ) → List ℕ → Field A
field_of None line = none
field_of (Some (x, end)) line = found x (drop end line)

-- and the place behind it, 0 where there is none
abbrev pub end_of : {A : Type 0} → Option (A × ℕ) → ℕ
end_of None = 0
end_of (Some (x, end)) = end

-- of the line that field, and no other: a place within the line has one text behind it
pub record Reads {A : Type 0} (r : Option (A × ℕ)) (line : List ℕ) (f : Field A) : Type 0 where
  pub field : field_of r line ≡ f
  pub end : end_of r ≤ length line

-- ---- calls

abbrev pub one_of : ℕ → List ℕ → Bool
one_of letter [] = false
one_of letter (l ∷ ls) = eqb letter l || one_of letter ls

-- with no bytes
abbrev pub call_with : ℕ → ℕ → ℕ → ℤ → Call
call_with letter first second value = record { letter = letter; first = first; second = second; value = value; digits = 0 }

abbrev pub with_digits : Call → ℕ → Call
with_digits c n = record { letter = c.letter; first = c.first; second = c.second; value = c.value; digits = n }

-- behind a space, what is to be the digits of bytes: they are read where the bytes are wanted
abbrev pub bytes_behind : Call → List ℕ → Option Call
bytes_behind c [] = None
bytes_behind c (b ∷ text) = cond (eqb b 32) (Some (with_digits c (length text))) None

abbrev pub nothing_behind : Call → List ℕ → Option Call
nothing_behind c [] = Some c
nothing_behind c (b ∷ text) = None

unfoldable pub at_end : Bool → Call → List ℕ → Option Call
at_end bytes c text = cond bytes (bytes_behind c text) (nothing_behind c text)

-- a number or a value, where there is one
unfoldable pub number_if : Bool → List ℕ → Field ℕ
number_if has text = cond has (read_number text) (found 0 text)

unfoldable pub value_if : Bool → List ℕ → Field ℤ
value_if has text = cond has (read_value text) (found (pos 0) text)

-- how a line goes on: `Shape` is private to the crate, so proofs of others name it by this
abbrev pub Form : Type 0
Form = Shape

-- so many numbers, at most two, then a value or none, then bytes or none
abbrev pub fields : ℕ → Bool → Bool → Option Shape
fields numbers value bytes = Some (record { numbers = numbers; value = value; bytes = bytes })

-- by its letter, how a line goes on behind its place
unfoldable pub shape_of : ℕ → Option Shape
shape_of letter =
    cond (one_of letter (66 ∷ (75 ∷ (81 ∷ (83 ∷ (86 ∷ [])))))) {- B, K, Q, S, V -} (fields 0 false false)
    (cond (one_of letter (72 ∷ (80 ∷ []))) {- H, P -} (fields 0 false true)
    (cond (one_of letter (67 ∷ (68 ∷ (74 ∷ (88 ∷ []))))) {- C, D, J, X -} (fields 1 false false)
    (cond (one_of letter (65 ∷ (90 ∷ []))) {- A, Z -} (fields 1 true false)
    (cond (one_of letter (70 ∷ (79 ∷ (82 ∷ (85 ∷ []))))) {- F, O, R, U -} (fields 2 false false)
    (cond (one_of letter (77 ∷ (87 ∷ []))) {- M, W -} (fields 2 true false)
    (cond (one_of letter (89 ∷ [])) {- Y -} (fields 2 true true)
    None))))))

abbrev pub then : {A : Type 0} → Field A → (A → List ℕ → Option Call) → Option Call
then none f = None
then (found x text) f = f x text

-- the call of that letter and shape, with the text behind its place
unfoldable pub call_as : Shape → ℕ → List ℕ → Option Call
call_as s letter text =
    then (number_if (ltb 0 s.numbers) text) (λ (a : ℕ) (rest : List ℕ).
    then (number_if (ltb 1 s.numbers) rest) (λ (b : ℕ) (more : List ℕ).
    then (value_if s.value more) (λ (v : ℤ) (end : List ℕ). at_end s.bytes (call_with letter a b v) end)))

abbrev pub call_behind : Option Shape → ℕ → List ℕ → Option Call
call_behind None letter text = None
call_behind (Some s) letter text = call_as s letter text

unfoldable pub call_of : List ℕ → Option Call
call_of line = cond (ltb (length line) 3) None (call_behind (shape_of (get_or line 0 0)) (get_or line 0 0) (drop 3 line))

-- the place that the line names, 0 to 7
unfoldable pub place_named : List ℕ → Option ℕ
place_named line =
    cond (ltb (length line) 3) None
    (cond (eqb (get_or line 1 0) 32) (cond (within 48 55 (get_or line 2 0)) (Some (get_or line 2 0 - 48)) None) None)
