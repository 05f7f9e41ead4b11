-- What is printed of an answer, as bytes, and what a buffer is left with.
use Rattle.std.specs.Prelude.{ℕ, zero, suc, ◌+◌, ◌/◌, ◌%◌, ◌<◌, min, ◌≡◌, cond, List, [], ◌∷◌, ◌++◌, eqb, ltb, ℤ, pos, negsuc, length, take, drop}

-- ---- texts

-- a number's decimal digits, no zero in front, in at most k digits
unfoldable pub decimal_within : ℕ → ℕ → List ℕ
decimal_within zero n = []
decimal_within (suc k) n = cond (ltb n 10) ((48 + n) ∷ []) (decimal_within k (n / 10) ++ ((48 + n % 10) ∷ []))

-- any number of 64 bits has at most 20
abbrev pub decimal : ℕ → List ℕ
decimal n = decimal_within 20 n

-- a minus in front of a number below zero
abbrev pub signed : ℤ → List ℕ
signed (pos n) = decimal n
signed (negsuc n) = 45 ∷ decimal (suc n)

-- a digit below 16, in lower case
abbrev pub hex_digit : ℕ → ℕ
hex_digit d = cond (ltb d 10) (48 + d) (87 + d)

-- a byte as two digits
abbrev pub hex_byte : ℕ → List ℕ
hex_byte b = hex_digit (b / 16) ∷ (hex_digit (b % 16) ∷ [])

-- the texts of a list, one after the other
unfoldable pub each : {A : Type 0} → (A → List ℕ) → List A → List ℕ
each text [] = []
each text (x ∷ xs) = text x ++ each text xs

-- a field: a space in front
abbrev pub field : {A : Type 0} → (A → List ℕ) → A → List ℕ
field text x = 32 ∷ text x

-- a block, with a space in front; of no bytes, nothing
abbrev pub block_text : List ℕ → List ℕ
block_text b = cond (eqb (length b) 0) [] (32 ∷ each hex_byte b)

-- the line of a call: its number, and what it gives
abbrev pub answer_text : ℕ → List ℕ → List ℤ → List ℕ → List ℕ
answer_text number numbers values block = decimal number ++ (each (field decimal) numbers ++ (each (field signed) values ++ (block_text block ++ (10 ∷ []))))

-- the line of what is no call
abbrev pub unknown_text : List ℕ
unknown_text = 63 ∷ (10 ∷ [])

-- ---- buffers

-- the text over a buffer's first bytes, as much of it as there is room for
abbrev pub over : List ℕ → List ℕ → List ℕ
over text buffer = take (length buffer) text ++ drop (length text) buffer

-- `left` is the buffer with the text over its first bytes, and n is how many these are
pub record Holds (buffer text left : List ℕ) (n : ℕ) : Type 0 where
  pub bytes : left ≡ over text buffer
  pub count : n ≡ min (length text) (length buffer)

-- whatever text the buffer held at its first `at` bytes, it now holds that and then `more`; where it has not so many bytes, all is left
pub record Appends (more old : List ℕ) (at : ℕ) (left : List ℕ) (end : ℕ) : Type 0 where
  pub behind : (buffer text : List ℕ) → Holds buffer text old at → Holds buffer (text ++ more) left end
  pub beyond : length old < at → (left ≡ old) × (end ≡ at)
