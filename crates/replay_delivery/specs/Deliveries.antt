-- Which bytes a line names. The blocks sent count from 0 over the whole run, and the last 64 are kept.
use Rattle.std.specs.Prelude.{ℕ, ◌+◌, ◌*◌, ◌-◌, ◌/◌, ◌%◌, Bool, true, false, cond, ◌&&◌, ◌||◌, List, [], ◌∷◌, ◌++◌, eqb, ltb, leb, length, take, drop, replicate, Option, Some, None}
use Rattle.block.specs.Message.{within}
use Rattle.block.specs.Theorems.{flip_bit}
use Rattle.replay_parse.specs.declared.Call.{Call}
use Rattle.replay_delivery.specs.declared.Delivery.{Delivery}

-- where block i stands among those kept, 512 bytes each
abbrev pub kept_start : ℕ → ℕ
kept_start i = 512 * (i % 64)

-- block i was sent, and is one of the last 64
abbrev pub is_kept : ℕ → ℕ → Bool
is_kept i sent = ltb i sent && leb sent (i + 64)

-- a hexadecimal digit's number, in lower case; 16 for any other byte
unfoldable pub hex_number : ℕ → ℕ
hex_number b = cond (within 48 57 b) (b - 48) (cond (within 97 102 b) (b - 87) 16)

-- the byte that two digits write, 256 where they are none
unfoldable pub hex_pair : ℕ → ℕ → ℕ
hex_pair a b = cond (ltb (hex_number a) 16 && ltb (hex_number b) 16) (16 * hex_number a + hex_number b) 256

-- n, where it is below `most`
abbrev pub below : ℕ → ℕ → Option ℕ
below most n = cond (ltb n most) (Some n) None

-- digits alone, two to a byte
unfoldable pub is_hex : List ℕ → Bool
is_hex [] = true
is_hex (a ∷ []) = false
is_hex (a ∷ (b ∷ rest)) = ltb (hex_pair a b) 256 && is_hex rest

unfoldable pub unhex : List ℕ → List ℕ
unhex [] = []
unhex (a ∷ []) = []
unhex (a ∷ (b ∷ rest)) = hex_pair a b ∷ unhex rest

-- at most so many bytes
abbrev pub is_hex_text : ℕ → List ℕ → Bool
is_hex_text most digits = leb (length digits) (2 * most) && is_hex digits

-- H writes out at most 520 bytes, P 130, Y 2,100
abbrev pub most_bytes : ℕ → ℕ
most_bytes letter = cond (eqb letter 72) 520 (cond (eqb letter 80) 130 2_100)

-- the digits that end the line
abbrev pub digits_of : Call → List ℕ → List ℕ
digits_of c line = drop (length line - c.digits) line

-- whether the line of the call names bytes: for D and F a block that is kept and a bit of it, for others the digits that end it. A call without digits has no bytes
unfoldable pub names_bytes : Call → List ℕ → ℕ → Bool
names_bytes c line sent =
    cond (eqb c.letter 68 || eqb c.letter 70) (is_kept c.first sent && leb c.second 4095) (is_hex_text (most_bytes c.letter) (digits_of c line))

-- the bytes that it names, given the block kept at that place
unfoldable pub bytes_named : Call → List ℕ → List ℕ → List ℕ
bytes_named c line block =
    cond (eqb c.letter 68) (take 2_100 block)
    (cond (eqb c.letter 70) (flip_bit (take 2_100 block) (c.second / 8) (c.second % 8))
    (unhex (digits_of c line)))

-- zeros behind, 2,100 bytes in all
unfoldable pub padded : List ℕ → List ℕ
padded bytes = bytes ++ replicate (2_100 - length bytes) 0

abbrev pub filled : List ℕ → Delivery
filled bytes = record { count = length bytes; bytes = padded bytes }

abbrev pub delivery : Bool → List ℕ → Option Delivery
delivery known bytes = cond known (Some (filled bytes)) None
