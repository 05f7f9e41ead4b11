-- Numbers in bytes, little-endian, at any width.
use Rattle.std.specs.Prelude.{ℕ, zero, suc, ◌+◌, ◌*◌, ◌/◌, ◌%◌, List, [], ◌∷◌, ℤ}
use Rattle.std.specs.Int.{w32}
use Rattle.std.proofs.Common.{to_z, of_z}

-- the n lowest bytes of x, the lowest first
unfoldable pub bytes_of : ℕ → ℕ → List ℕ
bytes_of zero x = []
bytes_of (suc n) x = x % 256 ∷ bytes_of n (x / 256)

-- the number that bytes hold, the lowest first
unfoldable pub number_from : List ℕ → ℕ
number_from [] = 0
number_from (b ∷ bs) = b + 256 * number_from bs

-- a signed 32-bit value's four bytes, and the value of four bytes: two's complement
unfoldable pub value_bytes : ℤ → List ℕ
value_bytes v = bytes_of 4 (of_z w32 v)

unfoldable pub value_of : List ℕ → ℤ
value_of bs = to_z w32 (number_from bs)
