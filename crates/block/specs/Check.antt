-- The check of document 02, Req 04: two whole sums over the 16-bit words of a block's first 504 bytes.
use Rattle.std.specs.Prelude.{ℕ, zero, suc, ◌+◌, ◌*◌, ◌-◌, Bool, ◌&&◌, List, ◌++◌, eqb, length, get_or}
use Rattle.std.proofs.Math.Seq.{slice}
use Rattle.block.specs.Numbers.{bytes_of, number_from}

-- document 01's w(i): the 16-bit word at byte 2·i
unfoldable pub word : List ℕ → ℕ → ℕ
word b i = get_or b (2 * i) 0 + 256 * get_or b (2 * i + 1) 0

-- the sum of w(i) over the first k words
unfoldable pub sum_to : List ℕ → ℕ → ℕ
sum_to b zero = 0
sum_to b (suc k) = sum_to b k + word b k

-- the sum of (252 − i)·w(i) over the first k words
unfoldable pub weighted_to : List ℕ → ℕ → ℕ
weighted_to b zero = 0
weighted_to b (suc k) = weighted_to b k + (252 - k) * word b k

-- no modulus: of bytes both are below 2^32 (`Theorems.fits`)
unfoldable pub first_check : List ℕ → ℕ
first_check b = sum_to b 252

unfoldable pub second_check : List ℕ → ℕ
second_check b = weighted_to b 252

-- the eight bytes at 504 to 511
unfoldable pub check_bytes : List ℕ → List ℕ
check_bytes b = bytes_of 4 (first_check b) ++ bytes_of 4 (second_check b)

-- a block's last eight bytes are the check of those before
unfoldable pub check_matches : List ℕ → Bool
check_matches b =
    eqb (length b) 512
    && eqb (first_check b) (number_from (slice 504 508 b))
    && eqb (second_check b) (number_from (slice 508 512 b))
