-- The chunks that a slice is read in. Assumes nothing.
use Rattle.std.proofs.Common.{ℕ, zero, suc, ◌+◌, ◌*◌, ◌/◌, ◌<◌, ◌≡◌, ◌∙◌, List, length, get_or, take, drop, arith}
use Rattle.std.specs.Simd.{first_chunks}
use lib.Seq.{drop-drop}

-- chunk i of k is what stands from n * i on
pub chunk_at : (n k i : ℕ) (l d : List ℕ) → i < k → get_or (first_chunks n k l) i d ≡ take n (drop (n * i) l)
chunk_at n zero i l d h = absurd (omega (arith, h))
chunk_at n (suc k) zero l d h = let e : n * 0 ≡ 0 = omega arith in rw e
chunk_at n (suc k) (suc i) l d h =
    let e : n + n * i ≡ n * suc i = omega arith in
    chunk_at n k i (drop n l) d (omega (arith, h)) ∙ rw (drop-drop (n * i) n l, e)

-- of all that are whole
pub read_at : (n i : ℕ) (l d : List ℕ) (chunks : List (List ℕ)) → chunks ≡ first_chunks n (length l / n) l → i < length l / n → get_or chunks i d ≡ take n (drop (n * i) l)
read_at n i l d chunks is h = rw is (chunk_at n (length l / n) i l d h)
