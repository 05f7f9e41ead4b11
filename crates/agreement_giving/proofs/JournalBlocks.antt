-- The blocks of a journal, by their number, and those that a restart reads of it. Assumes nothing.
use Prim.Native.Nat.{ℕ, ◌+◌, ◌*◌, ◌/◌, ◌≤◌, ◌<◌}
use mathlib.Core.Path.{◌≡◌, sym, ap, ◌∙◌}
use mathlib.Core.Bool.{true}
use mathlib.Core.List.{List, [], ◌++◌}
use native.Mathlib.Omega.{arith}
use lib.ListN.{length, length-take, length-drop, get_or, take, drop}
use lib.Seq.{take-append-le, drop_at, take_all}
use Rattle.block.specs.Answers.{header_of}
use Rattle.block.proofs.AnswerLaws.{is_taken}
use Rattle.block.proofs.ListLaws.{part-take}
use Rattle.engine.specs.Restart.{is_good, blocks_in}
use Rattle.engine.proofs.RestartLaws.{good_taken}
use Rattle.giving.proofs.Rings.{block_no, reads_at}

pub block_before : (l b : List ℕ) (s : ℕ) → 512 * s + 512 ≤ length l → block_no (l ++ b) s ≡ block_no l s
block_before l b s h = ap (drop (512 * s)) (take-append-le (512 * s + 512) l b h)

pub block_at : (l b : List ℕ) (s : ℕ) → length l ≡ 512 * s → length b ≡ 512 → block_no (l ++ b) s ≡ b
block_at l b s e h = part-take (512 * s) 512 (l ++ b) ∙ ap (take 512) (drop_at l b (512 * s) e) ∙ take_all 512 b (omega arith)

-- the i-th that a restart reads is the journal's, good and of slot i
pub read_at : (n : ℕ) (j : List ℕ) (i : ℕ) → i < length (blocks_in n j) → let b = get_or (blocks_in n j) i [] in (b ≡ block_no j i) × (is_good n b ≡ true) × ((header_of b).slot ≡ i)
read_at n j i h = let r = reads_at n 0 (length j / 512) j i h in let z : 0 + i ≡ i = omega arith in (r.0, r.1, r.2 ∙ z)

-- and lies within the journal
pub read_fits : (n : ℕ) (j : List ℕ) (i : ℕ) → i < length (blocks_in n j) → 512 * i + 512 ≤ length j
read_fits n j i h =
    let r = read_at n j i h in
    let e : length (block_no j i) ≡ 512 = ap length (sym r.0) ∙ (is_taken _ (good_taken n _ r.1)).long in
    let a = length-drop (512 * i) (take (512 * i + 512) j) in
    let c = length-take (512 * i + 512) j in
    omega arith
