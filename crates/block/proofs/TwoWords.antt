-- A block that the reader accepts, changed in one or two of its words, is refused by 14: two words of the sums cannot make up for one
-- another in both, since their weights differ, and a word of the check makes up in one of them at most. Assumes nothing.
use Prim.Native.Nat.{ℕ, zero, suc, ◌+◌, ◌*◌, ◌-◌, ◌/◌, ◌≤◌, ◌<◌}
use mathlib.Core.Bool.{true, false}
use mathlib.Core.List.{List}
use mathlib.Core.Path.{◌≡◌, refl, sym, ◌∙◌}
use native.Mathlib.Decide.{dec_lt, ℕ_discrete}
use native.Mathlib.Nat.{mul-add, add-mul, not-suc-le-zero, eq_of_mul-eq-mul_left}
use native.Mathlib.Omega.{arith}
use borrow.Author.Tests.{eq-eqb, eqb-true}
use lib.ListN.{length, get_or}
use lib.Seq.{slice, ext_get_or}
use Rattle.block.specs.Answers.{first_of, block_refusal}
use Rattle.block.specs.Check.{word, sum_to, weighted_to, first_check, second_check, check_matches}
use Rattle.block.specs.Numbers.{number_from}
use Rattle.block.specs.Theorems.{Accepted, TwoWordsChanged}
use Rattle.block.proofs.AnswerLaws.{is_taken}
use Rattle.block.proofs.BoolLaws.{both, not_so}
use Rattle.block.proofs.CheckLaws.{word-most}
use Rattle.block.proofs.ListLaws.{AllBytes}
use Rattle.block.proofs.NumberLaws.{number-four}

-- ---- sums of two functions that differ at one place, or at two

total : (ℕ → ℕ) → ℕ → ℕ
total f zero = 0
total f (suc n) = total f n + f n

module _ (f g : ℕ → ℕ) where
  total-same : (n : ℕ) → ((k : ℕ) → k < n → g k ≡ f k) → total g n ≡ total f n
  unfolding total
  total-same zero h = refl
  total-same (suc n) h = rw (total-same n (λ k l. h k (omega arith)), h n (omega arith))

  total-one : (i n : ℕ) → i < n → ((k : ℕ) → k < n → (k ≡ i → ⊥) → g k ≡ f k) → total g n + f i ≡ total f n + g i
  unfolding total
  total-one i zero l h = absurd (not-suc-le-zero l)
  total-one i (suc n) l h = go (ℕ_discrete n i) (λ m. total-one i n m (λ k o. h k (omega arith)))
    where
      go : Dec (n ≡ i) → (i < n → total g n + f i ≡ total f n + g i) → total g n + g n + f i ≡ total f n + f n + g i
      go (yes e) _ =
          let s = total-same n (λ k m. h k (omega arith) (λ d. omega arith)) in
          rw (← e) (omega arith)
      go (no d) before = omega (arith, before (omega arith), h n (omega arith) d)

  total-two : (i j n : ℕ) → (i ≡ j → ⊥) → i < n → j < n → ((k : ℕ) → k < n → (k ≡ i → ⊥) → (k ≡ j → ⊥) → g k ≡ f k)
      → total g n + (f i + f j) ≡ total f n + (g i + g j)
  unfolding total
  total-two i j zero u l m h = absurd (not-suc-le-zero l)
  total-two i j (suc n) u l m h = go (ℕ_discrete n i) (ℕ_discrete n j) (λ c d. total-two i j n u c d (λ k o. h k (omega arith)))
    where
      go : Dec (n ≡ i) → Dec (n ≡ j) → (i < n → j < n → total g n + (f i + f j) ≡ total f n + (g i + g j))
          → total g n + g n + (f i + f j) ≡ total f n + f n + (g i + g j)
      go (yes e) d _ =
          let s = total-one j n (omega arith) (λ k o. h k (omega arith) (λ r. omega arith)) in
          rw (← e) (omega arith)
      go (no c) (yes e) _ =
          let s = total-one i n (omega arith) (λ k o q. h k (omega arith) q (λ r. omega arith)) in
          rw (← e) (omega arith)
      go (no c) (no d) before = omega (arith, before (omega arith) (omega arith), h n (omega arith) c d)

abbrev weighed : List ℕ → ℕ → ℕ
weighed b k = (252 - k) * word b k

sum-total : (b : List ℕ) (n : ℕ) → sum_to b n ≡ total (word b) n
unfolding sum_to total
sum-total b zero = refl
sum-total b (suc n) = rw (sum-total b n)

weighted_total : (b : List ℕ) (n : ℕ) → weighted_to b n ≡ total (weighed b) n
unfolding weighted_to total
weighted_total b zero = refl
weighted_total b (suc n) = rw (weighted_total b n)

-- two numbers of one sum are each the same, if they make one sum under two different weights too
unmixed : (p q x y u v : ℕ) → (p ≡ q → ⊥) → u + v ≡ x + y → p * u + q * v ≡ p * x + q * y → u ≡ x
unmixed p q x y u v d s w = go (dec_lt p q)
  where
    go : Dec (p < q) → u ≡ x
    go (yes l) =
        let e : q ≡ p + (q - p) = omega arith in
        let a : p * u + p * v ≡ p * x + p * y = rw (← mul-add p u v, s) (mul-add p x y) in
        let w' = simp add-mul at (rw e at w) in
        let r : v ≡ y = eq_of_mul-eq-mul_left (q - p) (omega arith) v y (omega arith) in
        omega arith
    go (no l) =
        let e : p ≡ q + (p - q) = omega arith in
        let a : q * u + q * v ≡ q * x + q * y = rw (← mul-add q u v, s) (mul-add q x y) in
        let w' = simp add-mul at (rw e at w) in
        eq_of_mul-eq-mul_left (p - q) (omega arith) u x (omega arith)

-- ---- what a block that passes its check has, by words

-- the number in four bytes is that in two words
words_number : (b : List ℕ) (i : ℕ) → 2 * i + 4 ≤ length b → number_from (slice (2 * i) (2 * i + 4) b) ≡ word b i + 65536 * word b (i + 1)
unfolding word number_from
words_number b i h =
    let n = number-four b (2 * i) h in
    let e : 2 * (i + 1) ≡ 2 * i + 2 = omega arith in
    let d : 2 * i + 2 + 1 ≡ 2 * i + 3 = omega arith in
    rw (e, d, ← n) (omega arith)

record Matched (b : List ℕ) : Type 0 where
  long : length b ≡ 512
  first : sum_to b 252 ≡ word b 252 + 65536 * word b 253
  second : weighted_to b 252 ≡ word b 254 + 65536 * word b 255

matched : (b : List ℕ) → check_matches b ≡ true → Matched b
unfolding check_matches first_check second_check
matched b e =
    let outer = both _ _ e in
    let inner = both _ _ outer.left in
    let n : length b ≡ 512 = eqb-true (length b) 512 inner.left in
    record {
      long = n;
      first = eqb-true (sum_to b 252) (number_from (slice 504 508 b)) inner.right ∙ words_number b 252 (omega arith);
      second = eqb-true (weighted_to b 252) (number_from (slice 508 512 b)) outer.right ∙ words_number b 254 (omega arith);
    }

-- ---- two blocks that pass their check and differ in two words at most are one

-- c has the words of b, but for i and j
Elsewhere : List ℕ → List ℕ → ℕ → ℕ → Type 0
Elsewhere b c i j = (k : ℕ) → (k ≡ i → ⊥) → (k ≡ j → ⊥) → word c k ≡ word b k

-- a word of the sums is the same
module _ (b c : List ℕ) (p : Matched b) (q : Matched c) (i j : ℕ) (low : i < 252) (h : Elsewhere b c i j) where
  -- by the first sum, where the other word is neither in it nor in the number that holds it
  by_first : ((k : ℕ) → k < 254 → (k ≡ i → ⊥) → k ≡ j → ⊥) → word c i ≡ word b i
  unfolding Elsewhere
  by_first far =
      let s = total-one (word b) (word c) i 252 low (λ k l d. h k d (far k (omega arith) d)) in
      let x = h 252 (λ e. omega arith) (far 252 (omega arith) (λ e. omega arith)) in
      let y = h 253 (λ e. omega arith) (far 253 (omega arith) (λ e. omega arith)) in
      omega (arith, sum-total b 252, sum-total c 252, p.first, q.first)

  -- by the second, where the other word is in the number that holds the first
  by-second : 252 ≤ j → j < 254 → word c i ≡ word b i
  unfolding Elsewhere
  by-second l m =
      let s = total-one (weighed b) (weighed c) i 252 low (λ k o d. rw (h k d (λ e. omega arith))) in
      let x = h 254 (λ e. omega arith) (λ e. omega arith) in
      let y = h 255 (λ e. omega arith) (λ e. omega arith) in
      eq_of_mul-eq-mul_left (252 - i) (omega arith) (word c i) (word b i)
      (omega (arith, weighted_total b 252, weighted_total c 252, p.second, q.second))

  -- by both, where the other word is in both
  by_both : (i ≡ j → ⊥) → j < 252 → word c i ≡ word b i
  unfolding Elsewhere
  by_both d m =
      let s = total-two (word b) (word c) i j 252 d low m (λ k o. h k) in
      let t = total-two (weighed b) (weighed c) i j 252 d low m (λ k o x y. rw (h k x y)) in
      let w = h 252 (λ e. omega arith) (λ e. omega arith) in
      let x = h 253 (λ e. omega arith) (λ e. omega arith) in
      let y = h 254 (λ e. omega arith) (λ e. omega arith) in
      let z = h 255 (λ e. omega arith) (λ e. omega arith) in
      unmixed (252 - i) (252 - j) (word b i) (word b j) (word c i) (word c j) (λ e. d (omega arith))
      (omega (arith, sum-total b 252, sum-total c 252, p.first, q.first))
      (omega (arith, weighted_total b 252, weighted_total c 252, p.second, q.second))

  summed_same : word c i ≡ word b i
  summed_same = go (ℕ_discrete i j) (dec_lt j 252) (dec_lt j 254)
    where
      go : Dec (i ≡ j) → Dec (j < 252) → Dec (j < 254) → word c i ≡ word b i
      go (yes e) l m = by_first (λ k n d u. d (u ∙ sym e))
      go (no d) (yes l) m = by_both d l
      go (no d) (no l) (yes m) = by-second (omega arith) m
      go (no d) (no l) (no m) = by_first (λ k n x u. omega arith)

module _ (b c : List ℕ) (p : Matched b) (q : Matched c) (f : AllBytes b) (g : AllBytes c) (i j : ℕ) (h : Elsewhere b c i j) where
  low_same : (k : ℕ) → k < 252 → word c k ≡ word b k
  unfolding Elsewhere
  low_same k l = go (ℕ_discrete k i) (ℕ_discrete k j)
    where
      go : Dec (k ≡ i) → Dec (k ≡ j) → word c k ≡ word b k
      go (yes e) d = summed_same b c p q k j l (λ n x y. h n (λ u. x (u ∙ sym e)) y)
      go (no d) (yes e) = summed_same b c p q k i l (λ n x y. h n y (λ u. x (u ∙ sym e)))
      go (no d) (no e) = h k d e

  -- so are the sums, and with them the numbers held
  first-same : word c 252 + 65536 * word c 253 ≡ word b 252 + 65536 * word b 253
  first-same =
      let s = total-same (word b) (word c) 252 low_same in
      omega (arith, sum-total b 252, sum-total c 252, p.first, q.first)

  second-same : word c 254 + 65536 * word c 255 ≡ word b 254 + 65536 * word b 255
  second-same =
      let s = total-same (weighed b) (weighed c) 252 (λ k l. rw (low_same k l)) in
      omega (arith, weighted_total b 252, weighted_total c 252, p.second, q.second)

  word_same : (k : ℕ) → k < 256 → word c k ≡ word b k
  word_same k l = go (dec_lt k 252) (ℕ_discrete k 252) (ℕ_discrete k 253) (ℕ_discrete k 254) (ℕ_discrete k 255)
    where
      go : Dec (k < 252) → Dec (k ≡ 252) → Dec (k ≡ 253) → Dec (k ≡ 254) → Dec (k ≡ 255) → word c k ≡ word b k
      go (yes m) _ _ _ _ = low_same k m
      go (no m) (yes e) _ _ _ = rw e (omega (arith, first-same, word-most b f 252, word-most c g 252))
      go (no m) (no _) (yes e) _ _ = rw e (omega (arith, first-same, word-most b f 252, word-most c g 252))
      go (no m) (no _) (no _) (yes e) _ = rw e (omega (arith, second-same, word-most b f 254, word-most c g 254))
      go (no m) (no _) (no _) (no _) (yes e) = rw e (omega (arith, second-same, word-most b f 254, word-most c g 254))
      go (no m) (no u) (no v) (no w) (no x) = absurd (omega arith)

  bytes_same : (k : ℕ) → word c k ≡ word b k → (get_or c (2 * k) 0 ≡ get_or b (2 * k) 0) × (get_or c (2 * k + 1) 0 ≡ get_or b (2 * k + 1) 0)
  unfolding word
  bytes_same k e =
      let x = f.each (2 * k) in
      let y = g.each (2 * k) in
      (omega arith, omega arith)

  byte-same : (n : ℕ) → n < 512 → get_or c n 0 ≡ get_or b n 0
  byte-same n l = go (ℕ_discrete (2 * (n / 2)) n)
    where
      both_bytes : (get_or c (2 * (n / 2)) 0 ≡ get_or b (2 * (n / 2)) 0) × (get_or c (2 * (n / 2) + 1) 0 ≡ get_or b (2 * (n / 2) + 1) 0)
      both_bytes = bytes_same (n / 2) (word_same (n / 2) (omega arith))

      go : Dec (2 * (n / 2) ≡ n) → get_or c n 0 ≡ get_or b n 0
      go (yes e) = rw e at both_bytes.0
      go (no d) = let e : 2 * (n / 2) + 1 ≡ n = omega arith in rw e at both_bytes.1

  block_same : c ≡ b
  block_same = ext_get_or 0 c b (q.long ∙ sym p.long) (λ n l. byte-same n (omega (arith, q.long)))

pub two_words : (b c : List ℕ) (i j : ℕ) → Accepted b → TwoWordsChanged b c i j → block_refusal c ≡ 14
unfolding block_refusal first_of Elsewhere
two_words b c i j a t =
    let k = is_taken b a.taken in
    let d : check_matches c ≡ false = not_so _ (λ s. t.changed
    (block_same b c (matched b k.checks) (matched c s) (record { each = a.bytes }) (record { each = t.bytes }) i j t.elsewhere)) in
    rw (eq-eqb (length c) 512 t.long, d)
