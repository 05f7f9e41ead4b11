-- A block's check is that of its first 504 bytes, and matches just where the block is those bytes and their check. Assumes nothing.
use Prim.Native.Nat.{ℕ, zero, suc, ◌+◌, ◌*◌, ◌-◌, ◌≤◌, ◌<◌}
use mathlib.Core.Bool.{true, false}
use mathlib.Core.List.{List, ◌++◌}
use mathlib.Core.Path.{◌≡◌, refl, sym, ap, ◌∙◌}
use native.Mathlib.Nat.{mul-add, add-mul, mul-le-mul_left, mul-le-mul_right}
use native.Mathlib.Numerals.{add-one, add-two, add-three, add-four}
use native.Mathlib.Omega.{arith}
use borrow.Author.Tests.{eq-eqb, eqb-true, ne_eqb}
use lib.Dec.{eqb}
use lib.ListN.{length, take, drop, take-append-drop, get_or-append, length-append}
use lib.Seq.{slice, length-take-le, length-slice}
use Rattle.block.specs.Check.{word, sum_to, weighted_to, first_check, second_check, check_bytes, check_matches}
use Rattle.block.specs.Numbers.{bytes_of, number_from}
use Rattle.block.proofs.BoolLaws.{both, joined}
use Rattle.block.proofs.ListLaws.{AllBytes, bytes_append, bytes_slice, slice_at, slice-end, cut, drop-slice}
use Rattle.block.proofs.NumberLaws.{length-bytes_of, bytes_bytes_of, number_from-bytes_of, bytes_of-number_from}

module _ (a c : List ℕ) where
  pub word-append : (i : ℕ) → 2 * i + 1 < length a → word (a ++ c) i ≡ word a i
  unfolding word
  word-append i h = rw (get_or-append a c 0 (2 * i) (omega arith), get_or-append a c 0 (2 * i + 1) h)

  pub sum_to-append : (k : ℕ) → 2 * k ≤ length a → sum_to (a ++ c) k ≡ sum_to a k
  unfolding sum_to
  sum_to-append zero h = refl
  sum_to-append (suc k) h = rw (sum_to-append k (omega arith), word-append k (omega arith))

  pub weighted_to-append : (k : ℕ) → 2 * k ≤ length a → weighted_to (a ++ c) k ≡ weighted_to a k
  unfolding weighted_to
  weighted_to-append zero h = refl
  weighted_to-append (suc k) h = rw (weighted_to-append k (omega arith), word-append k (omega arith))

  pub first_check-append : 504 ≤ length a → first_check (a ++ c) ≡ first_check a
  unfolding first_check
  first_check-append h = rw (sum_to-append 252 h)

  pub second_check-append : 504 ≤ length a → second_check (a ++ c) ≡ second_check a
  unfolding second_check
  second_check-append h = rw (weighted_to-append 252 h)

-- so it is that of the first 504 bytes
first_check-take : (b : List ℕ) → 504 ≤ length b → first_check (take 504 b) ≡ first_check b
first_check-take b h =
    let l = length-take-le 504 b h in
    sym (ap first_check (sym (take-append-drop 504 b)) ∙ first_check-append (take 504 b) (drop 504 b) (omega arith))

second_check-take : (b : List ℕ) → 504 ≤ length b → second_check (take 504 b) ≡ second_check b
second_check-take b h =
    let l = length-take-le 504 b h in
    sym (ap second_check (sym (take-append-drop 504 b)) ∙ second_check-append (take 504 b) (drop 504 b) (omega arith))

pub check_take : (b : List ℕ) → 504 ≤ length b → check_bytes (take 504 b) ≡ check_bytes b
unfolding check_bytes
check_take b h = rw (first_check-take b h, second_check-take b h)

pub length-check_bytes : (b : List ℕ) → length (check_bytes b) ≡ 8
unfolding check_bytes
length-check_bytes b = simp (length-append, length-bytes_of)

pub bytes_check_bytes : (b : List ℕ) → AllBytes (check_bytes b)
unfolding check_bytes
bytes_check_bytes b = bytes_append (bytes_bytes_of 4 (first_check b)) (bytes_bytes_of 4 (second_check b))

-- ---- the sums of bytes fit 32 bits

-- the sum of the first k weights
weights_to : ℕ → ℕ
weights_to zero = 0
weights_to (suc k) = weights_to k + (252 - k)

module _ (b : List ℕ) (f : AllBytes b) where
  pub word-most : (i : ℕ) → word b i ≤ 65535
  unfolding word
  word-most i = omega (arith, f.each (2 * i), f.each (2 * i + 1))

  sum-most : (k : ℕ) → sum_to b k ≤ 65535 * k
  unfolding sum_to
  sum-most zero = omega arith
  sum-most (suc k) = omega (arith, sum-most k, word-most k)

  weighted-most : (k : ℕ) → weighted_to b k ≤ 65535 * weights_to k
  unfolding weighted_to weights_to
  weighted-most zero = omega arith
  weighted-most (suc k) = omega (arith, weighted-most k, mul-le-mul_left (252 - k) (word-most k))

  pub first-most : first_check b ≤ 16514820
  unfolding first_check
  first-most = sum-most 252

  pub second-most : second_check b ≤ 2089124730
  unfolding second_check weights_to
  second-most = weighted-most 252

-- ---- the check behind what it is of

-- 504 bytes with their check behind them
pub check_matches_lem : (a : List ℕ) → AllBytes a → length a ≡ 504 → check_matches (a ++ check_bytes a) ≡ true
unfolding check_matches check_bytes
check_matches_lem a f e = joined (joined (eq-eqb _ 512 long) (eq-eqb _ _ one)) (eq-eqb _ _ two)
  where
    x : List ℕ
    x = bytes_of 4 (first_check a)

    y : List ℕ
    y = bytes_of 4 (second_check a)

    long : length (a ++ (x ++ y)) ≡ 512
    long = simp (length-append, length-bytes_of, e)

    one : first_check (a ++ (x ++ y)) ≡ number_from (slice 504 508 (a ++ (x ++ y)))
    one =
        rw (first_check-append a (x ++ y) (omega arith), slice_at a x y 504 508 e (omega (arith, length-bytes_of 4 (first_check a))))
        (sym (number_from-bytes_of 4 (first_check a) (omega (arith, first-most a f))))

    two : second_check (a ++ (x ++ y)) ≡ number_from (slice 508 512 (a ++ (x ++ y)))
    two =
        let m = length-bytes_of 4 (first_check a) in
        let n = length-bytes_of 4 (second_check a) in
        rw (second_check-append a (x ++ y) (omega arith), slice-end a x y 508 512 (omega arith) (omega arith))
        (sym (number_from-bytes_of 4 (second_check a) (omega (arith, second-most a f))))

-- and the other way: a block whose check matches is its first 504 bytes and their check
pub check_whole : (b : List ℕ) → AllBytes b → check_matches b ≡ true → take 504 b ++ check_bytes (take 504 b) ≡ b
unfolding check_matches check_bytes
check_whole b f h =
    let c = both _ _ h in
    let d = both _ _ c.left in
    let e = eqb-true (length b) 512 d.left in
    let front = length-take-le 504 b (omega arith) in
    let x = rw take-append-drop at (first_check-append (take 504 b) (drop 504 b) (omega arith)) in
    let y = rw take-append-drop at (second_check-append (take 504 b) (drop 504 b) (omega arith)) in
    rw (
      ← x,
      ← y,
      eqb-true (first_check b) (number_from (slice 504 508 b)) d.right,
      eqb-true (second_check b) (number_from (slice 508 512 b)) c.right,
      bytes_of-number_from 4 (slice 504 508 b) (bytes_slice 504 508 f) (length-slice 504 508 b (omega arith)),
      bytes_of-number_from 4 (slice 508 512 b) (bytes_slice 508 512 f) (length-slice 508 512 b (omega arith)),
      ← drop-slice 508 512 b e,
      ← cut 504 508 b (omega arith),
    )
    (take-append-drop 504 b)

-- ---- the answers of the code

-- four words with their weights, from the weight of the last
weigh : (v a b c d : ℕ) → v * (a + b + c + d) + (3 * a + 2 * b + c) ≡ (v + 3) * a + (v + 2) * b + (v + 1) * c + v * d
weigh v a b c d = simp (mul-add, add-mul) (omega arith)

-- a turn of the sums: a and e are the sums before it, w the words that it adds, s the second sum and r what it has too much
turn : (u a e w s r t x q : ℕ) → 4 * e + (u + 4) * a ≡ s + r → t ≡ s + ((u + 1) * w + x) → q + x ≡ r + 3 * w
    → 4 * (e + (a + w)) + u * (a + w) ≡ t + q
turn u a e w s r t x q before next rest =
    let m : (u + 4) * a + (u + 1) * w ≡ u * (a + w) + 4 * a + w = simp (mul-add, add-mul) (omega arith) in
    omega arith

-- four words more, a to d
module _ (l : List ℕ) (k : ℕ) (low : k ≤ 248) (a b c d : ℕ)
    (is-a : a ≡ word l k) (is_b : b ≡ word l (k + 1)) (is_c : c ≡ word l (k + 2)) (is-d : d ≡ word l (k + 3)) where
  next-b : b ≡ word l (suc k)
  next-b = rw (add-one k) at is_b

  next-c : c ≡ word l (suc (suc k))
  next-c = rw (add-two k) at is_c

  next-d : d ≡ word l (suc (suc (suc k)))
  next-d = rw (add-three k) at is-d

  pub sum-next : sum_to l (k + 4) ≡ sum_to l k + (a + b + c + d)
  unfolding sum_to
  sum-next = rw (add-four k, ← is-a, ← next-b, ← next-c, ← next-d) (omega arith)

  pub weighted-next : weighted_to l (k + 4) ≡ weighted_to l k + ((249 - k) * (a + b + c + d) + (3 * a + 2 * b + c))
  unfolding weighted_to
  weighted-next =
      let v : ℕ = 249 - k in
      let p : 252 - k ≡ v + 3 = omega arith in
      let q : 252 - suc k ≡ v + 2 = omega arith in
      let r : 252 - suc (suc k) ≡ v + 1 = omega arith in
      let s : 252 - suc (suc (suc k)) ≡ v = omega arith in
      rw (add-four k, ← is-a, ← next-b, ← next-c, ← next-d, p, q, r, s, weigh (249 - k) a b c d) (omega arith)

  -- p to s are the sums of every fourth word, e to h the sums of those
  pub weighted-turn : (p q r s e f g h : ℕ) → 4 * (e + f + g + h) + (252 - k) * (p + q + r + s) ≡ weighted_to l k + (q + 2 * r + 3 * s)
      → 4 * (e + (p + a) + (f + (q + b)) + (g + (r + c)) + (h + (s + d))) + (252 - (k + 4)) * (p + a + (q + b) + (r + c) + (s + d))
      ≡ weighted_to l (k + 4) + (q + b + 2 * (r + c) + 3 * (s + d))
  weighted-turn p q r s e f g h before =
      let x : 252 - k ≡ 248 - k + 4 = omega arith in
      let y : 249 - k ≡ 248 - k + 1 = omega arith in
      let z : 252 - (k + 4) ≡ 248 - k = omega arith in
      let m : p + a + (q + b) + (r + c) + (s + d) ≡ p + q + r + s + (a + b + c + d) = omega arith in
      let n : e + (p + a) + (f + (q + b)) + (g + (r + c)) + (h + (s + d)) ≡ e + f + g + h + (p + q + r + s + (a + b + c + d)) = omega arith in
      rw (z, m, n)
      (turn (248 - k) (p + q + r + s) (e + f + g + h) (a + b + c + d) (weighted_to l k) (q + 2 * r + 3 * s) (weighted_to l (k + 4)) (3 * a + 2 * b + c)
      (q + b + 2 * (r + c) + 3 * (s + d)) (rw x at before) (rw y at weighted-next) (omega arith))

-- after the last turn each word has its weight, but for what b, c and d have too much
pub weighted_last : (l : List ℕ) (a b c d e f g h : ℕ) → 4 * (e + f + g + h) + (252 - 252) * (a + b + c + d) ≡ weighted_to l 252 + (b + 2 * c + 3 * d)
    → 4 * (e + f + g + h) ≡ second_check l + (b + 2 * c + 3 * d)
unfolding second_check
weighted_last l a b c d e f g h w = omega arith

-- where all words are zero, so is the second sum
weighted_below : (l : List ℕ) (k : ℕ) → weighted_to l k ≤ 252 * sum_to l k
unfolding weighted_to sum_to
weighted_below l zero = omega arith
weighted_below l (suc k) =
    let w : 252 - k ≤ 252 = omega arith in
    omega (arith, weighted_below l k, mul-le-mul_right (word l k) w)

pub zeros-second : (l : List ℕ) → first_check l ≡ 0 → 0 ≡ second_check l
unfolding first_check second_check
zeros-second l e = omega (arith, weighted_below l 252)

-- the answers of a block's comparison with its own check: s and t are its check's numbers, f and g those that it holds in its last eight bytes
module _ (b : List ℕ) where
  pub matches-short : (length b ≡ 512 → ⊥) → false ≡ check_matches b
  unfolding check_matches
  matches-short h = rw (ne_eqb (length b) 512 h)

  module _ (long : length b ≡ 512) (s : ℕ) (first : s ≡ first_check b) (f : ℕ)
      (held : f ≡ number_from (slice 504 508 b)) where
    pub matches-first : (s ≡ f → ⊥) → eqb s f ≡ check_matches b
    unfolding check_matches
    matches-first h = rw (eq-eqb (length b) 512 long, ← held, ← first, ne_eqb s f h)

    pub matches-second : s ≡ f → (t : ℕ) → t ≡ second_check b → (g : ℕ) → g ≡ number_from (slice 508 512 b) → eqb t g ≡ check_matches b
    unfolding check_matches
    matches-second h t second g e = rw (eq-eqb (length b) 512 long, ← held, ← e, ← first, ← second, eq-eqb s f h)
