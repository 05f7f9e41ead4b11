-- Hexadecimal digits, and bytes with zeros behind. Assumes nothing.
use Prim.Native.Nat.{ℕ, zero, suc, ◌+◌, ◌*◌, ◌-◌, ◌%◌, ◌^◌, ◌≤◌, ◌<◌, min}
use mathlib.Core.Path.{◌≡◌, refl, sym, ap, ◌∙◌}
use mathlib.Core.Bool.{Bool, true, false, ◌&&◌}
use mathlib.Core.List.{List, [], ◌∷◌, ◌++◌, append_assoc, append-nil}
use native.Mathlib.Decide.{dec_le, dec_lt}
use native.Mathlib.Numerals.{add-one}
use native.Mathlib.Omega.{arith}
use borrow.Author.Tests.{lt-ltb, le-ltb, le-leb, eqb-true}
use lib.Bits.{bit_xor}
use lib.Dec.{ltb, leb, eqb}
use lib.ListN.{length, get_or, take, drop, set, replicate, length-set, get_or-append, length-append, length-take, take-append-drop}
use lib.Seq.{drop-cons, drop-length, set_at, set-append_left, set_out, take_all}
use Rattle.block.specs.Theorems.{flipped, flip_bit}
use Rattle.block.proofs.BoolLaws.{both}
use Rattle.replay_delivery.specs.Deliveries.{hex_pair, is_hex, is_hex_text, unhex, padded, filled, delivery, below}
use Rattle.std.specs.Prelude.{Option, Some, None, unwrap_or}
use Rattle.replay_delivery.specs.declared.Delivery.{Delivery}

-- ---- the digits from place 2·i on

module _ (l : List ℕ) (i : ℕ) (h : 2 * i + 1 < length l) where
  two : drop (2 * i) l ≡ get_or l (2 * i) 0 ∷ (get_or l (2 * i + 1) 0 ∷ drop (2 * (i + 1)) l)
  two =
      let e : suc (suc (2 * i)) ≡ 2 * (i + 1) = omega arith in
      let f : suc (2 * i) ≡ 2 * i + 1 = omega arith in
      let g : suc (2 * i) < length l = omega arith in
      let k : 2 * i < length l = omega arith in
      rw (drop-cons l (2 * i) 0 k, drop-cons l (suc (2 * i)) 0 g, e, f)

  pub hex-next : is_hex (drop (2 * i) l) ≡ (ltb (hex_pair (get_or l (2 * i) 0) (get_or l (2 * i + 1) 0)) 256 && is_hex (drop (2 * (i + 1)) l))
  unfolding is_hex
  hex-next = rw two

  pub unhex-next : unhex (drop (2 * i) l) ≡ hex_pair (get_or l (2 * i) 0) (get_or l (2 * i + 1) 0) ∷ unhex (drop (2 * (i + 1)) l)
  unfolding unhex
  unhex-next = rw two

pub and_false : (x : Bool) → x && false ≡ false
and_false true = refl
and_false false = refl

-- an odd number of digits
pub hex_odd : (l : List ℕ) → (length l % 2 ≡ 0 → ⊥) → is_hex l ≡ false
unfolding is_hex
hex_odd [] h = absurd (h refl)
hex_odd (a ∷ []) h = refl
hex_odd (a ∷ (b ∷ rest)) h = rw (hex_odd rest (λ e. h (omega arith))) (and_false (ltb (hex_pair a b) 256))

-- ---- 2100 bytes, of which the first i are filled

pub record Filled (front bytes : List ℕ) (i : ℕ) : Type 0 where
  pub long : length bytes ≡ 2100
  pub count : length front ≡ i
  pub is : bytes ≡ front ++ replicate (2100 - i) 0

pub filled_none : {bytes : List ℕ} → bytes ≡ padded [] → Filled [] bytes 0
unfolding padded
filled_none e = record { long = rw e refl; count = refl; is = e }

pub filled_next : {front bytes : List ℕ} {i : ℕ} (x : ℕ) → i < 2100 → Filled front bytes i → Filled (front ++ (x ∷ [])) (set bytes i x) (i + 1)
filled_next {front} {bytes} {i} x h f =
    let e : 2100 - i ≡ suc (2100 - (i + 1)) = omega arith in
    record {
      long = length-set bytes i x ∙ f.long;
      count = length-append front (x ∷ []) ∙ omega (arith, f.count);
      is = rw (f.is, e, set_at front 0 (replicate (2100 - (i + 1)) 0) x i f.count, append_assoc);
    }

pub filled-all : {front bytes : List ℕ} {i : ℕ} → Filled front bytes i → bytes ≡ padded front
unfolding padded
filled-all f = rw (f.is, f.count)

-- ---- parts of lists

-- as many as both have
pub take_min : (l : List ℕ) (m n : ℕ) → n ≡ min (length l) m → take n l ≡ take m l
take_min l m n e = go (dec_le (length l) m)
  where
    go : Dec (length l ≤ m) → take n l ≡ take m l
    go (yes h) = take_all n l (omega (arith, e)) ∙ sym (take_all m l h)
    go (no h) =
        let f : n ≡ m = omega (arith, e) in
        rw f

-- a list from place i on begins with x
take_next : (l : List ℕ) (i : ℕ) {x : ℕ} {rest : List ℕ} → drop i l ≡ x ∷ rest → take (suc i) l ≡ take i l ++ (x ∷ [])
take_next [] zero e = absurd (let z : ◌≡◌ {A = ℕ} 0 1 = cc in omega arith)
take_next [] (suc i) e = absurd (let z : ◌≡◌ {A = ℕ} 0 1 = cc in omega arith)
take_next (y ∷ l) zero e = cc
take_next (y ∷ l) (suc i) e = ap (λ (k : List ℕ). y ∷ k) (take_next l i e)

drop-next : (l : List ℕ) (i : ℕ) {x : ℕ} {rest : List ℕ} → drop i l ≡ x ∷ rest → drop (suc i) l ≡ rest
drop-next [] zero e = absurd (let z : ◌≡◌ {A = ℕ} 0 1 = cc in omega arith)
drop-next [] (suc i) e = absurd (let z : ◌≡◌ {A = ℕ} 0 1 = cc in omega arith)
drop-next (y ∷ l) zero e = cc
drop-next (y ∷ l) (suc i) e = drop-next l i e

take_whole : (l : List ℕ) (i : ℕ) → drop i l ≡ [] → take i l ≡ l
take_whole l i e = sym (append-nil (take i l)) ∙ rw (← e) (take-append-drop i l)

-- ---- what is delivered

pub no_delivery : (bytes : List ℕ) {known : Bool} → known ≡ false → None ≡ delivery known bytes
no_delivery bytes e = rw e

pub a_delivery : {known : Bool} {front bytes : List ℕ} {n : ℕ} → known ≡ true → Filled front bytes n → Some (record { count = n; bytes = bytes }) ≡ delivery known front
a_delivery e f = rw (e, filled-all f, f.count)

-- as much of a block as there is room for
pub copied_is : (block front rest : List ℕ) (n : ℕ) → n ≡ min (length block) 2100 → front ≡ take n block → rest ≡ replicate (2100 - n) 0
    → ◌≡◌ {A = Delivery} (record { count = n; bytes = front ++ rest }) (filled (take 2100 block))
unfolding padded
copied_is block front rest n e f g =
    let l : length (take 2100 block) ≡ n = omega (arith, e, length-take 2100 block) in
    rw (f, g, take_min block 2100 n e, l)

pub filled-short : (d : Delivery) (l : List ℕ) → d ≡ filled (take 2100 l) → d.count ≤ 2100
filled-short d l e = rw e (omega (arith, length-take 2100 l))

pub below_none : {most n : ℕ} → below most n ≡ None → most ≤ n
below_none {most} {n} e = go (dec_le most n)
  where
    go : Dec (most ≤ n) → most ≤ n
    go (yes h) = h
    go (no h) =
        let f : Some n ≡ None = rw (lt-ltb n most (omega (arith, h))) at e in
        absurd (cc)

pub below_some : {most n x : ℕ} → below most n ≡ Some x → (x ≡ n) × (n < most)
below_some {most} {n} {x} e = go (dec_le most n)
  where
    go : Dec (most ≤ n) → (x ≡ n) × (n < most)
    go (yes h) =
        let f : ◌≡◌ {A = Option ℕ} None (Some x) = rw (le-ltb n most h) at e in
        absurd (cc)
    go (no h) =
        let f : Some n ≡ Some x = rw (lt-ltb n most (omega (arith, h))) at e in
        let g : x ≡ n = cc in
        (g, omega (arith, h))

pub delivery-short : (known : Bool) (bytes : List ℕ) (other : Delivery) {d : Delivery} {o : Option Delivery} → o ≡ delivery known bytes → d ≡ unwrap_or o other → other.count ≤ length other.bytes
    → d.count ≤ length d.bytes
unfolding padded
delivery-short true bytes other e f h = rw (f, e) (omega (arith, length-append bytes (replicate (2100 - length bytes) 0)))
delivery-short false bytes other e f h = rw (f, e) h

-- ---- digits read: the first i bytes are those that the first 2·i digits write, and what the other digits write is to come

pub record Decoded (d bytes : List ℕ) (i : ℕ) : Type 0 where
  pub digits : is_hex d ≡ is_hex (drop (2 * i) d)
  pub behind : drop i (unhex d) ≡ unhex (drop (2 * i) d)
  pub filled : Filled (take i (unhex d)) bytes i

module _ (d bytes : List ℕ) (i x : ℕ) (is : x ≡ hex_pair (get_or d (2 * i) 0) (get_or d (2 * i + 1) 0)) (more : 2 * i + 1 < length d) (f : Decoded d bytes i) where
  pub decoded-next : x < 256 → i < 2100 → Decoded d (set bytes i x) (i + 1)
  decoded-next h k =
      let e : drop i (unhex d) ≡ x ∷ unhex (drop (2 * (i + 1)) d) = f.behind ∙ rw is (unhex-next d i more) in
      let g : is_hex (drop (2 * i) d) ≡ is_hex (drop (2 * (i + 1)) d) = rw (hex-next d i more, ← is, lt-ltb x 256 h) in
      record {
        digits = f.digits ∙ g;
        behind = ap (λ (n : ℕ). drop n (unhex d)) (add-one i) ∙ drop-next (unhex d) i e;
        filled = rw (ap (λ (n : ℕ). take n (unhex d)) (add-one i) ∙ take_next (unhex d) i e) (filled_next x k f.filled);
      }

pub decoded-not : (d bytes : List ℕ) (i most : ℕ) → 2 * i + 1 < length d → Decoded d bytes i → 256 ≤ hex_pair (get_or d (2 * i) 0) (get_or d (2 * i + 1) 0) → is_hex_text most d ≡ false
decoded-not d bytes i most more f h = rw (f.digits, hex-next d i more, le-ltb (hex_pair (get_or d (2 * i) 0) (get_or d (2 * i + 1) 0)) 256 h) (and_false (leb (length d) (2 * most)))

pub decoded_all : (d bytes : List ℕ) (i most : ℕ) → 2 * i ≡ length d → length d ≤ 2 * most → Decoded d bytes i
    → Some (record { count = i; bytes = bytes }) ≡ delivery (is_hex_text most d) (unhex d)
unfolding is_hex unhex
decoded_all d bytes i most e h f =
    let r : drop (2 * i) d ≡ [] = rw e (drop-length d) in
    let known : is_hex_text most d ≡ true = rw (le-leb (length d) (2 * most) h, f.digits, r) in
    a_delivery known (rw (take_whole (unhex d) i (rw r at f.behind)) at f.filled)

-- ---- a bit changed

-- every byte and each of its bits, one by one
each_below : ℕ → (ℕ → Bool) → Bool
each_below zero test = true
each_below (suc n) test = test n && each_below n test

each_below_lem : (n : ℕ) (test : ℕ → Bool) → each_below n test ≡ true → (k : ℕ) → k < n → test k ≡ true
unfolding each_below
each_below_lem zero test h k l = absurd (omega arith)
each_below_lem (suc n) test h k l = go (dec_lt k n) (each_below_lem n test (both (test n) (each_below n test) h).right k)
  where
    go : Dec (k < n) → (k < n → test k ≡ true) → test k ≡ true
    go (yes p) below = below p
    go (no p) below =
        let e : k ≡ n = omega arith in
        rw e (both (test n) (each_below n test) h).left

pub flip_is : (x t : ℕ) → x < 2 ^ 8 → t < 8 → bit_xor x (1 * 2 ^ t % 256) ≡ flipped t x
unfolding flipped each_below
flip_is x t h k =
    let bits = each_below_lem 256 (λ (x : ℕ). each_below 8 (λ (t : ℕ). eqb (bit_xor x (1 * 2 ^ t % 256)) (flipped t x))) refl x h in
    eqb-true (bit_xor x (1 * 2 ^ t % 256)) (flipped t x) (each_below_lem 8 (λ (t : ℕ). eqb (bit_xor x (1 * 2 ^ t % 256)) (flipped t x)) bits t k)

-- bit t of byte p of what is delivered
module _ (l : List ℕ) (d : Delivery) (p t : ℕ) (e : d ≡ filled l) where
  pub flipped-in : p < d.count → ◌≡◌ {A = Delivery} (record { count = d.count; bytes = set d.bytes p (flipped t (get_or d.bytes p 0)) }) (filled (flip_bit l p t))
  unfolding flip_bit padded
  flipped-in h =
      let k : p < length l = rw e at h in
      rw (e, length-set l p (flipped t (get_or l p 0)), set-append_left l (replicate (2100 - length l) 0) p (flipped t (get_or (padded l) p 0)) k, get_or-append l (replicate (2100 - length l) 0) 0 p k)

  pub flipped-out : d.count ≤ p → d ≡ filled (flip_bit l p t)
  unfolding flip_bit
  flipped-out h =
      let k : length l ≤ p = rw e at h in
      rw (e, set_out l p (flipped t (get_or l p 0)) k)
