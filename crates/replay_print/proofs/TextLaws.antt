-- Texts in buffers, and numbers as texts. Assumes nothing.
use Prim.Native.Nat.{ℕ, zero, suc, ◌+◌, ◌-◌, ◌*◌, ◌/◌, ◌%◌, ◌^◌, ◌≤◌, ◌<◌}
use mathlib.Core.Path.{◌≡◌, refl, sym, ap, ◌∙◌}
use mathlib.Core.List.{List, [], ◌∷◌, ◌++◌, append_assoc, append-nil}
use native.Mathlib.Nat.{pow-suc, one-le-pow, pow-le-pow_right, div-lt_iff_lt-mul, le-div_iff_mul-le}
use native.Mathlib.Decide.{dec_le}
use native.Mathlib.Numerals.{add-one}
use native.Mathlib.Omega.{arith}
use borrow.Author.Tests.{lt-ltb, le-ltb}
use lib.IntN.{ℤ, pos, negsuc}
use lib.ListN.{length, get_or, take, drop, set, length-append, length-take, length-drop, drop_of_length-le}
use lib.Seq.{take-nil, take_all, take-append-le, drop-cons, set_at, take-suc}
use mir.Syntax.{w32}
use mir.Val.{SFits, of_z}
use Rattle.io.specs.Digits.{last_digits, IsDigitCount}
use Rattle.replay_print.specs.Text.{decimal_within, decimal, signed, each, over, Holds, Appends}

-- ---- buffers

pub length_over : (text b : List ℕ) → length (over text b) ≡ length b
length_over text b = simp (length-append, length-take, length-drop) (omega arith)

-- one byte more, where there is room
pub append-one : (old : List ℕ) (at byte : ℕ) → at < length old → Appends (byte ∷ []) old at (set old at byte) (at + 1)
append-one old at byte h = record { behind = one; beyond = λ k. absurd (omega (arith, h, k)) }
  where
    one : (b text : List ℕ) → Holds b text old at → Holds b (text ++ (byte ∷ [])) (set old at byte) (at + 1)
    one b text w =
        let l : length old ≡ length b = rw w.bytes (length_over text b) in
        let e : at ≡ length text = omega (arith, w.count) in
        let r : length text < length b = omega arith in
        record {
          bytes = rw (w.bytes, e, take_all (length b) text (omega arith), drop-cons b (length text) 0 r, set_at text (get_or b (length text) 0) (drop (suc (length text)) b) byte (length text) refl)
              (rw (take_all (length b) (text ++ (byte ∷ [])) (simp length-append (omega arith)), length-append, append_assoc, add-one));
          count = simp length-append (omega arith);
        }

-- and where there is none
pub append-out : (old : List ℕ) (at byte : ℕ) → length old ≤ at → Appends (byte ∷ []) old at old at
append-out old at byte h = record { behind = out; beyond = λ k. (refl, refl) }
  where
    out : (b text : List ℕ) → Holds b text old at → Holds b (text ++ (byte ∷ [])) old at
    out b text w =
        let l : length old ≡ length b = rw w.bytes (length_over text b) in
        let r : length b ≤ length text = omega (arith, w.count) in
        let s : length b ≤ length text + 1 = omega arith in
        record {
          bytes = w.bytes ∙ rw (take-append-le (length b) text (byte ∷ []) r, length-append text (byte ∷ []), drop_of_length-le b r, drop_of_length-le b s);
          count = simp length-append (omega arith);
        }

pub appends_none : (old : List ℕ) (at : ℕ) → Appends [] old at old at
appends_none old at = record { behind = λ b text w. rw append-nil w; beyond = λ k. (refl, refl) }

-- one text after the other
pub appends_then : {a b : List ℕ} {old mid left : List ℕ} {at i end : ℕ} → Appends a old at mid i → Appends b mid i left end → Appends (a ++ b) old at left end
appends_then {a} {b} {old} {mid} {left} {at} {i} {end} f g = record {
  behind = λ buffer text w. rw append_assoc at (g.behind buffer (text ++ a) (f.behind buffer text w));
  beyond = λ k. then-beyond (f.beyond k) g.beyond k;
}
  where
    then-beyond : (mid ≡ old) × (i ≡ at) → (length mid < i → (left ≡ mid) × (end ≡ i)) → length old < at → (left ≡ old) × (end ≡ at)
    then-beyond (p, q) h k =
        let e = h (rw (p, q) k) in
        (e.0 ∙ p, e.1 ∙ q)

-- a text over the whole buffer
pub held : {more old left : List ℕ} {end : ℕ} → Appends more old 0 left end → Holds old more left end
held {more} {old} f = f.behind old [] (record { bytes = rw (take-nil (length old)); count = omega arith })

-- ---- numbers

-- the fewest digits are those that the definition has
pub decimal_digits : (k r n : ℕ) → r ≤ k → IsDigitCount 10 1 n r → last_digits 10 r n ≡ decimal_within k n
unfolding decimal_within
decimal_digits k zero n h w = absurd (omega (arith, w.0))
decimal_digits zero (suc r) n h w = absurd (omega arith)
decimal_digits (suc k) (suc zero) n h w =
    let l : n < 10 = w.1 in
    let e : n % 10 ≡ n = omega arith in
    rw (lt-ltb n 10 l, e, lt-ltb n 10 l)
decimal_digits (suc k) (suc (suc r)) n h w =
    let e : suc (suc r) - 1 ≡ suc r = omega arith in
    let p : 10 ^ r * 10 ≤ n = rw (e, pow-suc 10 r) at (w.2 (omega arith)) in
    let q : n < 10 ^ suc r * 10 = rw (pow-suc 10 (suc r)) at w.1 in
    let t : 10 ≤ n = omega (arith, one-le-pow r 10 (omega arith)) in
    let f : suc r - 1 ≡ r = omega arith in
    let fewer : IsDigitCount 10 1 (n / 10) (suc r) = (omega arith, (div-lt_iff_lt-mul {k = 10} {x = n} {y = 10 ^ suc r} (omega arith)).1 q, λ o. rw f ((le-div_iff_mul-le {k = 10} {x = 10 ^ r} {y = n} (omega arith)).1 p)) in
    let d : n % 10 < 10 = omega arith in
    rw (le-ltb n 10 t, lt-ltb (n % 10) 10 d) (ap (λ (l : List ℕ). l ++ ((48 + n % 10) ∷ [])) (decimal_digits k (suc r) (n / 10) (omega arith) fewer))

-- a number of 64 bits has at most 20
pub decimal-short : (r n : ℕ) → n < 2 ^ 64 → IsDigitCount 10 1 n r → r ≤ 20
decimal-short r n h w = go (dec_le r 20)
  where
    go : Dec (r ≤ 20) → r ≤ 20
    go (yes p) = p
    go (no p) =
        let q : 20 ≤ r - 1 = omega (arith, p) in
        absurd (omega (arith, w.2 (omega (arith, p)), pow-le-pow_right {n = 10} (omega arith) {i = 20} {j = r - 1} q))

-- a value by its bits
pub signed_low : (v : ℤ) → SFits w32 v → of_z w32 v < 2147483648 → signed v ≡ decimal (of_z w32 v)
signed_low (pos n) f h = refl
signed_low (negsuc n) f h = absurd (omega arith)

pub signed_high : (v : ℤ) → SFits w32 v → 2147483648 ≤ of_z w32 v → signed v ≡ 45 ∷ decimal (4294967296 - of_z w32 v)
signed_high (pos n) f h = absurd (omega (arith, f.sfits))
signed_high (negsuc n) f h =
    let e : 4294967296 - (4294967296 - suc n) ≡ suc n = omega (arith, f.sfits) in
    ap (λ (k : ℕ). 45 ∷ decimal k) (sym e)

-- ---- lists

module _ {A : Type 0} (text : A → List ℕ) where
  each_more : (l : List A) (x : A) → each text (l ++ (x ∷ [])) ≡ each text l ++ text x
  unfolding each
  each_more [] x = append-nil (text x)
  each_more (y ∷ ys) x = rw (each_more ys x, append_assoc)

  -- the texts of the first i elements, and of the next
  pub each_turn : (l : List A) (i : ℕ) (d : A) {old mid left : List ℕ} {at k end : ℕ} → i < length l
      → Appends (each text (take i l)) old at mid k → Appends (text (get_or l i d)) mid k left end → Appends (each text (take (i + 1) l)) old at left end
  each_turn l i d h f g = rw (add-one, take-suc l i d h, each_more (take i l) (get_or l i d)) (appends_then f g)
