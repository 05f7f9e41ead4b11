-- A block that the reader accepts, with any one of its bits changed, is refused by 14: one word has changed. Assumes nothing.
use Prim.Native.Nat.{ℕ, zero, suc, ◌+◌, ◌*◌, ◌-◌, ◌/◌, ◌%◌, ◌^◌, ◌≤◌, ◌<◌}
use mathlib.Core.Bool.{Bool, true, false, cond}
use mathlib.Core.List.{List}
use mathlib.Core.Path.{◌≡◌, refl, sym, ap, ◌∙◌}
use native.Mathlib.Decide.{dec_lt, ℕ_discrete}
use native.Mathlib.Nat.{div-eq_of_lt}
use native.Mathlib.Omega.{arith}
use borrow.Author.Tests.{eqb-true, eqb-false}
use lib.Dec.{eqb}
use lib.ListN.{length, get_or, set, length-set}
use lib.Pow.{pow_pos}
use lib.Seq.{get_or-set_same, get_or-set_other}
use Rattle.block.specs.Answers.{block_refusal}
use Rattle.block.specs.Check.{word}
use Rattle.block.specs.Theorems.{AreBytes, Accepted, flipped, flip_bit}
use Rattle.block.proofs.AnswerLaws.{is_taken}
use Rattle.block.proofs.TwoWords.{two_words}

-- a byte whose bit t is 0 has room for it
room : (t x : ℕ) → t < 8 → x < 256 → x / 2 ^ t % 2 ≡ 0 → x + 2 ^ t < 256
room zero x l h e = omega arith
room (suc zero) x l h e = omega arith
room (suc (suc zero)) x l h e = omega arith
room (suc (suc (suc zero))) x l h e = omega arith
room (suc (suc (suc (suc zero)))) x l h e = omega arith
room (suc (suc (suc (suc (suc zero))))) x l h e = omega arith
room (suc (suc (suc (suc (suc (suc zero)))))) x l h e = omega arith
room (suc (suc (suc (suc (suc (suc (suc zero))))))) x l h e = omega arith
room (suc (suc (suc (suc (suc (suc (suc (suc t)))))))) x l h e = absurd (omega arith)

-- a changed bit makes a byte another byte
module _ (t x : ℕ) where
  flipped-byte : t < 8 → x < 256 → flipped t x < 256
  unfolding flipped
  flipped-byte l h = go (eqb (x / 2 ^ t % 2) 0) refl
    where
      go : (c : Bool) → eqb (x / 2 ^ t % 2) 0 ≡ c → cond c (x + 2 ^ t) (x - 2 ^ t) < 256
      go true q = room t x l h (eqb-true (x / 2 ^ t % 2) 0 q)
      go false q = omega arith

  flipped-other : flipped t x ≡ x → ⊥
  unfolding flipped
  flipped-other = go (eqb (x / 2 ^ t % 2) 0) refl
    where
      above : Dec (x < 2 ^ t) → (x / 2 ^ t % 2 ≡ 0 → ⊥) → 2 ^ t ≤ x
      above (yes l) z = absurd (z (rw (div-eq_of_lt l) refl))
      above (no l) z = omega arith

      go : (c : Bool) → eqb (x / 2 ^ t % 2) 0 ≡ c → cond c (x + 2 ^ t) (x - 2 ^ t) ≡ x → ⊥
      go true q e = omega (arith, pow_pos t)
      go false q e = omega (arith, pow_pos t, above (dec_lt x (2 ^ t)) (eqb-false (x / 2 ^ t % 2) 0 q))

-- byte p of the list becomes y
module _ (b : List ℕ) (p y : ℕ) where
  set-bytes : AreBytes b → p < length b → y < 256 → AreBytes (set b p y)
  set-bytes f l h n = go (ℕ_discrete n p)
    where
      go : Dec (n ≡ p) → get_or (set b p y) n 0 < 256
      go (yes e) = rw (e, get_or-set_same b p y 0 l) h
      go (no d) = rw (get_or-set_other b p n y 0 d) (f n)

  word_same : (k : ℕ) → (k ≡ p / 2 → ⊥) → word (set b p y) k ≡ word b k
  unfolding word
  word_same k h = rw (get_or-set_other b p (2 * k) y 0 (λ e. h (omega arith)), get_or-set_other b p (2 * k + 1) y 0 (λ e. h (omega arith)))

pub one_bit : (b : List ℕ) → Accepted b → (p t : ℕ) → p < 512 → t < 8 → block_refusal (flip_bit b p t) ≡ 14
unfolding flip_bit
one_bit b a p t h l =
    let n = (is_taken b a.taken).long in
    let y = flipped t (get_or b p 0) in
    two_words b (set b p y) (p / 2) (p / 2) a
    (record {
      bytes = set-bytes b p y a.bytes (omega arith) (flipped-byte t (get_or b p 0) l (a.bytes p));
      long = length-set b p y ∙ n;
      elsewhere = λ k d _. word_same b p y k d;
      changed = λ e. flipped-other t (get_or b p 0) (sym (get_or-set_same b p y 0 (omega arith)) ∙ ap (λ (m : List ℕ). get_or m p 0) e);
    })
