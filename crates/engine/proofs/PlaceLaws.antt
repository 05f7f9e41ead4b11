-- Slots and places: one of n successive slots is own; the places of two slots of one window lie apart, and what a store at one leaves at another. Assumes nothing.
use Prim.Native.Nat.{ℕ, suc, ◌+◌, ◌*◌, ◌-◌, ◌%◌, ◌/◌, ◌≤◌, ◌<◌}
use mathlib.Core.Path.{◌≡◌, sym, ap, ◌∙◌}
use mathlib.Core.Logic.{◌⊎◌, inl, inr}
use mathlib.Core.Bool.{true}
use mathlib.Core.List.{List, ◌++◌, append_assoc}
use native.Mathlib.Nat.{mod-lt, add-mod_right, div-add-mod, mul-le-mul_left, mul-suc, mul-add-mod_self_left, mod-eq_of_lt, add-zero}
use native.Mathlib.Omega.{arith}
use lib.Dec.{eqb}
use lib.ListN.{length, get_or, take, drop, set}
use lib.Seq.{slice, paste, take-take, take-append-le, drop-drop, drop_at, take_all, take-paste, drop-paste, length-take-le, take-set-le, drop-set-lt, get_or-set_same}
use borrow.Author.Tests.{eq-eqb}
use Rattle.block.specs.Message.{owner_of}
use Rattle.block.proofs.ListLaws.{part-take, get_or-slice}
use Rattle.memory.specs.Turns.{place_start, block_in, is_empty, emptied}
use Rattle.engine.proofs.Tests.{less_by}

-- ---- slots

-- a later slot of the same place is N later at least
pub next-round : (n a b : ℕ) → a % n ≡ b % n → a < b → a + n ≤ b
next-round n a b e h =
    let p = div-add-mod a n in
    let q = div-add-mod b n in
    less_by (a / n) (b / n)
    (λ l. let u = mul-le-mul_left n l in let v = mul-suc n (a / n) in omega arith)
    (λ l. let u = mul-le-mul_left n l in omega arith)

-- among n successive slots one is own
pub own_slot : (n own t : ℕ) → own < n → (s : ℕ) × (t < s) × (s ≤ t + n) × (owner_of n s ≡ own)
unfolding owner_of
own_slot n own t h =
    let a = suc t % n in
    let q = suc t / n in
    let d = div-add-mod (suc t) n in
    let l : suc t % n < n = mod-lt (suc t) {m = n} (omega arith) in
    less_by own a
    (λ u. let e = mul-suc n q in (n * suc q + own, omega arith, omega arith, mul-add-mod_self_left n (suc q) own ∙ mod-eq_of_lt h))
    (λ u. (n * q + own, omega arith, omega arith, mul-add-mod_self_left n q own ∙ mod-eq_of_lt h))

module _ (n : ℕ) where
  place-apart : (t a b : ℕ) → t ≤ a → a < t + n → t ≤ b → b < t + n → (a ≡ b → ⊥)
      → (place_start n a + 512 ≤ place_start n b) ⊎ (place_start n b + 512 ≤ place_start n a)
  unfolding place_start
  place-apart t a b p q r s d =
      less_by (a % n) (b % n) (λ h. inl (omega arith))
      (λ h. less_by (b % n) (a % n) (λ k. inr (omega arith))
      (λ k. let e : a % n ≡ b % n = omega arith in
      less_by a b (λ l. absurd (let z = next-round n a b e l in omega arith))
      (λ l. less_by b a (λ u. absurd (let z = next-round n b a (sym e) u in omega arith)) (λ u. absurd (d (omega arith))))))

  pub place-again : (s : ℕ) → place_start n (s + n) ≡ place_start n s
  unfolding place_start
  place-again s = ap (λ (k : ℕ). 512 * k) (add-mod_right s n)

  pub place-fits : (s : ℕ) → 0 < n → place_start n s + 512 ≤ 512 * n
  unfolding place_start
  place-fits s h = let l = mod-lt s h in omega arith

-- ---- a part of a list after a store elsewhere, and after the store itself

module _ {A : Type 0} where
  slice-rest : (f u at : ℕ) (k l : List A) → at ≤ f → drop at k ≡ drop at l → slice f (f + u) k ≡ slice f (f + u) l
  slice-rest f u at k l h e =
      let p : at + (f - at) ≡ f = omega arith in
      part-take f u k
      ∙ ap (take u) (ap (λ (i : ℕ). drop i k) (sym p) ∙ sym (drop-drop (f - at) at k) ∙ ap (drop (f - at)) e ∙ drop-drop (f - at) at l ∙ ap (λ (i : ℕ). drop i l) p)
      ∙ sym (part-take f u l)

  pub slice-paste-other : (f u at w : ℕ) (d s : List A) → at + w ≤ length d → w ≤ length s → (f + u ≤ at) ⊎ (at + w ≤ f)
      → slice f (f + u) (paste d at s w) ≡ slice f (f + u) d
  slice-paste-other f u at w d s hd hs (inl h) =
      ap (drop f)
      (ap (take (f + u)) (append_assoc (take at d) (take w s) (drop (at + w) d))
      ∙ take-append-le (f + u) (take at d) (take w s ++ drop (at + w) d) (let e = length-take-le at d (omega arith) in omega arith)
      ∙ take-take (f + u) at d h)
  slice-paste-other f u at w d s hd hs (inr h) = slice-rest f u (at + w) (paste d at s w) d h (drop-paste d at s w (omega arith) hs)

  pub slice-paste-same : (at w : ℕ) (d s : List A) → at + w ≤ length d → length s ≡ w → slice at (at + w) (paste d at s w) ≡ s
  slice-paste-same at w d s hd hs =
      ap (drop at) (take-paste d at s w (omega arith) (omega arith))
      ∙ drop_at (take at d) (take w s) at (length-take-le at d (omega arith))
      ∙ take_all w s (omega arith)

  pub slice-set-other : (f u at : ℕ) (l : List A) (a : A) → (f + u ≤ at) ⊎ (at < f) → slice f (f + u) (set l at a) ≡ slice f (f + u) l
  slice-set-other f u at l a (inl h) = ap (drop f) (take-set-le (f + u) l at a h)
  slice-set-other f u at l a (inr h) = slice-rest f u f (set l at a) l (omega arith) (drop-set-lt f l at a h)

-- ---- the blocks of the places

-- a place is empty where its block's first byte is 0
pub empty_block : (n s : ℕ) (places : List ℕ) → is_empty n s places ≡ eqb (get_or (block_in n s places) 0 0) 0
empty_block n s places =
    ap (λ (x : ℕ). eqb x 0) (sym (get_or-slice places 0 (place_start n s) (place_start n s + 512) 0 (place_start n s) (add-zero _) (omega arith)))

-- the same block, empty or not
pub empty_same : (n s : ℕ) (k l : List ℕ) → block_in n s k ≡ block_in n s l → is_empty n s k ≡ is_empty n s l
empty_same n s k l e = empty_block n s k ∙ ap (λ (b : List ℕ). eqb (get_or b 0 0) 0) e ∙ sym (empty_block n s l)

module _ (n : ℕ) (places : List ℕ) (pos : 0 < n) (long : length places ≡ 512 * n) where
  pub block-kept : (s : ℕ) (bytes : List ℕ) → length bytes ≡ 512 → block_in n s (paste places (place_start n s) bytes 512) ≡ bytes
  block-kept s bytes e = slice-paste-same (place_start n s) 512 places bytes (let f = place-fits n s pos in omega arith) e

  pub block-beside : (t a s : ℕ) (bytes : List ℕ) → length bytes ≡ 512 → t ≤ a → a < t + n → t ≤ s → s < t + n → (a ≡ s → ⊥)
      → block_in n a (paste places (place_start n s) bytes 512) ≡ block_in n a places
  block-beside t a s bytes e p q r u d =
      slice-paste-other (place_start n a) 512 (place_start n s) 512 places bytes (let f = place-fits n s pos in omega arith) (omega arith)
      (place-apart n t a s p q r u d)

  pub emptied-empty : (s : ℕ) → is_empty n s (emptied n s places) ≡ true
  emptied-empty s = eq-eqb _ 0 (get_or-set_same places (place_start n s) 0 0 (let f = place-fits n s pos in omega arith))

  pub emptied-beside : (t a s : ℕ) → t ≤ a → a < t + n → t ≤ s → s < t + n → (a ≡ s → ⊥) → block_in n a (emptied n s places) ≡ block_in n a places
  emptied-beside t a s p q r u d =
      slice-set-other (place_start n a) 512 (place_start n s) places 0 (beside (place-apart n t a s p q r u d))
    where
      beside : (place_start n a + 512 ≤ place_start n s) ⊎ (place_start n s + 512 ≤ place_start n a)
          → (place_start n a + 512 ≤ place_start n s) ⊎ (place_start n s < place_start n a)
      beside (inl h) = inl h
      beside (inr h) = inr (omega arith)
