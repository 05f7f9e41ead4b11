-- The places as the model sees them: a place taken or empty, one emptied, and one with a block put in. Assumes nothing.
use Prim.Native.Nat.{ℕ, ◌+◌, ◌*◌, ◌%◌, ◌≤◌, ◌<◌}
use mathlib.Core.Path.{◌≡◌, refl, sym, ap, ◌∙◌}
use mathlib.Core.Logic.{◌⊎◌, inl, inr}
use mathlib.Core.Bool.{true, false, cond}
use mathlib.Core.Option.{Option, none, some}
use mathlib.Core.List.{List}
use native.Mathlib.Nat.{add-zero, mod-lt}
use native.Mathlib.Omega.{arith}
use lib.Dec.{eqb}
use lib.IntN.{ℤ}
use lib.ListN.{length, get_or}
use lib.Seq.{slice, paste}
use borrow.Author.Tests.{ne_eqb}
use Rattle.block.proofs.ListLaws.{get_or-slice}
use Rattle.memory.specs.Turns.{place_start, block_in, is_empty, emptied}
use Rattle.engine.proofs.Tests.{same_by, less_by}
use Rattle.engine.proofs.PlaceLaws.{slice-paste-other, slice-set-other, block-kept, emptied-empty}
use Rattle.protocol.specs.Lists.{update}
use Rattle.protocol.specs.Writesets.{Message}
use Rattle.protocol.proofs.ListLaws.{update_same, update_other}
use Rattle.agreement.specs.Group.{message_in}
use Rattle.agreement.proofs.View.{place_at}

-- ---- a place taken or empty

pub place-taken : (n s : ℕ) (places : List ℕ) → is_empty n s places ≡ false → place_at places (s % n) ≡ some (message_in (block_in n s places))
unfolding place_at place_start
place-taken n s places e = rw e refl

pub place_empty : (n s : ℕ) (places : List ℕ) → is_empty n s places ≡ true → place_at places (s % n) ≡ none
unfolding place_at place_start
place_empty n s places e = rw e refl

-- ---- a place depends on its block alone

abbrev block_at : List ℕ → ℕ → List ℕ
block_at places p = slice (512 * p) (512 * p + 512) places

abbrev said : List ℕ → Option (Message ℤ)
said b = cond (eqb (get_or b 0 0) 0) none (some (message_in b))

place-said : (places : List ℕ) (p : ℕ) → place_at places p ≡ said (block_at places p)
unfolding place_at
place-said places p =
    ap (λ (x : ℕ). cond (eqb x 0) none (some (message_in (block_at places p))))
    (sym (get_or-slice places 0 (512 * p) (512 * p + 512) 0 (512 * p) (add-zero _) (omega arith)))

place_same : (k l : List ℕ) (p : ℕ) → block_at k p ≡ block_at l p → place_at k p ≡ place_at l p
place_same k l p e = place-said k p ∙ ap said e ∙ sym (place-said l p)

-- the blocks of two places lie apart
apart : (p q : ℕ) → (p ≡ q → ⊥) → (512 * p + 512 ≤ 512 * q) ⊎ (512 * q + 512 ≤ 512 * p)
apart p q d = less_by p q (λ h. inl (omega arith)) (λ h. inr (omega (arith, d)))

-- ---- a place emptied, and one with a block put in

pub place-emptied : (n s : ℕ) (places : List ℕ) → 0 < n → length places ≡ 512 * n → (p : ℕ)
    → place_at (emptied n s places) p ≡ update (place_at places) (s % n) none p
unfolding place_start
place-emptied n s places pos long p =
    same_by p (s % n)
    (λ e. rw e (place_empty n s (emptied n s places) (emptied-empty n places pos long s) ∙ sym (update_same (place_at places) (s % n) none)))
    (λ d. place_same (emptied n s places) places p (slice-set-other (512 * p) 512 (512 * (s % n)) places 0 (beside (apart p (s % n) d)))
    ∙ sym (update_other (place_at places) (s % n) none p d))
  where
    beside : (512 * p + 512 ≤ 512 * (s % n)) ⊎ (512 * (s % n) + 512 ≤ 512 * p) → (512 * p + 512 ≤ 512 * (s % n)) ⊎ (512 * (s % n) < 512 * p)
    beside (inl h) = inl h
    beside (inr h) = inr (omega arith)

said-some : (b : List ℕ) → (get_or b 0 0 ≡ 0 → ⊥) → said b ≡ some (message_in b)
said-some b o = rw (ne_eqb (get_or b 0 0) 0 o) refl

pub place_kept : (n s : ℕ) (places bytes : List ℕ) → 0 < n → length places ≡ 512 * n → length bytes ≡ 512 → (get_or bytes 0 0 ≡ 0 → ⊥) → (p : ℕ)
    → place_at (paste places (place_start n s) bytes 512) p ≡ update (place_at places) (s % n) (some (message_in bytes)) p
unfolding place_start
place_kept n s places bytes pos long l o p =
    let new = paste places (512 * (s % n)) bytes 512 in
    same_by p (s % n)
    (λ e. rw e (place-said new (s % n) ∙ ap said (block-kept n places pos long s bytes l) ∙ said-some bytes o
    ∙ sym (update_same (place_at places) (s % n) (some (message_in bytes)))))
    (λ d. place_same new places p
    (slice-paste-other (512 * p) 512 (512 * (s % n)) 512 places bytes (let h = mod-lt s pos in omega arith) (omega arith) (apart p (s % n) d))
    ∙ sym (update_other (place_at places) (s % n) (some (message_in bytes)) p d))
