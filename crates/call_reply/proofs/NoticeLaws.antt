-- Notices lent as numbers: one after the other, and the restart that is lent them. Assumes nothing.
use Prim.Native.Nat.{ℕ, zero, suc, ◌+◌, ◌%◌, ◌≤◌, ◌<◌}
use mathlib.Core.Path.{◌≡◌, refl}
use mathlib.Core.List.{List, [], ◌∷◌}
use native.Mathlib.Omega.{arith}
use lib.IntN.{ℤ}
use lib.ListN.{length, get_or, drop}
use borrow.Author.Tests.{eq-eqb, ne_eqb}
use Rattle.memory.specs.Memory.{Memory}
use Rattle.memory.specs.Notices.{Notice}
use Rattle.engine.specs.Answers.{outcome}
use Rattle.engine.specs.Answers.Answer.{refused}
use Rattle.engine.specs.Restart.{restart_step}
use Rattle.call_reply.specs.Notices.{notice_of, notices_in, restart_lent}

-- the notice of the three numbers from the at-th on
abbrev pub notice_at : List ℕ → ℕ → Notice
notice_at l at = notice_of (get_or l at 0) (get_or l (at + 1) 0) (get_or l (at + 2) 0)

-- three numbers are one notice more
pub notices_cons : (l : List ℕ) (at : ℕ) → at + 3 ≤ length l → notices_in (drop at l) ≡ notice_at l at ∷ notices_in (drop (at + 3) l)
unfolding notices_in
notices_cons [] at h = absurd (omega (arith, h))
notices_cons (a ∷ []) zero h = absurd (omega (arith, h))
notices_cons (a ∷ (b ∷ [])) zero h = absurd (omega (arith, h))
notices_cons (a ∷ (b ∷ (c ∷ l))) zero h = refl
notices_cons (a ∷ l) (suc at) h =
    let one : suc at + 1 ≡ suc (at + 1) = omega arith in
    let two : suc at + 2 ≡ suc (at + 2) = omega arith in
    let three : suc at + 3 ≡ suc (at + 3) = omega arith in
    rw (one, two, three) (notices_cons l at (omega (arith, h)))

-- fewer are none
pub notices_none : (l : List ℕ) (at : ℕ) → length l < at + 3 → notices_in (drop at l) ≡ []
unfolding notices_in
notices_none [] zero h = refl
notices_none [] (suc at) h = refl
notices_none (a ∷ []) zero h = refl
notices_none (a ∷ (b ∷ [])) zero h = refl
notices_none (a ∷ (b ∷ (c ∷ l))) zero h = absurd (omega (arith, h))
notices_none (a ∷ l) (suc at) h = notices_none l at (omega (arith, h))

module _ (m : Memory) (n own : ℕ) (values : List ℤ) (journal notices block : List ℕ) where
  pub lent-threes : length notices % 3 ≡ 0 → restart_lent m n own values journal notices block ≡ restart_step m n own values journal (notices_in notices) block
  unfolding restart_lent
  lent-threes h = rw (eq-eqb (length notices % 3) 0 h)

  pub lent_other : (length notices % 3 ≡ 0 → ⊥) → restart_lent m n own values journal notices block ≡ outcome (refused 1) m
  unfolding restart_lent
  lent_other h = rw (ne_eqb (length notices % 3) 0 h)
