-- What notices change in the group: the numbers and lengths stay, an outage of another replica stays, and what "out" says. Assumes nothing.
use Prim.Native.Nat.{ℕ, ◌≤◌, ◌<◌}
use mathlib.Core.Path.{◌≡◌, refl, sym, ◌∙◌}
use mathlib.Core.Bool.{true, false, cond}
use mathlib.Core.List.{List, [], ◌∷◌}
use native.Mathlib.Omega.{arith}
use lib.Dec.{leb, ltb}
use lib.ListN.{length, get_or, length-set}
use lib.Seq.{get_or-set_same, get_or-set_other}
use borrow.Author.Tests.{leb-true, le-leb, ltb-true, lt-ltb}
use Rattle.block.proofs.BoolLaws.{both, joined}
use Rattle.memory.specs.declared.Group.{Group}
use Rattle.memory.specs.Memory.{owner_at, slot_limit}
use Rattle.memory.specs.Notices.{Notice, is_out, with_notice, with_notices}
use Rattle.engine.proofs.Tests.{cond_by, bool_by}

-- ---- an out slot

pub record InOutage (g : Group) (s : ℕ) : Type 0 where
  pub slot : s < slot_limit
  pub low : get_or g.from (owner_at g s) 0 ≤ s
  pub high : s < get_or g.until (owner_at g s) 0

pub in_outage : (g : Group) (s : ℕ) → is_out g s ≡ true → InOutage g s
in_outage g s u =
    let a = both (ltb s slot_limit) _ u in
    let b = both (leb (get_or g.from (owner_at g s) 0) s) _ a.right in
    record { slot = ltb-true _ _ a.left; low = leb-true _ _ b.left; high = ltb-true _ _ b.right }

pub is_out_lem : (g : Group) (s : ℕ) → InOutage g s → is_out g s ≡ true
is_out_lem g s h = joined (lt-ltb s slot_limit h.slot) (joined (le-leb (get_or g.from (owner_at g s) 0) s h.low) (lt-ltb s (get_or g.until (owner_at g s) 0) h.high))

pub not_out : (g : Group) (s : ℕ) → (InOutage g s → ⊥) → is_out g s ≡ false
not_out g s f = bool_by (is_out g s) (λ u. absurd (f (in_outage g s u))) (λ u. u)

-- ---- one notice

module _ (g : Group) (a : Notice) where
  pub from-long : length (with_notice g a).from ≡ length g.from
  from-long = cond_by (λ (l : List ℕ). length l ≡ length g.from) a.out (λ b. length-set g.from a.about a.slot) (λ b. refl)

  pub until-long : length (with_notice g a).until ≡ length g.until
  until-long = length-set g.until a.about (cond a.out slot_limit a.slot)

  -- a Back leaves where the outage began, an Out begins one
  pub from_back : a.out ≡ false → (with_notice g a).from ≡ g.from
  from_back b = rw b refl

  pub from_out : a.out ≡ true → a.about < length g.from → get_or (with_notice g a).from a.about 0 ≡ a.slot
  from_out b h = rw b (get_or-set_same g.from a.about a.slot 0 h)

  pub until-now : a.about < length g.until → get_or (with_notice g a).until a.about 0 ≡ cond a.out slot_limit a.slot
  until-now h = get_or-set_same g.until a.about (cond a.out slot_limit a.slot) 0 h

  -- of another replica
  pub from-other : (k : ℕ) → (k ≡ a.about → ⊥) → get_or (with_notice g a).from k 0 ≡ get_or g.from k 0
  from-other k d = cond_by (λ (l : List ℕ). get_or l k 0 ≡ get_or g.from k 0) a.out (λ b. get_or-set_other g.from a.about k a.slot 0 d) (λ b. refl)

  pub until-other : (k : ℕ) → (k ≡ a.about → ⊥) → get_or (with_notice g a).until k 0 ≡ get_or g.until k 0
  until-other k d = get_or-set_other g.until a.about k (cond a.out slot_limit a.slot) 0 d

  pub out-other : (s : ℕ) → (owner_at g s ≡ a.about → ⊥) → is_out (with_notice g a) s ≡ is_out g s
  out-other s d = rw (from-other (owner_at g s) d, until-other (owner_at g s) d) refl

  -- of its own replica, from its slot on and before it
  pub out-from : a.out ≡ true → a.about < length g.from → a.about < length g.until → (s : ℕ) → owner_at g s ≡ a.about → a.slot ≤ s → s < slot_limit
      → is_out (with_notice g a) s ≡ true
  out-from b f u s q lo hi = is_out_lem (with_notice g a) s (record { slot = hi; low = rw (q, from_out b f) lo; high = rw (q, until-now u, b) hi })

  pub back_from : a.out ≡ false → a.about < length g.until → (s : ℕ) → owner_at g s ≡ a.about → a.slot ≤ s → is_out (with_notice g a) s ≡ false
  back_from b u s q lo = not_out (with_notice g a) s (λ o. let h = rw (q, until-now u, b) at o.high in let z : ⊥ = omega arith in z)

  -- where the last outage has ended at or below the slot
  pub out-before : a.out ≡ true → a.about < length g.from → (s : ℕ) → owner_at g s ≡ a.about → s < a.slot → get_or g.until a.about 0 ≤ s
      → is_out (with_notice g a) s ≡ is_out g s
  out-before b f s q hi e =
      not_out (with_notice g a) s (λ o. let h = rw (q, from_out b f) at o.low in let z : ⊥ = omega arith in z)
      ∙ sym (not_out g s (λ o. let h = rw q at o.high in let z : ⊥ = omega arith in z))

  -- where it has no end yet
  pub back-before : a.out ≡ false → a.about < length g.until → (s : ℕ) → owner_at g s ≡ a.about → s < a.slot → a.slot < slot_limit → get_or g.until a.about 0 ≡ slot_limit
      → is_out (with_notice g a) s ≡ is_out g s
  back-before b u s q hi k e = rw (q, until-now u, b, e, lt-ltb s a.slot hi, lt-ltb s slot_limit (omega arith)) refl

-- ---- a list of them

pub record GroupKept (g h : Group) : Type 0 where
  pub replicas : h.replicas ≡ g.replicas
  pub own : h.own ≡ g.own
  pub from : length h.from ≡ length g.from
  pub until : length h.until ≡ length g.until

pub notices_kept : (g : Group) (l : List Notice) → GroupKept g (with_notices g l)
unfolding with_notices
notices_kept g [] = record { replicas = refl; own = refl; from = refl; until = refl }
notices_kept g (a ∷ l) =
    let k = notices_kept (with_notice g a) l in
    record { replicas = k.replicas; own = k.own; from = k.from ∙ from-long g a; until = k.until ∙ until-long g a }
