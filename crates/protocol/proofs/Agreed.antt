-- What is claimed of the group follows from the invariant. Assumes nothing.
use Prim.Native.Nat.{◌+◌, ◌<◌, ◌≤◌, suc, zero, ℕ}
use mathlib.Core.Path.{◌∙◌, ◌≡◌, ap, refl, subst}
use mathlib.Core.Bool.{Bool, false, not, true, cond}
use mathlib.Core.List.{List, [], ◌∷◌}
use native.Mathlib.Nat.{not-suc-le-zero}
use native.Mathlib.Omega.{arith}
use lib.ListN.{get_or, length, take}
use Rattle.protocol.specs.Lists.{Mem, keep}
use Rattle.protocol.specs.Replica.{Setup}
use Rattle.protocol.specs.Observer.{Handout, sequence, no_handout}
use Rattle.protocol.specs.System.{System}
use Rattle.protocol.specs.Statement.{Agreed}
-- modules are checked in the order of their names, this one first: so what is computed comes before the proofs, and a wrong definition is refused there
use Rattle.protocol.proofs.ListLaws.{keep-mem}
use Rattle.protocol.proofs.Tracking.{within, holds-below}
use Rattle.protocol.proofs.Invariant.{SystemInv}
use Rattle.protocol.proofs.SequenceLaws.{sequence-mono}
use Rattle.protocol.proofs.ClaimLaws.{handouts-sequence, first-sequence}

module _ {X : Type 0} (S : Setup X) (out : ℕ → Bool) where
  -- what is kept of rising slots rises, from s on
  rises : (p : Handout X → Bool) (D : List (Handout X)) (s : ℕ) → ((i : ℕ) → i < length D → (get_or D i no_handout).slot ≡ s + i)
      → ((i : ℕ) → i < length (keep p D) → s ≤ (get_or (keep p D) i no_handout).slot)
      × ((i j : ℕ) → i < j → j < length (keep p D) → (get_or (keep p D) i no_handout).slot < (get_or (keep p D) j no_handout).slot)
  unfolding keep
  rises p [] s f = ((λ i h. absurd (not-suc-le-zero h)), (λ i j h g. absurd (not-suc-le-zero g)))
  rises p (x ∷ D) s f = go (p x) (rises p D (suc s) (λ i h. f (suc i) (omega arith) ∙ (let e : s + suc i ≡ suc s + i = omega arith in e)))
    where
      here : x.slot ≡ s + 0
      here = f 0 (omega arith)

      low : (l : List (Handout X)) → ((i : ℕ) → i < length l → suc s ≤ (get_or l i no_handout).slot) → (i : ℕ) → i < length (x ∷ l) → s ≤ (get_or (x ∷ l) i no_handout).slot
      low l g zero h = let e = here in omega arith
      low l g (suc i) h = let a = g i (omega arith) in omega arith

      up : (l : List (Handout X)) → ((i : ℕ) → i < length l → suc s ≤ (get_or l i no_handout).slot) → ((i j : ℕ) → i < j → j < length l → (get_or l i no_handout).slot < (get_or l j no_handout).slot)
          → (i j : ℕ) → i < j → j < length (x ∷ l) → (get_or (x ∷ l) i no_handout).slot < (get_or (x ∷ l) j no_handout).slot
      up l g m zero zero h k = absurd (let w : ⊥ = omega arith in w)
      up l g m zero (suc j) h k = let a = g j (omega arith) in let e = here in omega arith
      up l g m (suc i) zero h k = absurd (let w : ⊥ = omega arith in w)
      up l g m (suc i) (suc j) h k = m i j (omega arith) (omega arith)

      go : (b : Bool) → ((i : ℕ) → i < length (keep p D) → suc s ≤ (get_or (keep p D) i no_handout).slot) × ((i j : ℕ) → i < j → j < length (keep p D) → (get_or (keep p D) i no_handout).slot < (get_or (keep p D) j no_handout).slot)
          → ((i : ℕ) → i < length (cond b (x ∷ keep p D) (keep p D)) → s ≤ (get_or (cond b (x ∷ keep p D) (keep p D)) i no_handout).slot)
          × ((i j : ℕ) → i < j → j < length (cond b (x ∷ keep p D) (keep p D)) → (get_or (cond b (x ∷ keep p D) (keep p D)) i no_handout).slot < (get_or (cond b (x ∷ keep p D) (keep p D)) j no_handout).slot)
      go true r = (low (keep p D) r.0, up (keep p D) r.0 r.1)
      go false r = ((λ i h. let a = r.0 i h in omega arith), r.1)

  -- the first of what is kept are what is kept of the first
  kept_at : (p : Handout X → Bool) (D : List (Handout X)) (i : ℕ) → i < length (keep p D)
      → (j : ℕ) × ((j < length D) × (get_or (keep p D) i no_handout ≡ get_or D j no_handout) × (take (suc i) (keep p D) ≡ keep p (take (suc j) D)))
  unfolding keep
  kept_at p [] i h = absurd (not-suc-le-zero h)
  kept_at p (x ∷ D) i h = go (p x) refl i h (kept_at p D)
    where
      go : (b : Bool) → p x ≡ b → (i : ℕ) → i < length (cond b (x ∷ keep p D) (keep p D))
          → ((i : ℕ) → i < length (keep p D) → (j : ℕ) × ((j < length D) × (get_or (keep p D) i no_handout ≡ get_or D j no_handout) × (take (suc i) (keep p D) ≡ keep p (take (suc j) D))))
          → (j : ℕ) × ((j < length (x ∷ D)) × (get_or (cond b (x ∷ keep p D) (keep p D)) i no_handout ≡ get_or (x ∷ D) j no_handout)
          × (take (suc i) (cond b (x ∷ keep p D) (keep p D)) ≡ keep p (take (suc j) (x ∷ D))))
      go true e zero h ih = (0, (omega arith, refl, rw e refl))
      go true e (suc i) h ih = let a = ih i (omega arith) in (suc a.0, ((let b = a.1.0 in omega arith), a.1.1, rw e (ap (λ (l : List (Handout X)). x ∷ l) a.1.2)))
      go false e i h ih = let a = ih i h in (suc a.0, ((let b = a.1.0 in omega arith), a.1.1, rw e a.1.2))

  pub agreed : (w : System X) → SystemInv S out w → Agreed S w
  agreed w I = record {
    rising = rw I.listed.of_log (rises (λ h. not (out h.slot)) I.log 0 (λ i h. I.whole.in_order.slot i h ∙ (let e : i ≡ 0 + i = omega arith in e))).1;
    messages = I.listed.same;
    agree = λ k. let M = I.each k in let T = M.track in record {
      commits = rw seq T.logged;
      within = rw seq (within S out I.log (w.observed k).commits k (w.replicas k).cursor (w.replicas k).store (w.replicas k).blocks T);
      below = λ h m. holds-below S out I.log (w.observed k).commits k (w.replicas k).cursor (w.replicas k).store (w.replicas k).blocks T I.whole.in_order h
          (keep-mem (λ h. not (out h.slot)) I.log h (subst (Mem h) I.listed.of_log m)).0;
      reached = λ i h l. reached k i h l;
      values = rw seq T.values;
      stamps = rw seq M.stamps;
    };
    first = rw seq I.whole.first;
  }
    where
      seq : sequence w.handouts ≡ sequence I.log
      seq = handouts-sequence S out w.handouts I.log w.messages I.listed I.whole.in_order

      reached : (k i : ℕ) → i < length w.handouts → (get_or w.handouts i no_handout).slot < (w.replicas k).cursor.turn → length (sequence (take (suc i) w.handouts)) ≤ (w.replicas k).store.commits
      reached k i h l =
          let a = kept_at (λ h. not (out h.slot)) I.log i (rw (← I.listed.of_log) h) in
          let s : (get_or w.handouts i no_handout).slot ≡ a.0 = ap (λ (D : List (Handout X)). (get_or D i no_handout).slot) I.listed.of_log ∙ ap (λ (x : Handout X). x.slot) a.1.1 ∙ I.whole.in_order.slot a.0 a.1.0 in
          let q : sequence (take (suc i) w.handouts) ≡ sequence (take (suc a.0) I.log) = ap (λ (D : List (Handout X)). sequence (take (suc i) D)) I.listed.of_log ∙ ap sequence a.1.2
          ∙ first-sequence S out I.log I.whole.in_order (suc a.0) in
          let n = ap length q in
          let m = sequence-mono I.log (suc a.0) (w.replicas k).cursor.turn (omega arith) in
          let c = (I.each k).track.count in
          omega arith
