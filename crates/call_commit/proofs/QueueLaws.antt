-- One turn of the loop that takes tickets out of the queue. Assumes nothing.
use Prim.Native.Nat.{ℕ, ◌+◌, ◌-◌, ◌≤◌, ◌<◌}
use mathlib.Core.Path.{◌≡◌, refl, sym, ap, ◌∙◌}
use mathlib.Core.Bool.{true, false}
use mathlib.Core.List.{List, [], ◌∷◌, ◌++◌, append-nil}
use native.Mathlib.Numerals.{add-one}
use native.Mathlib.Omega.{arith}
use borrow.Rule.Slice.PartMut.{put_mid}
use lib.ListN.{length, get_or, set, take, drop, replicate, length-set, length-drop, drop_of_length-le}
use lib.Seq.{take-suc, take-length, take-suc-set, drop-set-lt, length-take-le}
use Rattle.memory.specs.Rows.{has}
use Rattle.engine.specs.Moves.{without, queue_without}
use Rattle.engine.proofs.QueueLaws.{without-append}
use Rattle.call_commit.proofs.ListLaws.{same_here, same-later}

-- the list l while q loses the numbers gone: the first k are what stays of the first i, and those from place i on are as they were
pub record Kept (gone q l : List ℕ) (k i : ℕ) : Type 0 where
  pub place : k ≤ i
  pub within : i ≤ length q
  pub same_length : length l ≡ length q
  pub front : take k l ≡ without gone (take i q)
  pub back : drop i l ≡ drop i q

module _ (gone q : List ℕ) where
  pub kept-none : Kept gone q q 0 0
  unfolding without
  kept-none = record { place = omega arith; within = omega arith; same_length = refl; front = refl; back = refl }

  module _ (l : List ℕ) (k i : ℕ) (h : i < length q) (s : Kept gone q l k i) where
    front-next : without gone (take (i + 1) q) ≡ take k l ++ without gone (get_or l i 0 ∷ [])
    front-next = rw (add-one i, take-suc q i 0 h, without-append gone (take i q) (get_or q i 0 ∷ []), same_here l q i s.back, ← s.front)

    pub kept-gone : has (get_or l i 0) gone ≡ true → Kept gone q l k (i + 1)
    unfolding without
    kept-gone e = record {
      place = omega (arith, s.place);
      within = omega arith;
      same_length = s.same_length;
      front = sym (front-next ∙ rw e (append-nil (take k l)));
      back = same-later l q i s.back;
    }

    pub kept-stays : has (get_or l i 0) gone ≡ false → Kept gone q (set l k (get_or l i 0)) (k + 1) (i + 1)
    unfolding without
    kept-stays e = record {
      place = omega (arith, s.place);
      within = omega arith;
      same_length = length-set l k (get_or l i 0) ∙ s.same_length;
      front = rw (add-one k, front-next, e) (take-suc-set l k (get_or l i 0) (omega (arith, s.place, s.same_length)));
      back = drop-set-lt (i + 1) l k (get_or l i 0) (omega (arith, s.place)) ∙ same-later l q i s.back;
    }

  -- the zeros put behind the last that stays
  pub kept-end : (l : List ℕ) (k i : ℕ) → length q ≤ i → Kept gone q l k i → (zeros : List ℕ) → zeros ≡ replicate (length l - k) 0
      → put_mid k (length l - k) l zeros ≡ queue_without gone q
  kept-end l k i h s zeros z =
      let e : i ≡ length q = omega (arith, s.within) in
      let f : take k l ≡ without gone q = s.front ∙ rw (e, take-length q) in
      let n : length (without gone q) ≡ k = sym (ap length f) ∙ length-take-le k l (omega (arith, s.place, s.same_length)) in
      let r : drop (length l - k) (drop k l) ≡ [] = drop_of_length-le (drop k l) {i = length l - k} (omega (arith, length-drop k l)) in
      rw (r, append-nil zeros, z, f, n, s.same_length)
