-- The window as a ring: the last 64 of a sequence of blocks, block by block; what it holds and lacks. Assumes nothing.
use Prim.Native.Nat.{ℕ, zero, suc, ◌+◌, ◌-◌, ◌*◌, ◌%◌, ◌≤◌, ◌<◌}
use mathlib.Core.Path.{◌≡◌, refl, sym, ap, ◌∙◌, subst}
use mathlib.Core.Bool.{true, false, not, ◌&&◌}
use mathlib.Core.Logic.{◌⊎◌, inl, inr}
use mathlib.Core.List.{List, [], ◌∷◌, ◌++◌}
use native.Mathlib.Nat.{mod-lt, mod-eq_of_lt}
use native.Mathlib.Omega.{arith}
use lib.Dec.{eqb, ltb, leb}
use lib.ListN.{length, get_or, take, drop, drop_of_length-le, get_or-replicate}
use lib.Seq.{slice}
use borrow.Author.Tests.{eqb-true, eq-eqb, ne_eqb, lt-ltb, le-ltb, le-leb, not-true, not-false}
use Rattle.block.specs.Message.{owner_of}
use Rattle.block.specs.Answers.{block_refusal, header_of}
use Rattle.block.proofs.BoolLaws.{both, joined}
use Rattle.block.proofs.ListLaws.{part-take, part-drop, cut}
use Rattle.memory.specs.Memory.{window_slots, window_bytes}
use Rattle.memory.specs.Turns.{place_start, is_empty}
use Rattle.memory.specs.Window.{empty_window, kept_block, keeping, keeping_all}
use Rattle.engine.specs.Restart.{is_good, blocks_from, refilled}
use Rattle.engine.proofs.Tests.{cond_by, less_by, clash}
use Rattle.engine.proofs.PlaceLaws.{own_slot, empty_block, empty_same}
use Rattle.engine.proofs.RingLaws.{length_empty, length-keeping, kept_same, kept-other}
use Rattle.engine.proofs.BlockFacts.{taken_block}
use Rattle.giving.specs.Giving.{holds, lacks}

-- w has the last 64 of the blocks f 0 to f (t − 1)
pub record Ring (t : ℕ) (f : ℕ → List ℕ) (w : List ℕ) : Type 0 where
  pub long : length w ≡ window_bytes
  pub blocks : (s : ℕ) → s < t → t ≤ s + window_slots → kept_block w s ≡ f s
  pub none : (s : ℕ) → t ≤ s → s < window_slots → kept_block w s ≡ kept_block empty_window s

pub ring_none : (f : ℕ → List ℕ) → Ring 0 f empty_window
ring_none f = record { long = length_empty; blocks = λ s h. absurd (let z : ⊥ = omega arith in z); none = λ s h u. refl }

pub ring_same : (t : ℕ) (f g : ℕ → List ℕ) (w : List ℕ) → ((s : ℕ) → s < t → f s ≡ g s) → Ring t f w → Ring t g w
ring_same t f g w e R = record { long = R.long; blocks = λ s h u. R.blocks s h u ∙ e s h; none = R.none }

-- one more
pub ring_next : (t : ℕ) (f : ℕ → List ℕ) (w b : List ℕ) → length b ≡ 512 → b ≡ f t → Ring t f w → Ring (suc t) f (keeping w t b)
ring_next t f w b h e R = record {
  long = length-keeping w R.long t b h;
  blocks = λ s l u. less_by s t
      (λ v. kept-other w R.long s s t b h (omega arith) (omega arith) (omega arith) (omega arith) (λ q. omega arith) ∙ R.blocks s v (omega arith))
      (λ v. let z : s ≡ t = omega arith in rw z (kept_same w R.long t b h ∙ e));
  none = λ s l u. kept-other w R.long t s t b h (omega arith) (omega arith) (omega arith) (omega arith) (λ q. omega arith) ∙ R.none s (omega arith) u;
}

-- and all of a list
pub ring_all : (bs : List (List ℕ)) (t : ℕ) (f : ℕ → List ℕ) (w : List ℕ) → ((i : ℕ) → i < length bs → (length (get_or bs i []) ≡ 512) × (get_or bs i [] ≡ f (t + i))) → Ring t f w
    → Ring (t + length bs) f (keeping_all w t bs)
unfolding keeping_all
ring_all [] t f w h R = let e : t + 0 ≡ t = omega arith in rw e R
ring_all (b ∷ bs) t f w h R =
    let z = h 0 (omega arith) in
    let e : t + suc (length bs) ≡ suc t + length bs = omega arith in
    let y : t + 0 ≡ t = omega arith in
    rw e
    (ring_all bs (suc t) f (keeping w t b)
    (λ i l. let x = h (suc i) (omega arith) in let q : t + suc i ≡ suc t + i = omega arith in (x.0, x.1 ∙ ap f q))
    (ring_next t f w b z.0 (z.1 ∙ ap f y) R))

-- a restart's
pub ring_refilled : (bs : List (List ℕ)) (f : ℕ → List ℕ) → ((i : ℕ) → i < length bs → (length (get_or bs i []) ≡ 512) × (get_or bs i [] ≡ f i)) → Ring (length bs) f (refilled bs)
ring_refilled bs f h =
    let e : 0 + length bs ≡ length bs = omega arith in
    subst (λ (t : ℕ). Ring t f (refilled bs)) e
    (ring_all bs 0 f empty_window (λ i l. let z : i ≡ 0 + i = omega arith in let q = h i l in (q.0, q.1 ∙ ap f z)) (ring_none f))

-- ---- what it holds

same_place : (s r : ℕ) → s % 64 ≡ r % 64 → place_start window_slots s ≡ place_start window_slots r
unfolding place_start
same_place s r e = ap (λ (k : ℕ). 512 * k) e

same_kept : (w : List ℕ) (s r : ℕ) → s % 64 ≡ r % 64 → kept_block w s ≡ kept_block w r
same_kept w s r e = ap (λ (k : ℕ). slice k (k + 512) w) (same_place s r e)

none_kept : (s : ℕ) → is_empty window_slots s empty_window ≡ true
unfolding empty_window place_start
none_kept s = eq-eqb _ 0 (get_or-replicate window_bytes (512 * (s % 64)) 0 0 (let l = mod-lt s {m = 64} (omega arith) in omega arith))

-- the slot of the last 64 below t that is in the place of s; while there are not so many, perhaps none
abbrev InPlace : ℕ → ℕ → Type 0
InPlace t s = ((r : ℕ) × (r < t) × (t ≤ r + 64) × (s % 64 ≡ r % 64)) ⊎ ((r : ℕ) × (t ≤ r) × (r < 64) × (s % 64 ≡ r % 64))

in_place : (t s : ℕ) → InPlace t s
unfolding owner_of
in_place t s =
    let l = mod-lt s {m = 64} (omega arith) in
    less_by 64 t
    (λ u. let o = own_slot 64 (s % 64) (t - 65) l in let a = o.1 in let b = o.2 in inl (o.0, omega arith, omega arith, sym o.3))
    (λ u. less_by (s % 64) t (λ v. inl (s % 64, v, omega arith, sym (mod-eq_of_lt l))) (λ v. inr (s % 64, v, l, sym (mod-eq_of_lt l))))

module _ (t : ℕ) (f : ℕ → List ℕ) (w : List ℕ) (R : Ring t f w) (good : (s : ℕ) → s < t → (block_refusal (f s) ≡ 0) × ((header_of (f s)).slot ≡ s)) where
  pub ring-holds : (s : ℕ) → s < t → t ≤ s + window_slots → holds w s ≡ true
  unfolding holds
  ring-holds s h u =
      let e = R.blocks s h u in
      let g = good s h in
      let k = taken_block (f s) g.0 in
      let z : is_empty window_slots s w ≡ false = empty_block window_slots s w ∙ ap (λ (b : List ℕ). eqb (get_or b 0 0) 0) e
      ∙ ne_eqb (get_or (f s) 0 0) 0 (λ q. omega (arith, k.kind (λ y. omega arith))) in
      let y : not (is_empty window_slots s w) ≡ true = rw z refl in
      joined y (eq-eqb _ s (ap (λ (b : List ℕ). (header_of b).slot) e ∙ g.1))

  pub ring-only : (s : ℕ) → holds w s ≡ true → (s < t) × (t ≤ s + window_slots)
  unfolding holds
  ring-only s h = go (in_place t s)
    where
      full : is_empty window_slots s w ≡ false
      full = not-true _ (both (not (is_empty window_slots s w)) _ h).left

      says : (header_of (kept_block w s)).slot ≡ s
      says = eqb-true _ s (both (not (is_empty window_slots s w)) _ h).right

      go : InPlace t s → (s < t) × (t ≤ s + window_slots)
      go (inl r) =
          let e : s ≡ r.0 = sym says ∙ ap (λ (b : List ℕ). (header_of b).slot) (same_kept w s r.0 r.3 ∙ R.blocks r.0 r.1 r.2) ∙ (good r.0 r.1).1 in
          rw e (r.1, r.2)
      go (inr r) =
          clash (ap (λ (k : ℕ). eqb (get_or w k 0) 0) (same_place s r.0 r.3) ∙ empty_same window_slots r.0 w empty_window (R.none r.0 r.1 r.2) ∙ none_kept r.0) full

  -- the ends of a range decide
  pub lacks-none : (from to : ℕ) → lacks w from to ≡ false → (s : ℕ) → from ≤ s → s < to → holds w s ≡ true
  unfolding lacks
  lacks-none from to e s a b =
      let l : ltb from to ≡ true = lt-ltb from to (omega arith) in
      let k = not-false _ (rw l at e) in
      let q = (both (leb (to - from) window_slots) _ k).right in
      let x = ring-only from (both (holds w from) _ q).left in
      let y = ring-only (to - 1) (both (holds w from) _ q).right in
      let u = x.1 in
      let v = y.0 in
      ring-holds s (omega arith) (omega arith)

  pub lacks-one : (from to : ℕ) → ((s : ℕ) → from ≤ s → s < to → holds w s ≡ true) → lacks w from to ≡ false
  unfolding lacks
  lacks-one from to h = less_by from to
      (λ l.
      let p = h from (omega arith) l in
      let q = h (to - 1) (omega arith) (omega arith) in
      let u = (ring-only from p).1 in
      let v = (ring-only (to - 1) q).0 in
      let k : leb (to - from) window_slots ≡ true = le-leb (to - from) window_slots (omega arith) in
      rw (k, p, q, lt-ltb from to l) refl)
      (λ l. rw (le-ltb from to l) refl)

-- ---- two windows with the same blocks are one

module _ (t : ℕ) (f g : ℕ → List ℕ) (v w : List ℕ) (R : Ring t f v) (S : Ring t g w) (same : (s : ℕ) → s < t → t ≤ s + window_slots → f s ≡ g s) where
  one_place : (s : ℕ) → kept_block v s ≡ kept_block w s
  one_place s = go (in_place t s)
    where
      go : InPlace t s → kept_block v s ≡ kept_block w s
      go (inl r) = same_kept v s r.0 r.3 ∙ R.blocks r.0 r.1 r.2 ∙ same r.0 r.1 r.2 ∙ sym (S.blocks r.0 r.1 r.2) ∙ sym (same_kept w s r.0 r.3)
      go (inr r) = same_kept v s r.0 r.3 ∙ R.none r.0 r.1 r.2 ∙ sym (S.none r.0 r.1 r.2) ∙ sym (same_kept w s r.0 r.3)

  -- from place i on
  one-rest : (c i : ℕ) → i + c ≡ 64 → drop (512 * i) v ≡ drop (512 * i) w
  unfolding place_start
  one-rest zero i e = drop_of_length-le v {i = 512 * i} (let l = R.long in omega arith) ∙ sym (drop_of_length-le w {i = 512 * i} (let l = S.long in omega arith))
  one-rest (suc c) i e =
      let z : 512 * suc i ≡ 512 * i + 512 = omega arith in
      let p : i % 64 ≡ i = mod-eq_of_lt (omega arith) in
      cut (512 * i) (512 * i + 512) v (omega arith)
      ∙ ap (λ (b : List ℕ). b ++ drop (512 * i + 512) v) (rw p at (one_place i))
      ∙ ap (λ (b : List ℕ). slice (512 * i) (512 * i + 512) w ++ b) (rw z at (one-rest c (suc i) (omega arith)))
      ∙ sym (cut (512 * i) (512 * i + 512) w (omega arith))

  pub ring-one : v ≡ w
  ring-one = one-rest 64 0 refl

-- ---- the blocks that a restart reads

-- block s of a journal
abbrev pub block_no : List ℕ → ℕ → List ℕ
block_no journal s = slice (512 * s) (512 * s + 512) journal

abbrev ReadAt : ℕ → ℕ → List ℕ → List (List ℕ) → ℕ → Type 0
ReadAt n s bytes l i = let b = get_or l i [] in (b ≡ block_no bytes i) × (is_good n b ≡ true) × ((header_of b).slot ≡ s + i)

read_cons : (n s : ℕ) (bytes : List ℕ) (bs : List (List ℕ)) → is_good n (take 512 bytes) ≡ true → (header_of (take 512 bytes)).slot ≡ s
    → ((i : ℕ) → i < length bs → ReadAt n (suc s) (drop 512 bytes) bs i) → (i : ℕ) → i < length (take 512 bytes ∷ bs) → ReadAt n s bytes (take 512 bytes ∷ bs) i
read_cons n s bytes bs g e f zero h = (sym (part-take 0 512 bytes), g, (let z : s + 0 ≡ s = omega arith in e ∙ sym z))
read_cons n s bytes bs g e f (suc i) h =
    let r = f i (omega arith) in
    let x : 512 + 512 * i ≡ 512 * suc i = omega arith in
    let y : 512 + (512 * i + 512) ≡ 512 * suc i + 512 = omega arith in
    let z : suc s + i ≡ s + suc i = omega arith in
    (r.0 ∙ part-drop 512 (512 * i) (512 * i + 512) bytes ∙ ap (λ (k : ℕ). slice k (512 + (512 * i + 512)) bytes) x ∙ ap (λ (k : ℕ). slice (512 * suc i) k bytes) y, r.1, r.2 ∙ z)

pub reads_at : (n s most : ℕ) (bytes : List ℕ) (i : ℕ) → i < length (blocks_from n s most bytes) → ReadAt n s bytes (blocks_from n s most bytes) i
unfolding blocks_from
reads_at n s zero bytes i = λ h. absurd (let z : ⊥ = omega arith in z)
reads_at n s (suc most) bytes i =
    cond_by (λ (l : List (List ℕ)). i < length l → ReadAt n s bytes l i) (is_good n (take 512 bytes) && eqb (header_of (take 512 bytes)).slot s)
    (λ e h. read_cons n s bytes (blocks_from n (suc s) most (drop 512 bytes)) (both _ _ e).left (eqb-true _ s (both (is_good n (take 512 bytes)) _ e).right) (reads_at n (suc s) most (drop 512 bytes)) i h)
    (λ e h. absurd (let z : ⊥ = omega arith in z))
