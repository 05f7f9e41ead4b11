-- A notice keeps the shape: no block waits for a slot that it puts out. Assumes nothing.
use Prim.Native.Nat.{ℕ, zero, suc, ◌+◌, ◌*◌, ◌%◌, ◌≤◌, ◌<◌}
use mathlib.Core.Path.{◌≡◌, refl, sym, ◌∙◌}
use mathlib.Core.Logic.{◌⊎◌, inl, inr}
use mathlib.Core.Bool.{Bool, true, false, not, ◌&&◌, ◌||◌}
use native.Mathlib.Nat.{mod-lt, not-suc-le-zero}
use native.Mathlib.Omega.{arith}
use lib.Dec.{eqb, leb}
use lib.ListN.{get_or}
use lib.Seq.{slice}
use borrow.Author.Tests.{eq-eqb, le-leb}
use Rattle.block.specs.Answers.{header_of}
use Rattle.memory.specs.Memory.{Memory, owner_at, span, with_group}
use Rattle.memory.specs.Notices.{Notice, is_out, with_notice}
use Rattle.memory.specs.Turns.{place_start, block_in, is_empty}
use Rattle.engine.specs.Notices.{placed_from, notice_refusal}
use Rattle.engine.specs.Shape.{Shape}
use Rattle.engine.proofs.Tests.{bool_by, same_by, clash}
use Rattle.engine.proofs.BlockFacts.{taken_block}
use Rattle.engine.proofs.Passed.{notice_passed, out-passed, back-passed}
use Rattle.engine.proofs.NoticeLaws.{in_outage, is_out_lem, from-long, until-long, from_back, from_out, out-other}
use Rattle.engine.proofs.Shaping.{shape_grouped}

or_true : (a b : Bool) → b ≡ true → (a || b) ≡ true
or_true true b h = refl
or_true false b h = h

-- a block of replica k for slot v or a later one in place p, one of the first j
placed_so : (m : Memory) (k v j p : ℕ) → p < j → eqb (get_or m.blocks.places (512 * p) 0) 0 ≡ false → (header_of (slice (512 * p) (512 * p + 512) m.blocks.places)).sender ≡ k
    → v ≤ (header_of (slice (512 * p) (512 * p + 512) m.blocks.places)).slot → placed_from m k v j ≡ true
unfolding placed_from
placed_so m k v zero p h e s l = absurd (not-suc-le-zero h)
placed_so m k v (suc j) p h e s l =
    same_by p j
    (λ q. rw (← q) (rw (e, eq-eqb _ k s, le-leb v _ l) refl))
    (λ d. or_true (not (eqb (get_or m.blocks.places (512 * j) 0) 0)
    && (eqb (header_of (slice (512 * j) (512 * j + 512) m.blocks.places)).sender k && leb v (header_of (slice (512 * j) (512 * j + 512) m.blocks.places)).slot))
    (placed_from m k v j) (placed_so m k v j p (omega (arith, d)) e s l))

module _ {over : ℕ} (m : Memory) (S : Shape over m) where
  -- the block that waits for slot s is one of its owner's
  pub placed-for : (v s : ℕ) → m.turn.slot ≤ s → s < m.turn.slot + span m.group → v ≤ s → is_empty (span m.group) s m.blocks.places ≡ false
      → placed_from m (owner_at m.group s) v (span m.group) ≡ true
  unfolding place_start header_of
  placed-for v s lo hi l z =
      let n = span m.group in
      let w = S.places.waits s lo hi z in
      placed_so m (owner_at m.group s) v n (s % n) (mod-lt s (omega (arith, S.ranges.least))) z
      ((taken_block (block_in n s m.blocks.places) w.0).sender ∙ rw (w.1, w.2) refl) (rw w.1 l)

  module _ (a : Notice) (e : notice_refusal m a ≡ 0) where
    pub about-few : a.about < 6
    about-few = let h = (notice_passed m a e).about in omega (arith, S.ranges.most)

    -- a slot that is out then was out before, or the notice is an Out of its owner from it or an earlier one on
    pub newly-out : (s : ℕ) → is_out (with_notice m.group a) s ≡ true
        → (is_out m.group s ≡ true) ⊎ ((a.out ≡ true) × (owner_at m.group s ≡ a.about) × (a.slot ≤ s))
    newly-out s u =
        let o = in_outage (with_notice m.group a) s u in
        same_by (owner_at m.group s) a.about
        (λ q. bool_by a.out
        (λ b. let f = from_out m.group a b (let h = about-few in omega (arith, S.lengths.from)) in inr (b, q, rw (q, f) at o.low))
        (λ b. inl (is_out_lem m.group s (record {
          slot = o.slot;
          low = rw (from_back m.group a b) at o.low;
          high = rw (q, (back-passed m a e b).endless) o.slot;
        }))))
        (λ d. inl (sym (out-other m.group a s d) ∙ u))

    clear : (s : ℕ) → m.turn.slot ≤ s → s < m.turn.slot + span m.group → is_out (with_notice m.group a) s ≡ true → is_empty (span m.group) s m.blocks.places ≡ true
    clear s lo hi u = go (newly-out s u)
      where
        go : (is_out m.group s ≡ true) ⊎ ((a.out ≡ true) × (owner_at m.group s ≡ a.about) × (a.slot ≤ s)) → is_empty (span m.group) s m.blocks.places ≡ true
        go (inl v) = S.places.clear s lo hi v
        go (inr n) =
            bool_by (is_empty (span m.group) s m.blocks.places) (λ z. z)
            (λ z. clash (placed-for a.slot s lo hi n.2 z) (rw n.1 (out-passed m a e n.0).unplaced))

    pub shape-noticed : Shape over (with_group m (with_notice m.group a))
    shape-noticed =
        shape_grouped m S (with_notice m.group a) (record { replicas = refl; own = refl; from = from-long m.group a; until = until-long m.group a }) clear
