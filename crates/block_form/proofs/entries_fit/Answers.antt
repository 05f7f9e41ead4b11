-- Assumes nothing.
use Prim.Native.Nat.{ℕ, ◌+◌, ◌*◌, ◌≤◌, ◌<◌}
use mathlib.Core.Bool.{Bool, true, false, ◌&&◌, and-false}
use mathlib.Core.List.{List}
use mathlib.Core.Path.{◌≡◌, refl, sym, ◌∙◌}
use native.Mathlib.Nat.{sub-zero as minus-zero}
use native.Mathlib.Omega.{arith}
use borrow.Author.Tests.{le-leb, leb-true, leb-false}
use lib.Dec.{leb}
use lib.ListN.{length}
use lib.Seq.{slice}
use Rattle.block.specs.Numbers.{number_from}
use Rattle.block.proofs.FormLaws.{within_in, within-below, within-above, entries_rest, entries-bad, entries_next, entries_end}
use Rattle.block_form.proofs.entries_fit.Goals as goal

module _ (n e : ℕ) (l : List ℕ) (x : ℕ) (h : e < n) (room : 8 * e + 4 ≤ length l) (item : x ≡ number_from (slice (8 * e) (8 * e + 4) l)) where
  -- an item at or above `low`: what is left to ask of it is that it is at most 127
  entry-from : (low : ℕ) → low ≤ x → entries_rest low n e l ≡ (leb x 127 && entries_rest (x + 1) n (e + 1) l)
  entry-from low above = cases (leb x 127) refl
    where
      cases : (b : Bool) → leb x 127 ≡ b → entries_rest low n e l ≡ (leb x 127 && entries_rest (x + 1) n (e + 1) l)
      cases true q = rw q (entries_next low n e l x h room item (within_in low 127 x above (leb-true x 127 q)))
      cases false q = rw q (entries-bad low n e l x h room item (within-above low 127 x (leb-false x 127 q)))

  -- where it is above the last one, that the last one is at most 127 follows
  entry-above : (last : ℕ) → last < x → (leb last 127 && entries_rest (last + 1) n e l) ≡ (leb x 127 && entries_rest (x + 1) n (e + 1) l)
  entry-above last above = rw (entry-from (last + 1) (omega (arith, above))) (cases (leb x 127) refl)
    where
      cases : (b : Bool) → leb x 127 ≡ b → (leb last 127 && (leb x 127 && entries_rest (x + 1) n (e + 1) l)) ≡ (leb x 127 && entries_rest (x + 1) n (e + 1) l)
      cases true q =
          let k = leb-true x 127 q in
          rw (le-leb last 127 (omega (arith, above, k)))
      cases false q = rw q (and-false (leb last 127))

pub loop-e-init : goal.loop-e-init
loop-e-init c =
    let a = c.args in
    rw (minus-zero a.n) at (entry-from a.n 0 a.part.now c.number_at-last.result (omega arith) (omega arith) c.number_at-last.ensures 0 (omega arith))

pub returns-then-item-last : goal.returns-then-item-last
returns-then-item-last c =
    let a = c.args in
    sym
    (c.loop-e.invariant
    ∙ rw (entries-bad (c.loop-e.last + 1) a.n c.loop-e.e a.part.now c.number_at-item.result (omega arith) (omega arith) c.number_at-item.ensures
    (within-below _ 127 _ (omega arith))) (and-false (leb c.loop-e.last 127)))

pub loop-e-preserved : goal.loop-e-preserved
loop-e-preserved c =
    let a = c.args in
    c.loop-e.invariant ∙ entry-above a.n c.loop-e.e a.part.now c.number_at-item.result (omega arith) (omega arith) c.number_at-item.ensures c.loop-e.last (omega arith)

pub returns-then-last-le127 : goal.returns-then-last-le127
returns-then-last-le127 c =
    let a = c.args in
    let e : c.loop-e.e ≡ a.n = omega arith in
    c.zero.ensures
    ∙ sym (c.loop-e.invariant ∙ rw (e, le-leb c.loop-e.last 127 (omega arith)) (entries_end (c.loop-e.last + 1) a.n a.part.now))
