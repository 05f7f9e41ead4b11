-- One work more, and one slot more, behind those done. Assumes nothing.
use Prim.Native.Nat.{ℕ, zero, suc, ◌≤◌}
use mathlib.Core.Path.{◌≡◌, refl, sym, ap, ◌∙◌}
use mathlib.Core.Bool.{Bool, true, false, cond, ◌&&◌}
use mathlib.Core.List.{List}
use native.Mathlib.Nat.{not-suc-le-zero, le_of_suc-le-suc}
use lib.Dec.{eqb}
use Rattle.memory.specs.Window.{kept_block}
use Rattle.engine.specs.Calls.Call.{work}
use Rattle.engine.proofs.Tests.{bool_by, clash}
use Rattle.giving.specs.Giving.{Going, doing, work_out, take_slot, give_slots}

-- at most c steps, each where the test says so
module _ (test : Going → Bool) (next : Going → Going) where
  unfoldable runs : ℕ → Going → Going
  runs zero g = g
  runs (suc c) g = cond (test g) (runs c (next g)) g

  runs_none : (g : Going) → runs 0 g ≡ g
  unfolding runs
  runs_none g = refl

  runs-more : (c : ℕ) (g : Going) → runs (suc c) g ≡ cond (test g) (runs c (next g)) g
  unfolding runs
  runs-more c g = refl

  first : (c : ℕ) (g : Going) → test g ≡ true → runs (suc c) g ≡ runs c (next g)
  unfolding runs
  first c g e = rw e

  none : (c : ℕ) (g : Going) → test g ≡ false → runs c g ≡ g
  unfolding runs
  none zero g e = refl
  none (suc c) g e = rw e

  run_on : (c : ℕ) (g : Going) → test (runs c g) ≡ true → runs (suc c) g ≡ next (runs c g)
  unfolding runs
  run_on zero g e = rw e
  run_on (suc c) g e = bool_by (test g)
      (λ q. let z = first c g q in first (suc c) g q ∙ run_on c (next g) (ap test (sym z) ∙ e) ∙ ap next (sym z))
      (λ q. clash (ap test (sym (none (suc c) g q)) ∙ e) q)

  run-over : (c n : ℕ) (g : Going) → c ≤ n → test (runs c g) ≡ false → runs n g ≡ runs c g
  unfolding runs
  run-over zero n g h e = none n g e
  run-over (suc c) zero g h e = absurd (not-suc-le-zero h)
  run-over (suc c) (suc n) g h e = bool_by (test g)
      (λ q. let z = first c g q in first n g q ∙ run-over c n (next g) (le_of_suc-le-suc h) (ap test (sym z) ∙ e) ∙ sym z)
      (λ q. none (suc n) g q ∙ sym (none (suc c) g q))

-- ---- works at slot s

abbrev pub goes_on : ℕ → Going → Bool
goes_on s g = eqb g.number 0 && eqb g.memory.turn.slot s

abbrev one_work : Going → Going
one_work g = doing g work

work_none : (s : ℕ) (g : Going) → work_out s 0 g ≡ g
unfolding work_out
work_none s g = refl

work_more : (s c : ℕ) (g : Going) → work_out s (suc c) g ≡ cond (goes_on s g) (work_out s c (doing g work)) g
unfolding work_out
work_more s c g = refl

work_runs : (s c : ℕ) (g : Going) → work_out s c g ≡ runs (goes_on s) one_work c g
work_runs s zero g = work_none s g ∙ sym (runs_none (goes_on s) one_work g)
work_runs s (suc c) g = work_more s c g ∙ ap (λ (x : Going). cond (goes_on s g) x g) (work_runs s c (doing g work)) ∙ sym (runs-more (goes_on s) one_work c g)

pub work_on : (s c : ℕ) (g : Going) → goes_on s (work_out s c g) ≡ true → work_out s (suc c) g ≡ doing (work_out s c g) work
work_on s c g e = work_runs s (suc c) g ∙ run_on (goes_on s) one_work c g (ap (goes_on s) (sym (work_runs s c g)) ∙ e) ∙ ap one_work (sym (work_runs s c g))

pub work_over : (s c n : ℕ) (g : Going) → c ≤ n → goes_on s (work_out s c g) ≡ false → work_out s n g ≡ work_out s c g
work_over s c n g h e = work_runs s n g ∙ run-over (goes_on s) one_work c n g h (ap (goes_on s) (sym (work_runs s c g)) ∙ e) ∙ sym (work_runs s c g)

-- ---- slots

module _ (lent : List ℕ) where
  abbrev goes_over : Going → Bool
  goes_over g = eqb g.number 0

  abbrev one_slot : Going → Going
  one_slot g = take_slot (kept_block lent g.memory.turn.slot) g

  slot-none : (g : Going) → give_slots lent 0 g ≡ g
  unfolding give_slots
  slot-none g = refl

  slot-more : (c : ℕ) (g : Going) → give_slots lent (suc c) g ≡ cond (goes_over g) (give_slots lent c (one_slot g)) g
  unfolding give_slots
  slot-more c g = refl

  slot-runs : (c : ℕ) (g : Going) → give_slots lent c g ≡ runs goes_over one_slot c g
  slot-runs zero g = slot-none g ∙ sym (runs_none goes_over one_slot g)
  slot-runs (suc c) g = slot-more c g ∙ ap (λ (x : Going). cond (goes_over g) x g) (slot-runs c (one_slot g)) ∙ sym (runs-more goes_over one_slot c g)

  pub slot-on : (c : ℕ) (g : Going) → eqb (give_slots lent c g).number 0 ≡ true
      → give_slots lent (suc c) g ≡ take_slot (kept_block lent (give_slots lent c g).memory.turn.slot) (give_slots lent c g)
  slot-on c g e = slot-runs (suc c) g ∙ run_on goes_over one_slot c g (ap goes_over (sym (slot-runs c g)) ∙ e) ∙ ap one_slot (sym (slot-runs c g))

  pub slot-over : (c n : ℕ) (g : Going) → c ≤ n → eqb (give_slots lent c g).number 0 ≡ false → give_slots lent n g ≡ give_slots lent c g
  slot-over c n g h e = slot-runs n g ∙ run-over goes_over one_slot c n g h (ap goes_over (sym (slot-runs c g)) ∙ e) ∙ sym (slot-runs c g)
