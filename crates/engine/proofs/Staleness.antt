-- Staleness before the lock: what changed of a write. Assumes nothing.
use Prim.Native.Nat.{ℕ}
use mathlib.Core.Path.{◌≡◌, refl, sym, ap, ◌∙◌}
use mathlib.Core.Bool.{Bool, true, false, cond, not, ◌&&◌}
use mathlib.Core.List.{[], ◌∷◌}
use native.Mathlib.Omega.{arith}
use lib.Dec.{eqb}
use lib.IntN.{ℤ}
use Rattle.block.specs.Answers.{refuse, first_of}
use Rattle.block.proofs.BoolLaws.{not_so}
use Rattle.memory.specs.Memory.{Memory, is_station}
use Rattle.engine.specs.Answers.{Outcome, number_of, outcome, unless}
use Rattle.engine.specs.Answers.Answer.{refused}
use Rattle.engine.specs.Classes.{must_wait}
use Rattle.engine.specs.Client.{row_no, row_in, own_index, is_own, item_out, no_row, not_active, held_by_other, is_stale, is_full, write_lent, write_refusal, rewrite_at, insert_write, stale_at, write_row}
use Rattle.engine.specs.Calls.{step}
use Rattle.engine.specs.Calls.Call.{write}
use Rattle.engine.specs.Staleness.{lock_first_refusal, lock_first_write, stale_and_held, StalenessFirst}
use Rattle.engine.proofs.Tests.{clash}

-- ---- over plain tests

-- the tests before 9 and 8 let a write through, and both hold
abbrev both : Bool → Bool → Bool → Bool → Bool → Bool → Bool → Bool → Bool → Bool
both station lent out shut busy waits own stale held = not station && (lent && (not out && (not shut && (not busy && (not waits && not own))))) && (stale && held)

module _ (m : Memory) (ended taken : Outcome) where
  -- the write by its last refusals
  abbrev by : Bool → Bool → Bool → Bool → Bool → Bool → ℕ → Outcome
  by station lent out shut busy waits last =
      cond station (outcome (refused 25) m)
      (let n = cond (not lent) 1 (cond out 2 (cond shut 3 (cond busy 4 (cond waits 7 last)))) in cond (eqb n 9) ended (unless n m taken))

  abbrev stale_first : Bool → Bool → Bool → Bool → ℕ
  stale_first own stale held full = first_of (cond own [] (refuse 9 stale ∷ refuse 8 held ∷ refuse 10 full ∷ []))

  abbrev lock_first : Bool → Bool → Bool → Bool → ℕ
  lock_first own stale held full = first_of (cond own [] (refuse 8 held ∷ refuse 9 stale ∷ refuse 10 full ∷ []))

  where-both : (station lent out shut busy waits own stale held full : Bool) → both station lent out shut busy waits own stale held ≡ true
      → (by station lent out shut busy waits (lock_first own stale held full) ≡ outcome (refused 8) m) × (by station lent out shut busy waits (stale_first own stale held full) ≡ ended)
  unfolding first_of
  where-both true l o s b w i t h f e = clash e refl
  where-both false false o s b w i t h f e = clash e refl
  where-both false true true s b w i t h f e = clash e refl
  where-both false true false true b w i t h f e = clash e refl
  where-both false true false false true w i t h f e = clash e refl
  where-both false true false false false true i t h f e = clash e refl
  where-both false true false false false false true t h f e = clash e refl
  where-both false true false false false false false false h f e = clash e refl
  where-both false true false false false false false true false f e = clash e refl
  where-both false true false false false false false true true f e = (refl, refl)

  where-not : (station lent out shut busy waits own stale held full : Bool) → both station lent out shut busy waits own stale held ≡ false
      → by station lent out shut busy waits (stale_first own stale held full) ≡ by station lent out shut busy waits (lock_first own stale held full)
  unfolding first_of
  where-not true l o s b w i t h f e = refl
  where-not false false o s b w i t h f e = refl
  where-not false true true s b w i t h f e = refl
  where-not false true false true b w i t h f e = refl
  where-not false true false false true w i t h f e = refl
  where-not false true false false false true i t h f e = refl
  where-not false true false false false false true t h f e = refl
  where-not false true false false false false false false h f e = refl
  where-not false true false false false false false true false f e = refl
  where-not false true false false false false false true true f e = clash refl e

-- ---- of a write

module _ (m : Memory) (ticket item : ℕ) (value : ℤ) where
  abbrev r : ℕ
  r = row_no m ticket

  abbrev taken : Outcome
  taken = cond (is_own m r item) (rewrite_at m r (own_index m r item) value) (insert_write m r (row_in m r) item value)

  changed : stale_and_held m ticket item ≡ true → (lock_first_write m ticket item value ≡ outcome (refused 8) m) × (step m (write ticket item value) ≡ stale_at m (row_no m ticket))
  unfolding stale_and_held step write_row write_refusal lock_first_refusal first_of
  changed =
      where-both m (stale_at m r) taken (is_station m) (write_lent m) (item_out item) (no_row r) (not_active m r) (must_wait m item) (is_own m r item) (is_stale m r item) (held_by_other m r item) (is_full m r)

  same : stale_and_held m ticket item ≡ false → step m (write ticket item value) ≡ lock_first_write m ticket item value
  unfolding stale_and_held step write_row write_refusal lock_first_refusal first_of
  same =
      where-not m (stale_at m r) taken (is_station m) (write_lent m) (item_out item) (no_row r) (not_active m r) (must_wait m item) (is_own m r item) (is_stale m r item) (held_by_other m r item) (is_full m r)

  only : (step m (write ticket item value)).answer ≡ (lock_first_write m ticket item value).answer → stale_and_held m ticket item ≡ false
  unfolding stale_at
  only q =
      not_so (stale_and_held m ticket item)
      (λ e.
      let z : ◌≡◌ {A = ℕ} 9 8 =
      ap (λ (o : Outcome). number_of o.answer) (sym (changed e).1) ∙ (ap number_of q ∙ ap (λ (o : Outcome). number_of o.answer) (changed e).0) in
      omega arith)

pub staleness_first : StalenessFirst
staleness_first = record {
  before = λ m ticket item value e. (changed m ticket item value e).0;
  now = λ m ticket item value e. (changed m ticket item value e).1;
  else = same;
  only = only;
}
