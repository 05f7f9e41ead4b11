-- A replica or a station just made has the shape. Assumes nothing.
use Prim.Native.Nat.{ℕ, ◌*◌, ◌<◌}
use mathlib.Core.Path.{◌≡◌, refl, ap}
use mathlib.Core.Bool.{true, false}
use mathlib.Core.List.{List}
use native.Mathlib.Omega.{arith}
use lib.Dec.{eqb}
use lib.IntN.{ℤ, pos}
use lib.ListN.{get_or, replicate, length-replicate, get_or-replicate, get_or-eq_default}
use borrow.Author.Tests.{eq-eqb}
use Rattle.memory.specs.declared.Txn.{Txn}
use Rattle.memory.specs.Memory.{no_number}
use Rattle.memory.specs.Rows.{closed, open_count, row_at}
use Rattle.memory.specs.Turns.{place_start}
use Rattle.engine.specs.Make.{Setting, SettingOf, made_memory}
use Rattle.engine.specs.Moves.{waiting}
use Rattle.engine.specs.Shape.{Shape}
use Rattle.engine.proofs.Tests.{less_by, clash}
use Rattle.engine.proofs.RingLaws.{length_empty}
use Rattle.engine.proofs.Shaping.{row-of_fits, fits_closed, single_of}

-- any element of zeros, and any past them
pub get_or-zeros : (n i : ℕ) → ◌≡◌ {A = ℕ} (get_or (replicate n 0) i 0) 0
get_or-zeros n i = less_by i n (λ h. get_or-replicate {A = ℕ} n i 0 0 h) (λ h. get_or-eq_default {A = ℕ} (replicate n 0) 0 (rw length-replicate h))

-- with a number of the group's, or none
shape_numbered : (n own : ℕ) (values : List ℤ) → Setting n values → (eqb own no_number ≡ false → own < n) → Shape 0 (made_memory n own values)
unfolding made_memory open_count waiting
shape_numbered n own values setting among = record {
  lengths = record {
    table = refl;
    queue = refl;
    items = length-replicate {A = ℕ} 48 0;
    writes = length-replicate 48 (pos 0);
    snapshots = length-replicate 768 (pos 0);
    values = setting.long;
    stamps = length-replicate {A = ℕ} 128 0;
    classes = length-replicate {A = ℕ} 128 0;
    places = length-replicate {A = ℕ} (512 * n) 0;
    outbox = length-replicate {A = ℕ} 512 0;
    window = length_empty;
    from = refl;
    until = refl;
  };
  ranges = record { least = setting.least; most = setting.most; own = among; slot = omega arith; tickets = omega arith; commits = omega arith; repeats = omega arith; endings = refl };
  rows = λ r h. row-of_fits (made_memory n own values) r (rw (is-closed r h) (fits_closed 0 0 _));
  distinct = λ i j h u d some. absurd (some (ap (λ (t : Txn). t.ticket) (is-closed i h)));
  queue = record {
    zeros = refl;
    asked = λ k h. absurd (let z : ⊥ = omega arith in z);
    queued = λ r h e. absurd (let q : (row_at (replicate 6 closed) r).stage ≡ 0 = ap (λ (t : Txn). t.stage) (is-closed r h) in let z : ⊥ = omega arith in z);
    once = λ j k u h. absurd (let z : ⊥ = omega arith in z);
  };
  places = record {
    waits = λ s h u e. clash (eq-eqb _ 0 (get_or-zeros (512 * n) (place_start n s))) e;
    clear = λ s h u e. eq-eqb _ 0 (get_or-zeros (512 * n) (place_start n s));
    done = λ h. absurd (let z : ⊥ = omega arith in z);
    applying = λ e. clash {b = false} e refl;
  };
  single = single_of (replicate 6 closed) (replicate 48 0) (length-replicate {A = ℕ} 48 0)
      (λ r h. let q = none r h in omega arith)
      (λ i j h u d a b v. absurd (let q = none i h in let z : ⊥ = omega arith in z));
}
  where
    is-closed : (r : ℕ) → r < 6 → row_at (replicate 6 closed) r ≡ closed
    is-closed r h = get_or-replicate 6 r closed closed h

    none : (r : ℕ) → r < 6 → (row_at (replicate 6 closed) r).writes ≡ 0
    none r h = ap (λ (t : Txn). t.writes) (is-closed r h)

pub shape_made : (n own : ℕ) (values : List ℤ) → SettingOf n own values → Shape 0 (made_memory n own values)
shape_made n own values setting = shape_numbered n own values setting.group (λ e. setting.below)

pub shape_station : (n : ℕ) (values : List ℤ) → Setting n values → Shape 0 (made_memory n no_number values)
shape_station n values setting = shape_numbered n no_number values setting (λ e. clash {b = true} refl e)
