-- Six rows loaded are the table itself; a row found by its position; and one turn of each loop that writes to the table: the table so far, and with one more row done. Assumes nothing.
use mathlib.Core.Path.{◌≡◌, refl, sym, ap}
use mathlib.Core.Bool.{Bool, true, false, cond, not}
use mathlib.Core.List.{List, [], ◌∷◌, map}
use Prim.Native.Nat.{ℕ, zero, suc, ◌+◌, ◌≤◌, ◌<◌}
use native.Mathlib.Nat.{not-suc-le-zero, le_of_suc-le-suc}
use native.Mathlib.Numerals.{add-one}
use native.Mathlib.Omega.{arith}
use borrow.Author.Tests.{eq-eqb, ne_eqb, lt-ltb, le-ltb}
use native.Mathlib.Nat.{add-zero}
use lib.Dec.{T, eqb}
use Rattle.std.specs.Prelude.{Option, position, unwrap_or}
use Rattle.std.specs.List.{position_or_len}
use Rattle.std.proofs.lemmas.List.Sums.{prefix_len-le-length}
use Rattle.memory.specs.Rows.{row_from}
use Rattle.engine.proofs.Tests.{bool_by, less_by}
use lib.ListN.{length, get_or, set, take}
use Rattle.memory.specs.declared.Txn.{Txn}
use Rattle.memory.specs.Rows.{closed, end_rows, row_at}
use Rattle.engine.specs.Moves.{send_row}
use Rattle.host_table.specs.Table.{with_stage, loaded}

-- what a position found, or the length where none was, is the row
row_by : (k i : ℕ) (ys : List Txn) → row_from k i ys ≡ i + position_or_len (λ (t : Txn). eqb t.ticket k) ys
unfolding row_from
row_by k i [] = rw (add-zero i)
row_by k i (y ∷ ys) = bool_by (eqb y.ticket k) (λ e. rw e (omega arith)) (λ e. rw e (omega (arith, row_by k (suc i) ys)))

pub row_found : (k : ℕ) (ys : List Txn) (r : Option ℕ) → r ≡ position (λ (t : Txn). eqb t.ticket k) ys → unwrap_or r (length ys) ≡ row_from k 0 ys
row_found k ys r e =
    let n = position_or_len (λ (t : Txn). eqb t.ticket k) ys in
    let le : n ≤ length ys = prefix_len-le-length (λ (t : Txn). not (eqb t.ticket k)) ys in
    less_by n (length ys)
    (λ h. rw (e, lt-ltb _ _ h) (omega (arith, row_by k 0 ys)))
    (λ h. rw (e, le-ltb _ _ h) (omega (arith, row_by k 0 ys)))

pub loaded-six : (t : List Txn) → length t ≡ 6 → loaded t ≡ t
unfolding loaded
loaded-six t h = rw (eq-eqb (length t) 6 h)

-- ---- rows ended by their marks: by the first i of them
pub ended-length : (es : List Bool) (ys : List Txn) → length (end_rows es ys) ≡ length ys
unfolding end_rows
ended-length [] ys = refl
ended-length (e ∷ es) [] = refl
ended-length (e ∷ es) (y ∷ ys) = ap suc (ended-length es ys)

pub ended_none : (ys : List Txn) → ys ≡ end_rows [] ys
unfolding end_rows
ended_none ys = refl

hit : (es : List Bool) (i : ℕ) (ys : List Txn) → i < length es → T (get_or es i false) → set (end_rows (take i es) ys) i closed ≡ end_rows (take (suc i) es) ys
unfolding end_rows
hit [] i ys h z = absurd (not-suc-le-zero h)
hit (true ∷ es) zero [] h z = refl
hit (true ∷ es) zero (y ∷ ys) h z = refl
hit (false ∷ es) zero ys h z = absurd z
hit (e ∷ es) (suc i) [] h z = refl
hit (e ∷ es) (suc i) (y ∷ ys) h z = ap (λ (l : List Txn). cond e closed y ∷ l) (hit es i ys (le_of_suc-le-suc h) z)

miss : (es : List Bool) (i : ℕ) (ys : List Txn) → i < length es → T (not (get_or es i false)) → end_rows (take i es) ys ≡ end_rows (take (suc i) es) ys
unfolding end_rows
miss [] i ys h z = absurd (not-suc-le-zero h)
miss (true ∷ es) zero ys h z = absurd z
miss (false ∷ es) zero [] h z = refl
miss (false ∷ es) zero (y ∷ ys) h z = refl
miss (e ∷ es) (suc i) [] h z = refl
miss (e ∷ es) (suc i) (y ∷ ys) h z = ap (λ (l : List Txn). cond e closed y ∷ l) (miss es i ys (le_of_suc-le-suc h) z)

module _ (es : List Bool) (i : ℕ) (ys : List Txn) (h : i < length es) where
  pub ended-hit : get_or es i false ≡ true → set (end_rows (take i es) ys) i closed ≡ end_rows (take (i + 1) es) ys
  ended-hit z = rw (add-one i) (hit es i ys h (rw z tt))

  pub ended-miss : get_or es i false ≡ false → end_rows (take i es) ys ≡ end_rows (take (i + 1) es) ys
  ended-miss z = rw (add-one i) (miss es i ys h (rw z tt))

-- ---- the first i rows sent, the others as they were
abbrev pub sent_upto : ℕ → List Txn → List Txn
sent_upto zero ys = ys
sent_upto (suc i) [] = []
sent_upto (suc i) (y ∷ ys) = send_row y ∷ sent_upto i ys

-- a row that is sent, where its test came out as c
abbrev sent_by : Txn → Bool → Txn
sent_by t c = record { ticket = t.ticket; stage = cond c 2 t.stage; snapshot = t.snapshot; writes = t.writes }

pub sent-length : (i : ℕ) (ys : List Txn) → length (sent_upto i ys) ≡ length ys
sent-length zero ys = refl
sent-length (suc i) [] = refl
sent-length (suc i) (y ∷ ys) = ap suc (sent-length i ys)

asked : (i : ℕ) (ys : List Txn) → i < length ys → (row_at (sent_upto i ys) i).stage ≡ 1 → set (sent_upto i ys) i (with_stage (row_at (sent_upto i ys) i) 2) ≡ sent_upto (suc i) ys
asked i [] h e = absurd (not-suc-le-zero h)
asked zero (y ∷ ys) h e = ap (λ (c : Bool). sent_by y c ∷ ys) (sym (eq-eqb y.stage 1 e))
asked (suc i) (y ∷ ys) h e = ap (λ (l : List Txn). send_row y ∷ l) (asked i ys (le_of_suc-le-suc h) e)

other : (i : ℕ) (ys : List Txn) → i < length ys → ((row_at (sent_upto i ys) i).stage ≡ 1 → ⊥) → sent_upto i ys ≡ sent_upto (suc i) ys
other i [] h d = absurd (not-suc-le-zero h)
other zero (y ∷ ys) h d = ap (λ (c : Bool). sent_by y c ∷ ys) (sym (ne_eqb y.stage 1 d))
other (suc i) (y ∷ ys) h d = ap (λ (l : List Txn). send_row y ∷ l) (other i ys (le_of_suc-le-suc h) d)

module _ (i : ℕ) (ys t : List Txn) (so : t ≡ sent_upto i ys) (h : i < length ys) where
  pub sent-asked : (row_at t i).stage ≡ 1 → set t i (with_stage (row_at t i) 2) ≡ sent_upto (i + 1) ys
  sent-asked e = rw (add-one i, so) (asked i ys h (rw so at e))

  pub sent-other : ((row_at t i).stage ≡ 1 → ⊥) → t ≡ sent_upto (i + 1) ys
  sent-other d = rw (add-one i, so) (other i ys h (rw so at d))

pub sent-all : (i : ℕ) (ys : List Txn) → length ys ≤ i → sent_upto i ys ≡ map send_row ys
sent-all zero [] h = refl
sent-all (suc i) [] h = refl
sent-all zero (y ∷ ys) h = absurd (not-suc-le-zero h)
sent-all (suc i) (y ∷ ys) h = ap (λ (l : List Txn). send_row y ∷ l) (sent-all i ys (le_of_suc-le-suc h))
