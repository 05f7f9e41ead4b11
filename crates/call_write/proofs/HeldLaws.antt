-- An item that stands nowhere among the items stands in no part of them, and so nobody holds it; and a transaction's own record says nothing of another holder. Assumes nothing.
use Prim.Native.Nat.{ℕ, zero, suc, ◌+◌, ◌*◌}
use mathlib.Core.Path.{◌≡◌, refl, sym}
use mathlib.Core.Bool.{false}
use mathlib.Core.List.{List, [], ◌∷◌}
use native.Mathlib.Omega.{arith}
use borrow.Author.Tests.{eq-eqb, ne_eqb}
use lib.Dec.{eqb}
use lib.ListN.{set, take, drop}
use lib.Seq.{slice}
use Rattle.std.specs.Prelude.{Option, None}
use Rattle.memory.specs.declared.Txn.{Txn}
use Rattle.memory.specs.Rows.{write_count, has, holder_from}
use Rattle.engine.proofs.HasLaws.{has_not}
use Rattle.engine.proofs.Tests.{cond_by}

module _ (x : ℕ) where
  take-not : (t : ℕ) (l : List ℕ) → has x l ≡ false → has x (take t l) ≡ false
  unfolding has
  take-not zero l h = refl
  take-not (suc t) [] h = refl
  take-not (suc t) (y ∷ ys) h =
      let n = has_not x y ys h in
      rw (ne_eqb y x (λ e. n.0 (sym e)), take-not t ys n.1)

  drop-not : (f : ℕ) (l : List ℕ) → has x l ≡ false → has x (drop f l) ≡ false
  unfolding has
  drop-not zero l h = h
  drop-not (suc f) [] h = refl
  drop-not (suc f) (y ∷ ys) h = drop-not f ys (has_not x y ys h).1

  slice-not : (f t : ℕ) (l : List ℕ) → has x l ≡ false → has x (slice f t l) ≡ false
  slice-not f t l h = drop-not f (take t l) (take-not t l h)

  pub nobody : (items : List ℕ) → has x items ≡ false → (me i : ℕ) (rows : List Txn) → holder_from items me x i rows ≡ None
  unfolding holder_from
  nobody items h me i [] = refl
  nobody items h me i (t ∷ ts) =
      let later = nobody items h me (suc i) ts in
      rw (slice-not (8 * i) (8 * i + write_count t) items h)
      (cond_by (λ (o : Option ℕ). o ≡ None) (eqb i me) (λ e. later)
      (λ e. cond_by (λ (o : Option ℕ). o ≡ None) (eqb t.ticket 0) (λ z. later) (λ z. later)))

-- row me, which is row k of those from i on, is passed over
pub holder_but : (items : List ℕ) (me item i : ℕ) (rows : List Txn) (k : ℕ) (t : Txn) → i + k ≡ me → holder_from items me item i (set rows k t) ≡ holder_from items me item i rows
unfolding holder_from
holder_but items me item i [] k t e = refl
holder_but items me item i (y ∷ ys) zero t e = rw (eq-eqb i me (omega (arith, e)))
holder_but items me item i (y ∷ ys) (suc k) t e = rw (holder_but items me item (suc i) ys k t (omega (arith, e)))
