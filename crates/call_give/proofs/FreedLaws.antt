-- The marks of the rows that a giving freed tell all of them. Assumes nothing.
use Prim.Native.Nat.{ℕ}
use mathlib.Core.Path.{◌≡◌, refl, sym, ap, subst, ◌∙◌}
use mathlib.Core.Bool.{Bool, true, false, cond, not, ◌&&◌}
use mathlib.Core.Logic.{inl, inr}
use mathlib.Core.List.{List, [], ◌∷◌}
use native.Mathlib.Omega.{arith}
use lib.Dec.{eqb}
use lib.IntN.{ℤ}
use lib.ListN.{length}
use borrow.Author.Tests.{eq-eqb, ne_eqb}
use Rattle.memory.specs.declared.Counts.{Counts}
use Rattle.memory.specs.declared.Group.{Group}
use Rattle.memory.specs.declared.Turn.{Turn}
use Rattle.memory.specs.declared.Txn.{Txn}
use Rattle.memory.specs.Memory.{Memory}
use Rattle.memory.specs.Rows.{closed, is_open, row_at, end_rows}
use Rattle.giving.specs.Giving.{give_step}
use Rattle.giving.proofs.FreedRows.{FreedRow, FreedRows, give_freed}
use Rattle.call_give.specs.Gifts.{give_parts, freed_marks}

never : {A : Type 0} (o : Bool) (x y : A) → cond (o && not o) x y ≡ y
never true x y = refl
never false x y = refl

one_marked : (t u : Txn) → FreedRow t u → cond (is_open t && not (is_open u)) closed t ≡ u
one_marked t u (inl e) = subst (λ (x : Txn). cond (is_open t && not (is_open x)) closed t ≡ x) (sym e) (never (is_open t) closed t)
one_marked t u (inr (o, c)) = rw (o, c) refl

pub ends_freed : (ts us : List Txn) → FreedRows ts us → end_rows (freed_marks ts us) ts ≡ us
unfolding FreedRows end_rows freed_marks
ends_freed [] [] f = refl
ends_freed [] (u ∷ us) f = absurd f
ends_freed (t ∷ ts) [] f = absurd f
ends_freed (t ∷ ts) (u ∷ us) f = λ i. one_marked t u f.0 i ∷ ends_freed ts us f.1 i

-- ---- six rows, one by one

spelled : (ts : List Txn) → length ts ≡ 6 → ts ≡ row_at ts 0 ∷ row_at ts 1 ∷ row_at ts 2 ∷ row_at ts 3 ∷ row_at ts 4 ∷ row_at ts 5 ∷ []
spelled [] h = absurd (omega (arith, h))
spelled (a ∷ []) h = absurd (omega (arith, h))
spelled (a ∷ b ∷ []) h = absurd (omega (arith, h))
spelled (a ∷ b ∷ c ∷ []) h = absurd (omega (arith, h))
spelled (a ∷ b ∷ c ∷ d ∷ []) h = absurd (omega (arith, h))
spelled (a ∷ b ∷ c ∷ d ∷ e ∷ []) h = absurd (omega (arith, h))
spelled (a ∷ b ∷ c ∷ d ∷ e ∷ f ∷ []) h = refl
spelled (a ∷ b ∷ c ∷ d ∷ e ∷ f ∷ g ∷ ts) h = absurd (omega (arith, h))

module _ (t u : Txn) where
  abbrev freed : Bool
  freed = is_open t && not (is_open u)

  pub freed-not : t.ticket ≡ 0 → false ≡ freed
  freed-not h = rw (eq-eqb t.ticket 0 h)

  again : (b : Bool) → b ≡ not (not b)
  again true = refl
  again false = refl

  pub freed-now : (t.ticket ≡ 0 → ⊥) → eqb u.ticket 0 ≡ freed
  freed-now h = rw (ne_eqb t.ticket 0 h) (again (eqb u.ticket 0))

module _ (ts us : List Txn) (long : length ts ≡ 6) (long' : length us ≡ 6) where
  abbrev At : ℕ → Bool → Type 0
  At i b = b ≡ freed (row_at ts i) (row_at us i)

  pub six-marks : (a b c d e f : Bool) → At 0 a → At 1 b → At 2 c → At 3 d → At 4 e → At 5 f → (a ∷ b ∷ c ∷ d ∷ e ∷ f ∷ []) ≡ freed_marks ts us
  unfolding freed_marks
  six-marks a b c d e f ha hb hc hd he hf =
      (λ i. ha i ∷ hb i ∷ hc i ∷ hd i ∷ he i ∷ hf i ∷ []) ∙ sym (λ i. freed_marks (spelled ts long i) (spelled us long' i))

-- ---- a giving: the rows that it left, by its marks

module _ (before : Memory) (told lent : List ℕ) (six : length before.txns.table ≡ 6) where
  abbrev rows : List Txn
  rows = before.txns.table

  marks-tell : (us : List Txn) → us ≡ (give_step before told lent).memory.txns.table → end_rows (freed_marks rows us) rows ≡ us
  marks-tell us e = ends_freed rows us (rw e (give_freed before told lent six))

  -- q, i, v, s, p, o, k: queue, items, values, stamps, places, outbox and window after it
  pub gives-freed : (m : Memory) (group : Group) (turn : Turn) (counts : Counts) (us : List Txn) (q i : List ℕ) (v : List ℤ) (s p o k : List ℕ)
      → give_parts m group turn counts us q i v s p o k ≡ (give_step before told lent).memory
      → give_parts m group turn counts (end_rows (freed_marks rows us) rows) q i v s p o k ≡ (give_step before told lent).memory
  gives-freed m group turn counts us q i v s p o k left =
      ap (λ (x : List Txn). give_parts m group turn counts x q i v s p o k) (marks-tell us (ap (λ (x : Memory). x.txns.table) left)) ∙ left
