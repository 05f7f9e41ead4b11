-- The rows after a giving: each is as before, or was open and is free. Assumes nothing.
use Prim.Native.Nat.{ℕ, zero, suc, ◌<◌}
use mathlib.Core.Path.{◌≡◌, refl, ap, subst, ◌∙◌}
use mathlib.Core.Bool.{Bool, true, false}
use mathlib.Core.Logic.{◌⊎◌, inl, inr}
use mathlib.Core.List.{List, [], ◌∷◌}
use native.Mathlib.Omega.{arith}
use lib.Dec.{eqb, ltb}
use borrow.Author.Tests.{ltb-true, ne_eqb}
use lib.ListN.{length, get_or, set}
use Rattle.block.specs.declared.Entry.{Entry}
use Rattle.block.specs.Message.{Record}
use Rattle.block.proofs.BoolLaws.{both}
use Rattle.memory.specs.declared.Txn.{Txn}
use Rattle.memory.specs.Memory.{Memory}
use Rattle.memory.specs.Rows.{closed, is_open, row_at, row_of}
use Rattle.memory.specs.Window.{kept_block}
use Rattle.engine.specs.Answers.{Outcome}
use Rattle.engine.specs.Moves.{block_at_turn, writeset_at, is_hit, after_aborts, ends_own, sent_among, pass_next, commit_writeset, pass_out}
use Rattle.engine.specs.Calls.{step}
use Rattle.engine.specs.Calls.Call.{deliver, work}
use Rattle.engine.proofs.Tests.{cond_by}
use Rattle.engine.proofs.Steps.{work-by}
use Rattle.engine.proofs.HitLaws.{hit-open}
use Rattle.engine.proofs.RowLaws.{row-found}
use Rattle.giving.specs.Giving.{Going, set_out_field, doing, give_step}
use Rattle.giving.proofs.Kept.{give-keeps}
use Rattle.giving.proofs.Freed.{deliver_names}

-- as before, or open before and free now
abbrev pub FreedRow : Txn → Txn → Type 0
FreedRow t u = (u ≡ t) ⊎ ((is_open t ≡ true) × (u ≡ closed))

unfoldable pub FreedRows : List Txn → List Txn → Type 0
FreedRows [] [] = Unit
FreedRows [] (u ∷ us) = ⊥
FreedRows (t ∷ ts) [] = ⊥
FreedRows (t ∷ ts) (u ∷ us) = FreedRow t u × FreedRows ts us

freed_same : (ts : List Txn) → FreedRows ts ts
unfolding FreedRows
freed_same [] = tt
freed_same (t ∷ ts) = (inl refl, freed_same ts)

one_then : (t u v : Txn) → FreedRow t u → FreedRow u v → FreedRow t v
one_then t u v (inl e) (inl f) = inl (f ∙ e)
one_then t u v (inl e) (inr (o, c)) = inr (subst (λ (x : Txn). is_open x ≡ true) e o, c)
one_then t u v (inr (o, c)) (inl f) = inr (o, f ∙ c)
one_then t u v (inr (o, c)) (inr (p, d)) = inr (o, d)

freed_then : (ts us vs : List Txn) → FreedRows ts us → FreedRows us vs → FreedRows ts vs
unfolding FreedRows
freed_then [] [] [] f g = tt
freed_then [] [] (v ∷ vs) f g = g
freed_then [] (u ∷ us) vs f g = absurd f
freed_then (t ∷ ts) [] vs f g = absurd f
freed_then (t ∷ ts) (u ∷ us) [] f g = g
freed_then (t ∷ ts) (u ∷ us) (v ∷ vs) f g = (one_then t u v f.0 g.0, freed_then ts us vs f.1 g.1)

-- ---- one work

freed_aborts : (es : List Entry) (items : List ℕ) (r : ℕ) (ts : List Txn) → FreedRows ts (after_aborts es items r ts)
unfolding FreedRows after_aborts
freed_aborts es items r [] = tt
freed_aborts es items r (t ∷ ts) =
    (cond_by (FreedRow t) (is_hit es items r t) (λ e. inr (hit-open es items r t e, refl)) (λ e. inl refl), freed_aborts es items (suc r) ts)

freed_set : (ts : List Txn) (r : ℕ) → r < length ts → is_open (row_at ts r) ≡ true → FreedRows ts (set ts r closed)
unfolding FreedRows
freed_set [] r h o = absurd (omega (arith, h))
freed_set (t ∷ ts) zero h o = (inr (o, refl), freed_same ts)
freed_set (t ∷ ts) (suc r) h o = (inl refl, freed_set ts r (omega (arith, h)) o)

open_is : (t : Txn) → (t.ticket ≡ 0 → ⊥) → is_open t ≡ true
open_is t z = rw (ne_eqb t.ticket 0 z) refl

freed_own : (ts : List Txn) → length ts ≡ 6 → (ticket : ℕ) → sent_among ts ticket ≡ true → FreedRows ts (set ts (row_of ticket ts) closed)
freed_own ts six ticket s =
    let below : row_of ticket ts < 6 = ltb-true (row_of ticket ts) 6 (both (ltb (row_of ticket ts) 6) (eqb (row_at ts (row_of ticket ts)).stage 2) s).left in
    freed_set ts (row_of ticket ts) (omega (arith, below, six)) (open_is (row_at ts (row_of ticket ts)) (row-found ticket ts six below).live)

abbrev Frees : Memory → Outcome → Type 0
Frees m o = FreedRows m.txns.table o.memory.txns.table

freed_commit : (m : Memory) → length m.txns.table ≡ 6 → (mine : Bool) (w : Record) → Frees m (commit_writeset m mine w)
unfolding commit_writeset
freed_commit m six true w = cond_by (FreedRows m.txns.table) (ends_own true m.txns.table w.ticket) (λ e. freed_own m.txns.table six w.ticket e) (λ e. freed_same m.txns.table)
freed_commit m six false w = freed_aborts w.entries m.txns.items 0 m.txns.table

freed_work : (m : Memory) → length m.txns.table ≡ 6 → Frees m (step m work)
unfolding pass_next pass_out
freed_work m six = work-by (Frees m) m (λ e u. freed_same m.txns.table) (λ e k. freed_same m.txns.table)
    (λ e k. freed_commit m six (eqb (get_or (block_at_turn m) 1 0) m.group.own) (writeset_at (block_at_turn m) m.counts.done)) (λ e. freed_same m.txns.table)

-- ---- along a giving

freed_long : (ts us : List Txn) → FreedRows ts us → length us ≡ length ts
unfolding FreedRows
freed_long [] [] f = refl
freed_long [] (u ∷ us) f = absurd f
freed_long (t ∷ ts) [] f = absurd f
freed_long (t ∷ ts) (u ∷ us) f = ap suc (freed_long ts us f.1)

module _ (ts : List Txn) (six : length ts ≡ 6) where
  abbrev From : Going → Type 0
  From g = FreedRows ts g.memory.txns.table

  work_on : (g : Going) → From g → From (doing g work)
  unfolding doing
  work_on g f = freed_then ts g.memory.txns.table (step g.memory work).memory.txns.table f (freed_work g.memory (freed_long ts g.memory.txns.table f ∙ six))

  deliver-on : (b : List ℕ) (g : Going) → From g → From (doing g (deliver b))
  unfolding doing
  deliver-on b g f = rw (deliver_names g.memory b).1 f

pub give_freed : (m : Memory) (told lent : List ℕ) → length m.txns.table ≡ 6 → FreedRows m.txns.table (give_step m told lent).memory.txns.table
give_freed m told lent six =
    give-keeps (From m.txns.table six) (work_on m.txns.table six) lent (λ g s. deliver-on m.txns.table six (kept_block lent s) g) m told (λ n. freed_same m.txns.table)
