-- The tickets that a giving names: each once, and at most six. Assumes nothing.
use Prim.Native.Nat.{ℕ, ◌+◌, ◌<◌}
use mathlib.Core.Path.{◌≡◌, refl, sym, ap, ◌∙◌, subst}
use mathlib.Core.Bool.{Bool, true, false}
use mathlib.Core.Logic.{◌⊎◌, inl, inr}
use mathlib.Core.List.{List, [], ◌∷◌}
use native.Mathlib.Omega.{arith}
use lib.Dec.{eqb}
use lib.ListN.{get_or}
use borrow.Author.Tests.{eq-eqb, eqb-true, eqb-false, not-true}
use Rattle.block.specs.Message.{Record}
use Rattle.block.proofs.BoolLaws.{not_so}
use Rattle.memory.specs.declared.Txn.{Txn}
use Rattle.memory.specs.Memory.{Memory}
use Rattle.memory.specs.Rows.{closed, row_at, has}
use Rattle.memory.specs.Window.{kept_block}
use Rattle.engine.specs.Answers.{Outcome}
use Rattle.engine.specs.Moves.{insert_rising, block_at_turn, writeset_at, pass_next, commit_writeset, pass_out}
use Rattle.engine.specs.Calls.{step}
use Rattle.engine.specs.Calls.Call.{deliver, work}
use Rattle.engine.specs.Make.{made_memory}
use Rattle.engine.specs.History.{after_all}
use Rattle.engine.specs.History.AnyCall.{call}
use Rattle.engine.proofs.Tests.{cond_by, same_by, clash}
use Rattle.engine.proofs.Steps.{work-by}
use Rattle.engine.proofs.HitLaws.{has-rising, hit-open, aborts-at, has-hit}
use Rattle.engine.proofs.RowLaws.{open_few}
use Rattle.engine.proofs.Rising.{Rises, rises_insert, rises_at, hit-rises}
use Rattle.engine.proofs.Frames.{frames}
use Rattle.engine.proofs.Reached.{Reached, made_reached, any_reached, all-reached}
use Rattle.giving.specs.Giving.{aborted_in, gathered, Going, set_out_field, doing, give_step}
use Rattle.giving.specs.Statement.{GivenTickets}
use Rattle.giving.proofs.Kept.{give-keeps}
use Rattle.giving.proofs.Freed.{deliver_names, give_counted}

-- ---- rising lists

has_tail : (z x : ℕ) (xs : List ℕ) → has z xs ≡ true → has z (x ∷ xs) ≡ true
unfolding has
has_tail z x xs h = cond_by (λ (b : Bool). b ≡ true) (eqb x z) (λ q. refl) (λ q. h)

has_first : (x : ℕ) (xs : List ℕ) → has x (x ∷ xs) ≡ true
unfolding has
has_first x xs = rw (eq-eqb x x refl) refl

rises_gathered : (ts l : List ℕ) → Rises ts → Rises l → ((t : ℕ) → has t ts ≡ true → has t l ≡ false) → Rises (gathered ts l)
unfolding gathered Rises
rises_gathered [] l r q d = q
rises_gathered (x ∷ ts) l r q d =
    rises_gathered ts (insert_rising x l) r.1 (rises_insert x l (d x (has_first x ts)) q)
    (λ t h. has-rising t x l ∙ cond_by (λ (b : Bool). b ≡ false) (eqb x t) (λ e. absurd (let a = r.0 t h in let b = eqb-true x t e in let z : ⊥ = omega arith in z)) (λ e. d t (has_tail t x ts h)))

has-gathered : (t : ℕ) (ts l : List ℕ) → has t (gathered ts l) ≡ true → (has t ts ≡ true) ⊎ (has t l ≡ true)
unfolding gathered
has-gathered t [] l h = inr h
has-gathered t (x ∷ ts) l h = go (has-gathered t ts (insert_rising x l) h)
  where
    in_rest : has t (insert_rising x l) ≡ true → (has t (x ∷ ts) ≡ true) ⊎ (has t l ≡ true)
    in_rest q = cond_by (λ (b : Bool). b ≡ true → (has t (x ∷ ts) ≡ true) ⊎ (has t l ≡ true)) (eqb x t)
        (λ e y. inl (subst (λ (z : ℕ). has t (z ∷ ts) ≡ true) (sym (eqb-true x t e)) (has_first t ts))) (λ e y. inr y) (sym (has-rising t x l) ∙ q)

    go : (has t ts ≡ true) ⊎ (has t (insert_rising x l) ≡ true) → (has t (x ∷ ts) ≡ true) ⊎ (has t l ≡ true)
    go (inl q) = inl (has_tail t x ts q)
    go (inr q) = in_rest q

-- ---- what a work names

-- each is the ticket of a row, which is closed after it
record Names (m : Memory) (o : Outcome) : Type 0 where
  rises : Rises (aborted_in o.answer)
  row : (t : ℕ) → has t (aborted_in o.answer) ≡ true → (t ≡ 0 → ⊥) × ((i : ℕ) × (i < 6) × ((row_at m.txns.table i).ticket ≡ t) × (row_at o.memory.txns.table i ≡ closed))

module _ (m : Memory) (R : Reached m) where
  names-none : (o : Outcome) → aborted_in o.answer ≡ [] → Names m o
  unfolding Rises has
  names-none o e = record { rises = rw e tt; row = rw e (λ t h. clash {b = false} h refl) }

  names-commit : (mine : Bool) (w : Record) → Names m (commit_writeset m mine w)
  unfolding commit_writeset
  names-commit true w = names-none _ refl
  names-commit false w = record {
    rises = hit-rises w.entries m.txns.items 0 m.txns.table (λ i j h u. R.shape.distinct i j (omega (arith, R.shape.lengths.table)) (omega (arith, R.shape.lengths.table)));
    row = λ t h.
        let f = has-hit w.entries m.txns.items t 0 m.txns.table h in
        let l = f.1 in
        let a = R.shape.lengths.table in (
          λ z. eqb-false (row_at m.txns.table f.0).ticket 0 (not-true _ (hit-open w.entries m.txns.items (0 + f.0) (row_at m.txns.table f.0) f.2)) (f.3 ∙ z),
          (f.0, omega arith, f.3, aborts-at w.entries m.txns.items 0 m.txns.table f.0 l ∙ rw f.2 refl),
        );
  }

  work-names : Names m (step m work)
  unfolding pass_next pass_out
  work-names = work-by (Names m) m (λ e u. names-none _ refl) (λ e k. names-none _ refl)
      (λ e k. names-commit (eqb (get_or (block_at_turn m) 1 0) m.group.own) (writeset_at (block_at_turn m) m.counts.done)) (λ e. names-none _ refl)

-- ---- along a giving

abbrev SameRow : Memory → Memory → ℕ → Type 0
SameRow m k i = (row_at k.txns.table i ≡ row_at m.txns.table i) ⊎ (row_at k.txns.table i ≡ closed)

record Once (g : Going) : Type 0 where
  reached : Reached g.memory
  rises : Rises g.aborted
  -- no row has what is named
  gone : (t : ℕ) → has t g.aborted ≡ true → (t ≡ 0 → ⊥) × ((i : ℕ) → i < 6 → (row_at g.memory.txns.table i).ticket ≡ t → ⊥)

none_once : (m : Memory) (n : ℕ) → Reached m → Once (set_out_field m n)
unfolding Rises has
none_once m n R = record { reached = R; rises = tt; gone = λ t h. clash {b = false} h refl }

deliver_once : (b : List ℕ) (g : Going) → Once g → Once (doing g (deliver b))
unfolding doing gathered
deliver_once b g U =
    let d = deliver_names g.memory b in
    record { reached = any_reached g.memory U.reached (call (deliver b)); rises = rw d.0 U.rises; gone = rw (d.0, d.1) U.gone }

work_once : (g : Going) → Once g → Once (doing g work)
unfolding doing
work_once g U = record {
  reached = any_reached g.memory U.reached (call work);
  rises = rises_gathered (aborted_in (step g.memory work).answer) g.aborted N.rises U.rises apart;
  gone = λ t h. by t (has-gathered t (aborted_in (step g.memory work).answer) g.aborted h);
}
  where
    N : Names g.memory (step g.memory work)
    N = work-names g.memory U.reached

    apart : (t : ℕ) → has t (aborted_in (step g.memory work).answer) ≡ true → has t g.aborted ≡ false
    apart t h = not_so (has t g.aborted) (λ q. let r = (N.row t h).1 in (U.gone t q).1 r.0 r.1 r.2)

    -- a row that has a ticket after the work had it before
    had : (t : ℕ) → (t ≡ 0 → ⊥) → (i : ℕ) → (row_at (step g.memory work).memory.txns.table i).ticket ≡ t → SameRow g.memory (step g.memory work).memory i → (row_at g.memory.txns.table i).ticket ≡ t
    had t z i e (inl q) = ap (λ (x : Txn). x.ticket) (sym q) ∙ e
    had t z i e (inr q) = absurd (z (sym e ∙ ap (λ (x : Txn). x.ticket) q))

    by : (t : ℕ) → (has t (aborted_in (step g.memory work).answer) ≡ true) ⊎ (has t g.aborted ≡ true)
        → (t ≡ 0 → ⊥) × ((i : ℕ) → i < 6 → (row_at (step g.memory work).memory.txns.table i).ticket ≡ t → ⊥)
    by t (inl h) =
        let r = N.row t h in (
          r.0,
          (λ j l e.
              let w = had t r.0 j e ((frames.works g.memory).rows j) in
              same_by j r.1.0
              (λ q. r.0 (sym e ∙ ap (λ (x : ℕ). (row_at (step g.memory work).memory.txns.table x).ticket) q ∙ ap (λ (x : Txn). x.ticket) r.1.3))
              (λ d. U.reached.shape.distinct j r.1.0 l r.1.1 d (λ z. r.0 (sym w ∙ z)) (w ∙ sym r.1.2))),
        )
    by t (inr h) = let u = U.gone t h in (u.0, λ j l e. u.1 j l (had t u.0 j e ((frames.works g.memory).rows j)))

give_once : (m : Memory) → Reached m → (told lent : List ℕ) → Once (give_step m told lent)
give_once m R told lent = give-keeps Once work_once lent (λ g s. deliver_once (kept_block lent s) g) m told (λ n. none_once m n R)

pub given-tickets : GivenTickets
given-tickets = record {
  six = λ m told lent h. let a = (give_counted m told lent).bound in let b = open_few m.txns.table in omega arith;
  once = λ n own values s cs told lent.
      let R = all-reached (made_memory n own values) (made_reached n own values s) cs in
      rises_at (give_step (after_all (made_memory n own values) cs) told lent).aborted (give_once (after_all (made_memory n own values) cs) R told lent).rises;
}
