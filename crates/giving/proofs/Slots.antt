-- A slot given: where it is out, or its block is in place or one that a deliver takes, the giving works until the turn has left the slot, and nothing is refused. Assumes nothing.
use Prim.Native.Nat.{ℕ, zero, suc, ◌+◌, ◌≤◌, ◌<◌}
use mathlib.Core.Path.{◌≡◌, refl, sym, ap, ◌∙◌, subst}
use mathlib.Core.Bool.{Bool, true, false, not, ◌&&◌}
use mathlib.Core.Logic.{◌⊎◌, inl, inr}
use mathlib.Core.List.{List}
use native.Mathlib.Omega.{arith}
use lib.Dec.{eqb}
use lib.ListN.{get_or}
use lib.Seq.{paste}
use borrow.Author.Tests.{eq-eqb, ne_eqb, leb-false}
use Rattle.block.specs.Answers.{first_of, header_of}
use Rattle.block.proofs.BoolLaws.{joined}
use Rattle.memory.specs.Memory.{Memory}
use Rattle.memory.specs.Turns.{place_start, is_empty}
use Rattle.engine.specs.Answers.{Outcome, number_of}
use Rattle.engine.specs.Moves.{out_at_turn, deliver_refusal, deliver_now, block_at_turn, writeset_at, ends_own, nothing_waits, work_lent, work_refusal, is_last, pass_next, commit_writeset, pass_out}
use Rattle.engine.specs.Calls.{step, refusal_of}
use Rattle.engine.specs.Calls.Call.{deliver, work}
use Rattle.engine.specs.History.AnyCall.{call}
use Rattle.engine.proofs.Tests.{bool_by, clash}
use Rattle.engine.proofs.PlaceLaws.{empty_block}
use Rattle.engine.proofs.BlockFacts.{taken_block}
use Rattle.engine.proofs.Steps.{deliver-by, work-by}
use Rattle.engine.proofs.Passed.{DeliverPassed, deliver_passed}
use Rattle.engine.proofs.Refusals.{refusals}
use Rattle.engine.proofs.Shaping.{bumps}
use Rattle.engine.proofs.ShapeDeliver as delivered
use Rattle.engine.proofs.ShapeTurn.{working}
use Rattle.engine.proofs.ShapeWriteset.{committed}
use Rattle.engine.proofs.Reached.{Reached, any_reached}
use Rattle.giving.specs.Giving.{Going, doing, most_writesets, work_out, is_wanted, take_slot}
use Rattle.giving.proofs.Kept.{work_more, work_left, take_wanted, take_there}

-- ---- a work at a block that waits, or at an out slot

-- it leaves the slot, or does one of its writesets
abbrev Moves : Memory → Memory → Type 0
Moves m k = ((k.turn.slot ≡ suc m.turn.slot) × (k.counts.done ≡ 0))
    ⊎ ((k.turn.slot ≡ m.turn.slot) × (k.group ≡ m.group) × (k.blocks.places ≡ m.blocks.places) × (k.counts.done ≡ suc m.counts.done)
    × (suc m.counts.done < get_or (block_at_turn m) 3 0))

module _ (m : Memory) (R : Reached m) (w : is_wanted m ≡ false) where
  not_refused : work_refusal m ≡ 0
  unfolding work_refusal first_of
  not_refused =
      let S = R.shape.lengths in
      let l : work_lent m ≡ true =
      joined (eq-eqb _ _ S.places)
      (joined (eq-eqb _ _ S.items) (joined (eq-eqb _ _ S.queue) (joined (eq-eqb _ _ S.values) (joined (eq-eqb _ _ S.stamps) (eq-eqb _ _ S.window))))) in
      rw (l, w) refl

  pub work-accepted : number_of (step m work).answer ≡ 0
  unfolding refusal_of
  work-accepted = refusals.number m work ∙ not_refused

  committed-moves : (mine ends last : Bool) → is_last m ≡ last → Moves m (committed m mine ends last (writeset_at (block_at_turn m) m.counts.done))
  committed-moves mine ends true e = inl ((bumps m R.shape).slot, refl)
  committed-moves true ends false e = inr (refl, refl, refl, (let z : m.counts.done + 1 ≡ suc m.counts.done = omega arith in z), (let l = leb-false (get_or (block_at_turn m) 3 0) (m.counts.done + 1) e in omega arith))
  committed-moves false ends false e = inr (refl, refl, refl, (let z : m.counts.done + 1 ≡ suc m.counts.done = omega arith in z), (let l = leb-false (get_or (block_at_turn m) 3 0) (m.counts.done + 1) e in omega arith))

  work-moves : Moves m (step m work).memory
  unfolding pass_next commit_writeset pass_out
  work-moves = work-by (λ (o : Outcome). Moves m o.memory) m
      (λ e u. inl ((bumps m R.shape).slot, refl))
      (λ e k. inl ((bumps m R.shape).slot, refl))
      (λ e k. committed-moves (eqb (get_or (block_at_turn m) 1 0) m.group.own) (ends_own (eqb (get_or (block_at_turn m) 1 0) m.group.own) m.txns.table (writeset_at (block_at_turn m) m.counts.done).ticket) (is_last m) refl)
      (λ e. absurd (e not_refused))

  -- at an out slot the first work leaves it
  out-moves : out_at_turn m ≡ true → ((step m work).memory.turn.slot ≡ suc m.turn.slot) × ((step m work).memory.counts.done ≡ 0)
  unfolding pass_out
  out-moves u = work-by (λ (o : Outcome). (o.memory.turn.slot ≡ suc m.turn.slot) × (o.memory.counts.done ≡ 0)) m
      (λ e v. ((bumps m R.shape).slot, refl))
      (λ a k. clash u a.live)
      (λ a k. clash u a.live)
      (λ e. absurd (e not_refused))

  -- a block has six writesets at most
  few : out_at_turn m ≡ false → get_or (block_at_turn m) 3 0 ≤ 6
  few u = (working m R.shape (record { passed = not_refused; live = u })).few

-- ---- work until the turn has left the slot

-- the turn has left slot s, and nothing was refused
pub record Left (s : ℕ) (g : Going) : Type 0 where
  pub number : g.number ≡ 0
  pub turn : g.memory.turn.slot ≡ suc s
  pub done : g.memory.counts.done ≡ 0

work_out_lem : (s c : ℕ) (g : Going) → Reached g.memory → g.number ≡ 0 → g.memory.turn.slot ≡ s → is_wanted g.memory ≡ false
    → (out_at_turn g.memory ≡ false → get_or (block_at_turn g.memory) 3 0 ≤ g.memory.counts.done + c) → 0 < c → Left s (work_out s c g)
unfolding doing
work_out_lem s zero g R n t w l p = absurd (let z : ⊥ = omega arith in z)
work_out_lem s (suc c) g R n t w l p =
    subst (Left s) (sym (work_more s c g n t))
    (go (work-moves g.memory R w) (λ n' t' w' l' p'. work_out_lem s c (doing g work) (any_reached g.memory R (call work)) n' t' w' l' p'))
  where
    go : Moves g.memory (step g.memory work).memory
        → (number_of (step g.memory work).answer ≡ 0 → (step g.memory work).memory.turn.slot ≡ s → is_wanted (step g.memory work).memory ≡ false
        → (out_at_turn (step g.memory work).memory ≡ false → get_or (block_at_turn (step g.memory work).memory) 3 0 ≤ (step g.memory work).memory.counts.done + c)
        → 0 < c → Left s (work_out s c (doing g work)))
        → Left s (work_out s c (doing g work))
    go (inl q) ih =
        subst (Left s) (sym (work_left s c (doing g work) (λ e. let a = q.0 in let b : (step g.memory work).memory.turn.slot ≡ s = e in omega arith)))
        (record { number = work-accepted g.memory R w; turn = q.0 ∙ ap suc t; done = q.1 })
    go (inr q) ih =
        bool_by (out_at_turn g.memory)
        (λ u. absurd (let a = (out-moves g.memory R w u).0 in let b = q.0 in let z : ⊥ = omega arith in z))
        (λ u.
        let d = q.3 in
        let v = q.4 in
        let e : block_at_turn (step g.memory work).memory ≡ block_at_turn g.memory = rw (q.0, q.1, q.2) refl in
        let f : is_wanted (step g.memory work).memory ≡ false = rw (q.0, q.1, q.2) w in
        let z : get_or (block_at_turn (step g.memory work).memory) 3 0 ≡ get_or (block_at_turn g.memory) 3 0 = ap (λ (b : List ℕ). get_or b 3 0) e in
        let y = l u in
        ih (work-accepted g.memory R w) (q.0 ∙ t) f (λ x. omega arith) (omega arith))

-- six works are enough
six : (s : ℕ) (g : Going) → Reached g.memory → g.number ≡ 0 → g.memory.turn.slot ≡ s → is_wanted g.memory ≡ false → Left s (work_out s most_writesets g)
six s g R n t w = work_out_lem s most_writesets g R n t w (λ u. let c = few g.memory R w u in omega arith) (omega arith)

-- ---- a slot

and_no : (a : Bool) → a && false ≡ false
and_no true = refl
and_no false = refl

-- a deliver of the turn's block that is taken puts it in place
module _ (m : Memory) (R : Reached m) (b : List ℕ) (e : deliver_refusal m b ≡ 0) (h : (header_of b).slot ≡ m.turn.slot) where
  put : DeliverPassed m b
  put = deliver_passed m b e

  in_place : nothing_waits (deliver_now m b).memory ≡ false
  unfolding deliver_now
  in_place =
      subst (λ (s : ℕ). is_empty m.group.replicas s (paste m.blocks.places (place_start m.group.replicas (header_of b).slot) b 512) ≡ false) h
      (empty_block m.group.replicas (header_of b).slot _ ∙ ap (λ (x : List ℕ). eqb (get_or x 0 0) 0) (delivered.same m b R.shape put)
      ∙ ne_eqb (get_or b 0 0) 0 (λ z. let t = taken_block b put.taken in omega (arith, t.kind (λ y. omega arith))))

  unwanted : is_wanted (deliver_now m b).memory ≡ false
  unwanted = rw in_place (and_no (not (out_at_turn (deliver_now m b).memory)))

  taken : (number_of (step m (deliver b)).answer ≡ 0) × ((step m (deliver b)).memory.turn.slot ≡ m.turn.slot) × (is_wanted (step m (deliver b)).memory ≡ false)
  taken = deliver-by (λ (o : Outcome). (number_of o.answer ≡ 0) × (o.memory.turn.slot ≡ m.turn.slot) × (is_wanted o.memory ≡ false)) m b
      (λ z. unfold deliver_now in (refl, refl, unwanted)) (λ z. absurd (z e))

-- the block is one for the turn's slot that a deliver takes, where it is delivered at all
pub give_slot : (block : List ℕ) (g : Going) → Reached g.memory → g.number ≡ 0
    → (is_wanted g.memory ≡ true → (deliver_refusal g.memory block ≡ 0) × ((header_of block).slot ≡ g.memory.turn.slot)) → Left g.memory.turn.slot (take_slot block g)
give_slot block g R n give = bool_by (is_wanted g.memory)
    (λ w. let k = give w in let t = taken g.memory R block k.0 k.1 in
    subst (Left g.memory.turn.slot) (sym (take_wanted block g w))
    (unfold doing in six g.memory.turn.slot (doing g (deliver block)) (any_reached g.memory R (call (deliver block))) t.0 t.1 t.2))
    (λ w. subst (Left g.memory.turn.slot) (sym (take_there block g w)) (six g.memory.turn.slot g R n refl w))
