-- How a giving ends: at the giver's turn, or with a deliver that is refused. Assumes nothing.
use Prim.Native.Nat.{ℕ, zero, suc, ◌+◌, ◌-◌, max, ◌≤◌, ◌<◌}
use mathlib.Core.Path.{◌≡◌, refl, sym, ap, ◌∙◌, subst}
use mathlib.Core.Logic.{◌⊎◌, inl, inr}
use mathlib.Core.List.{List, [], ◌∷◌, ◌++◌}
use native.Mathlib.Omega.{arith}
use Rattle.block.specs.Answers.{header_of}
use Rattle.memory.specs.Memory.{Memory}
use Rattle.memory.specs.Window.{kept_block}
use Rattle.engine.specs.Answers.{Outcome, number_of}
use Rattle.engine.specs.Answers.Answer.{refused}
use Rattle.engine.specs.Make.{made_memory}
use Rattle.engine.specs.Moves.{deliver_refusal}
use Rattle.engine.specs.Calls.{Call, step, after}
use Rattle.engine.specs.Calls.Call.{deliver, work}
use Rattle.engine.specs.History.{after_all}
use Rattle.engine.specs.History.AnyCall.{call}
use Rattle.engine.proofs.Tests.{bool_by, same_by, clash}
use Rattle.engine.proofs.Steps.{deliver-by}
use Rattle.engine.proofs.Reached.{Reached, made_reached, any_reached, all-reached}
use Rattle.giving.specs.Giving.{Going, set_out_field, doing, most_writesets, is_wanted, take_slot, give_slots, given_to, give_refusal, give_step}
use Rattle.giving.specs.Statement.{Endings}
use Rattle.giving.proofs.Kept.{work_stop, take_wanted, slots_none, slots_more, slots_stop, step_goes, take-keeps}
use Rattle.giving.proofs.Givings.{after_on}
use Rattle.giving.proofs.Slots.{Left, give_slot}

-- refused, a deliver is answered so and changes nothing
turned-back : (m : Memory) (b : List ℕ) → (deliver_refusal m b ≡ 0 → ⊥)
    → ((step m (deliver b)).answer ≡ refused (number_of (step m (deliver b)).answer)) × ((step m (deliver b)).memory ≡ m) × (number_of (step m (deliver b)).answer ≡ 0 → ⊥)
turned-back m b d =
    deliver-by (λ (o : Outcome). (o.answer ≡ refused (number_of o.answer)) × (o.memory ≡ m) × (number_of o.answer ≡ 0 → ⊥)) m b (λ e. absurd (d e)) (λ e. (refl, refl, e))

module _ (m : Memory) where
  record So (g : Going) : Type 0 where
    reached : Reached g.memory
    memory : g.memory ≡ after m g.calls

  more-so : (c : Call) (g : Going) → So g → So (doing g c)
  unfolding doing
  more-so c g S = record { reached = any_reached g.memory S.reached (call c); memory = ap (λ (k : Memory). (step k c).memory) S.memory ∙ sym (after_on m g.calls c) }

  -- the last call is a deliver refused, and all before it stands
  abbrev Back : Going → Type 0
  Back g = (before : List Call) × (b : List ℕ) × (g.calls ≡ before ++ (deliver b ∷ [])) × ((step (after m before) (deliver b)).answer ≡ refused g.number) × (g.memory ≡ after m before)

  abbrev Refused : Going → Type 0
  Refused g = Back g × (g.number ≡ 0 → ⊥)

  ends_so : (g : Going) → So g → (b : List ℕ) → (deliver_refusal g.memory b ≡ 0 → ⊥) → Refused (doing g (deliver b))
  unfolding doing
  ends_so g S b d =
      let t = turned-back g.memory b d in
      ((g.calls, b, refl, subst (λ (k : Memory). (step k (deliver b)).answer ≡ refused (number_of (step g.memory (deliver b)).answer)) S.memory t.0, t.1 ∙ S.memory), t.2)

  -- the slot is left, or its deliver is refused
  one-slot : (block : List ℕ) (g : Going) → So g → g.number ≡ 0 → (header_of block).slot ≡ g.memory.turn.slot → Left g.memory.turn.slot (take_slot block g) ⊎ Refused (take_slot block g)
  one-slot block g S n h = same_by (deliver_refusal g.memory block) 0
      (λ e. inl (give_slot block g S.reached n (λ w. (e, h))))
      (λ d. bool_by (is_wanted g.memory)
      (λ w. let E = ends_so g S block d in
      inr (subst Refused (sym (take_wanted block g w ∙ work_stop g.memory.turn.slot most_writesets (doing g (deliver block)) E.1)) E))
      (λ w. inl (give_slot block g S.reached n (λ y. clash y w))))

  abbrev Ends : ℕ → Going → Type 0
  Ends t g = ((g.number ≡ 0) × (g.memory.turn.slot ≡ t)) ⊎ Back g

  module _ (lent : List ℕ) where
    abbrev given : Going → Going
    given g = take_slot (kept_block lent g.memory.turn.slot) g

    -- t is where it ends
    all_slots : (t c : ℕ) (g : Going) → So g → g.number ≡ 0 → g.memory.turn.slot + c ≡ t → ((s : ℕ) → g.memory.turn.slot ≤ s → s < t → (header_of (kept_block lent s)).slot ≡ s)
        → Ends t (give_slots lent c g)
    all_slots t zero g S n e f = subst (Ends t) (sym (slots_none lent g)) (inl (n, omega arith))
    all_slots t (suc c) g S n e f =
        subst (Ends t) (sym (slots_more lent c g n))
        (go (one-slot (kept_block lent g.memory.turn.slot) g S n (f g.memory.turn.slot (omega arith) (omega arith)))
        (λ k u. all_slots t c (given g) (take-keeps So (more-so work) (kept_block lent g.memory.turn.slot) g (more-so (deliver (kept_block lent g.memory.turn.slot)) g) S) k
        (omega arith) (λ s a b. f s (omega arith) b)))
      where
        go : Left g.memory.turn.slot (given g) ⊎ Refused (given g)
            → ((given g).number ≡ 0 → (given g).memory.turn.slot ≡ suc g.memory.turn.slot → Ends t (give_slots lent c (given g)))
            → Ends t (give_slots lent c (given g))
        go (inl L) r = r L.number L.turn
        go (inr E) r = subst (Ends t) (sym (slots_stop lent c (given g) E.1)) (inr E.0)

give_ends : (m : Memory) → Reached m → (told lent : List ℕ) → give_refusal m told lent ≡ 0
    → ((s : ℕ) → m.turn.slot ≤ s → s < given_to m told → (header_of (kept_block lent s)).slot ≡ s) → Ends m (max m.turn.slot (given_to m told)) (give_step m told lent)
give_ends m R told lent e f =
    subst (Ends m (max m.turn.slot (given_to m told))) (sym (step_goes m told lent e))
    (all_slots m lent (max m.turn.slot (given_to m told)) (given_to m told - m.turn.slot) (set_out_field m 0) begun refl (omega arith) (λ s a b. f s a (omega arith)))
  where
    begun : So m (set_out_field m 0)
    begun = record { reached = R; memory = unfold after in refl }

pub endings : Endings
endings = record {
  ending = λ n own values s cs told lent. give_ends (after_all (made_memory n own values) cs) (all-reached (made_memory n own values) (made_reached n own values s) cs) told lent;
}
