-- A deliver does what the model's deliver does. Assumes nothing.
use Prim.Native.Nat.{ℕ, ◌+◌, ◌%◌, ◌≤◌, ◌<◌}
use mathlib.Core.Path.{◌≡◌, refl, sym, ap, ◌∙◌}
use mathlib.Core.Bool.{Bool, true, false, not, ◌&&◌, false≢true}
use mathlib.Core.Option.{none, some}
use mathlib.Core.List.{List}
use native.Mathlib.Omega.{arith}
use lib.Dec.{eqb, ltb}
use lib.IntN.{ℤ}
use lib.ListN.{get_or}
use borrow.Author.Tests.{eqb-true, eq-eqb, lt-ltb, le-ltb, not-false}
use Rattle.block.specs.Message.{owner_of, kind_fits, valid}
use Rattle.block.specs.Form.{message_of}
use Rattle.block.specs.Answers.{block_refusal, header_of}
use Rattle.block.proofs.BoolLaws.{both, joined}
use Rattle.block.proofs.MessageLaws.{message_facts}
use Rattle.block.proofs.AnswerLaws.{is_taken, is_formed}
use Rattle.memory.specs.Memory.{Memory}
use Rattle.memory.specs.Turns.{is_on}
use Rattle.engine.specs.Moves.{is_own_block, not_sent_here, deliver_refusal, deliver_now}
use Rattle.engine.specs.Calls.{step}
use Rattle.engine.specs.Calls.Call.{deliver}
use Rattle.engine.proofs.Tests.{less_by, not_first, passes}
use Rattle.engine.proofs.Steps.{deliver-by}
use Rattle.engine.proofs.Passed.{DeliverPassed, deliver_passed}
use Rattle.engine.proofs.PlaceLaws.{next-round}
use Rattle.protocol.specs.Lists.{update}
use Rattle.protocol.specs.Writesets.{Message}
use Rattle.protocol.specs.Replica.{Setup, Blocks, Replica, replica, accepted, outcome}
use Rattle.protocol.specs.Moves.{out_here, sent_for_turn, deliver_step}
use Rattle.agreement.specs.Group.{message_in, heard}
use Rattle.agreement.proofs.View.{out-same, setup, place_at, view, Sound, meant, Owed, follows}
use Rattle.agreement.proofs.ClientStep.{refused-owes}
use Rattle.agreement.proofs.PlaceView.{place_empty, place_kept}

-- ---- the block

-- the kind of an accepted block is not 0
no_kind : (k n : ℕ) → kind_fits k n ≡ true → k ≡ 0 → ⊥
unfolding kind_fits
no_kind k n h z = false≢true (rw z at h)

pub kind_some : (b : List ℕ) → block_refusal b ≡ 0 → get_or b 0 0 ≡ 0 → ⊥
unfolding message_of valid
kind_some b e = no_kind _ _ (both _ _ (is_formed b (is_taken b e).forms).fields).left

-- its sender owns its slot
sender_owns : (b : List ℕ) → block_refusal b ≡ 0 → (header_of b).sender ≡ owner_of (header_of b).replicas (header_of b).slot
unfolding message_of header_of
sender_owns b e = (message_facts (message_of b) (is_formed b (is_taken b e).forms).fields).sender

pub slot_said : (b : List ℕ) → (message_in b).slot ≡ (header_of b).slot
unfolding message_in message_of header_of
slot_said b = refl

pub sender_said : (b : List ℕ) → (message_in b).sender ≡ (header_of b).sender
unfolding message_in message_of header_of
sender_said b = refl

-- a slot of the window that belongs to the turn's owner is the turn
at_turn_lem : (n t s : ℕ) → t ≤ s → s < t + n → owner_of n s ≡ owner_of n t → s ≡ t
unfolding owner_of
at_turn_lem n t s h u e = less_by t s (λ l. absurd (omega (arith, next-round n t s (sym e) l, u))) (λ l. omega arith)

-- ---- refusal 19

sent_here : (m : Memory) (b : List ℕ) → deliver_refusal m b ≡ 0 → not_sent_here m b ≡ false
unfolding deliver_refusal
sent_here m b e =
    let p = passes _ _ refl e in
    let q = passes _ _ refl p.1 in
    let r = passes _ _ refl q.1 in
    let s = passes _ _ refl r.1 in
    let t = passes _ _ refl s.1 in
    let o = passes _ _ refl t.1 in
    let u = passes _ _ refl o.1 in
    (passes _ _ refl u.1).0

-- `a` without `c` does not hold; so neither does `a` without what follows from both
own-by : (a c d : Bool) → a && not c ≡ false → (a ≡ true → c ≡ true → d ≡ true) → a && not d ≡ false
own-by true c d h f = rw (f refl (not-false c h)) refl
own-by false c d h f = refl

-- ---- the model

module _ {X : Type 0} (S : Setup X) where
  abbrev kept_blocks : Replica X → Message X → Blocks X
  kept_blocks r w = record { places = update r.blocks.places (S.place w.slot) (some w); outbox = r.blocks.outbox; outages = r.blocks.outages }

  model-keeps : (r : Replica X) (w : Message X) → ltb w.slot r.cursor.turn ≡ false → out_here S r w.slot ≡ false → ltb w.slot (r.cursor.turn + S.size) ≡ true
      → eqb w.sender r.own && not (sent_for_turn S r w) ≡ false → r.blocks.places (S.place w.slot) ≡ none
      → Rattle.protocol.specs.System.step S r (Rattle.protocol.specs.System.Call.deliver w)
      ≡ outcome (replica r.own r.cursor r.store r.transactions (kept_blocks r w)) (accepted w)
  unfolding Rattle.protocol.specs.System.step deliver_step
  model-keeps r w a o b c d = rw (a, o, b, c, d) refl

-- ---- the call

module _ (n : ℕ) (start : List ℤ) (m : Memory) (S : Sound n m) (b : List ℕ) where
  module _ (e : deliver_refusal m b ≡ 0) where
    abbrev slot : ℕ
    slot = (header_of b).slot

    k : DeliverPassed m b
    k = deliver_passed m b e

    below : slot < m.turn.slot + n
    below = rw S.size at k.high

    -- an own block, the turn's being sent, is for the turn
    turns : (header_of b).sender ≡ m.group.own → is_on m.turn.sent ≡ true → slot ≡ m.turn.slot
    turns o u = at_turn_lem n m.turn.slot slot k.low below (sym (rw (k.replicas, S.size) at (sender_owns b k.taken)) ∙ o ∙ sym (rw S.size at (S.sent.turn u)))

    own-sent : eqb (message_in b).sender m.group.own && not (sent_for_turn (setup n start) (view m) (message_in b)) ≡ false
    own-sent =
        rw (sender_said b, slot_said b)
        (own-by (eqb (header_of b).sender m.group.own) (is_own_block m b) _ (sent_here m b e)
        (λ o h. let u = (k.own (eqb-true _ _ o)).0 in
        joined u (joined (eq-eqb slot m.turn.slot (turns (eqb-true _ _ o) u)) refl)))

    model : Rattle.protocol.specs.System.step (setup n start) (view m) (meant (deliver b))
        ≡ outcome (replica m.group.own (view m).cursor (view m).store (view m).transactions (kept_blocks (setup n start) (view m) (message_in b))) (accepted (message_in b))
    model =
        model-keeps (setup n start) (view m) (message_in b)
        (rw (slot_said b) (le-ltb _ _ k.low))
        (rw (slot_said b) (out-same n start m S.size slot ∙ k.live))
        (rw (slot_said b) (lt-ltb _ _ below))
        own-sent
        (rw (slot_said b) (place_empty n slot m.blocks.places (rw S.size at k.empty)))

    follow : Owed n start m (deliver b) (deliver_now m b)
    unfolding deliver_now heard
    follow =
        follows (rw model refl)
        (rw model
        (record {
          own = refl;
          cursor = refl;
          commits = refl;
          values = refl;
          stamps = λ i. refl;
          tickets = refl;
          queue = refl;
          there = λ u h. h;
          back = λ u h. h;
          places = λ p. rw S.size
              (place_kept n slot m.blocks.places b (omega (arith, S.shape.ranges.least, S.size)) (rw S.size at k.places) k.long (kind_some b k.taken) p
              ∙ ap (λ (s : ℕ). update (place_at m.blocks.places) (s % n) (some (message_in b)) p) (sym (slot_said b)));
          outages = λ t. refl;
        }))

  pub deliver-owes : Owed n start m (deliver b) (step m (deliver b))
  unfolding deliver_refusal heard
  deliver-owes = deliver-by (Owed n start m (deliver b)) m b follow (λ o. refused-owes n start m (deliver b) (deliver_refusal m b) (not_first 9 _ refl))
