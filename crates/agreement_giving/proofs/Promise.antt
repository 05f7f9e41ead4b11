-- The promise of a giving: with turns told truly and the same notices taken no deliver is refused, and the returner comes to the giver's turn with the values that the giver had on reaching it.
-- Assumes nothing.
use Prim.Native.Nat.{ℕ, suc, ◌+◌, ◌-◌, ◌≤◌, ◌<◌}
use mathlib.Core.Path.{◌≡◌, refl, sym, ap, ◌∙◌, subst}
use mathlib.Core.Bool.{Bool, true, false, cond, not}
use mathlib.Core.Logic.{◌⊎◌, inl, inr}
use mathlib.Core.List.{List, [], ◌∷◌, ◌++◌, append_assoc, append-nil}
use native.Mathlib.Omega.{arith}
use lib.Dec.{eqb, ltb}
use lib.IntN.{ℤ}
use lib.ListN.{length}
use borrow.Author.Tests.{eq-eqb, eqb-true, eqb-false, lt-ltb, le-ltb, not-true}
use Rattle.block.specs.Answers.{header_of}
use Rattle.block.proofs.BoolLaws.{both, joined}
use Rattle.memory.specs.Memory.{Memory, window_slots, window_bytes}
use Rattle.memory.specs.Turns.{is_empty}
use Rattle.memory.specs.Window.{kept_block}
use Rattle.engine.specs.Make.{Setting}
use Rattle.engine.specs.Moves.{work_lent}
use Rattle.engine.specs.Shape.{Lengths}
use Rattle.engine.proofs.Tests.{bool_by, same_by, less_by, clash}
use Rattle.engine.proofs.Reached.{numbered}
use Rattle.protocol.specs.Lists.{Mem}
use Rattle.protocol.specs.Observer.{Handout}
use Rattle.agreement.specs.Group.{Members, CallAt, fresh, run, Calls, PremiseFrom, Premise}
use Rattle.agreement.proofs.Runs.{run_on}
use Rattle.agreement_progress.proofs.Parts.{walk, inv}
use Rattle.giving.specs.Choice.{down, told_turn, may_give, giver_of}
use Rattle.giving.specs.Giving.{holds, lacks, Going, set_out_field, give_slots, give_lent, nobody_up, given_to}
use Rattle.giving.proofs.Choices.{giver_may}
use Rattle.giving.proofs.Kept.{step_goes, step-nothing}
use Rattle.giving.proofs.Passed.{GivePassed, give_passed, refusal_is}
use Rattle.agreement_giving.specs.Windows.{LastBlocks}
use Rattle.agreement_giving.specs.Givings.{give_at, calls_at, SameTaken}
use Rattle.agreement_giving.specs.Promise.{Truly, has_turn, giver, to_turn, refused_by, TurnedAway, Reaches, Promised, PromiseTheorem}
use Rattle.agreement_giving.proofs.Lists.{run-append}
use Rattle.agreement_giving.proofs.Windows.{windows}
use Rattle.agreement_giving.proofs.HandedOver.{own_at, sound-at}
use Rattle.agreement_giving.proofs.Givings.{so-memory, so-handouts, none-sofar, given-handed}
use Rattle.agreement_giving.proofs.Values.{next_anew, fresh-turn, grows, same-values}
use Rattle.agreement_giving.proofs.Stages.{Came, premise-here, from-here}

module _ (n : ℕ) (start : List ℤ) (setting : Setting n start) (cs : List CallAt) (f : Calls n cs) (each : PremiseFrom n start (fresh n start) cs)
    (k : ℕ) (h : k < n) (told : List ℕ) (T : Truly n (run (fresh n start) cs) k told) where
  abbrev m : Memory
  m = (run (fresh n start) cs).memories k

  abbrev j : ℕ
  j = giver n start cs k told

  abbrev lent : List ℕ
  lent = ((run (fresh n start) cs).memories (giver n start cs k told)).blocks.window

  abbrev has : ℕ
  has = has_turn n start cs k told

  abbrev to : ℕ
  to = to_turn n start cs k told

  -- ---- what is told

  size : m.group.replicas ≡ n
  size = (sound-at n start setting cs f each k).size

  own : m.group.own ≡ k
  own = own_at n start setting cs f each k h

  module _ (up : giver_of m.group.own told ≡ m.group.own → ⊥) where
    may : (j < length told) × (may_give m.group.own told j ≡ true)
    may = giver_may m.group.own told up

    giver-below : j < n
    giver-below = let a = may.0 in let b = T.each in omega arith

    true-turn : given_to m told ≡ to
    true-turn = go (T.right j giver-below (λ e. up (e ∙ sym own)))
      where
        go : (told_turn told j ≡ down) ⊎ (told_turn told j ≡ to) → given_to m told ≡ to
        go (inl e) = clash (eq-eqb (told_turn told j) down e) (not-true _ (both (not (eqb j m.group.own)) _ may.1).right)
        go (inr e) = e

    last : LastBlocks to ((run (fresh n start) cs).disks j).journal lent
    last = windows n start setting cs f j giver-below

    lacks-is : lacks lent has to ≡ ltb (has + window_slots) to
    lacks-is = less_by (has + window_slots) to
        (λ l. bool_by (lacks lent has to)
        (λ e. e ∙ sym (lt-ltb (has + window_slots) to l))
        (λ e. absurd (let a = (last.holds-only has (last.lacks-none has to e has (omega arith) (omega arith))).1 in let z : ⊥ = omega arith in z)))
        (λ l. last.lacks-one has to (λ s a b. last.holds-these s b (omega arith)) ∙ sym (le-ltb (has + window_slots) to l))

  turned-away : TurnedAway n start cs k told
  turned-away = refusal_is m told lent (numbered m n k own h setting.most) lengths ∙ by (nobody_up m told) refl
    where
      L : Lengths m
      L = (sound-at n start setting cs f each k).shape.lengths

      among : j < n
      among = same_by (giver_of m.group.own told) m.group.own (λ e. rw (e, own) h) giver-below

      works : work_lent m ≡ true
      works =
          joined (eq-eqb _ _ L.places) (joined (eq-eqb _ _ L.items) (joined (eq-eqb _ _ L.queue) (joined (eq-eqb _ _ L.values) (joined (eq-eqb _ _ L.stamps) (eq-eqb _ _ L.window)))))

      lengths : give_lent m told lent ≡ true
      lengths = joined works (joined (eq-eqb (length m.blocks.outbox) 512 L.outbox)
          (joined (eq-eqb (length told) m.group.replicas (T.each ∙ sym size)) (eq-eqb (length lent) window_bytes (windows n start setting cs f j among).long)))

      by : (b : Bool) → nobody_up m told ≡ b → ◌≡◌ {A = ℕ} (cond b 30 (cond (lacks lent has (given_to m told)) 31 0)) (cond b 30 (cond (ltb (has + window_slots) to) 31 0))
      by true e = refl
      by false e = let up = eqb-false _ _ e in ap (λ (x : Bool). cond {A = ℕ} x 31 0) (ap (lacks lent has) (true-turn up) ∙ lacks-is up)

  -- ---- the promise

  module _ (p : Premise n start cs) (same : SameTaken (run (fresh n start) cs) k (giver n start cs k told)) (e : refused_by n start cs k told ≡ 0) where
    P : GivePassed m told lent
    P = give_passed m told lent e

    -- the giver's blocks of the slots from the returner's turn on are for them
    says : (s : ℕ) → has ≤ s → s < to → (header_of (kept_block lent s)).slot ≡ s
    unfolding holds
    says s l u =
        let y = (last P.up).lacks-none has to (subst (λ (x : ℕ). lacks lent has x ≡ false) (true-turn P.up) P.enough) s l u in
        eqb-true _ s (both (not (is_empty window_slots s lent)) _ y).right

    goes : give_at (run (fresh n start) cs) k told ≡ give_slots lent (to - has) (set_out_field m 0)
    goes = step_goes m told lent e ∙ ap (λ (x : ℕ). give_slots lent (x - has) (set_out_field m 0)) (true-turn P.up)

    level : to ≤ has → give_at (run (fresh n start) cs) k told ≡ set_out_field m 0
    level l = step-nothing m told lent e (rw (true-turn P.up) l)

    came : has < to → Came n start setting cs f p k h j same to (give_at (run (fresh n start) cs) k told)
    came l =
        let c = to - suc has in
        let z : to - has ≡ suc c = omega arith in
        let y : has + suc c ≡ to = omega arith in
        let r = from-here n start setting cs f p k h j same lent says (λ o S b t. given-handed n start setting cs f p.calls k told e same o S b (rw (true-turn P.up) t)) c has (set_out_field m 0)
        (omega arith) (omega arith) (record { sofar = none-sofar n start setting cs f p.calls k 0; number = refl; turn = refl }) in
        subst (Came n start setting cs f p k h j same to) (sym (goes ∙ ap (λ (x : ℕ). give_slots lent x (set_out_field m 0)) z))
        (subst (λ (x : ℕ). Came n start setting cs f p k h j same x (give_slots lent (suc c) (set_out_field m 0))) y r)

    -- the giver, when a call brought it to its turn, had the values that the returner has now
    values-then : has < to → (before : List CallAt) (c : CallAt) → Reaches n start cs k told before c
        → (give_at (run (fresh n start) cs) k told).memory.store.values ≡ ((run (fresh n start) (before ++ (c ∷ []))).memories j).store.values
    values-then l before c r =
        let o = give_at (run (fresh n start) cs) k told in
        let C = came l in
        let S = C.stands.sofar in
        let a = cs ++ calls_at k o.calls in
        let b = before ++ (c ∷ []) in
        let q = premise-here n start setting cs f p k h j same o S (let t = C.stands.turn in omega arith) in
        let is = so-memory n start setting cs f p.calls k o S in
        let w : cs ≡ b ++ r.0 = r.1 ∙ sym (append_assoc before (c ∷ []) r.0) in
        let on = run_on before (fresh n start) c in
        let done : ((run (fresh n start) b).memories j).counts.done ≡ 0 = ap (λ (x : Members). (x.memories j).counts.done) on
        ∙ next_anew (run (fresh n start) before) c j (λ y. r.2 (sym y ∙ ap (λ (x : Members). (x.memories j).turn.slot) (sym on) ∙ r.3)) in
        let sub : (x : Handout ℤ) → Mem x (run (fresh n start) b).handouts → Mem x (run (fresh n start) a).handouts = λ x i.
        subst (Mem x) (ap (λ (g : Members). g.handouts) (sym (run-append b r.0 (fresh n start))) ∙ ap (λ (z : List CallAt). (run (fresh n start) z).handouts) (sym w)
        ∙ sym (so-handouts n start setting cs f p.calls k o S)) (grows r.0 (run (fresh n start) b) x i) in
        ap (λ (x : Memory). x.store.values) (sym is)
        ∙ same-values n start setting p.lists a b (inv n start setting a S.calls q a [] (sym (append-nil a))) (inv n start setting cs f p b r.0 w) sub k j
        (ap (λ (x : Memory). x.turn.slot) is ∙ C.stands.turn ∙ sym r.3) (ap (λ (x : Memory). x.counts.done) is ∙ C.done) done

    -- ---- some call did

    -- a call of the list l
    abbrev Comes : List CallAt → List CallAt → CallAt → Type 0
    Comes l before c = (later : List CallAt) × (l ≡ before ++ (c ∷ later)) × (((run (fresh n start) before).memories j).turn.slot ≡ to → ⊥)
        × (((run (fresh n start) (before ++ (c ∷ []))).memories j).turn.slot ≡ to)

    abbrev Reached : List CallAt → Type 0
    Reached l = ((run (fresh n start) l).memories j).turn.slot ≡ to → (before : List CallAt) × (c : CallAt) × Comes l before c

    not_yet : 0 < to → Reached []
    unfolding run
    not_yet l t = absurd (let a : ((run (fresh n start) []).memories j).turn.slot ≡ 0 = fresh-turn n start j in let z : ⊥ = omega arith in z)

    some-reach : 0 < to → Reached cs
    some-reach l = walk Reached [] cs (not_yet l) (λ mid c q r t.
        same_by ((run (fresh n start) mid).memories j).turn.slot to
        (λ y. let x = r y in let v = x.2 in (x.0, x.1, (v.0 ++ (c ∷ []), ap (λ (z : List CallAt). z ++ (c ∷ [])) v.1 ∙ append_assoc x.0 (x.1 ∷ v.0) (c ∷ []), v.2, v.3)))
        (λ d. (mid, c, ([], refl, d, t))))

    promised : Promised n start cs k told
    promised = record {
      number = less_by has to (λ l. (came l).stands.number) (λ l. ap (λ (x : Going). x.number) (level l));
      nothing = λ l. level (omega arith);
      turn = λ l. (came l).stands.turn;
      values = values-then;
      some-call = λ l. some-reach (omega arith) refl;
    }

pub promise_theorem : PromiseTheorem
promise_theorem = record {
  refusals = turned-away;
  promise = λ n start setting cs f p k h told T same e. promised n start setting cs f p.calls k h told T p same e;
}
