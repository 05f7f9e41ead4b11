-- A giving slot by slot, up to the turn of one that has taken the same notices: the list so far is within the premise, also with the notices at its end, so each deliver is accepted. Assumes nothing.
use Prim.Native.Nat.{ℕ, zero, suc, ◌+◌, ◌≤◌, ◌<◌}
use mathlib.Core.Path.{◌≡◌, sym, ap, ◌∙◌, subst}
use mathlib.Core.Bool.{true, not}
use mathlib.Core.List.{List, [], ◌++◌, append-nil}
use native.Mathlib.Omega.{arith}
use lib.IntN.{ℤ}
use borrow.Author.Tests.{ltb-true, leb-true, not-true}
use Rattle.block.specs.Answers.{header_of}
use Rattle.block.proofs.BoolLaws.{both}
use Rattle.memory.specs.Memory.{Memory}
use Rattle.memory.specs.Notices.{Notice, is_out}
use Rattle.memory.specs.Turns.{is_empty}
use Rattle.memory.specs.Window.{kept_block}
use Rattle.engine.specs.Make.{Setting}
use Rattle.engine.specs.Moves.{out_at_turn, deliver_refusal, nothing_waits}
use Rattle.engine.specs.Shape.{Shape}
use Rattle.engine.proofs.Tests.{bool_by, same_by, clash}
use Rattle.engine.proofs.Reached.{Reached, numbered}
use Rattle.protocol.specs.Lists.{Mem}
use Rattle.agreement.specs.Group.{Members, CallAt, fresh, run, Calls, about, Beginning, OneList, Premise}
use Rattle.agreement.proofs.OneList.{beginnings}
use Rattle.agreement_progress.proofs.Come.{Givable, given_by}
use Rattle.agreement_progress.proofs.Parts.{stood, own_at}
use Rattle.agreement_progress.proofs.Blocks.{givable}
use Rattle.giving.specs.Giving.{Going, is_wanted, take_slot, give_slots}
use Rattle.giving.proofs.Kept.{take_wanted, take_there, slots_none, slots_more, work-keeps}
use Rattle.giving.proofs.Slots.{give_slot}
use Rattle.agreement_giving.specs.Givings.{calls_at, SameTaken}
use Rattle.agreement_giving.proofs.Givings.{Sofar, so-run, so-memory, so-blocks, so-taken, work-sofar, deliver-sofar}

-- a block that may be given is kept, where it is for the turn's slot and that is wanted
kept_0 : {over : ℕ} (m : Memory) → Shape over m → (b : List ℕ) → Givable m b → (header_of b).slot ≡ m.turn.slot → is_wanted m ≡ true → deliver_refusal m b ≡ 0
kept_0 m S b G e w = let u = both (not (out_at_turn m)) (nothing_waits m) w in
    given_by m S b G (λ z. z)
    (λ q z. absurd (let a = ltb-true (header_of b).slot m.turn.slot q in let y : ⊥ = omega arith in y))
    (λ q z. absurd (let a = leb-true (m.turn.slot + m.group.replicas) (header_of b).slot q in let l = S.ranges.least in let y : ⊥ = omega arith in y))
    (λ q t z. clash (ap (λ (s : ℕ). is_empty m.group.replicas s m.blocks.places) e ∙ u.right) (not-true _ t))
    (λ q v z. clash v (ap (is_out m.group) e ∙ not-true (out_at_turn m) u.left))

-- replica j has taken the same notices as the returner k
module _ (n : ℕ) (start : List ℤ) (setting : Setting n start) (cs : List CallAt) (f : Calls n cs) (p : Premise n start cs) (k : ℕ) (h : k < n)
    (j : ℕ) (same : SameTaken (run (fresh n start) cs) k j) where
  abbrev G : Members
  G = run (fresh n start) cs

  abbrev from : ℕ
  from = ((run (fresh n start) cs).memories k).turn.slot

  abbrev top : ℕ
  top = ((run (fresh n start) cs).memories j).turn.slot

  abbrev pub So : Going → Type 0
  So = Sofar n start setting cs f p.calls k

  -- ---- the list so far

  module _ (o : Going) (S : So o) (low : o.memory.turn.slot ≤ top) where
    abbrev l : List CallAt
    l = cs ++ calls_at k o.calls

    whole : l ≡ l ++ []
    whole = sym (append-nil l)

    is : (run (fresh n start) l).memories k ≡ o.memory
    is = so-memory n start setting cs f p.calls k o S

    -- the returner stands at or below j, so not above the slot of a notice that both lack
    mine : (d : ℕ) → Beginning (about d ((run (fresh n start) l).taken k)) (p.lists d) ((run (fresh n start) l).memories k).turn.slot
    mine d =
        let B = beginnings n start cs p.lists p.one j d in record {
          lacking = B.lacking;
          whole = B.whole ∙ ap (λ (x : List Notice). x ++ B.lacking) (sym (ap (about d) (so-taken n start setting cs f p.calls k o S k) ∙ same d));
          ahead = λ a q. let z = B.ahead a q in let t = ap (λ (m : Memory). m.turn.slot) is in omega arith;
        }

    begun : (i d : ℕ) → Beginning (about d ((run (fresh n start) l).taken i)) (p.lists d) ((run (fresh n start) l).memories i).turn.slot
    begun i d = same_by i k (λ e. rw e (mine d)) (λ e.
        rw (so-taken n start setting cs f p.calls k o S i, ap (λ (x : Members). x.memories i) (so-run n start setting cs f p.calls k o), S.same.others i e)
        (beginnings n start cs p.lists p.one i d))

    pub one-here : OneList (cs ++ calls_at k o.calls) p.lists (run (fresh n start) (cs ++ calls_at k o.calls))
    one-here = record {
      of_its = p.one.of_its;
      taken = λ c q d. begun c.at d;
      handed = λ b q. p.one.handed b (subst (Mem b) (so-blocks n start setting cs f p.calls k o S) q);
    }

    abbrev pub premise-here : Premise n start (cs ++ calls_at k o.calls)
    premise-here = record { calls = S.premise; lists = p.lists; one = one-here }

    reached : Reached o.memory
    reached = let R = (stood n start setting l S.calls premise-here l [] whole k).sound in subst Reached is (record {
      over = R.over;
      shape = R.shape;
      sent = R.sent;
      replica = numbered ((run (fresh n start) l).memories k) n k (own_at n start setting l S.calls premise-here l [] whole k h) h setting.most;
    })

    -- a block handed out may be given
    can-give : (b : List ℕ) → Mem b (run (fresh n start) cs).blocks → Givable o.memory b
    can-give b m =
        subst (λ (x : Memory). Givable x b) is
        (givable n start setting l S.calls premise-here l [] whole k b (subst (Mem b) (sym (so-blocks n start setting cs f p.calls k o S)) m))

  -- it stands at slot s, and nothing is refused so far
  pub record Stands (s : ℕ) (o : Going) : Type 0 where
    pub sofar : Sofar n start setting cs f p.calls k o
    pub number : o.number ≡ 0
    pub turn : o.memory.turn.slot ≡ s

  -- and of slot s nothing is done
  pub record Came (s : ℕ) (o : Going) : Type 0 where
    pub stands : Stands s o
    pub done : o.memory.counts.done ≡ 0

  -- ---- slot by slot, from a window whose blocks are for their slots, and were handed out where they are wanted

  module _ (lent : List ℕ) (says : (s : ℕ) → from ≤ s → s < top → (header_of (kept_block lent s)).slot ≡ s)
      (handed : (o : Going) → So o → from ≤ o.memory.turn.slot → o.memory.turn.slot < top → is_wanted o.memory ≡ true → Mem (kept_block lent o.memory.turn.slot) (run (fresh n start) cs).blocks) where
    module _ (o : Going) (S : So o) (number : o.number ≡ 0) (low : from ≤ o.memory.turn.slot) (high : o.memory.turn.slot < top) where
      abbrev b : List ℕ
      b = kept_block lent o.memory.turn.slot

      kept_here : is_wanted o.memory ≡ true → (deliver_refusal o.memory b ≡ 0) × ((header_of b).slot ≡ o.memory.turn.slot)
      kept_here w =
          let e = says o.memory.turn.slot low high in
          (kept_0 o.memory (reached o S (omega arith)).shape b (can-give o S (omega arith) b (handed o S low high w)) e w, e)

      sofar-slot : So (take_slot b o)
      sofar-slot =
          let worked = work-sofar n start setting cs f p.calls k in
          bool_by (is_wanted o.memory)
          (λ w. subst So (sym (take_wanted b o w)) (work-keeps So worked _ _ _ (deliver-sofar n start setting cs f p.calls k b (handed o S low high w) o S)))
          (λ w. subst So (sym (take_there b o w)) (work-keeps So worked _ _ _ S))

      one-slot : Came (suc o.memory.turn.slot) (take_slot b o)
      one-slot =
          let L = give_slot b o (reached o S (omega arith)) number kept_here in
          record { stands = record { sofar = sofar-slot; number = L.number; turn = L.turn }; done = L.done }

    more : (c s : ℕ) (o : Going) → Stands s o → from ≤ s → s + suc c ≤ top → Came (suc s) (take_slot (kept_block lent o.memory.turn.slot) o)
    more c s o S low high = let t = S.turn in subst (λ (x : ℕ). Came (suc x) (take_slot (kept_block lent o.memory.turn.slot) o)) t (one-slot o S.sofar S.number (omega arith) (omega arith))

    all_slots : (c s : ℕ) (o : Going) → from ≤ s → s + c ≤ top → Came s o → Came (s + c) (give_slots lent c o)
    all_slots zero s o low high C = let z : s ≡ s + 0 = omega arith in subst (λ (x : ℕ). Came x (give_slots lent 0 o)) z (subst (Came s) (sym (slots_none lent o)) C)
    all_slots (suc c) s o low high C =
        let z : suc s + c ≡ s + suc c = omega arith in
        let r = all_slots c (suc s) (take_slot (kept_block lent o.memory.turn.slot) o) (omega arith) (omega arith) (more c s o C.stands low high) in
        subst (λ (x : ℕ). Came x (give_slots lent (suc c) o)) z (subst (Came (suc s + c)) (sym (slots_more lent c o C.stands.number)) r)

    -- the first slot may be half done
    pub from-here : (c s : ℕ) (o : Going) → from ≤ s → s + suc c ≤ top → Stands s o → Came (s + suc c) (give_slots lent (suc c) o)
    from-here c s o low high S =
        let z : suc s + c ≡ s + suc c = omega arith in
        let r = all_slots c (suc s) (take_slot (kept_block lent o.memory.turn.slot) o) (omega arith) (omega arith) (more c s o S low high) in
        subst (λ (x : ℕ). Came x (give_slots lent (suc c) o)) z (subst (Came (suc s + c)) (sym (slots_more lent c o S.number)) r)
