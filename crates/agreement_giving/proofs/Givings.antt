-- Doing a giving is doing its calls one by one; and these are within the premise where returner and giver have taken the same notices. Assumes nothing.
use Prim.Native.Nat.{ℕ, ◌+◌, ◌≤◌, ◌<◌}
use mathlib.Core.Path.{◌≡◌, refl, sym, ap, ◌∙◌, subst}
use mathlib.Core.Bool.{true, false}
use mathlib.Core.Logic.{◌⊎◌, inl, inr}
use mathlib.Core.List.{List, [], ◌∷◌, ◌++◌, append_assoc, append-nil}
use native.Mathlib.Omega.{arith}
use lib.Dec.{eqb}
use lib.IntN.{ℤ}
use Rattle.block.specs.Message.{owner_of, signed32}
use Rattle.block.specs.Answers.{record_at}
use Rattle.memory.specs.Memory.{Memory, slot_limit, window_slots}
use Rattle.memory.specs.Notices.{Notice, is_out, puts_out}
use Rattle.memory.specs.Window.{kept_block}
use Rattle.engine.specs.Make.{Setting}
use Rattle.engine.specs.Answers.{Outcome}
use Rattle.engine.specs.Moves.{out_at_turn, deliver_now, block_at_turn, pass_next, commit_writeset, pass_out}
use Rattle.engine.specs.Calls.{Call, step}
use Rattle.engine.specs.Calls.Call.{deliver, work}
use Rattle.engine.specs.History.AnyCall.{call}
use Rattle.engine.proofs.Tests.{cond_by, clash}
use Rattle.engine.proofs.Steps.{deliver-by, work-by}
use Rattle.protocol.specs.Lists.{Mem}
use Rattle.protocol.specs.Replica.{Event}
use Rattle.protocol.specs.Observer.{Observed, Handout, handouts_after}
use Rattle.protocol.proofs.ListLaws.{update_same, update_other, update-by}
use Rattle.protocol.proofs.SequenceLaws.{map-append}
use Rattle.agreement.specs.Group.{arguments_of, heard, taken_after, Members, CallAt, fresh, did, blocks_after, next, run, Calls, PremiseFrom}
use Rattle.agreement.proofs.Runs.{run_on}
use Rattle.agreement_progress.proofs.NoticeLists.{puts_about}
use Rattle.giving.specs.Giving.{Going, set_out_field, doing, is_wanted, given_to, give_refusal}
use Rattle.giving.proofs.Choices.{giver_may}
use Rattle.giving.proofs.Kept.{give-keeps, give-keeps-in}
use Rattle.giving.proofs.Passed.{give_passed}
use Rattle.agreement_giving.specs.Givings.{giver_at, give_at, calls_at, SameTaken}
use Rattle.agreement_giving.proofs.Lists.{run-append, calls_on, premise-on}
use Rattle.agreement_giving.proofs.Windows.{kept-after, windows}
use Rattle.agreement_giving.proofs.Journaled.{OutBlock}
use Rattle.agreement_giving.proofs.HandedOver.{sound-at, out_at, handed-all}

-- ---- a deliver and a work hand out nothing and take no notice

pub record Quiet (c : Call) : Type 0 where
  pub blocks : (m : Memory) (B : List (List ℕ)) → blocks_after B (step m c).answer ≡ B
  pub handouts : (m : Memory) (D : List (Handout ℤ)) (k : ℕ) (p : Observed ℤ) → handouts_after D k p (heard (call c) (step m c).answer) ≡ D
  pub taken : (m : Memory) (T : List Notice) → taken_after T (call c) (step m c).answer ≡ T

deliver_quiet : (b : List ℕ) → Quiet (deliver b)
unfolding deliver_now heard handouts_after
deliver_quiet b = record {
  blocks = λ m B. deliver-by (λ (o : Outcome). blocks_after B o.answer ≡ B) m b (λ e. refl) (λ e. refl);
  handouts = λ m D k p. deliver-by (λ (o : Outcome). handouts_after D k p (heard (call (deliver b)) o.answer) ≡ D) m b (λ e. refl) (λ e. refl);
  taken = λ m T. deliver-by (λ (o : Outcome). taken_after T (call (deliver b)) o.answer ≡ T) m b (λ e. refl) (λ e. refl);
}

work_quiet : Quiet work
unfolding pass_next commit_writeset pass_out heard handouts_after
work_quiet = record {
  blocks = λ m B. work-by (λ (o : Outcome). blocks_after B o.answer ≡ B) m (λ e q. refl) (λ e q. refl) (λ e q. refl) (λ e. refl);
  handouts = λ m D k p. work-by (λ (o : Outcome). handouts_after D k p (heard (call work) o.answer) ≡ D) m (λ e q. refl) (λ e q. refl)
      (λ e q. cond_by (λ (x : Event ℤ). handouts_after D k p x ≡ D) (eqb (record_at (block_at_turn m) m.counts.done).ticket 0) (λ y. refl) (λ y. refl)) (λ e. refl);
  taken = λ m T. work-by (λ (o : Outcome). taken_after T (call work) o.answer ≡ T) m (λ e q. refl) (λ e q. refl) (λ e q. refl) (λ e. refl);
}

-- ---- doing the calls of a giving

module _ (g : Members) (k : ℕ) where
  abbrev after : Going → Members
  after o = run g (calls_at k o.calls)

  -- so far
  pub record Same (o : Going) : Type 0 where
    pub memory : (run g (calls_at k o.calls)).memories k ≡ o.memory
    pub others : (j : ℕ) → (j ≡ k → ⊥) → (run g (calls_at k o.calls)).memories j ≡ g.memories j
    pub blocks : (run g (calls_at k o.calls)).blocks ≡ g.blocks
    pub handouts : (run g (calls_at k o.calls)).handouts ≡ g.handouts
    pub taken : (j : ℕ) → (run g (calls_at k o.calls)).taken j ≡ g.taken j

  none-same : (i : ℕ) → Same (set_out_field (g.memories k) i)
  unfolding run
  none-same i = record { memory = refl; others = λ j d. refl; blocks = refl; handouts = refl; taken = λ j. refl }

  pub more_same : (c : Call) → Quiet c → (o : Going) → Same o → Same (doing o c)
  unfolding doing
  more_same c q o S = record {
    memory = ap (λ (x : Members). x.memories k) whole ∙ update_same (after o).memories k (did (after o) d).memory ∙ ap (λ (m : Memory). (step m c).memory) S.memory;
    others = λ j e. ap (λ (x : Members). x.memories j) whole ∙ update_other (after o).memories k (did (after o) d).memory j e ∙ S.others j e;
    blocks = ap (λ (x : Members). x.blocks) whole ∙ q.blocks ((after o).memories k) (after o).blocks ∙ S.blocks;
    handouts = ap (λ (x : Members). x.handouts) whole ∙ q.handouts ((after o).memories k) (after o).handouts k ((after o).observed k) ∙ S.handouts;
    taken = λ j. ap (λ (x : Members). x.taken j) whole
        ∙ update-by (λ (i : ℕ) (T : List Notice). T ≡ g.taken i) (after o).taken k _ (q.taken ((after o).memories k) ((after o).taken k) ∙ S.taken k) (λ i e. S.taken i) j;
  }
    where
      d : CallAt
      d = record { at = k; does = call c }

      whole : run g (calls_at k (o.calls ++ (c ∷ []))) ≡ next (run g (calls_at k o.calls)) (record { at = k; does = call c })
      whole = ap (run g) (map-append (λ (x : Call). record { at = k; does = call x }) o.calls (c ∷ [])) ∙ run_on (calls_at k o.calls) g d

  pub give-same : (told : List ℕ) → Same (give_at g k told)
  give-same told =
      let lent = (g.memories (giver_at g k told)).blocks.window in
      give-keeps Same (more_same work work_quiet) lent (λ o s. more_same (deliver (kept_block lent s)) (deliver_quiet (kept_block lent s)) o) (g.memories k) told none-same

-- ---- the calls are the group's, and their bytes were handed out

module _ (n : ℕ) (start : List ℤ) (setting : Setting n start) (cs : List CallAt) (f : Calls n cs) (p : PremiseFrom n start (fresh n start) cs) (k : ℕ) where
  abbrev G : Members
  G = run (fresh n start) cs

  -- the list with the calls done so far
  abbrev pub so : Going → List CallAt
  so o = cs ++ calls_at k o.calls

  pub record Sofar (o : Going) : Type 0 where
    pub same : Same (run (fresh n start) cs) k o
    pub calls : Calls n (cs ++ calls_at k o.calls)
    pub premise : PremiseFrom n start (fresh n start) (cs ++ calls_at k o.calls)

  -- the group after it
  pub so-run : (o : Going) → run (fresh n start) (cs ++ calls_at k o.calls) ≡ run (run (fresh n start) cs) (calls_at k o.calls)
  so-run o = run-append cs (calls_at k o.calls) (fresh n start)

  module _ (o : Going) (S : Sofar o) where
    pub so-memory : (run (fresh n start) (cs ++ calls_at k o.calls)).memories k ≡ o.memory
    so-memory = ap (λ (x : Members). x.memories k) (so-run o) ∙ S.same.memory

    pub so-blocks : (run (fresh n start) (cs ++ calls_at k o.calls)).blocks ≡ (run (fresh n start) cs).blocks
    so-blocks = ap (λ (x : Members). x.blocks) (so-run o) ∙ S.same.blocks

    pub so-handouts : (run (fresh n start) (cs ++ calls_at k o.calls)).handouts ≡ (run (fresh n start) cs).handouts
    so-handouts = ap (λ (x : Members). x.handouts) (so-run o) ∙ S.same.handouts

    pub so-taken : (j : ℕ) → (run (fresh n start) (cs ++ calls_at k o.calls)).taken j ≡ (run (fresh n start) cs).taken j
    so-taken j = ap (λ (x : Members). x.taken j) (so-run o) ∙ S.same.taken j

  pub none-sofar : (i : ℕ) → Sofar (set_out_field ((run (fresh n start) cs).memories k) i)
  none-sofar i = record { same = none-same G k i; calls = rw (append-nil cs) f; premise = rw (append-nil cs) p }

  -- one call more: bytes delivered were handed out
  more-sofar : (c : Call) → Quiet c → signed32 (arguments_of (call c)).value ≡ true → ((b : List ℕ) → c ≡ deliver b → Mem b (run (fresh n start) cs).blocks)
      → (o : Going) → Sofar o → Sofar (doing o c)
  unfolding doing
  more-sofar c q v mem o S = record {
    same = more_same G k c q o S.same;
    calls = subst (Calls n) (sym joined) (calls_on n (so o) S.calls (record { at = k; does = call c }) (tt, v));
    premise = subst (PremiseFrom n start (fresh n start)) (sym joined) (premise-on n start (fresh n start) (so o) S.premise (record { at = k; does = call c }) (record {
      delivered = λ b e a. subst (Mem b) (sym (so-blocks o S)) (mem b (let i : c ≡ deliver b = cc in i));
      lent = λ size own values j a l x y e. absurd (let z : ◌≡◌ {A = ℕ} 0 1 = cc in let w : ⊥ = omega arith in w);
    }));
  }
    where
      joined : cs ++ calls_at k (o.calls ++ (c ∷ [])) ≡ (cs ++ calls_at k o.calls) ++ (record { at = k; does = call c } ∷ [])
      joined = ap (λ (l : List CallAt). cs ++ l) (map-append (λ (x : Call). record { at = k; does = call x }) o.calls (c ∷ [])) ∙ sym (append_assoc cs (calls_at k o.calls) (record { at = k; does = call c } ∷ []))

  pub work-sofar : (o : Going) → Sofar o → Sofar (doing o work)
  unfolding signed32
  work-sofar = more-sofar work work_quiet refl (λ b e. absurd (let z : ◌≡◌ {A = ℕ} 0 1 = cc in let y : ⊥ = omega arith in y))

  pub deliver-sofar : (b : List ℕ) → Mem b (run (fresh n start) cs).blocks → (o : Going) → Sofar o → Sofar (doing o (deliver b))
  unfolding signed32
  deliver-sofar b m = more-sofar (deliver b) (deliver_quiet b) refl (λ d e. let i : b ≡ d = cc in subst (λ (x : List ℕ). Mem x (run (fresh n start) cs).blocks) i m)

  -- ---- a block of a window

  -- it was handed out, or its slot is one that its replica's notices put out
  pub window-handed : (j : ℕ) → j < n → (s : ℕ) → let g = run (fresh n start) cs in let w = (g.memories j).blocks.window in
      s < (g.memories j).turn.slot → (g.memories j).turn.slot ≤ s + window_slots → Mem (kept_block w s) g.blocks ⊎ OutBlock n (g.taken j) s (kept_block w s)
  window-handed j h s l u =
      let K = kept-after n start setting cs f j h in
      rw (K.keeps.ring.blocks s l u) ((handed-all n start setting cs f p j h).journal s (omega arith))

  module _ (told : List ℕ) (e : give_refusal ((run (fresh n start) cs).memories k) told ((run (fresh n start) cs).memories (giver_at (run (fresh n start) cs) k told)).blocks.window ≡ 0) where
    abbrev j : ℕ
    j = giver_at G k told

    pub giver-below : giver_at (run (fresh n start) cs) k told < n
    giver-below =
        let P = give_passed (G.memories k) told (G.memories j).blocks.window e in
        let a = P.each in
        let b = (giver_may (G.memories k).group.own told P.up).0 in
        let c = (sound-at n start setting cs f p k).size in
        omega arith

    -- the giver's window has the slots given
    pub window-has : (s : ℕ) → let g = run (fresh n start) cs in (g.memories k).turn.slot ≤ s → s < given_to (g.memories k) told
        → (s < (g.memories (giver_at g k told)).turn.slot) × ((g.memories (giver_at g k told)).turn.slot ≤ s + window_slots)
    window-has s l u =
        let L = windows n start setting cs f j giver-below in
        let P = give_passed (G.memories k) told (G.memories j).blocks.window e in
        L.holds-only s (L.lacks-none (G.memories k).turn.slot (given_to (G.memories k) told) P.enough s l u)

    -- with the same notices taken, a block that is wanted was handed out: the *next* of an out slot is not wanted
    pub given-handed : SameTaken (run (fresh n start) cs) k (giver_at (run (fresh n start) cs) k told) → (o : Going) → Sofar o
        → ((run (fresh n start) cs).memories k).turn.slot ≤ o.memory.turn.slot → o.memory.turn.slot < given_to ((run (fresh n start) cs).memories k) told → is_wanted o.memory ≡ true
        → Mem (kept_block ((run (fresh n start) cs).memories (giver_at (run (fresh n start) cs) k told)).blocks.window o.memory.turn.slot) (run (fresh n start) cs).blocks
    given-handed same o S l u w = go (window-handed j giver-below o.memory.turn.slot has.0 has.1)
      where
        s : ℕ
        s = o.memory.turn.slot

        has : (o.memory.turn.slot < ((run (fresh n start) cs).memories (giver_at (run (fresh n start) cs) k told)).turn.slot)
            × (((run (fresh n start) cs).memories (giver_at (run (fresh n start) cs) k told)).turn.slot ≤ o.memory.turn.slot + window_slots)
        has = window-has o.memory.turn.slot l u

        -- the returner has taken what the giver has
        puts : puts_out false (G.taken k) (owner_of n s) s ≡ puts_out false (G.taken j) (owner_of n s) s
        puts = sym (puts_about (owner_of n s) s false (G.taken k)) ∙ ap (λ (T : List Notice). puts_out false T (owner_of n s) s) (same (owner_of n s)) ∙ puts_about (owner_of n s) s false (G.taken j)

        few : s < slot_limit
        few = let a = has.0 in let b = (sound-at n start setting cs f p j).shape.ranges.slot in omega arith

        out : out_at_turn o.memory ≡ puts_out false (G.taken k) (owner_of n s) s
        out =
            ap (λ (m : Memory). is_out m.group s) (sym (so-memory o S))
            ∙ out_at n start setting (so o) S.calls S.premise k s (let z = ap (λ (m : Memory). m.turn.slot) (so-memory o S) in omega arith) few
            ∙ ap (λ (T : List Notice). puts_out false T (owner_of n s) s) (so-taken o S k)

        go : Mem (kept_block (G.memories j).blocks.window s) G.blocks ⊎ OutBlock n (G.taken j) s (kept_block (G.memories j).blocks.window s) → Mem (kept_block (G.memories j).blocks.window s) G.blocks
        go (inl m) = m
        go (inr q) = clash w (rw (out ∙ puts ∙ q.1) refl)

  pub give-sofar : (told : List ℕ) → SameTaken (run (fresh n start) cs) k (giver_at (run (fresh n start) cs) k told) → Sofar (give_at (run (fresh n start) cs) k told)
  give-sofar told same =
      let lent = (G.memories (giver_at G k told)).blocks.window in
      give-keeps-in Sofar work-sofar lent (G.memories k) told room
      (λ o e l u w S. deliver-sofar (kept_block lent o.memory.turn.slot) (given-handed told e same o S l u w) o S) none-sofar
    where
      room : (G.memories k).turn.slot ≤ 4_294_967_295
      room = omega (arith, (sound-at n start setting cs f p k).shape.ranges.slot)
