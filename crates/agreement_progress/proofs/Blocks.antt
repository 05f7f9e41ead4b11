-- The blocks handed out, after any first part of a list of calls that has the premise: each is good, and may be given to any member. Assumes nothing.
use Prim.Native.Nat.{ℕ, ◌≤◌, ◌<◌}
use mathlib.Core.Path.{◌≡◌, refl, sym, ap, ◌∙◌, subst}
use mathlib.Core.Bool.{true, false}
use mathlib.Core.Logic.{◌⊎◌, inl, inr}
use mathlib.Core.List.Memᴰ
use mathlib.Core.List.{List, [], ◌∷◌, ◌++◌, append_assoc}
use native.Mathlib.Nat.{mod-lt}
use native.Mathlib.Omega.{arith}
use lib.Dec.{eqb}
use lib.IntN.{ℤ}
use borrow.Author.Tests.{eqb-true, ltb-false}
use Rattle.block.specs.Message.{owner_of}
use Rattle.block.specs.Answers.{header_of}
use Rattle.block.proofs.BoolLaws.{joined}
use Rattle.memory.specs.Memory.{Memory, no_number}
use Rattle.engine.specs.Make.{Setting}
use Rattle.engine.specs.Moves.{sent_already, same_bytes, slot_past, is_own_block, not_sent_here}
use Rattle.engine.specs.History.{AnyCall, any_step}
use Rattle.engine.specs.History.AnyCall.{call, restart}
use Rattle.engine.proofs.Tests.{bool_by}
use Rattle.engine.proofs.BlockFacts.{taken_block}
use Rattle.protocol.specs.Lists.{Mem}
use Rattle.protocol.proofs.ListLaws.{update-by, and_no}
use Rattle.agreement.specs.Group.{Members, CallAt, fresh, did, next, run, Comes, MayBeAt, Calls, Premise}
use Rattle.agreement.proofs.View.{Sound}
use Rattle.agreement.proofs.MemberStep.{Ours}
use Rattle.agreement.proofs.Replicas.{Standing, as-replica, as-station, SoundAt}
use Rattle.agreement.proofs.Runs.{run_on, lent_ours}
use Rattle.agreement.proofs.Theorem.{owes}
use Rattle.agreement_progress.proofs.Come.{bytes_same, Givable}
use Rattle.agreement_progress.proofs.HandedBlocks.{GoodBlock, NewBlock, SentLast, Hands, hands}
use Rattle.agreement_progress.proofs.Parts.{walk, stood, size-at, marked, past}

module _ (n : ℕ) (start : List ℤ) (setting : Setting n start) where
  record Blocks (g : Members) : Type 0 where
    good : (b : List ℕ) → Mem b g.blocks → GoodBlock n b
    last : (k : ℕ) → k < n → SentLast k (g.memories k) g.blocks

  -- a block's sender owns its slot
  owner_of_lem : (b : List ℕ) → GoodBlock n b → (header_of b).sender ≡ owner_of n (header_of b).slot
  unfolding header_of
  owner_of_lem b G = (taken_block b G.taken).sender ∙ ap (λ (r : ℕ). owner_of r (header_of b).slot) G.replicas

  -- ---- a call

  -- i is the number in the memory that the call acts on: the member's at a replica, and no replica's at a station
  blocks-by : (g : Members) (c : CallAt) (i : ℕ) → (c.at < n → i ≡ c.at) → (i < n → i ≡ c.at) → Blocks g → Hands n i g.blocks (did g c) → Blocks (next g c)
  blocks-by g c i own only B H = record {
    good = λ b m. either b (H.grown b m);
    last = update-by (λ (k : ℕ) (m : Memory). k < n → SentLast k m (next g c).blocks) g.memories c.at (did g c).memory
        (λ l. subst (λ (k : ℕ). SentLast k (did g c).memory (next g c).blocks) (own l) H.last)
        (λ j d l t b q o z. other j d l t b o z (H.grown b q));
  }
    where
      either : (b : List ℕ) → Mem b g.blocks ⊎ NewBlock n i b → GoodBlock n b
      either b (inl q) = B.good b q
      either b (inr N) = N.good

      other : (j : ℕ) → (j ≡ c.at → ⊥) → j < n → sent_already (g.memories j) ≡ true → (b : List ℕ) → (header_of b).sender ≡ j → (header_of b).slot ≡ (g.memories j).turn.slot
          → Mem b g.blocks ⊎ NewBlock n i b → b ≡ (g.memories j).blocks.outbox
      other j d l t b o z (inl q) = B.last j l t b q o z
      other j d l t b o z (inr N) = let e : j ≡ i = sym o ∙ N.sender in absurd (d (e ∙ only (subst (λ (k : ℕ). k < n) e l)))

  -- no block is from a member without a number
  none_from : (b : List ℕ) → GoodBlock n b → (header_of b).sender ≡ no_number → ⊥
  unfolding owner_of
  none_from b G e = let a = owner_of_lem b G in let s = setting.least in let t = setting.most in let l = mod-lt (header_of b).slot {m = n} (omega arith) in omega arith

  -- a station's call; it has no restart
  station-hands : (B : List (List ℕ)) → ((b : List ℕ) → Mem b B → GoodBlock n b) → (k : ℕ) (m : Memory) → Sound n m → n ≤ k → m.group.own ≡ no_number → (d : AnyCall) → MayBeAt n k d
      → Hands n no_number B (any_step m d)
  station-hands B good k m s above e (call d) h =
      hands n no_number m B s e (λ t b q o z. absurd (none_from b (good b q) o)) (λ b q o z. absurd (none_from b (good b q) o)) start (call d) tt
  station-hands B good k m s above e (restart size own values j a l) h = absurd (let w : ⊥ = omega arith in w)

  -- ---- a list of calls

  module _ (cs : List CallAt) (f : Calls n cs) (p : Premise n start cs) where
    abbrev at : List CallAt → Members
    at l = run (fresh n start) l

    -- what the premise says of a call of the list
    may : (mid : List CallAt) (c : CallAt) → Comes cs mid c → Ours n start c.at ((at mid).memories c.at) c.does
    may mid c q =
        lent_ours n start c.at ((at mid).memories c.at) ((at mid).disks c.at) ((at mid).taken c.at) c.does (λ size own values j a l x b e.
        p.calls.lent mid c.at size own values j a l x b (q.0, q.1 ∙ ap (λ (d : AnyCall). mid ++ (record { at = c.at; does = d } ∷ q.0)) e))

    blocks-next : (mid : List CallAt) (c : CallAt) → Comes cs mid c → Blocks (at mid) → Blocks (next (at mid) c)
    blocks-next mid c q B = by member.stands
      where
        member : SoundAt n start setting (owes n start) c.at ((run (fresh n start) mid).memories c.at)
        member = stood n start setting cs f p mid (c ∷ q.0) q.1 c.at

        mark : (b : List ℕ) → Mem b (at mid).blocks → (header_of b).sender ≡ c.at → (header_of b).slot ≡ ((at mid).memories c.at).turn.slot → sent_already ((at mid).memories c.at) ≡ true
        mark b r o z = marked n start setting cs f p mid (c ∷ q.0) q.1 c.at b r (sym (owner_of_lem b (B.good b r)) ∙ o) z

        by : Standing n start setting (owes n start) c.at ((at mid).memories c.at) → Blocks (next (at mid) c)
        by (as-replica h e) = blocks-by (at mid) c c.at (λ l. refl) (λ l. refl) B
            (hands n c.at ((at mid).memories c.at) (at mid).blocks member.sound e (B.last c.at h) mark start c.does (may mid c q))
        by (as-station h e) =
            blocks-by (at mid) c no_number (λ l. absurd (let w : ⊥ = omega arith in w)) (λ l. absurd (let s = setting.most in let w : ⊥ = omega arith in w)) B
            (station-hands (at mid).blocks B.good c.at ((at mid).memories c.at) member.sound h e c.does
            (f c (subst (Mem c) (sym q.1) (Memᴰ.append_right mid (Memᴰ.head refl)))).0)

    module _ (before rest : List CallAt) (e : cs ≡ before ++ rest) where
      blocks-all : Blocks (at before)
      unfolding run
      blocks-all = walk (λ (l : List CallAt). Blocks (at l)) [] before
          (record { good = λ b q. absurd (Memᴰ.not-nil q); last = λ k h t b q. absurd (Memᴰ.not-nil q) })
          (λ mid c q B. subst Blocks (sym (run_on mid (fresh n start) c))
          (blocks-next mid c (q.0 ++ rest, e ∙ ap (λ (l : List CallAt). l ++ rest) q.1 ∙ append_assoc mid (c ∷ q.0) rest) B))

      -- ---- a block given
      module _ (k : ℕ) (b : List ℕ) (m : Mem b (run (fresh n start) before).blocks) where
        abbrev mine : Memory
        mine = (run (fresh n start) before).memories k

        good : GoodBlock n b
        good = blocks-all.good b m

        -- an own block that the turn has not passed is the one sent for it
        sent-for : k < n → slot_past mine b ≡ false → (header_of b).sender ≡ k → is_own_block mine b ≡ true
        sent-for h u o =
            let w : owner_of n (header_of b).slot ≡ k = sym (owner_of_lem b good) ∙ o in
            let a = past n start setting cs f p before rest e k b m w in
            let c = ltb-false (header_of b).slot mine.turn.slot u in
            let z : (header_of b).slot ≡ mine.turn.slot = omega arith in
            let t = marked n start setting cs f p before rest e k b m w z in
            joined t (subst (λ (x : List ℕ). same_bytes b x ≡ true) (blocks-all.last k h t b m o z) (bytes_same b))

        -- at a station there is none
        ours : slot_past mine b ≡ false → not_sent_here mine b ≡ false
        ours u = bool_by (eqb (header_of b).sender mine.group.own)
            (λ q. by (eqb-true (header_of b).sender mine.group.own q) (stood n start setting cs f p before rest e k).stands) (λ q. rw q refl)
          where
            by : (header_of b).sender ≡ mine.group.own → Standing n start setting (owes n start) k mine → not_sent_here mine b ≡ false
            by o (as-replica h q) = rw (sent-for h u (o ∙ q)) (and_no (eqb (header_of b).sender mine.group.own))
            by o (as-station h q) = absurd (none_from b good (o ∙ q))

        pub givable : Givable ((run (fresh n start) before).memories k) b
        givable = record { taken = good.taken; replicas = good.replicas ∙ sym (size-at n start setting cs f p before rest e k); ours = ours }
