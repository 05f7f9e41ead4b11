-- Progress: of the replicas that count take one with the lowest turn. Its slot is out there, and it can work; or a block was handed out for it and has come, and it can work; or its owner
-- counts, stands there and has not sent, and can send. Assumes nothing.
use Prim.Native.Nat.{ℕ, zero, suc, ◌≤◌, ◌<◌}
use mathlib.Core.Path.{◌≡◌, refl, sym, ap, ◌∙◌, subst}
use mathlib.Core.Bool.{Bool, true, false}
use mathlib.Core.Logic.{◌⊎◌, inl, inr}
use mathlib.Core.List.{List, [], ◌++◌, append-nil, map}
use native.Mathlib.Nat.{mod-lt}
use native.Mathlib.Omega.{arith}
use lib.IntN.{ℤ}
use lib.ListN.{length, length-map, get_or}
use borrow.Author.Tests.{lt-ltb}
use Rattle.block.specs.Message.{owner_of}
use Rattle.block.specs.Answers.{header_of}
use Rattle.memory.specs.Memory.{Memory, slot_limit}
use Rattle.memory.specs.Notices.{Notice, puts_out}
use Rattle.memory.specs.Turns.{is_empty}
use Rattle.engine.specs.Make.{Setting}
use Rattle.engine.specs.Moves.{out_at_turn, sent_already, nothing_waits}
use Rattle.engine.proofs.Tests.{bool_by, same_by, less_by, clash}
use Rattle.protocol.specs.Lists.{Mem}
use Rattle.protocol.specs.Writesets.{Message}
use Rattle.protocol.proofs.ListLaws.{mem-get_or, get_or-map_in}
use Rattle.protocol.proofs.SequenceLaws.{mem_at}
use Rattle.protocol.proofs.Slots.{OfSlot, is_next_of, is_handed, slot-below}
use Rattle.agreement.specs.Group.{message_in, CallAt, fresh, run, Calls, about, Premise}
use Rattle.agreement.proofs.View.{setup, Sound, out-same}
use Rattle.agreement.proofs.DeliverStep.{slot_said}
use Rattle.agreement.proofs.RestartView.{puts_same}
use Rattle.agreement.proofs.OneList.{beginnings, outs-same}
use Rattle.agreement_progress.specs.Progress.{HandedFor, OutFor, Counts, DownOut, SameNotices, AllGiven, SlotsLeft, SomeGoes, ProgressTheorem, everyone, NoneDown}
use Rattle.agreement_progress.proofs.NoticeLists.{puts_first, puts_about, puts-last}
use Rattle.agreement_progress.proofs.Come.{HasCome, works, works_out, sends}
use Rattle.agreement_progress.proofs.Parts.{outs, inv, stood, size-at, own_at}
use Rattle.agreement_progress.proofs.Given.{come-all}

-- one that counts with the lowest turn, of those below c; or none counts
abbrev Lowest : (ℕ → ℕ) → (ℕ → Bool) → ℕ → Type 0
Lowest turn counts c = (k : ℕ) × (k < c) × (counts k ≡ true) × ((j : ℕ) → j < c → counts j ≡ true → turn k ≤ turn j)

abbrev NoneCounts : (ℕ → Bool) → ℕ → Type 0
NoneCounts counts c = (j : ℕ) → j < c → counts j ≡ true → ⊥

lowest : (turn : ℕ → ℕ) (counts : ℕ → Bool) (c : ℕ) → Lowest turn counts c ⊎ NoneCounts counts c
lowest turn counts zero = inr (λ j h e. omega arith)
lowest turn counts (suc c) = bool_by (counts c) (λ t. inl (here t (lowest turn counts c))) (λ t. there t (lowest turn counts c))
  where
    here : counts c ≡ true → Lowest turn counts c ⊎ NoneCounts counts c → Lowest turn counts (suc c)
    here t (inl r) =
        less_by (turn c) (turn r.0)
        (λ l. (c, omega arith, t, λ j h e. same_by j c (λ z. rw z (omega arith)) (λ d. let a = r.3 j (omega (arith, d)) e in omega arith)))
        (λ l. (r.0, (let a = r.1 in omega arith), r.2, λ j h e. same_by j c (λ z. rw z l) (λ d. r.3 j (omega (arith, d)) e)))
    here t (inr g) = (c, omega arith, t, λ j h e. same_by j c (λ z. rw z (omega arith)) (λ d. absurd (g j (omega (arith, d)) e)))

    there : counts c ≡ false → Lowest turn counts c ⊎ NoneCounts counts c → Lowest turn counts (suc c) ⊎ NoneCounts counts (suc c)
    there t (inl r) = inl (r.0, (let a = r.1 in omega arith), r.2, λ j h e. same_by j c (λ z. clash (ap counts (sym z) ∙ e) t) (λ d. r.3 j (omega (arith, d)) e))
    there t (inr g) = inr (λ j h e. same_by j c (λ z. clash (ap counts (sym z) ∙ e) t) (λ d. g j (omega (arith, d)) e))

-- ---- the list's end

module _ (n : ℕ) (start : List ℤ) (setting : Setting n start) (cs : List CallAt) (f : Calls n cs) (p : Premise n start cs) where
  abbrev now : ℕ → Memory
  now k = (run (fresh n start) cs).memories k

  abbrev taken : ℕ → List Notice
  taken k = (run (fresh n start) cs).taken k

  whole : cs ≡ cs ++ []
  whole = sym (append-nil cs)

  sound : (k : ℕ) → Sound n ((run (fresh n start) cs).memories k)
  sound k = (stood n start setting cs f p cs [] whole k).sound

  -- the turn's slot is out where the notices taken put it out
  says : (k : ℕ) → (now k).turn.slot < slot_limit → out_at_turn (now k) ≡ puts_out false (taken k) (owner_of n (now k).turn.slot) (now k).turn.slot
  says k h =
      let t = (now k).turn.slot in
      let T = ((inv n start setting cs f p cs [] whole).whole.lone.each k).told in
      sym (out-same n start (now k) (sound k).size t) ∙ rw (lt-ltb t slot_limit h) (T.says t T.past h) ∙ puts_same false (taken k) (owner_of n t) t

  -- a message handed out is a block's
  block_of : (s : ℕ) (m : Message ℤ) → m.slot ≡ s → Mem m (map message_in (run (fresh n start) cs).blocks) → HandedFor n start cs s
  block_of s m z q =
      let a = mem_at (message_in []) (map message_in (run (fresh n start) cs).blocks) m q in
      let l : a.0 < length (run (fresh n start) cs).blocks = rw (length-map (run (fresh n start) cs).blocks message_in) at a.1.0 in
      let b = get_or (run (fresh n start) cs).blocks a.0 [] in
      let e : m ≡ message_in b = a.1.1 ∙ get_or-map_in message_in [] (message_in []) (run (fresh n start) cs).blocks a.0 l in
      (b, mem-get_or [] (run (fresh n start) cs).blocks a.0 l, sym (slot_said b) ∙ ap (λ (x : Message ℤ). x.slot) (sym e) ∙ z)

  -- one was for the turn for which a replica has sent
  sent-block : (k : ℕ) → sent_already (now k) ≡ true → HandedFor n start cs (now k).turn.slot
  sent-block k e = let m = ((inv n start setting cs f p cs [] whole).whole.lone.each k).mine e in block_of (now k).turn.slot m.message m.slot m.handed

  -- one was for a slot below a turn, or the notices taken there put it out
  below : (k s : ℕ) → s < (now k).turn.slot → (puts_out false (taken k) (owner_of n s) s ≡ true) ⊎ HandedFor n start cs s
  below k s h = let a = slot-below (setup n start) (outs n start setting cs f p) _ (inv n start setting cs f p cs [] whole).inv k s h in go a.0 a.1
    where
      -- what it lacks is of later slots
      same : puts_out false (p.lists (owner_of n s)) (owner_of n s) s ≡ puts_out false (taken k) (owner_of n s) s
      same =
          let B = beginnings n start cs p.lists p.one k (owner_of n s) in
          ap (λ (l : List Notice). puts_out false l (owner_of n s) s) B.whole ∙ puts_first (owner_of n s) s (about (owner_of n s) (taken k)) B.lacking (λ a q. let z = B.ahead a q in omega arith)
          ∙ puts_about (owner_of n s) s false (taken k)

      go : (m : Message ℤ) → OfSlot (setup n start) (outs n start setting cs f p) (map message_in (run (fresh n start) cs).blocks) s m
          → (puts_out false (taken k) (owner_of n s) s ≡ true) ⊎ HandedFor n start cs s
      go m (is_next_of u e) = inl (sym same ∙ sym (outs-same p.lists p.one.of_its (owner_of n s) s) ∙ u)
      go m (is_handed u e q) = inr (block_of s m e q)

  -- ---- the replicas that count

  module _ (counts : ℕ → Bool) (down : DownOut n start cs counts) (agree : SameNotices n start cs counts) (given : AllGiven n start cs counts) where
    -- the block of a replica's turn has come
    behind : (k : ℕ) → Counts n start cs counts k → HandedFor n start cs (now k).turn.slot → SomeGoes n start cs counts
    behind k c b =
        (k, c, inr (works (now k) (sound k).shape (waits (come-all n start setting cs f p k b.0 (given k c b.0 b.1 (let e = b.2 in omega arith))))))
      where
        waits : HasCome (header_of b.0).slot (now k) → nothing_waits (now k) ≡ false
        waits (inl q) = absurd (let e = b.2 in let z : ⊥ = omega arith in z)
        waits (inr w) = subst (λ (s : ℕ). is_empty (now k).group.replicas s (now k).blocks.places ≡ false) b.2 w.1

    -- k has the lowest turn, and its slot is not out there
    module _ (k : ℕ) (c : Counts n start cs counts k) (low : (j : ℕ) → Counts n start cs counts j → (now k).turn.slot ≤ (now j).turn.slot) (h : (now k).turn.slot < slot_limit)
        (live : puts_out false (taken k) (owner_of n (now k).turn.slot) (now k).turn.slot ≡ false) where
      abbrev t : ℕ
      t = (now k).turn.slot

      abbrev o : ℕ
      o = owner_of n (now k).turn.slot

      owner_below : owner_of n (now k).turn.slot < n
      unfolding owner_of
      owner_below = mod-lt t {m = n} (omega (arith, setting.least))

      -- so for every replica that counts
      live_at : (j : ℕ) → Counts n start cs counts j → puts_out false (taken j) o t ≡ false
      live_at j d =
          sym (puts_about o t false (taken j)) ∙ ap (λ (l : List Notice). puts_out false l o t) (agree j k d c o owner_below) ∙ puts_about o t false (taken k) ∙ live

      -- the owner counts, and stands at the slot
      owner-there : Counts n start cs counts o → (now o).turn.slot ≡ t → SomeGoes n start cs counts
      owner-there d e =
          bool_by (sent_already (now o))
          (λ s. behind k c (subst (HandedFor n start cs) e (sent-block o s)))
          (λ s. (o, d, inl (λ lent z. sends (now o) (sound o).shape lent z (rw e h) mine (says o (rw e h) ∙ ap (λ (s : ℕ). puts_out false (taken o) (owner_of n s) s) e ∙ live_at o d) s)))
        where
          mine : owner_of (now o).group.replicas (now o).turn.slot ≡ (now o).group.own
          mine = rw (size-at n start setting cs f p cs [] whole o, e, own_at n start setting cs f p cs [] whole o d.0) refl

      -- it counts, and has passed the slot
      owner-on : Counts n start cs counts o → t < (now o).turn.slot → SomeGoes n start cs counts
      owner-on d l = go (below o t l)
        where
          go : (puts_out false (taken o) o t ≡ true) ⊎ HandedFor n start cs t → SomeGoes n start cs counts
          go (inl u) = clash u (live_at o d)
          go (inr b) = behind k c b

      -- it is down
      owner-down : counts o ≡ false → SomeGoes n start cs counts
      owner-down e = less_by t v early late
        where
          D : OutFor n start cs k (owner_of n (now k).turn.slot)
          D = down o owner_below e k c

          v : ℕ
          v = (down (owner_of n (now k).turn.slot) owner_below e k c).v

          go : (puts_out false (taken k) o t ≡ true) ⊎ HandedFor n start cs t → SomeGoes n start cs counts
          go (inl u) = clash u live
          go (inr b) = behind k c b

          early : t < v → SomeGoes n start cs counts
          early l = go (D.passed t refl l)

          late : v ≤ t → SomeGoes n start cs counts
          late l = clash (puts-last o t D.earlier v l) (ap (λ (x : List Notice). puts_out false x o t) (sym D.last) ∙ puts_about o t false (taken k) ∙ live)

      goes-live : SomeGoes n start cs counts
      goes-live =
          bool_by (counts o)
          (λ e. same_by (now o).turn.slot t (owner-there (owner_below, e)) (λ d. owner-on (owner_below, e) (let l = low o (owner_below, e) in omega (arith, d))))
          owner-down

    goes : SlotsLeft n start cs counts → SomeGoes n start cs counts
    goes some = go (lowest (λ (k : ℕ). (now k).turn.slot) counts n)
      where
        go : Lowest (λ (k : ℕ). (now k).turn.slot) counts n ⊎ NoneCounts counts n → SomeGoes n start cs counts
        go (inl r) =
            let c : Counts n start cs counts r.0 = (r.1, r.2) in
            let l : (now r.0).turn.slot < slot_limit = (let a = r.3 some.0 some.1.0 some.1.1 in let b = some.2 in omega arith) in
            bool_by (out_at_turn (now r.0))
            (λ u. (r.0, c, inr (works_out (now r.0) (sound r.0).shape u)))
            (λ u. goes-live r.0 c (λ j d. r.3 j d.0 d.1) l (sym (says r.0 l) ∙ u))
        go (inr g) = absurd (g some.0 some.1.0 some.1.1)

pub progress : ProgressTheorem
progress n start setting cs f p counts down agree given some = goes n start setting cs f p counts down agree given some

pub none_down : NoneDown
none_down n start setting cs f p = progress n start setting cs f p everyone (λ d h e. clash {b = true} refl e)
