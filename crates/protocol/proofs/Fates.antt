-- The fate of every slot, fixed by the one list of notices at the end of a run: what a call passes as out is out, and what it hands out is not. Assumes nothing.
use Prim.Native.Nat.{◌<◌, ◌≤◌, suc, ℕ}
use mathlib.Core.Path.{◌∙◌, ◌≡◌, ap, refl, sym}
use mathlib.Core.Bool.{Bool, false, true}
use mathlib.Core.Option.{Option, none, some}
use mathlib.Core.List.Memᴰ
use mathlib.Core.List.{List, [], ◌++◌, ◌∷◌}
use native.Mathlib.Omega.{arith}
use lib.ListN.{get_or, length, length-append, length-take, take}
use lib.Seq.{take_all}
use lib.Dec.{eqb, ltb}
use borrow.Author.Tests.{lt-ltb, ltb-true, ne_eqb}
use Rattle.protocol.specs.Lists.{Mem}
use Rattle.protocol.specs.Writesets.{Message}
use Rattle.protocol.specs.Notices.{Notice, notices_about, out_by, puts_out}
use Rattle.protocol.specs.Replica.{Setup, Cursor, Replica, Event, passed, restarted}
use Rattle.protocol.specs.Moves.{outgoing, out_here}
use Rattle.protocol.specs.Journal.{Journal, append, Cut, last_of, out_end, next_of, journal_after, appended}
use Rattle.protocol.specs.System.{messages_after, notices_after, Call, restart, System, Beginning, OneList, step, appends, journal_next, Lent, PlacesApart, PlacesWithin}
use Rattle.protocol.specs.Machine.{Alike}
use Rattle.protocol.proofs.ListLaws.{bool_by, clash, update_same, keep_append, keep-mem, mem-get_or, and_true}
use Rattle.protocol.proofs.NoticeLaws.{out-append, out-ahead}
use Rattle.protocol.proofs.RestartLaws.{last_snoc}
use Rattle.protocol.proofs.Moved.{Moved, stays, takes, skips, sends, leaves_own, leaves_other, refusing, call_by}
use Rattle.protocol.proofs.Lone.{Formed, LoneAt, no_message}
use Rattle.protocol.proofs.LoneSteps.{at_turn_lem}
use Rattle.protocol.proofs.LoneRestart.{end-above, lent-ordered, lent-read, unsent-long, not-sent, next-appended}
use Rattle.protocol.proofs.Invariant.{Fits}
use Rattle.protocol.proofs.Deeds.{messages-grow, AllLone, Deed, Done, next, reach, AllDone, next-lone, Below, reach-below, reach-messages}

module _ {X : Type 0} (S : Setup X) where
  -- the slots that the one list puts out
  abbrev pub out_of : (ℕ → List Notice) → ℕ → Bool
  out_of list s = out_by false (list (S.owner s)) s

  module _ (A : PlacesApart S) (N : PlacesWithin S) (Member : ℕ → Type 0) (list : ℕ → List Notice) where
    -- of a slot that member j has left for good, the notices that it has taken say what the list does
    fate : (ds : List (Deed S)) (w : System X) → AllLone S w → AllDone S w ds → OneList Member list (reach S w ds) → (j : ℕ) → Member j → (s : ℕ) → Below S A N w j s
        → out_of list s ≡ puts_out (w.notices j) (S.owner s) s
    fate ds w W D O j here s H =
        ap (λ (l : List Notice). out_by false l s) b.whole ∙ out-append false (notices_about k ((reach S w ds).notices j)) b.lacking s
        ∙ out-ahead (out_by false (notices_about k ((reach S w ds).notices j)) s) b.lacking s (λ n h. let c = b.ahead n h in let d = a.0 in omega arith)
        ∙ ap (λ (l : List Notice). out_by false (notices_about k l) s) a.1.1.0 ∙ ap (λ (l : List Notice). out_by false l s) (keep_append (λ (n : Notice). eqb n.about k) (w.notices j) a.1.0)
        ∙ out-append false (notices_about k (w.notices j)) (notices_about k a.1.0) s
        ∙ out-ahead (out_by false (notices_about k (w.notices j)) s) (notices_about k a.1.0) s (λ n h. a.1.1.1 n (keep-mem (λ (m : Notice). eqb m.about k) a.1.0 n h).0)
      where
        k : ℕ
        k = S.owner s

        a : (s < ((reach S w ds).replicas j).cursor.turn) × ((more : List Notice) × (((reach S w ds).notices j ≡ w.notices j ++ more) × ((n : Notice) → Mem n more → s < n.slot)))
        a = reach-below S A N ds w W D j s H

        b : Beginning (notices_about (S.owner s) ((reach S w ds).notices j)) (list (S.owner s)) ((reach S w ds).replicas j).cursor.turn
        b = O.taken j here (S.owner s)

    -- a message handed out by the end is of no out slot
    live : (v : System X) → OneList Member list v → (m : Message X) → Formed S m → Mem m v.messages → out_of list m.slot ≡ false
    live v O m f h = ap (λ (k : ℕ). out_by false (list k) m.slot) (sym f.sender) ∙ O.handed m h

    -- ---- a deed of member k in w, that is a call's step, and what comes after it
    module _ (w : System X) (W : AllLone S w) (d : Deed S) (D : Done S w d) (ds : List (Deed S)) (E : AllDone S (next S w d) ds) (O : OneList Member list (reach S (next S w d) ds)) (here : Member d.at)
        (c : Call X) (same : d.outcome.event ≡ (step S (w.replicas d.at) c).event) (alike : Alike S (step S (w.replicas d.at) c).replica d.outcome.replica)
        (lent : Lent S (w.journals d.at) (w.notices d.at) (w.replicas d.at) c) where
      abbrev k : ℕ
      k = d.at

      abbrev r : Replica X
      r = w.replicas d.at

      abbrev t : ℕ
      t = (w.replicas d.at).cursor.turn

      abbrev J : Journal X
      J = w.journals d.at

      abbrev l : List Notice
      l = w.notices d.at

      abbrev B : List (Message X)
      B = w.messages

      L : LoneAt S w.messages (w.notices d.at) (w.journals d.at) (w.replicas d.at)
      L = W.each d.at

      W' : AllLone S (next S w d)
      W' = next-lone S A N w W d D

      turn-now : ((next S w d).replicas d.at).cursor.turn ≡ (step S (w.replicas d.at) c).replica.cursor.turn
      turn-now = ap (λ (x : Replica X). x.cursor.turn) (update_same w.replicas d.at d.outcome.replica) ∙ ap (λ (x : Cursor). x.turn) alike.cursor

      journal-now : (next S w d).journals d.at ≡ journal_next S (w.journals d.at) (w.replicas d.at) (step S (w.replicas d.at) c)
      journal-now = update_same w.journals d.at (journal_next S (w.journals d.at) (w.replicas d.at) d.outcome) ∙ rw (same, alike.cursor) refl

      notices-now : (next S w d).notices d.at ≡ notices_after (w.notices d.at) (step S (w.replicas d.at) c).event
      notices-now = update_same w.notices d.at (notices_after (w.notices d.at) d.outcome.event) ∙ ap (notices_after (w.notices d.at)) same

      -- a slot left for good by this deed
      fate-now : (s : ℕ) → s < (step S r c).replica.cursor.turn → s < (journal_next S J r (step S r c)).safe → out_of list s ≡ puts_out (notices_after l (step S r c).event) (S.owner s) s
      fate-now s lo hi = fate ds (next S w d) W' E O d.at here s (rw turn-now lo, rw journal-now hi) ∙ ap (λ (n : List Notice). puts_out n (S.owner s) s) notices-now

      -- what this deed hands out
      live_now : (m : Message X) → Mem m (messages_after B (step S r c).event) → out_of list m.slot ≡ false
      live_now m h = let g : Mem m (next S w d).messages = rw same h in live (reach S (next S w d) ds) O m (W'.formed m g) (reach-messages S A N ds (next S w d) m g)

      -- what was handed out before
      live-before : (m : Message X) → Mem m B → out_of list m.slot ≡ false
      live-before m h = let g = messages-grow B d.outcome.event m h in live (reach S (next S w d) ds) O m (W'.formed m g) (reach-messages S A N ds (next S w d) m g)

      -- the outages at the turn are what the notices say
      says : t < S.slot_limit → out_here S r t ≡ puts_out l (S.owner t) t
      says h = rw (lt-ltb t S.slot_limit h) (L.told.says t L.told.past h)

      out-small : out_here S r t ≡ true → t < S.slot_limit
      out-small u = ltb-true t S.slot_limit (and_true (ltb t S.slot_limit) _ u).0

      -- an out slot passed by a work
      skipped : (turn : ℕ) (e : Event X) → turn ≡ (step S r c).replica.cursor.turn → e ≡ (step S r c).event → out_here S r t ≡ true → turn ≡ suc t → e ≡ passed (S.owner t) [] → out_of list t ≡ true
      unfolding journal_after appended notices_after
      skipped turn e a b u i v =
          let q : (step S r c).replica.cursor.turn ≡ suc t = sym a ∙ i in
          let x : (step S r c).event ≡ passed (S.owner t) [] = sym b ∙ v in
          let n = length-append J.kept (next_of t (S.owner t) ∷ []) in
          let p = unsent-long S A N B W.formed l J r L (not-sent S A N B W.formed l J r L u) in
          fate-now t (omega arith) (rw (q, x, u, ne_eqb (suc t) t (λ z. omega arith)) (omega arith)) ∙ rw x (sym (says (out-small u))) ∙ u

      -- ---- a restart
      module _ (K : List (Message X)) (notices : List Notice) (is : c ≡ restart K notices) (reaches : t < length K) where
        H : ((c : Call X) × Cut J (appends S r (step S r c)) K) × (notices ≡ l)
        H = lent K notices is

        -- the slot is one
        small : t < S.slot_limit
        small = let O = lent-ordered S A N B W.formed l J r L K notices H in
            let a = (O.formed (get_or K t (no_message S)) (mem-get_or (no_message S) K t reaches)).slot in let b = O.slots t reaches in omega arith

        told : puts_out notices (S.owner t) t ≡ out_here S r t
        told = ap (λ (n : List Notice). puts_out n (S.owner t) t) H.1 ∙ sym (says small)

        event-is : (step S r c).event ≡ restarted K notices (last_of r.own notices K)
        event-is = ap (λ (x : Call X). (step S r x).event) is ∙ (unfold step in rw (lent-read S A N B W.formed l J r L K notices H) refl)

        turn_is : (step S r c).replica.cursor.turn ≡ length K
        turn_is = ap (λ (x : Call X). (step S r x).replica.cursor.turn) is ∙ (unfold step in ap length (lent-read S A N B W.formed l J r L K notices H))

        safe-is : out_end notices K ≤ (journal_next S J r (step S r c)).safe
        unfolding journal_after
        safe-is = rw event-is (omega arith)

        both_false : out_here S r t ≡ false → out_of list t ≡ false → out_here S r t ≡ out_of list t
        both_false a b = a ∙ sym b

        -- the whole of the journal and of what the cut call had appended
        all_of : (m : Message X) (count : ℕ) → r.cursor.sent ≡ false → K ≡ take count (J.kept ++ (m ∷ [])) → K ≡ J.kept ++ (m ∷ [])
        all_of m count f e = e ∙ take_all count (J.kept ++ (m ∷ [])) (let a = ap length e ∙ length-take count (J.kept ++ (m ∷ [])) in let b = length-append J.kept (m ∷ []) in
            let p = unsent-long S A N B W.formed l J r L f in let q = reaches in omega arith)

        -- sent, or left by another's message: it was handed out
        was-handed : out_here S r t ≡ false → (x : Message X) → Mem x B → x.slot ≡ t → out_here S r t ≡ out_of list t
        was-handed u x h e = both_false u (ap (out_of list) (sym e) ∙ live-before x h)

        nothing-more : (count : ℕ) → r.cursor.sent ≡ false → K ≡ take count J.kept → out_here S r t ≡ out_of list t
        nothing-more count f e = absurd (let a = ap length e ∙ length-take count J.kept in let p = unsent-long S A N B W.formed l J r L f in let q = reaches in let z : ⊥ = omega arith in z)

        moved : (turn : ℕ) (e : Event X) → Moved S r turn e → Cut J (appended S r turn e) K → out_here S r t ≡ out_of list t
        moved turn e M C = bool_by r.cursor.sent (λ s. let q = L.mine s in was-handed q.live q.message q.handed q.slot) (λ s. go M s)
          where
            none_of : appended S r turn e ≡ none → r.cursor.sent ≡ false → out_here S r t ≡ out_of list t
            none_of a s = nothing-more C.count s (C.part ∙ ap (λ (o : Option (Message X)). take C.count (append J.kept o)) a)

            go : Moved S r turn e → r.cursor.sent ≡ false → out_here S r t ≡ out_of list t
            go (stays i a q) s = none_of a s
            go (takes n i b v) s = none_of (rw v (unfold appended in refl)) s
            go (leaves_own u x h y i a q) s = none_of a s
            go (leaves_other u x h y i a q) s = was-handed u x (L.waits (S.place t) x h).handed (at_turn_lem S A N B W.formed l J r L x h)
            go (sends i o u f v b) s =
                let x : appended S r turn e ≡ some (outgoing r) = rw v (unfold appended in refl) in
                let e = all_of (outgoing r) C.count s (C.part ∙ ap (λ (o : Option (Message X)). take C.count (append J.kept o)) x) in
                let g : last_of r.own notices K ≡ some (outgoing r) = ap (last_of r.own notices) e ∙ last_snoc r.own notices J.kept (outgoing r) refl (ap (λ (j : ℕ). puts_out notices j t) (sym o) ∙ told ∙ u) in
                both_false u (live_now (outgoing r) (rw (event-is, g) (unfold messages_after in Memᴰ.append_right B (Memᴰ.head refl))))
            go (skips u i v) s =
                let e = all_of (next_of t (S.owner t)) C.count s (C.part ∙ ap (λ (o : Option (Message X)). take C.count (append J.kept o)) (next-appended S A N B W.formed l J r L turn e u i v)) in
                let a : t < out_end notices K = rw e (end-above S A N B W.formed l J r L notices J.kept (next_of t (S.owner t)) (told ∙ u)) in
                sym (fate-now t (let b = turn_is in let q = reaches in omega arith) (let b = safe-is in omega arith) ∙ rw event-is (unfold notices_after in sym (says small)))

        pub fits-lent : (puts_out notices (S.owner t) t ≡ out_here S r t) × (out_here S r t ≡ out_of list t)
        fits-lent = (
          told,
          call_by S r (λ z. Cut J (appends S r (step S r z)) K → out_here S r t ≡ out_of list t) (λ z M C. moved (step S r z).replica.cursor.turn (step S r z).event M C)
              (λ K' n C. moved r.cursor.turn (Event.refused 0) (refusing S r 0) (unfold step appended in C)) H.0.0 H.0.1,
        )

      -- the call fits the fates
      pub fits : Fits S (out_of list) (w.replicas d.at) c
      fits = record {
        passed = λ u i. by_call c refl u i;
        handed = λ m e. live_now m (rw e (unfold messages_after in Memᴰ.append_right B (Memᴰ.head refl)));
        given = λ K n m e. live_now m (rw e (unfold messages_after in Memᴰ.append_right B (Memᴰ.head refl)));
        lent = λ K n e h. fits-lent K n e h;
      }
        where
          by-moved : (turn : ℕ) (e : Event X) → turn ≡ (step S r c).replica.cursor.turn → e ≡ (step S r c).event → Moved S r turn e → out_here S r t ≡ true → turn ≡ suc t → out_of list t ≡ true
          by-moved turn e a b (stays i x q) u j = absurd (let z : ⊥ = omega arith in z)
          by-moved turn e a b (takes n i x v) u j = absurd (let z : ⊥ = omega arith in z)
          by-moved turn e a b (skips y i v) u j = skipped turn e a b u i v
          by-moved turn e a b (sends i o y s v x) u j = absurd (let z : ⊥ = omega arith in z)
          by-moved turn e a b (leaves_own y x h m i q z) u j = clash u y
          by-moved turn e a b (leaves_other y x h m i q z) u j = clash u y

          by_call : (z : Call X) → c ≡ z → out_here S r t ≡ true → (step S r c).replica.cursor.turn ≡ suc t → out_of list t ≡ true
          by_call = call_by S r (λ z. c ≡ z → out_here S r t ≡ true → (step S r c).replica.cursor.turn ≡ suc t → out_of list t ≡ true)
              (λ z M q u i. by-moved (step S r z).replica.cursor.turn (step S r z).event (ap (λ (x : Call X). (step S r x).replica.cursor.turn) (sym q)) (ap (λ (x : Call X). (step S r x).event) (sym q)) M u
              (ap (λ (x : Call X). (step S r x).replica.cursor.turn) (sym q) ∙ i))
              (λ K n q u i. let H = lent K n q in
              let a : (step S r c).replica.cursor.turn ≡ length K = ap (λ (x : Call X). (step S r x).replica.cursor.turn) q ∙ (unfold step in ap length (lent-read S A N B W.formed l J r L K n H)) in
              sym (fits-lent K n q (omega arith)).1 ∙ u)
