-- A restart keeps what holds of one replica by itself: what it is lent is in slot order, and the turn's slot in it is of a known fate. Assumes nothing.
use Prim.Native.Nat.{◌<◌, ◌≤◌, max, suc, ℕ}
use mathlib.Core.Path.{◌∙◌, ◌≡◌, ap, refl, sym}
use mathlib.Core.Bool.{Bool, false, true, cond}
use mathlib.Core.Option.{Option, none, some}
use mathlib.Core.List.Memᴰ
use mathlib.Core.List.{List, [], ◌++◌, ◌∷◌}
use native.Mathlib.Omega.{arith}
use lib.ListN.{length}
use lib.Dec.{ltb}
use borrow.Author.Tests.{ltb-true, ne_eqb}
use Rattle.protocol.specs.Lists.{opt, Mem}
use Rattle.protocol.specs.Writesets.{Message}
use Rattle.protocol.specs.Notices.{Notice, Outage, is_out, outages_of, no_outages}
use Rattle.protocol.specs.Replica.{Setup, Replica, Event}
use Rattle.protocol.specs.Moves.{outgoing, out_here, at_turn}
use Rattle.protocol.specs.Journal.{Journal, append, Cut, in_slot_order, of_out_slot, last_of, out_end, next_of, journal_after, appended}
use Rattle.protocol.specs.System.{messages_after, notices_after, Call, restart, step, appends, PlacesApart, PlacesWithin}
use Rattle.protocol.proofs.ListLaws.{cond_by, bool_by, clash, no_some, and_true}
use Rattle.protocol.proofs.SequenceLaws.{mem_at}
use Rattle.protocol.proofs.RestartLaws.{last-of}
use Rattle.protocol.proofs.Moved.{Moved, stays, takes, skips, sends, leaves_own, leaves_other, call_by}
use Rattle.protocol.proofs.Lone.{Formed, Ordered, Lone, LoneAt, no_message, ordered-snoc, ordered-take, ordered-read}
use Rattle.protocol.proofs.LoneSteps.{P, at_turn_lem}

module _ {X : Type 0} (S : Setup X) (A : PlacesApart S) (N : PlacesWithin S) (B : List (Message X)) (formed : (m : Message X) → Mem m B → Formed S m)
    (l : List Notice) (J : Journal X) (r : Replica X) (L : LoneAt S B l J r) where
  -- a message of a journal in slot order has a slot below its length
  pub slot-below : (K : List (Message X)) → Ordered S K → (m : Message X) → Mem m K → m.slot < length K
  slot-below K O m h = let a = mem_at (no_message S) K m h in let b = O.slots a.0 a.1.0 in let c : m.slot ≡ a.0 = ap (λ (x : Message X). x.slot) a.1.1 ∙ b in let d : a.0 < length K = a.1.0 in omega arith

  ends-below : (n : List Notice) (K : List (Message X)) (k : ℕ) → ((m : Message X) → Mem m K → m.slot < k) → out_end n K ≤ k
  unfolding out_end
  ends-below n [] k f = omega arith
  ends-below n (m ∷ K) k f = let a = ends-below n K k (λ y h. f y (Memᴰ.tail h)) in let b = f m (Memᴰ.head refl) in
      cond_by (λ (v : ℕ). max v (out_end n K) ≤ k) (of_out_slot n m) (λ e. omega arith) (λ e. omega arith)

  -- the last message of an out slot is below the end
  pub end-above : (n : List Notice) (K : List (Message X)) (m : Message X) → of_out_slot n m ≡ true → m.slot < out_end n (K ++ (m ∷ []))
  unfolding out_end
  end-above n [] m e = rw e (omega arith)
  end-above n (x ∷ K) m e = let a = end-above n K m e in omega arith

  pub unsent-long : r.cursor.sent ≡ false → length J.kept ≡ r.cursor.turn
  unsent-long f = L.pace ∙ ap (λ (b : Bool). cond b (suc r.cursor.turn) r.cursor.turn) f

  pub not-sent : out_here S r r.cursor.turn ≡ true → r.cursor.sent ≡ false
  not-sent h = bool_by r.cursor.sent (λ e. absurd (clash h (L.mine e).live)) (λ e. e)

  pub other-unsent : (x : Message X) → at_turn S r ≡ some x → (x.sender ≡ r.own → ⊥) → r.cursor.sent ≡ false
  other-unsent x e d = bool_by r.cursor.sent
      (λ s. absurd (d ((L.waits (S.place r.cursor.turn) x e).formed.sender ∙ ap S.owner (at_turn_lem S A N B formed l J r L x e) ∙ (L.mine s).mine))) (λ s. s)

  next-formed : out_here S r r.cursor.turn ≡ true → Formed S (next_of r.cursor.turn (S.owner r.cursor.turn))
  next-formed u = record { sender = refl; slot = ltb-true r.cursor.turn S.slot_limit (and_true (ltb r.cursor.turn S.slot_limit) _ u).0 }

  pub next-appended : (turn : ℕ) (e : Event X) → out_here S r r.cursor.turn ≡ true → turn ≡ suc r.cursor.turn → e ≡ Event.passed (S.owner r.cursor.turn) []
      → appended S r turn e ≡ some (next_of r.cursor.turn (S.owner r.cursor.turn))
  unfolding appended
  next-appended turn e u i v = rw (v, i, u, ne_eqb (suc r.cursor.turn) r.cursor.turn (λ d. omega arith)) refl

  -- with what a call appends the journal is in slot order
  pub more-ordered : (turn : ℕ) (e : Event X) → Moved S r turn e → Ordered S (append J.kept (appended S r turn e))
  unfolding appended
  more-ordered turn e (stays i a q) = rw a L.ordered
  more-ordered turn e (takes n i b v) = rw v L.ordered
  more-ordered turn e (skips u i v) = rw (next-appended turn e u i v)
      (ordered-snoc S J.kept (next_of r.cursor.turn (S.owner r.cursor.turn)) L.ordered (sym (unsent-long (not-sent u))) (next-formed u))
  more-ordered turn e (sends i o u s v b) = rw v (ordered-snoc S J.kept (outgoing r) L.ordered (sym (unsent-long s)) (record { sender = sym o; slot = b }))
  more-ordered turn e (leaves_own u x h w i a q) = rw a L.ordered
  more-ordered turn e (leaves_other u x h w i a q) = rw a
      (ordered-snoc S J.kept x L.ordered (at_turn_lem S A N B formed l J r L x h ∙ sym (unsent-long (other-unsent x h w))) (L.waits (S.place r.cursor.turn) x h).formed)

  module _ (lent : List (Message X)) (notices : List Notice) (H : ((c : Call X) × Cut J (appends S r (step S r c)) lent) × (notices ≡ l)) where
    C : Cut J (appends S r (step S r H.0.0)) lent
    C = H.0.1

    -- what the cut call had appended
    all-ordered : (c : Call X) → Ordered S (append J.kept (appends S r (step S r c)))
    all-ordered = call_by S r (λ c. Ordered S (append J.kept (appends S r (step S r c)))) (λ c m. more-ordered (step S r c).replica.cursor.turn (step S r c).event m)
        (λ k n. unfold step appended in L.ordered)

    pub lent-ordered : Ordered S lent
    lent-ordered = rw C.part (ordered-take S (append J.kept (appends S r (step S r H.0.0))) C.count (all-ordered H.0.0))

    pub lent-read : in_slot_order 0 lent ≡ lent
    lent-read = ordered-read S lent lent-ordered

    pub restart-lone : P S A N B formed l J r L (step S r (restart lent notices))
    unfolding step messages_after notices_after journal_after appended
    restart-lone = rw lent-read (go (last_of r.own notices lent) refl)
      where
        told-now : (s : ℕ) → outages_of S.slot_limit no_outages notices (S.owner s) ≡ r.blocks.outages (S.owner s)
        told-now s = ap (λ (n : List Notice). outages_of S.slot_limit no_outages n (S.owner s)) H.1 ∙ sym (L.told.kept s)

        at : (C' : List (Message X)) (n : ℕ) → J.safe ≤ n → n ≤ length lent
            → Lone S C' l (record { kept = lent; safe = n }) r.own (length lent) false (λ p. none) (outages_of S.slot_limit no_outages notices)
        at C' n lo hi = record {
          ordered = lent-ordered;
          pace = refl;
          safe = hi;
          mine = λ h. clash {b = false} h refl;
          waits = λ p x e. no_some refl e;
          told = record {
            since = L.told.since;
            past = (let a = L.told.firm in omega arith);
            firm = (let a = L.told.firm in omega arith);
            says = λ s h b. ap (λ (o : Outage). is_out o s) (told-now s) ∙ L.told.says s h b;
            kept = λ s. ap (λ (n : List Notice). outages_of S.slot_limit no_outages n (S.owner s)) H.1;
          };
        }

        go : (o : Option (Message X)) → last_of r.own notices lent ≡ o
            → Lone S (opt o B (λ m. B ++ (m ∷ []))) l (record { kept = lent; safe = max (max J.safe (out_end notices lent)) (opt o 0 (λ m. suc m.slot)) }) r.own (length lent) false (λ p. none)
            (outages_of S.slot_limit no_outages notices)
        go none e = at B (max (max J.safe (out_end notices lent)) 0) (omega arith)
            (let a = C.enough in let b = ends-below notices lent (length lent) (slot-below lent lent-ordered) in omega arith)
        go (some m) e = at (B ++ (m ∷ [])) (max (max J.safe (out_end notices lent)) (suc m.slot)) (omega arith)
            (let a = C.enough in let b = ends-below notices lent (length lent) (slot-below lent lent-ordered) in let c = slot-below lent lent-ordered m (last-of r.own notices lent m e).0 in omega arith)
