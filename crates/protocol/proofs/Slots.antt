-- What the group's invariant says of single slots, of the messages handed out and of the journals. Assumes nothing.
use Prim.Native.Nat.{◌<◌, ℕ}
use mathlib.Core.Path.{◌∙◌, ◌≡◌, ap, subst, sym}
use mathlib.Core.Bool.{Bool, false, not, true}
use mathlib.Core.List.{List, Nodup, map}
use native.Mathlib.Omega.{arith}
use lib.ListN.{get_or, length, length-map}
use lib.Seq.{get_or-take}
use Rattle.protocol.specs.Lists.{Mem}
use Rattle.protocol.specs.Writesets.{Message}
use Rattle.protocol.specs.Replica.{Setup}
use Rattle.protocol.specs.Journal.{next_of}
use Rattle.protocol.specs.Observer.{Placed, Handout, sequence, id_of, handout_message, no_handout}
use Rattle.protocol.specs.System.{System}
use Rattle.protocol.proofs.ListLaws.{bool_by, mem-keep, mem-map, mem-get_or, get_or-map_in}
use Rattle.protocol.proofs.SequenceLaws.{mem_at}
use Rattle.protocol.proofs.Invariant.{SystemInv}
use Rattle.protocol.proofs.ClaimLaws.{handouts-sequence}

module _ {X : Type 0} (S : Setup X) (out : ℕ → Bool) where
  -- slot s in a group's messages B: it is out and m is its *next*, or it is not and m was handed out for it
  pub data OfSlot (B : List (Message X)) (s : ℕ) (m : Message X) : Type 0 where
    is_next_of : out s ≡ true → m ≡ next_of s (S.owner s) → OfSlot B s m
    is_handed : out s ≡ false → m.slot ≡ s → Mem m B → OfSlot B s m

  module _ (w : System X) (I : SystemInv S out w) where
    -- no ticket of a replica is handed out twice
    pub handed-once : Nodup (map id_of (sequence w.handouts))
    handed-once = subst (λ (F : List (Placed X)). Nodup (map id_of F)) (sym (handouts-sequence S out w.handouts I.log w.messages I.listed I.whole.in_order)) I.whole.once

    -- the log's message of a slot
    abbrev logged : ℕ → Message X
    logged s = handout_message (get_or I.log s no_handout)

    -- a message handed out is the log's, of a slot that is not out
    pub handed-known : (m : Message X) → Mem m w.messages → (m.slot < length I.log) × (out m.slot ≡ false) × (m ≡ handout_message (get_or I.log m.slot no_handout))
    handed-known m h =
        let a = mem_at (handout_message no_handout) (map handout_message I.log) m (I.whole.messages m h) in
        let b : a.0 < length I.log = (let n = length-map I.log handout_message in let c = a.1.0 in omega arith) in
        let e : m ≡ logged a.0 = a.1.1 ∙ get_or-map_in handout_message no_handout (handout_message no_handout) I.log a.0 b in
        let s : m.slot ≡ a.0 = ap (λ (x : Message X). x.slot) e ∙ I.whole.in_order.slot a.0 b in
        (rw s b, I.whole.live m h, e ∙ ap logged (sym s))

    -- the log's message of a slot that is not out was handed out
    pub slot-handed : (s : ℕ) → s < length I.log → out s ≡ false → Mem (handout_message (get_or I.log s no_handout)) w.messages
    slot-handed s h e = I.listed.same.all (logged s) (mem-map handout_message w.handouts (get_or I.log s no_handout) (subst (Mem (get_or I.log s no_handout)) (sym I.listed.of_log)
        (mem-keep (λ (x : Handout X). not (out x.slot)) I.log (get_or I.log s no_handout) (mem-get_or no_handout I.log s h) (rw (I.whole.in_order.slot s h, e)))))

    -- each slot of the log
    pub slot_of : (s : ℕ) → s < length I.log → OfSlot w.messages s (handout_message (get_or I.log s no_handout))
    slot_of s h = bool_by (out s) (λ e. is_next_of e (blank e)) (λ e. is_handed e (I.whole.in_order.slot s h) (slot-handed s h e))
      where
        blank : out s ≡ true → logged s ≡ next_of s (S.owner s)
        blank e = rw (I.whole.in_order.slot s h, I.whole.in_order.sender s h, I.whole.in_order.blank s h e)

    -- each slot below a replica's turn
    pub slot-below : (k s : ℕ) → s < (w.replicas k).cursor.turn → (m : Message X) × OfSlot w.messages s m
    slot-below k s h = (logged s, slot_of s (let a = (I.each k).track.reach in omega arith))

    -- each slot of a replica's journal
    pub slot-journaled : (k s : ℕ) → s < length (w.journals k).kept → OfSlot w.messages s (get_or (w.journals k).kept s (next_of 0 0))
    slot-journaled k s h = subst (OfSlot w.messages s) (sym is) (slot_of s b)
      where
        b : s < length I.log
        b = let a = (I.journals k).within in omega arith

        is : get_or (w.journals k).kept s (next_of 0 0) ≡ logged s
        is = ap (λ (l : List (Message X)). get_or l s (next_of 0 0)) (I.journals k).holds
            ∙ get_or-take (length (w.journals k).kept) (map handout_message I.log) s (next_of 0 0) h ∙ get_or-map_in handout_message no_handout (next_of 0 0) I.log s b
