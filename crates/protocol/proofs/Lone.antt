-- What holds of one replica by itself, whatever the others do: its journal is in slot order and keeps pace with its turn, what waits and what it sent was handed out, and its outages are
-- those of the notices that it has taken. Assumes nothing.
use Prim.Native.Nat.{◌+◌, ◌<◌, ◌≤◌, suc, ℕ}
use mathlib.Core.Path.{◌∙◌, ◌≡◌, ap, refl, subst, sym}
use mathlib.Core.Bool.{Bool, ◌&&◌, false, true, cond}
use mathlib.Core.Option.{Option, some}
use mathlib.Core.List.Memᴰ
use mathlib.Core.List.{List, [], ◌++◌, ◌∷◌}
use native.Mathlib.Nat.{add-zero}
use native.Mathlib.Omega.{arith}
use lib.ListN.{get_or-append, drop, get_or, length, length-append, length-take, take, take-append-drop}
use lib.Seq.{get_or-append_seam, get_or-take}
use lib.Dec.{ltb}
use borrow.Author.Tests.{eq-eqb}
use Rattle.protocol.specs.Lists.{Mem}
use Rattle.protocol.specs.Writesets.{Message}
use Rattle.protocol.specs.Notices.{Notice, puts_out, Outage, is_out, outages_of, no_outages}
use Rattle.protocol.specs.Replica.{Setup, Replica}
use Rattle.protocol.specs.Journal.{Journal, in_slot_order}
use Rattle.protocol.proofs.ListLaws.{less_by, snoc-all}

module _ {X : Type 0} (S : Setup X) where
  -- a message of a slot's owner
  pub record Formed (m : Message X) : Type 0 where
    pub sender : m.sender ≡ S.owner m.slot
    pub slot : m.slot < S.slot_limit

  -- the notices taken put the slot out
  abbrev pub out_in : (ℕ → Outage) → ℕ → Bool
  out_in f s = ltb s S.slot_limit && is_out (f (S.owner s)) s

  -- message x waits in place p; B the messages handed out
  pub record Waits (B : List (Message X)) (own turn : ℕ) (sent : Bool) (f : ℕ → Outage) (p : ℕ) (x : Message X) : Type 0 where
    pub here : S.place x.slot ≡ p
    pub low : turn ≤ x.slot
    pub high : x.slot < turn + S.size
    pub handed : Mem x B
    pub formed : Formed x
    pub live : out_in f x.slot ≡ false
    pub back : x.sender ≡ own → (sent ≡ true) × (x.slot ≡ turn)

  -- the own message of the turn's slot is handed out
  pub record Sent (B : List (Message X)) (own turn : ℕ) (f : ℕ → Outage) : Type 0 where
    pub mine : S.owner turn ≡ own
    pub live : out_in f turn ≡ false
    pub message : Message X
    pub handed : Mem message B
    pub formed : Formed message
    pub slot : message.slot ≡ turn

  -- from slot b on the outages are what the notices l say; b is where the last was taken
  pub record Told (l : List Notice) (turn safe : ℕ) (f : ℕ → Outage) : Type 0 where
    pub since : ℕ
    pub past : since ≤ turn
    pub firm : since ≤ safe
    pub says : (s : ℕ) → since ≤ s → s < S.slot_limit → is_out (f (S.owner s)) s ≡ puts_out l (S.owner s) s
    pub kept : (t : ℕ) → f (S.owner t) ≡ outages_of S.slot_limit no_outages l (S.owner t)

  abbrev pub no_message : Message X
  no_message = record { slot = 0; sender = 0; writesets = [] }

  -- a journal in slot order
  pub record Ordered (J : List (Message X)) : Type 0 where
    pub slots : (i : ℕ) → i < length J → (get_or J i no_message).slot ≡ i
    pub formed : (m : Message X) → Mem m J → Formed m

  pub record Lone (B : List (Message X)) (l : List Notice) (J : Journal X) (own turn : ℕ) (sent : Bool) (places : ℕ → Option (Message X)) (f : ℕ → Outage) : Type 0 where
    pub ordered : Ordered J.kept
    pub pace : length J.kept ≡ cond sent (suc turn) turn
    pub safe : J.safe ≤ length J.kept
    pub mine : sent ≡ true → Sent B own turn f
    pub waits : (p : ℕ) (x : Message X) → places p ≡ some x → Waits B own turn sent f p x
    pub told : Told l turn J.safe f

  abbrev pub LoneAt : List (Message X) → List Notice → Journal X → Replica X → Type 0
  LoneAt B l J r = Lone B l J r.own r.cursor.turn r.cursor.sent r.blocks.places r.blocks.outages

  -- ---- more messages handed out
  module _ (B C : List (Message X)) (more : (m : Message X) → Mem m B → Mem m C) where
    pub waits-more : (own turn : ℕ) (sent : Bool) (f : ℕ → Outage) (p : ℕ) (x : Message X) → Waits B own turn sent f p x → Waits C own turn sent f p x
    waits-more own turn sent f p x w = record { here = w.here; low = w.low; high = w.high; handed = more x w.handed; formed = w.formed; live = w.live; back = w.back }

    pub sent-more : (own turn : ℕ) (f : ℕ → Outage) → Sent B own turn f → Sent C own turn f
    sent-more own turn f s = record { mine = s.mine; live = s.live; message = s.message; handed = more s.message s.handed; formed = s.formed; slot = s.slot }

    pub lone-more : (l : List Notice) (J : Journal X) (r : Replica X) → LoneAt B l J r → LoneAt C l J r
    lone-more l J r L = record {
      ordered = L.ordered;
      pace = L.pace;
      safe = L.safe;
      mine = λ e. sent-more r.own r.cursor.turn r.blocks.outages (L.mine e);
      waits = λ p x e. waits-more r.own r.cursor.turn r.cursor.sent r.blocks.outages p x (L.waits p x e);
      told = L.told;
    }

  -- ---- one more message at the journal's end
  pub ordered-snoc : (J : List (Message X)) (m : Message X) → Ordered J → m.slot ≡ length J → Formed m → Ordered (J ++ (m ∷ []))
  ordered-snoc J m O e f = record {
    slots = λ i h. less-of i h;
    formed = snoc-all Formed J m O.formed f;
  }
    where
      less-of : (i : ℕ) → i < length (J ++ (m ∷ [])) → (get_or (J ++ (m ∷ [])) i no_message).slot ≡ i
      less-of i h = less_by i (length J)
          (λ g. ap (λ (x : Message X). x.slot) (get_or-append J (m ∷ []) no_message i g) ∙ O.slots i g)
          (λ g. let q : i ≡ length J = (let a = length-append J (m ∷ []) in omega arith) in
          ap (λ (n : ℕ). (get_or (J ++ (m ∷ [])) n no_message).slot) q ∙ ap (λ (x : Message X). x.slot) (get_or-append_seam J m [] no_message) ∙ e ∙ sym q)

  -- a first part of it
  pub ordered-take : (J : List (Message X)) (n : ℕ) → Ordered J → Ordered (take n J)
  ordered-take J n O = record {
    slots = λ i h. let g : i < n = (let a = length-take n J in omega arith) in ap (λ (x : Message X). x.slot) (get_or-take n J i no_message g) ∙ O.slots i (let a = length-take n J in omega arith);
    formed = λ m h. O.formed m (subst (Mem m) (take-append-drop n J) (Memᴰ.append_left (drop n J) h));
  }

  read-from : (J : List (Message X)) (s : ℕ) → ((i : ℕ) → i < length J → (get_or J i no_message).slot ≡ s + i) → in_slot_order s J ≡ J
  unfolding in_slot_order
  read-from [] s f = refl
  read-from (m ∷ J) s f = rw (eq-eqb m.slot s (f 0 (omega arith) ∙ add-zero s), read-from J (suc s) (λ i h. f (suc i) (omega arith) ∙ (let e : s + suc i ≡ suc s + i = omega arith in e)))

  -- is all read by a restart
  pub ordered-read : (J : List (Message X)) → Ordered J → in_slot_order 0 J ≡ J
  ordered-read J O = read-from J 0 (λ i h. O.slots i h ∙ (let e : i ≡ 0 + i = omega arith in e))
