-- A group after a first part of a list of calls that has the premise: what the invariant says there of the blocks handed out. Assumes nothing.
use Prim.Native.Nat.{ℕ, ◌≤◌, ◌<◌}
use mathlib.Core.Path.{◌≡◌, refl, sym, ap, ◌∙◌, subst}
use mathlib.Core.Bool.{Bool, true, false}
use mathlib.Core.List.{List, [], ◌∷◌, ◌++◌, append_assoc, append-nil}
use native.Mathlib.Omega.{arith}
use lib.IntN.{ℤ}
use lib.ListN.{length}
use Rattle.block.specs.Message.{owner_of}
use Rattle.block.specs.Answers.{header_of}
use Rattle.memory.specs.Memory.{Memory}
use Rattle.engine.specs.Make.{Setting}
use Rattle.engine.specs.Moves.{sent_already}
use Rattle.protocol.specs.Lists.{Mem}
use Rattle.protocol.proofs.ListLaws.{mem-map}
use Rattle.protocol.proofs.Fates.{out_of}
use Rattle.protocol.proofs.Slots.{handed-known}
use Rattle.agreement.specs.Group.{message_in, CallAt, fresh, run, Calls, Premise}
use Rattle.agreement.proofs.View.{setup}
use Rattle.agreement.proofs.DeliverStep.{slot_said}
use Rattle.agreement.proofs.Replicas.{SoundAt}
use Rattle.agreement.proofs.Runs.{own_is}
use Rattle.agreement.proofs.OneList.{model_lists}
use Rattle.agreement.proofs.Theorem.{owes, InvAfter, inv-after}

-- to prove P of a list with `later` at its end, prove it without, and that each member of `later` keeps it
pub walk : {A : Type 0} (P : List A → Type 0) (before later : List A) → P before
    → ((mid : List A) (c : A) → ((after : List A) × (later ≡ mid ++ (c ∷ after))) → P (before ++ mid) → P (before ++ (mid ++ (c ∷ [])))) → P (before ++ later)
walk P before [] p f = subst P (sym (append-nil before)) p
walk {A} P before (c ∷ cs) p f =
    subst P (append_assoc before (c ∷ []) cs)
    (walk P (before ++ (c ∷ [])) cs (f [] c (cs, refl) (subst P (sym (append-nil before)) p)) (λ mid d q r.
    subst P (sym (append_assoc before (c ∷ []) (mid ++ (d ∷ []))))
    (f (c ∷ mid) d (q.0, ap (λ (l : List A). c ∷ l) q.1) (subst P (append_assoc before (c ∷ []) mid) r))))

module _ (n : ℕ) (start : List ℤ) (setting : Setting n start) (cs : List CallAt) (f : Calls n cs) (p : Premise n start cs) where
  -- the slots that the lists at the end put out
  abbrev pub outs : ℕ → Bool
  outs = out_of (setup n start) (model_lists p.lists)

  module _ (before rest : List CallAt) (e : cs ≡ before ++ rest) where
    pub inv : InvAfter n start setting p.lists before
    inv = inv-after n start setting cs f p before rest e

    abbrev mem : ℕ → Memory
    mem k = (run (fresh n start) before).memories k

    -- every member's memory, a station's too
    pub stood : (k : ℕ) → SoundAt n start setting (owes n start) k ((run (fresh n start) before).memories k)
    stood k = inv.whole.sound k tt

    pub size-at : (k : ℕ) → ((run (fresh n start) before).memories k).group.replicas ≡ n
    size-at k = (stood k).sound.size

    pub own_at : (k : ℕ) → k < n → ((run (fresh n start) before).memories k).group.own ≡ k
    own_at k h = own_is n start setting (owes n start) k (mem k) (stood k) h

    -- the slot of a block handed out is one of the log's, and not out
    pub known : (b : List ℕ) → Mem b (run (fresh n start) before).blocks → ((header_of b).slot < length inv.inv.log) × (outs (header_of b).slot ≡ false)
    known b m =
        let a = handed-known (setup n start) outs _ inv.inv (message_in b) (mem-map message_in (run (fresh n start) before).blocks b m) in
        let s = slot_said b in
        (rw s at a.0, rw s at a.1)

    -- a replica has sent for its turn, or has passed it, where a block of its slot is handed out
    pub marked : (k : ℕ) (b : List ℕ) → Mem b (run (fresh n start) before).blocks → owner_of n (header_of b).slot ≡ k → (header_of b).slot ≡ (mem k).turn.slot → sent_already (mem k) ≡ true
    marked k b m o z =
        let a = known b m in
        (inv.inv.each k).track.mark (ap (owner_of n) (sym z) ∙ o) (ap outs (sym z) ∙ a.1) (let l = a.0 in omega arith)

    pub past : (k : ℕ) (b : List ℕ) → Mem b (run (fresh n start) before).blocks → owner_of n (header_of b).slot ≡ k → (header_of b).slot ≤ (mem k).turn.slot
    past k b m o = let a = known b m in (inv.inv.each k).track.past (header_of b).slot a.0 o a.1
