-- A notice keeps what is sent: none puts out the slot that a block was sent for. Assumes nothing.
use Prim.Native.Nat.{ℕ}
use mathlib.Core.Path.{◌≡◌, refl, sym, ap, ◌∙◌}
use mathlib.Core.Bool.{Bool, true, false, cond, ◌&&◌}
use native.Mathlib.Omega.{arith}
use lib.Dec.{leb, ltb}
use lib.ListN.{get_or}
use lib.Seq.{get_or-set_same, get_or-set_other}
use borrow.Author.Tests.{eq-eqb}
use Rattle.block.proofs.BoolLaws.{not_so}
use Rattle.memory.specs.Memory.{Memory, owner_at, slot_limit, with_group}
use Rattle.memory.specs.Notices.{Notice, is_out, with_notice}
use Rattle.engine.specs.Moves.{sent_already}
use Rattle.engine.specs.Notices.{notice_refusal}
use Rattle.engine.specs.Shape.{Shape}
use Rattle.engine.specs.Sent.{SentShape}
use Rattle.engine.proofs.Tests.{cond_by, bool_by, same_by, clash}
use Rattle.engine.proofs.Passed.{notice_passed, out-passed, back-passed}

and_off : (a b c : Bool) → b ≡ false → (a && (b && c)) ≡ false
and_off true b c e = rw e refl
and_off false b c e = refl

-- with an earlier end it is still not out
held_back : (a b c : Bool) → (a && (b && a)) ≡ false → (a && (b && c)) ≡ false
held_back true true c e = clash {b = true} refl e
held_back true false c e = refl
held_back false b c e = refl

module _ {over : ℕ} (m : Memory) (S : Shape over m) (Q : SentShape m) (a : Notice) (e : notice_refusal m a ≡ 0) where
  module _ (t : sent_already m ≡ true) where
    -- the replica whose slot the turn is at: this one
    abbrev k : ℕ
    k = owner_at m.group m.turn.slot

    -- an own Out is of a later slot
    ahead : a.out ≡ true → a.about ≡ m.group.own → leb a.slot m.turn.slot ≡ false
    ahead o q =
        let u = (out-passed m a e o).unsent in
        not_so (leb a.slot m.turn.slot) (λ l. clash {b = true} refl (rw (eq-eqb a.about m.group.own q, t, l) at u))

    other : (a.about ≡ owner_at m.group m.turn.slot → ⊥) → is_out (with_notice m.group a) m.turn.slot ≡ false
    other d =
        let f : get_or (with_notice m.group a).from k 0 ≡ get_or m.group.from k 0 =
        cond_by (λ z. get_or z k 0 ≡ get_or m.group.from k 0) a.out (λ o. get_or-set_other m.group.from a.about k a.slot 0 (λ q. d (sym q))) (λ o. refl) in
        let g : get_or (with_notice m.group a).until k 0 ≡ get_or m.group.until k 0 =
        get_or-set_other m.group.until a.about k (cond a.out slot_limit a.slot) 0 (λ q. d (sym q)) in
        rw (f, g) (Q.awaited t)

    mine : a.about ≡ owner_at m.group m.turn.slot → is_out (with_notice m.group a) m.turn.slot ≡ false
    mine q =
        bool_by a.out
        (λ o. let f : get_or (with_notice m.group a).from k 0 ≡ a.slot =
        rw (o, ← q) (get_or-set_same m.group.from a.about a.slot 0 (omega (arith, (notice_passed m a e).about, S.ranges.most, S.lengths.from))) in
        and_off (ltb m.turn.slot slot_limit) _ _ (ap (λ (z : ℕ). leb z m.turn.slot) f ∙ ahead o (q ∙ Q.turn t)))
        (λ o. let f : get_or (with_notice m.group a).from k 0 ≡ get_or m.group.from k 0 = rw o refl in
        let u : get_or m.group.until k 0 ≡ slot_limit = ap (λ (z : ℕ). get_or m.group.until z 0) (sym q) ∙ (back-passed m a e o).endless in
        rw f (held_back (ltb m.turn.slot slot_limit) (leb (get_or m.group.from k 0) m.turn.slot) _ (rw u at (Q.awaited t))))

    still-awaited : is_out (with_notice m.group a) m.turn.slot ≡ false
    still-awaited = same_by a.about k mine other

  pub sent-noticed : SentShape (with_group m (with_notice m.group a))
  sent-noticed = record { turn = Q.turn; awaited = still-awaited; own = Q.own; once = Q.once; live = Q.live; only = Q.only }
