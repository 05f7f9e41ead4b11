-- What a block handed out is answered; without notices neither 18 nor 29 at a replica: it is within N of every turn, since each replica passes its own slots itself. Assumes nothing.
use Prim.Native.Nat.{ℕ, ◌+◌, ◌-◌, ◌≤◌, ◌<◌}
use mathlib.Core.Path.{◌≡◌, refl, sym, ap, ◌∙◌, subst}
use mathlib.Core.Bool.{false}
use mathlib.Core.Logic.{◌⊎◌, inl, inr}
use mathlib.Core.List.{List, [], ◌∷◌, ◌++◌, append-nil, map}
use native.Mathlib.Omega.{arith}
use lib.Dec.{ltb}
use lib.IntN.{ℤ}
use lib.ListN.{length}
use borrow.Author.Tests.{ltb-true, ltb-false, leb-true}
use Rattle.block.specs.Message.{owner_of}
use Rattle.block.specs.Answers.{header_of}
use Rattle.memory.specs.Memory.{Memory, slot_limit}
use Rattle.memory.specs.Notices.{Notice, is_out, puts_out}
use Rattle.engine.specs.Make.{Setting}
use Rattle.engine.specs.Calls.{refusal_of}
use Rattle.engine.specs.Calls.Call.{deliver}
use Rattle.engine.proofs.Tests.{bool_by, less_by, clash}
use Rattle.engine.proofs.PlaceLaws.{own_slot}
use Rattle.engine.proofs.Refusals.{refusals}
use Rattle.protocol.specs.Lists.{Mem}
use Rattle.protocol.specs.Notices.{out_by}
use Rattle.agreement.specs.Group.{notice_in, CallAt, fresh, run, Calls, about, Premise}
use Rattle.agreement.proofs.View.{out-same}
use Rattle.agreement.proofs.RestartView.{puts_same}
use Rattle.agreement.proofs.OneList.{beginnings}
use Rattle.agreement_progress.specs.Progress.{HandedAnswers, HandedUnnoticed}
use Rattle.agreement_progress.proofs.NoticeLists.{puts_about}
use Rattle.agreement_progress.proofs.Come.{given_by, given-number}
use Rattle.agreement_progress.proofs.Parts.{outs, inv, stood, size-at, known}
use Rattle.agreement_progress.proofs.Blocks.{givable}

pub handed-answers : HandedAnswers
unfolding refusal_of
handed-answers n start setting cs f p k b q =
    let m = (run (fresh n start) cs).memories k in
    let e = sym (append-nil cs) in
    subst (λ (a : ℕ). (a ≡ 0) ⊎ ((a ≡ 17) ⊎ ((a ≡ 18) ⊎ ((a ≡ 20) ⊎ (a ≡ 29))))) (sym (refusals.number m (deliver b)))
    (given-number m (stood n start setting cs f p cs [] e k).sound.shape b (givable n start setting cs f p cs [] e k b q))

-- ---- without notices

none_left : (l m : List Notice) → ◌≡◌ {A = List Notice} [] (l ++ m) → l ≡ []
none_left [] m e = refl
none_left (a ∷ l) m e = let z = ap length e in absurd (let w : ⊥ = omega arith in w)

module _ (n : ℕ) (start : List ℤ) (setting : Setting n start) (cs : List CallAt) (f : Calls n cs) (p : Premise n start cs) (none : (k : ℕ) → p.lists k ≡ []) where
  abbrev now : ℕ → Memory
  now k = (run (fresh n start) cs).memories k

  whole : cs ≡ cs ++ []
  whole = sym (append-nil cs)

  no-outs : (s : ℕ) → outs n start setting cs f p s ≡ false
  unfolding out_by
  no-outs s = ap (λ (l : List Notice). out_by false (map notice_in l) s) (none (owner_of n s))

  no-puts : (k s : ℕ) → puts_out false ((run (fresh n start) cs).taken k) (owner_of n s) s ≡ false
  unfolding puts_out
  no-puts k s =
      let t = (run (fresh n start) cs).taken k in
      let B = beginnings n start cs p.lists p.one k (owner_of n s) in
      sym (puts_about (owner_of n s) s false t) ∙ ap (λ (l : List Notice). puts_out false l (owner_of n s) s) (none_left (about (owner_of n s) t) B.lacking (sym (none (owner_of n s)) ∙ B.whole))

  -- no slot from the turn on is out
  live : (k s : ℕ) → (now k).turn.slot ≤ s → is_out (now k).group s ≡ false
  live k s h = bool_by (ltb s slot_limit)
      (λ e. let T = ((inv n start setting cs f p cs [] whole).whole.lone.each k).told in
      let a = T.past in
      sym (out-same n start (now k) (size-at n start setting cs f p cs [] whole k) s) ∙ rw e (T.says s (omega arith) (ltb-true s slot_limit e))
      ∙ puts_same false ((run (fresh n start) cs).taken k) (owner_of n s) s ∙ no-puts k s)
      (λ e. rw e refl)

  near : (k : ℕ) → k < n → (b : List ℕ) → Mem b (run (fresh n start) cs).blocks → (header_of b).slot < (now k).turn.slot + n
  near k h b m =
      let l = (known n start setting cs f p cs [] whole b m).0 in
      less_by (header_of b).slot n (λ u. omega arith) (λ u.
      let o = own_slot n k ((header_of b).slot - n) h in
      let a = o.1 in
      let d = o.2 in
      let c = ((inv n start setting cs f p cs [] whole).inv.each k).track.past o.0 (omega arith) o.3 (no-outs o.0) in
      omega arith)

pub handed-unnoticed : HandedUnnoticed
unfolding refusal_of
handed-unnoticed n start setting cs f p none k h b q =
    let m = (run (fresh n start) cs).memories k in
    let e = sym (append-nil cs) in
    subst (λ (a : ℕ). (a ≡ 0) ⊎ ((a ≡ 17) ⊎ (a ≡ 20))) (sym (refusals.number m (deliver b)))
    (given_by m (stood n start setting cs f p cs [] e k).sound.shape b (givable n start setting cs f p cs [] e k b q) inl (λ u z. inr (inl z))
    (λ u z. absurd (let a = leb-true (((run (fresh n start) cs).memories k).turn.slot + ((run (fresh n start) cs).memories k).group.replicas) (header_of b).slot u in
    let c = near n start setting cs f p none k h b q in let d = size-at n start setting cs f p cs [] e k in let w : ⊥ = omega arith in w))
    (λ u t z. inr (inr z))
    (λ u v z. clash v (live n start setting cs f p none k (header_of b).slot (ltb-false _ _ u))))
