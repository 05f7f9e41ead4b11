-- A member that has reached a turn, with nothing of it done, has the values of the slots below it: at whichever of two lists of calls it did. Assumes nothing.
use Prim.Native.Nat.{ℕ, ◌+◌}
use mathlib.Core.Path.{◌≡◌, refl, sym, ap, ◌∙◌, subst}
use mathlib.Core.Bool.{Bool, true, false}
use mathlib.Core.List.Memᴰ
use mathlib.Core.List.{List, [], ◌∷◌}
use native.Mathlib.Omega.{arith}
use lib.Dec.{eqb, ltb}
use lib.IntN.{ℤ}
use lib.ListN.{length, get_or, take, drop, take-append-drop}
use lib.Seq.{take-append_seam}
use borrow.Author.Tests.{eqb-true}
use Rattle.memory.specs.Memory.{Memory}
use Rattle.memory.specs.Notices.{Notice}
use Rattle.engine.specs.Answers.{Outcome}
use Rattle.engine.specs.Make.{Setting, made_memory}
use Rattle.engine.specs.Client.{begin_at, read_only_at, queue_at, rewrite_at, insert_write, stale_at, withdraw_at, report_step}
use Rattle.engine.specs.Moves.{send_now, deliver_now, block_at_turn, is_last, pass_next, commit_writeset, pass_out, writeset_at}
use Rattle.engine.specs.Calls.{Call, step}
use Rattle.engine.specs.Calls.Call.{begin, read, write, ask, withdraw, report, send, deliver, work, load, notice}
use Rattle.engine.specs.Restart.{restarted_memory}
use Rattle.engine.specs.History.{AnyCall, any_step}
use Rattle.engine.specs.History.AnyCall.{call, restart}
use Rattle.engine.proofs.Tests.{cond_by}
use Rattle.engine.proofs.Steps.{begin-by, read_by, write-by, ask-by, withdraw-by, send_by, deliver-by, work-by, load-by, notice-by, restart-by}
use Rattle.engine.proofs.ShapeWriteset.{committed}
use Rattle.protocol.specs.Lists.{Mem}
use Rattle.protocol.specs.Observer.{Handout, sequence, apply_all}
use Rattle.protocol.proofs.SequenceLaws.{sequence-append, handouts_by}
use Rattle.protocol.proofs.Fates.{out_of}
use Rattle.agreement.specs.Group.{heard, Members, CallAt, fresh, did, next, run}
use Rattle.agreement.proofs.View.{setup}
use Rattle.agreement.proofs.OneList.{model_lists}
use Rattle.agreement.proofs.Theorem.{InvAfter}
use Rattle.agreement_giving.proofs.OneLog.{same-below}

-- ---- a call that moves the turn leaves nothing done

abbrev Anew : Memory → Outcome → Type 0
Anew m o = (o.memory.turn.slot ≡ m.turn.slot → ⊥) → o.memory.counts.done ≡ 0

stays : {A : Type 0} {x : ℕ} → (x ≡ x → ⊥) → A
stays d = absurd (d refl)

call_anew : (m : Memory) (c : Call) → Anew m (step m c)
unfolding begin_at stale_at rewrite_at insert_write read_only_at queue_at withdraw_at send_now deliver_now pass_next commit_writeset pass_out
call_anew m begin = begin-by (Anew m) m (λ e. stays) (λ e. stays)
call_anew m (read t i) = read_by (Anew m) m t i (λ e. stays) (λ e. stays)
call_anew m (write t i v) = write-by (Anew m) m t i v (λ e. stays) (λ e o. stays) (λ e o. stays) (λ r e q. stays)
call_anew m (ask t) = ask-by (Anew m) m t (λ e. stays) (λ e o. stays) (λ e. stays)
call_anew m (withdraw t) = withdraw-by (Anew m) m t (λ e. stays) (λ e. stays)
call_anew m report = unfold step report_step in stays
call_anew m (send b) = send_by (Anew m) m b (λ e. stays) (λ r e q. stays)
call_anew m (deliver b) = deliver-by (Anew m) m b (λ e. stays) (λ e. stays)
call_anew m work = work-by (Anew m) m (λ e u d. refl) (λ e k d. refl) (λ e k. by (eqb (get_or (block_at_turn m) 1 0) m.group.own) (is_last m)) (λ e. stays)
  where
    by : (mine last : Bool) → ((committed m mine mine last (writeset_at (block_at_turn m) m.counts.done)).turn.slot ≡ m.turn.slot → ⊥)
        → (committed m mine mine last (writeset_at (block_at_turn m) m.counts.done)).counts.done ≡ 0
    by mine true d = refl
    by true false d = stays d
    by false false d = stays d
call_anew m (load l) = load-by (Anew m) m l (λ e. stays) (λ e. stays)
call_anew m (notice a) = notice-by (Anew m) m a (λ e. stays) (λ e. stays)

any_anew : (m : Memory) (c : AnyCall) → Anew m (any_step m c)
unfolding restarted_memory
any_anew m (call c) = call_anew m c
any_anew m (restart size own values j t l) = restart-by (Anew m) m size own values j t l (λ e d. refl) (λ e. stays)

pub next_anew : (g : Members) (c : CallAt) (k : ℕ) → (((next g c).memories k).turn.slot ≡ (g.memories k).turn.slot → ⊥) → ((next g c).memories k).counts.done ≡ 0
next_anew g c k = cond_by (λ (m : Memory). (m.turn.slot ≡ (g.memories k).turn.slot → ⊥) → m.counts.done ≡ 0) (eqb k c.at)
    (λ e. let z = eqb-true k c.at e in subst (λ (i : ℕ). ((did g c).memory.turn.slot ≡ (g.memories i).turn.slot → ⊥) → (did g c).memory.counts.done ≡ 0) (sym z) (any_anew (g.memories c.at) c.does))
    (λ e. stays)

pub fresh-turn : (n : ℕ) (start : List ℤ) (k : ℕ) → ((fresh n start).memories k).turn.slot ≡ 0
unfolding made_memory
fresh-turn n start k = cond_by (λ (m : Memory). m.turn.slot ≡ 0) (ltb k n) (λ e. refl) (λ e. refl)

-- handouts are never lost
pub grows : (cs : List CallAt) (g : Members) (h : Handout ℤ) → Mem h g.handouts → Mem h (run g cs).handouts
unfolding run
grows [] g h m = m
grows (c ∷ cs) g h m = grows cs (next g c) h
    (handouts_by (λ (D : List (Handout ℤ)). Mem h D) g.handouts c.at (g.observed c.at) (heard c.does (did g c).answer) m (λ x. Memᴰ.append_left _ m))

-- ---- the values

take_sequence : (D : List (Handout ℤ)) (t : ℕ) → take (length (sequence (take t D))) (sequence D) ≡ sequence (take t D)
take_sequence D t =
    ap (take (length (sequence (take t D)))) (ap sequence (sym (take-append-drop t D)) ∙ sequence-append (take t D) (drop t D))
    ∙ take-append_seam (sequence (take t D)) (sequence (drop t D))

module _ (n : ℕ) (start : List ℤ) (setting : Setting n start) (l : ℕ → List Notice) where
  values-at : (cs : List CallAt) (I : InvAfter n start setting l cs) (k : ℕ) → let m = (run (fresh n start) cs).memories k in
      m.counts.done ≡ 0 → m.store.values ≡ apply_all start (sequence (take m.turn.slot I.inv.log))
  values-at cs I k z =
      let m = (run (fresh n start) cs).memories k in
      let T = (I.inv.each k).track in
      let D = I.inv.log in
      let e : m.counts.commits ≡ length (sequence (take m.turn.slot D)) = (let c : m.counts.commits ≡ length (sequence (take m.turn.slot D)) + m.counts.done = T.count in omega arith) in
      T.values ∙ ap (λ (x : ℕ). apply_all start (take x (sequence D))) e ∙ ap (apply_all start) (take_sequence D m.turn.slot)

  -- at replica i after one list, at replica j after another, with the same out slots
  pub same-values : (a b : List CallAt) → InvAfter n start setting l a → InvAfter n start setting l b
      → ((h : Handout ℤ) → Mem h (run (fresh n start) b).handouts → Mem h (run (fresh n start) a).handouts)
      → (i j : ℕ) → let x = (run (fresh n start) a).memories i in let y = (run (fresh n start) b).memories j in
      x.turn.slot ≡ y.turn.slot → x.counts.done ≡ 0 → y.counts.done ≡ 0 → x.store.values ≡ y.store.values
  same-values a b I J sub i j t u v =
      let x = (run (fresh n start) a).memories i in
      let y = (run (fresh n start) b).memories j in
      let r = (I.inv.each i).track.reach in
      let s = (J.inv.each j).track.reach in
      values-at a I i u
      ∙ ap (apply_all start) (sym (same-below (setup n start) (out_of (setup n start) (model_lists l)) _ _ I.inv J.inv sub x.turn.slot r (omega arith)))
      ∙ ap (λ (z : ℕ). apply_all start (sequence (take z J.inv.log))) t ∙ sym (values-at b J j v)
