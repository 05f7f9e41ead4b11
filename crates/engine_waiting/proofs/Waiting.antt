-- How long a change may wait. Assumes nothing.
use Prim.Native.Nat.{ℕ, ◌≤◌, ◌<◌}
use mathlib.Core.Path.{◌≡◌, sym, ap, ◌∙◌}
use mathlib.Core.Bool.{true, false, not}
use mathlib.Core.List.{List, [], ◌∷◌}
use native.Mathlib.Omega.{arith}
use lib.Dec.{leb}
use lib.ListN.{set}
use lib.Seq.{get_or-set_same}
use borrow.Author.Tests.{eq-eqb, leb-false, not-true}
use Rattle.block.specs.Message.{owner_of}
use Rattle.block.proofs.BoolLaws.{both, not_so}
use Rattle.memory.specs.declared.Txn.{Txn}
use Rattle.memory.specs.Memory.{Memory}
use Rattle.memory.specs.Rows.{closed, row_at}
use Rattle.engine.specs.Answers.{Answer, Outcome, number_of}
use Rattle.engine.specs.Answers.Answer.{queued}
use Rattle.engine.specs.Make.{made_memory}
use Rattle.engine.specs.Client.{row_no, row_in, read_only_at, queue_at}
use Rattle.engine.specs.Calls.{Call, step}
use Rattle.engine.specs.Calls.Call.{ask}
use Rattle.engine.specs.Restart.{restart_refusal}
use Rattle.engine.specs.Shape.{Shape}
use Rattle.engine.specs.History.{no_calls, counted, AnyCall, any_step, after_all}
use Rattle.engine.specs.History.AnyCall.{call, restart}
use Rattle.engine_waiting.specs.Waiting.{is_open_as, ends_all, open_after, leaves_out, passed_out, EndsBy, FirstSlot, Waiting}
use Rattle.engine.proofs.Tests.{same_by, clash}
use Rattle.engine.proofs.PlaceLaws.{own_slot}
use Rattle.engine.proofs.RowLaws.{row-found}
use Rattle.engine.proofs.Steps.{ask-by, restart-by}
use Rattle.engine.proofs.Passed.{RowPassed, neither, ask_passed}
use Rattle.engine.proofs.Frames.{frames}
use Rattle.engine.proofs.Shapes.{shapes}
use Rattle.engine.proofs.Reached.{Reached, made_reached, any_reached, all-reached}
use Rattle.engine_waiting.proofs.Due.{Due, due-each}
use Rattle.engine_waiting.proofs.First.{first_slot}

-- ---- lists of calls

-- no restart of the list was accepted where the transaction is open after it: an invariant of the calls holds then
module _ (P : Memory → Type 0) (ticket : ℕ) (each : (m : Memory) → Reached m → P m → (c : Call) → P (step m c).memory) where
  pub kept_by : (m : Memory) → Reached m → P m → (c : AnyCall) → ends_all m c ≡ false → P (any_step m c).memory
  kept_by m R p (call c) e = each m R p c
  kept_by m R p (restart n own values journal notices block) e =
      restart-by (λ (o : Outcome). P o.memory) m n own values journal notices block (λ z. clash (eq-eqb (restart_refusal m n own values block) 0 z) e) (λ z. p)

  pub along : (m : Memory) → Reached m → P m → (cs : List AnyCall) → open_after ticket m cs ≡ true → P (after_all m cs)
  unfolding open_after after_all
  along m R p [] e = p
  along m R p (c ∷ cs) e =
      let b = both (not (ends_all m c)) (open_after ticket (any_step m c).memory cs) e in
      along (any_step m c).memory (any_reached m R c) (kept_by m R p c (not-true (ends_all m c) b.left)) cs b.right

pub open_last : (ticket : ℕ) (m : Memory) (cs : List AnyCall) → open_after ticket m cs ≡ true → is_open_as ticket (after_all m cs) ≡ true
unfolding open_after after_all
open_last ticket m [] e = e
open_last ticket m (c ∷ cs) e = open_last ticket (any_step m c).memory cs (both (not (ends_all m c)) (open_after ticket (any_step m c).memory cs) e).right

pub row_below : (ticket : ℕ) (m : Memory) → is_open_as ticket m ≡ true → row_no m ticket < 6
row_below ticket m e = leb-false 6 (row_no m ticket) (not-true (leb 6 (row_no m ticket)) e)

-- ---- the ask

module _ (m : Memory) (R : Reached m) (ticket s : ℕ) (early : m.turn.slot < s) (owns : owner_of m.group.replicas s ≡ m.group.own) where
  abbrev After : Outcome → Type 0
  After o = Shape R.over o.memory → o.answer ≡ queued → (ticket ≡ 0 → ⊥) × Due ticket s o.memory

  empty-ends : After (read_only_at m (row_no m ticket))
  unfolding read_only_at counted
  empty-ends T e = absurd (let z : ◌≡◌ {A = ℕ} 1 0 = ap (λ (a : Answer). (counted 0 no_calls a).read_onlies) e in let y : ⊥ = omega arith in y)

  -- its row is asked now, and no other has the ticket
  joins : RowPassed m ticket → After (queue_at m (row_no m ticket) (row_in m (row_no m ticket)))
  unfolding queue_at
  joins p T e =
      let i = row_no m ticket in
      let f = row-found ticket m.txns.table R.shape.lengths.table p.row in
      let t = row_in m i in
      let new : Txn = record { ticket = t.ticket; stage = 1; snapshot = t.snapshot; writes = t.writes } in
      let w : row_at (set m.txns.table i new) i ≡ new = get_or-set_same m.txns.table i new closed (omega (arith, p.row, R.shape.lengths.table)) in (
        f.some,
        record {
          owner = owns;
          old = omega (arith, (R.shape.rows i p.row).given, f.is);
          rows = λ r h q. same_by r i
              (λ z. record {
                turn = omega arith;
                asked = rw (z, w) (λ x. omega arith);
                sent = λ x y. absurd (omega arith);
              })
              (λ d. absurd (T.distinct r i h p.row d (λ x. f.some (sym q ∙ x)) (q ∙ sym f.is ∙ ap (λ (x : Txn). x.ticket) (sym w))));
        },
      )

  asked-due : (step m (ask ticket)).answer ≡ queued → (ticket ≡ 0 → ⊥) × Due ticket s (step m (ask ticket)).memory
  asked-due =
      ask-by After m ticket (λ e. empty-ends) (λ e d. joins (ask_passed m ticket e)) (λ e T q. absurd (e (ap number_of q)))
      (shapes.each m R.shape (ask ticket))

-- ---- the bound

due_turn : (ticket s : ℕ) (m : Memory) → Reached m → Due ticket s m → is_open_as ticket m ≡ true → m.turn.slot ≤ s
due_turn ticket s m R D e =
    let h = row_below ticket m e in
    (D.rows (row_no m ticket) h (row-found ticket m.txns.table R.shape.lengths.table h).is).turn

-- a change due by a slot that is not passed as out
module _ (ticket s : ℕ) (some : ticket ≡ 0 → ⊥) where
  due-any : (m : Memory) → Reached m → Due ticket s m → (c : AnyCall) → leaves_out s m c ≡ false → ends_all m c ≡ false → Due ticket s (any_step m c).memory
  due-any m R D (call c) f e = due-each m R.shape R.sent ticket s some D c f
  due-any m R D (restart n own values journal notices block) f e =
      restart-by (λ (o : Outcome). Due ticket s o.memory) m n own values journal notices block
      (λ z. clash (eq-eqb (restart_refusal m n own values block) 0 z) e) (λ z. D)

  due_all : (m : Memory) → Reached m → Due ticket s m → (cs : List AnyCall) → passed_out s m cs ≡ false → open_after ticket m cs ≡ true → Due ticket s (after_all m cs)
  unfolding open_after after_all passed_out
  due_all m R D [] p e = D
  due_all m R D (c ∷ cs) p e =
      let b = both (not (ends_all m c)) (open_after ticket (any_step m c).memory cs) e in
      let q = neither (leaves_out s m c) (passed_out s (any_step m c).memory cs) p in
      due_all (any_step m c).memory (any_reached m R c) (due-any m R D c q.0 (not-true (ends_all m c) b.left)) cs q.1 b.right

ends_by : (m : Memory) → Reached m → (ticket : ℕ) → (step m (ask ticket)).answer ≡ queued → (s : ℕ) → m.turn.slot < s → owner_of m.group.replicas s ≡ m.group.own
    → EndsBy m ticket s
ends_by m R ticket q s l o cs p h =
    let k = (step m (ask ticket)).memory in
    let T = any_reached m R (call (ask ticket)) in
    let a = asked-due m R ticket s l o q in
    not_so (open_after ticket k cs) (λ e.
    let d = due_all ticket s a.0 k T a.1 cs p e in
    let z = due_turn ticket s (after_all k cs) (all-reached k T cs) d (open_last ticket k cs e) in
    omega arith)

first_ends : (m : Memory) → Reached m → (ticket : ℕ) → (step m (ask ticket)).answer ≡ queued → let asked = (step m (ask ticket)).memory in (ds : List AnyCall)
    → (s : ℕ) × FirstSlot asked m.turn.slot ds s × (s < (after_all asked ds).turn.slot → open_after ticket asked ds ≡ false)
first_ends m R ticket q ds =
    let k = (step m (ask ticket)).memory in
    let T = any_reached m R (call (ask ticket)) in
    let g = (frames.asks m ticket).kept.group in
    let f = first_slot k (T.shape.ranges.own T.replica) m.turn.slot ds in
    let o : owner_of m.group.replicas f.0 ≡ m.group.own = rw g at f.1.own in
    (f.0, f.1, ends_by m R ticket q f.0 f.1.above o ds f.1.counts)

pub waiting-bound : Waiting
waiting-bound = record {
  slot = λ n own values g cs ticket. ends_by (after_all (made_memory n own values) cs) (all-reached (made_memory n own values) (made_reached n own values g) cs) ticket;
  first = λ n own values g cs ticket. first_ends (after_all (made_memory n own values) cs) (all-reached (made_memory n own values) (made_reached n own values g) cs) ticket;
  bound = λ n own values g cs ticket q ds none h.
      let m = after_all (made_memory n own values) cs in
      let R = all-reached (made_memory n own values) (made_reached n own values g) cs in
      let s = own_slot m.group.replicas m.group.own m.turn.slot (R.shape.ranges.own R.replica) in
      ends_by m R ticket q s.0 s.1 s.3 ds (none s.0 s.1 s.2 s.3) (let l = s.2 in omega arith);
}
