-- An own writeset that a work meets is open as sent, after any list of calls and restarts; and what a work does on any other memory. Assumes nothing.
use Prim.Native.Nat.{ℕ}
use mathlib.Core.Path.{◌≡◌, refl, sym, ap, ◌∙◌}
use mathlib.Core.Bool.{true, false}
use mathlib.Core.List.{List, []}
use native.Mathlib.Omega.{arith}
use lib.Dec.{eqb}
use lib.IntN.{ℤ}
use lib.ListN.{get_or}
use borrow.Author.Tests.{eqb-true, eqb-false, eq-eqb, not-true}
use Rattle.block.specs.Answers.{first_of}
use Rattle.block.proofs.BoolLaws.{both}
use Rattle.memory.specs.Memory.{Memory, is_station}
use Rattle.engine.specs.Answers.{number_of}
use Rattle.engine.specs.Answers.Answer.{refused}
use Rattle.engine.specs.Make.{made_memory, make_refusal}
use Rattle.engine.specs.Classes.{load_refusal}
use Rattle.engine.specs.Client.{row_no, begin_refusal, read_refusal, write_refusal, ask_refusal, withdraw_refusal}
use Rattle.engine.specs.Moves.{out_at_turn, block_at_turn, is_sent, work_lent, nothing_waits, send_refusal, deliver_refusal, work_refusal, is_last, appending, commit_writeset}
use Rattle.engine.specs.Notices.{notice_refusal}
use Rattle.engine.specs.Restart.{restart_refusal}
use Rattle.engine.specs.Calls.{Call, step, refusal_of}
use Rattle.engine.specs.Calls.Call.{begin, read, write, ask, withdraw, report, send, deliver, work, load, notice}
use Rattle.engine.specs.Shape.{Shape}
use Rattle.engine.specs.Sent.{SentShape}
use Rattle.engine.specs.History.{AnyCall, any_step, after_all}
use Rattle.engine.specs.History.AnyCall.{call, restart}
use Rattle.engine.specs.OwnSent.{writeset_met, meets_own, EndsNobody, OwnSent}
use Rattle.engine.proofs.Tests.{cond_by, clash, not_first}
use Rattle.engine.proofs.Steps.{work-by}
use Rattle.engine.proofs.ShapeWriteset.{ends-own}
use Rattle.engine.proofs.SentWork.{own-sent}
use Rattle.engine.proofs.Refusals.{at-replica, refusals}
use Rattle.engine.proofs.Restarts.{restarts}
use Rattle.engine.proofs.Reached.{made_reached, all-reached}
use Rattle.engine.proofs.Numbered.{write_lacks}

record Own (m : Memory) : Type 0 where
  kind : get_or (block_at_turn m) 0 0 ≡ 1 → ⊥
  mine : get_or (block_at_turn m) 1 0 ≡ m.group.own

own : (m : Memory) → meets_own m ≡ true → Own m
own m e =
    let c = both _ _ e in
    record { kind = eqb-false (get_or (block_at_turn m) 0 0) 1 (not-true _ c.left); mine = eqb-true (get_or (block_at_turn m) 1 0) m.group.own c.right }

-- ---- on a list of calls

sent_met : {over : ℕ} (m : Memory) → Shape over m → SentShape m → nothing_waits m ≡ false → meets_own m ≡ true → is_sent m (writeset_met m).ticket ≡ true
sent_met m S Q waits e = let o = own m e in own-sent m S Q waits o.kind o.mine

-- ---- on any memory

none_appended : (m : Memory) → eqb (get_or (block_at_turn m) 1 0) m.group.own ≡ true → appending m (is_last m) ≡ []
none_appended m h = cond_by (λ (l : List ℕ). l ≡ []) (is_last m) (λ e. rw h) (λ e. refl)

nobody : (m : Memory) → get_or (block_at_turn m) 1 0 ≡ m.group.own → is_sent m (writeset_met m).ticket ≡ false → EndsNobody m (commit_writeset m true (writeset_met m))
unfolding commit_writeset
nobody m o u =
    let ends = ends-own m.txns.table (writeset_met m).ticket in
    record {
      answer = rw (none_appended m (eq-eqb (get_or (block_at_turn m) 1 0) m.group.own o), o) refl;
      commits = refl;
      values = refl;
      stamps = refl;
      turn = refl;
      done = refl;
      blocks = refl;
      txns = rw (ends, u) refl;
      committed = rw (ends, u) refl;
      aborted = λ h. omega arith;
    }

ends-nobody : (m : Memory) → work_lent m ≡ true → out_at_turn m ≡ false → nothing_waits m ≡ false → meets_own m ≡ true → is_sent m (writeset_met m).ticket ≡ false → EndsNobody m (step m work)
unfolding work_refusal first_of
ends-nobody m lent live waits e u =
    let o = own m e in
    let z : work_refusal m ≡ 0 = rw (lent, live, waits) refl in
    work-by (EndsNobody m) m
    (λ y out. clash out live)
    (λ y k. absurd (o.kind k))
    (λ y k. rw (eq-eqb (get_or (block_at_turn m) 1 0) m.group.own o.mine) (nobody m o.mine u))
    (λ y. absurd (y z))

-- ---- 22

numbers_lack : (m : Memory) (c : Call) → refusal_of m c ≡ 22 → ⊥
unfolding refusal_of begin_refusal read_refusal ask_refusal withdraw_refusal send_refusal deliver_refusal work_refusal load_refusal notice_refusal
numbers_lack m begin e = not_first 22 _ refl e
numbers_lack m (read t i) e = not_first 22 _ refl e
numbers_lack m (write t i v) e = write_lacks 22 m (row_no m t) i refl refl (at-replica (is_station m) 22 (λ z. omega arith) (write_refusal m (row_no m t) i) e).1
numbers_lack m (ask t) e = not_first 22 _ refl e
numbers_lack m (withdraw t) e = not_first 22 _ refl e
numbers_lack m report e = omega arith
numbers_lack m (send b) e = not_first 22 _ refl (at-replica (is_station m) 22 (λ z. omega arith) (send_refusal m b) e).1
numbers_lack m (deliver b) e = not_first 22 _ refl e
numbers_lack m work e = not_first 22 _ refl e
numbers_lack m (load l) e = not_first 22 _ refl e
numbers_lack m (notice a) e = not_first 22 _ refl e

restart_lacks : (m : Memory) (n own : ℕ) (values : List ℤ) (block : List ℕ) → restart_refusal m n own values block ≡ 22 → ⊥
unfolding restart_refusal
restart_lacks m n own values block e = not_first 22 _ refl e

make_lacks : (m : Memory) (n own : ℕ) (values : List ℤ) → make_refusal m n own values ≡ 22 → ⊥
unfolding make_refusal
make_lacks m n own values e = not_first 22 _ refl e

none_gives : (m : Memory) (c : AnyCall) → (any_step m c).answer ≡ refused 22 → ⊥
none_gives m (call c) e = numbers_lack m c (sym (refusals.number m c) ∙ ap number_of e)
none_gives m (restart n own values journal notices block) e = restart_lacks m n own values block (sym (restarts.number m n own values journal notices block) ∙ ap number_of e)

pub own-sent_ever : OwnSent
own-sent_ever = record {
  met = λ n own values g cs w e.
      let R = all-reached (made_memory n own values) (made_reached n own values g) cs in
      sent_met (after_all (made_memory n own values) cs) R.shape R.sent w e;
  altered = ends-nobody;
  gone = none_gives;
  make-gone = λ m n own values e. make_lacks m n own values (sym (refusals.make_number m n own values) ∙ ap number_of e);
}
