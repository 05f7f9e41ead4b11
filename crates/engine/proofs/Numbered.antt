-- A replica is no station, after any calls and restarts, and 25 is a station's alone. Assumes nothing.
use Prim.Native.Nat.{ℕ}
use mathlib.Core.Path.{◌≡◌, refl, sym, ap, ◌∙◌}
use mathlib.Core.Bool.{true, false, not}
use mathlib.Core.List.{List, [], ◌∷◌}
use native.Mathlib.Omega.{arith}
use lib.IntN.{ℤ}
use Rattle.block.specs.Answers.{Refusal, refuse, first_of}
use Rattle.memory.specs.Memory.{Memory, is_station}
use Rattle.memory.specs.Notices.{Notice}
use Rattle.engine.specs.Answers.{number_of, Outcome}
use Rattle.engine.specs.Answers.Answer.{refused}
use Rattle.engine.specs.Make.{made_memory, make_refusal, make_step}
use Rattle.engine.specs.Classes.{must_wait, load_refusal}
use Rattle.engine.specs.Client.{row_no, item_out, no_row, not_active, is_own, write_lent, begin_refusal, read_refusal, write_refusal, ask_refusal, withdraw_refusal}
use Rattle.engine.specs.Moves.{send_refusal, deliver_refusal, work_refusal}
use Rattle.engine.specs.Notices.{notice_refusal}
use Rattle.engine.specs.Restart.{blocks_in, restarted_memory, restart_refusal, restart_step}
use Rattle.engine.specs.Calls.{Call, refusal_of}
use Rattle.engine.specs.Calls.Call.{begin, read, write, ask, withdraw, report, send, deliver, work, load, notice}
use Rattle.engine.specs.History.{AnyCall, any_step, after_all}
use Rattle.engine.specs.History.AnyCall.{call, restart}
use Rattle.engine.specs.Station.{Numbered}
use Rattle.engine.proofs.Tests.{cond_by, lacks, not_first, unless-by}
use Rattle.engine.proofs.Steps.{restart-by}
use Rattle.engine.proofs.Passed.{make_passed, restart_passed}
use Rattle.engine.proofs.Refusals.{refusals}
use Rattle.engine.proofs.Restarts.{restarts}
use Rattle.engine.proofs.Reports.{made_own, restarted_own}
use Rattle.engine.proofs.Reached.{numbered, made_reached, all-reached}

-- ---- 25 at a replica

-- a number that a write's lists do not have
pub write_lacks : (k : ℕ) (m : Memory) (r i : ℕ) → lacks k (refuse 1 true ∷ refuse 2 true ∷ refuse 3 true ∷ refuse 4 true ∷ refuse 7 true ∷ []) ≡ true
    → lacks k (refuse 1 true ∷ refuse 2 true ∷ refuse 3 true ∷ refuse 4 true ∷ refuse 7 true ∷ refuse 9 true ∷ refuse 8 true ∷ refuse 10 true ∷ []) ≡ true → write_refusal m r i ≡ k → ⊥
unfolding write_refusal
write_lacks k m r i own new =
    cond_by (λ (l : List Refusal).
    first_of (refuse 1 (not (write_lent m)) ∷ refuse 2 (item_out i) ∷ refuse 3 (no_row r) ∷ refuse 4 (not_active m r) ∷ refuse 7 (must_wait m i) ∷ l) ≡ k → ⊥)
    (is_own m r i) (λ e. not_first k _ own) (λ e. not_first k _ new)

replica-numbers : (m : Memory) → is_station m ≡ false → (c : Call) → refusal_of m c ≡ 25 → ⊥
unfolding refusal_of begin_refusal read_refusal ask_refusal withdraw_refusal send_refusal deliver_refusal work_refusal load_refusal notice_refusal
replica-numbers m h begin e = not_first 25 _ refl e
replica-numbers m h (read t i) e = not_first 25 _ refl e
replica-numbers m h (write t i v) e = write_lacks 25 m (row_no m t) i refl refl (rw h at e)
replica-numbers m h (ask t) e = not_first 25 _ refl e
replica-numbers m h (withdraw t) e = not_first 25 _ refl e
replica-numbers m h report e = omega arith
replica-numbers m h (send b) e = not_first 25 _ refl (rw h at e)
replica-numbers m h (deliver b) e = not_first 25 _ refl e
replica-numbers m h work e = not_first 25 _ refl e
replica-numbers m h (load l) e = not_first 25 _ refl e
replica-numbers m h (notice a) e = not_first 25 _ refl e

-- ---- a number that is lent

made_numbered : (m : Memory) (n own : ℕ) (values : List ℤ) → make_refusal m n own values ≡ 0 → is_station (make_step m n own values).memory ≡ false
unfolding make_step
made_numbered m n own values z =
    unless-by (λ (o : Outcome). is_station o.memory ≡ false) (make_refusal m n own values) m
    (λ e. let p = make_passed m n own values e in numbered (made_memory n own values) n own (made_own n own values) p.below p.group.most) (λ e. absurd (e z))

restarted_numbered : (m : Memory) (n own : ℕ) (values : List ℤ) (journal : List ℕ) (notices : List Notice) (block : List ℕ) → restart_refusal m n own values block ≡ 0
    → is_station (restart_step m n own values journal notices block).memory ≡ false
restarted_numbered m n own values journal notices block z =
    restart-by (λ (o : Outcome). is_station o.memory ≡ false) m n own values journal notices block
    (λ e. let p = restart_passed m n own values block e in numbered (restarted_memory n own values notices (blocks_in n journal)) n own (restarted_own n own values notices (blocks_in n journal)) p.below p.group.most) (λ e. absurd (e z))

-- ---- a list

restart_numbers : (m : Memory) (n own : ℕ) (values : List ℤ) (block : List ℕ) → restart_refusal m n own values block ≡ 25 → ⊥
unfolding restart_refusal
restart_numbers m n own values block e = not_first 25 _ refl e

any_numbers : (m : Memory) → is_station m ≡ false → (c : AnyCall) → (any_step m c).answer ≡ refused 25 → ⊥
any_numbers m h (call c) e = replica-numbers m h c (sym (refusals.number m c) ∙ ap number_of e)
any_numbers m h (restart n own values journal notices block) e = restart_numbers m n own values block (sym (restarts.number m n own values journal notices block) ∙ ap number_of e)

pub replicas_numbered : Numbered
replicas_numbered = record {
  makes = made_numbered;
  restarts = restarted_numbered;
  stays = λ n own values g cs.
      let R = all-reached (made_memory n own values) (made_reached n own values g) cs in
      (R.replica, R.shape.ranges.own R.replica);
  never-25 = λ n own values g cs c.
      any_numbers (after_all (made_memory n own values) cs) (all-reached (made_memory n own values) (made_reached n own values g) cs).replica c;
}
