-- A refused call changes nothing, except under 9. Assumes nothing.
use Prim.Native.Nat.{ℕ, suc}
use mathlib.Core.Path.{◌≡◌, refl, sym}
use mathlib.Core.Bool.{Bool, true, false, cond}
use mathlib.Core.List.{List}
use native.Mathlib.Omega.{arith}
use lib.IntN.{ℤ}
use lib.ListN.{length, set}
use borrow.Author.Tests.{eq-eqb}
use Rattle.memory.specs.Memory.{Memory, is_station, bump, with_aborted, with_table, with_txns}
use Rattle.memory.specs.Rows.{closed, open_count}
use Rattle.engine.specs.Answers.{Outcome, outcome, number_of}
use Rattle.engine.specs.Answers.Answer.{refused}
use Rattle.engine.specs.Make.{make_refusal, make_step}
use Rattle.engine.specs.Classes.{load_refusal}
use Rattle.engine.specs.Client.{free_no, row_no, begin_refusal, begin_at, read_refusal, write_refusal, rewrite_at, insert_write, stale_at, write_row, write_step, ask_refusal, read_only_at, queue_at, withdraw_refusal, withdraw_at, report_step}
use Rattle.engine.specs.Moves.{send_refusal, send_now, send_step, deliver_refusal, deliver_now, work_refusal, pass_next, commit_writeset, pass_out}
use Rattle.engine.specs.Notices.{notice_refusal}
use Rattle.engine.specs.Calls.{Call, step, refusal_of}
use Rattle.engine.specs.Calls.Call.{begin, read, write, ask, withdraw, report, send, deliver, work, load, notice}
use Rattle.engine.specs.Frames.{Refusals, is_write}
use Rattle.engine.proofs.Tests.{not_first, unless-by}
use Rattle.engine.proofs.Steps.{begin-by, read_by, write-step-by, ask-by, withdraw-by, deliver-by, work-by, notice-by, load-by}
use Rattle.engine.proofs.Passed.{stale-passed}
use Rattle.engine.proofs.RowLaws.{row-found, open_close}

-- the answer's number is n
abbrev Numbered : ℕ → Outcome → Type 0
Numbered n o = number_of o.answer ≡ n

-- at a station 25, else that of the call at a replica
station-number : (m : Memory) (station : Bool) (n : ℕ) (o : Outcome) → Numbered n o → Numbered (cond station 25 n) (cond station (outcome (refused 25) m) o)
station-number m true n o h = refl
station-number m false n o h = h

number : (m : Memory) (c : Call) → number_of (step m c).answer ≡ refusal_of m c
unfolding step refusal_of begin_at stale_at rewrite_at insert_write read_only_at queue_at withdraw_at send_now deliver_now pass_next commit_writeset pass_out
number m begin = begin-by (Numbered (begin_refusal m (free_no m))) m (λ e. sym e) (λ e. refl)
number m (read t i) = read_by (Numbered (read_refusal m (row_no m t) i)) m t i (λ e. sym e) (λ e. refl)
number m (write t i v) =
    station-number m (is_station m) (write_refusal m (row_no m t) i) (write_step m t i v)
    (write-step-by (Numbered (write_refusal m (row_no m t) i)) m t i v (λ e. sym e) (λ e o. sym e) (λ e o. sym e) (λ k e. refl))
number m (ask t) = ask-by (Numbered (ask_refusal m (row_no m t))) m t (λ e. sym e) (λ e n. sym e) (λ e. refl)
number m (withdraw t) = withdraw-by (Numbered (withdraw_refusal m (row_no m t))) m t (λ e. sym e) (λ e. refl)
number m report = unfold step report_step in refl
number m (send b) =
    station-number m (is_station m) (send_refusal m b) (send_step m b) (unfold send_step in unless-by (Numbered (send_refusal m b)) (send_refusal m b) m (λ e. sym e) (λ e. refl))
number m (deliver b) = deliver-by (Numbered (deliver_refusal m b)) m b (λ e. sym e) (λ e. refl)
number m work = work-by (Numbered (work_refusal m)) m (λ e u. sym e) (λ a k. sym a.passed) (λ a k. sym a.passed) (λ e. refl)
number m (load l) = load-by (Numbered (load_refusal m l)) m l (λ e. sym e) (λ e. refl)
number m (notice a) = notice-by (Numbered (notice_refusal m a)) m a (λ e. sym e) (λ e. refl)

-- the memory is as it was
abbrev Left : Memory → Outcome → Type 0
Left m o = o.memory ≡ m

station-left : (m : Memory) (station : Bool) (n : ℕ) (o : Outcome) → ((n ≡ 0 → ⊥) → (n ≡ 9 → ⊥) → Left m o) → (cond station 25 n ≡ 0 → ⊥) → (cond station 25 n ≡ 9 → ⊥)
    → Left m (cond station (outcome (refused 25) m) o)
station-left m true n o f h k = refl
station-left m false n o f h k = f h k

unchanged : (m : Memory) (c : Call) → (refusal_of m c ≡ 0 → ⊥) → (refusal_of m c ≡ 9 → ⊥) → (step m c).memory ≡ m
unfolding step refusal_of
unchanged m begin h k = begin-by (Left m) m (λ e. absurd (h e)) (λ e. refl)
unchanged m (read t i) h k = read_by (Left m) m t i (λ e. absurd (h e)) (λ e. refl)
unchanged m (write t i v) h k =
    station-left m (is_station m) (write_refusal m (row_no m t) i) (write_step m t i v)
    (λ x y. write-step-by (Left m) m t i v (λ e. absurd (y e)) (λ e o. absurd (x e)) (λ e o. absurd (x e)) (λ n e. refl)) h k
unchanged m (ask t) h k = ask-by (Left m) m t (λ e. absurd (h e)) (λ e n. absurd (h e)) (λ e. refl)
unchanged m (withdraw t) h k = withdraw-by (Left m) m t (λ e. absurd (h e)) (λ e. refl)
unchanged m report h k = unfold step report_step in refl
unchanged m (send b) h k =
    station-left m (is_station m) (send_refusal m b) (send_step m b)
    (λ x y. unfold send_step in unless-by (Left m) (send_refusal m b) m (λ e. absurd (x e)) (λ e. refl)) h k
unchanged m (deliver b) h k = deliver-by (Left m) m b (λ e. absurd (h e)) (λ e. refl)
unchanged m work h k = work-by (Left m) m (λ e u. absurd (h e)) (λ a n. absurd (h a.passed)) (λ a o. absurd (h a.passed)) (λ e. refl)
unchanged m (load l) h k = load-by (Left m) m l (λ e. absurd (h e)) (λ e. refl)
unchanged m (notice a) h k = notice-by (Left m) m a (λ e. absurd (h e)) (λ e. refl)

-- another number than 25 is answered at a replica
pub at-replica : (station : Bool) (k : ℕ) → (25 ≡ k → ⊥) → (n : ℕ) → cond station 25 n ≡ k → (station ≡ false) × (n ≡ k)
at-replica true k d n e = absurd (d e)
at-replica false k d n e = (refl, e)

nine : (m : Memory) (c : Call) → refusal_of m c ≡ 9 → is_write c ≡ true
unfolding refusal_of begin_refusal read_refusal ask_refusal withdraw_refusal send_refusal deliver_refusal work_refusal load_refusal notice_refusal
nine m begin e = absurd (not_first 9 _ refl e)
nine m (read t i) e = absurd (not_first 9 _ refl e)
nine m (write t i v) e = refl
nine m (ask t) e = absurd (not_first 9 _ refl e)
nine m (withdraw t) e = absurd (not_first 9 _ refl e)
nine m report e = absurd (omega arith)
nine m (send b) e = absurd (not_first 9 _ refl (at-replica (is_station m) 9 (λ z. omega arith) (send_refusal m b) e).1)
nine m (deliver b) e = absurd (not_first 9 _ refl e)
nine m work e = absurd (not_first 9 _ refl e)
nine m (load l) e = absurd (not_first 9 _ refl e)
nine m (notice a) e = absurd (not_first 9 _ refl e)

stale : (m : Memory) (ticket item : ℕ) (value : ℤ) → refusal_of m (write ticket item value) ≡ 9
    → (step m (write ticket item value)).memory
    ≡ with_txns m (with_aborted m.counts (bump m.counts.aborted)) (with_table m.txns (set m.txns.table (row_no m ticket) closed))
unfolding step refusal_of write_row stale_at
stale m ticket item value e =
    let a = at-replica (is_station m) 9 (λ z. omega arith) (write_refusal m (row_no m ticket) item) e in
    rw (a.0, eq-eqb (write_refusal m (row_no m ticket) item) 9 a.1)

stale_open : (m : Memory) (ticket item : ℕ) (value : ℤ) → length m.txns.table ≡ 6 → refusal_of m (write ticket item value) ≡ 9
    → open_count m.txns.table ≡ suc (open_count (step m (write ticket item value)).memory.txns.table)
stale_open m ticket item value l e =
    let a = at-replica (is_station m) 9 (λ z. omega arith) (write_refusal m (row_no m ticket) item) (unfold refusal_of in e) in
    let h = (stale-passed m ticket item a.1).row in
    rw (stale m ticket item value e) (open_close m.txns.table (row_no m ticket) (omega arith) (row-found ticket m.txns.table l h).live)

make_number : (m : Memory) (n own : ℕ) (values : List ℤ) → number_of (make_step m n own values).answer ≡ make_refusal m n own values
unfolding make_step
make_number m n own values = unless-by (Numbered (make_refusal m n own values)) (make_refusal m n own values) m (λ e. sym e) (λ e. refl)

make_unchanged : (m : Memory) (n own : ℕ) (values : List ℤ) → (make_refusal m n own values ≡ 0 → ⊥) → (make_step m n own values).memory ≡ m
unfolding make_step
make_unchanged m n own values h = unless-by (Left m) (make_refusal m n own values) m (λ e. absurd (h e)) (λ e. refl)

pub refusals : Refusals
refusals = record {
  number = number;
  unchanged = unchanged;
  nine = nine;
  stale = stale;
  stale_open = stale_open;
  make_number = make_number;
  make_unchanged = make_unchanged;
}
