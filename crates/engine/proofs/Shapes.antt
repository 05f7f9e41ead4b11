-- Every memory that calls and restarts lead to from a replica just made has the shape. Assumes nothing.
use Prim.Native.Nat.{ℕ}
use mathlib.Core.Path.{◌≡◌}
use mathlib.Core.List.{List, [], ◌∷◌}
use native.Mathlib.Omega.{arith}
use borrow.Author.Tests.{ne_eqb}
use Rattle.memory.specs.Memory.{Memory}
use Rattle.memory.specs.Rows.{row_at}
use Rattle.engine.specs.Answers.{Outcome}
use Rattle.engine.specs.Make.{made_memory}
use Rattle.engine.specs.Client.{row_no, own_index, report_step}
use Rattle.engine.specs.Calls.{Call, step, after}
use Rattle.engine.specs.Calls.Call.{begin, read, write, ask, withdraw, report, send, deliver, work, load, notice}
use Rattle.engine.specs.Restart.{highest_own, own_writesets, restart_refusal}
use Rattle.engine.specs.History.{AnyCall, any_step, after_all, History, begun, history_after, history}
use Rattle.engine.specs.History.AnyCall.{call, restart}
use Rattle.engine.specs.Shape.{Shape, Shapes}
use Rattle.engine.proofs.RowLaws.{row-found}
use Rattle.engine.proofs.Steps.{begin-by, read_by, write-by, ask-by, withdraw-by, send_by, deliver-by, work-by, notice-by, load-by, restart-by}
use Rattle.engine.proofs.Passed.{RowPassed, begin_passed, write_passed, stale-passed, ask_passed, withdraw_passed, deliver_passed, load_passed, restart_passed}
use Rattle.engine.proofs.Shaping.{shape_loaded}
use Rattle.engine.proofs.ShapeMade.{shape_made}
use Rattle.engine.proofs.ShapeBegin.{shape_begin}
use Rattle.engine.proofs.ShapeWrite.{shape_rewritten, shape_insert}
use Rattle.engine.proofs.ShapeAsk.{shape-queued}
use Rattle.engine.proofs.ShapeEnd.{shape-stale, shape-read-only, shape-withdrawn}
use Rattle.engine.proofs.ShapeSend.{shape-sent}
use Rattle.engine.proofs.ShapeDeliver.{shape-delivered}
use Rattle.engine.proofs.ShapeTurn.{working, shape-next, shape-out}
use Rattle.engine.proofs.ShapeWork.{shape_committed}
use Rattle.engine.proofs.ShapeNotice.{shape-noticed}
use Rattle.engine.proofs.ShapeRestart.{shape_restarted}

abbrev Shaped : ℕ → Outcome → Type 0
Shaped over o = Shape over o.memory

-- the row that a call passed for has a ticket
live : {over : ℕ} (m : Memory) → Shape over m → (t : ℕ) → RowPassed m t → (row_at m.txns.table (row_no m t)).ticket ≡ 0 → ⊥
live m s t p = (row-found t m.txns.table s.lengths.table p.row).live

shape_each : {over : ℕ} (m : Memory) → Shape over m → (c : Call) → Shape over (step m c).memory
shape_each {over} m s begin = begin-by (Shaped over) m (λ e. shape_begin m s (begin_passed m e)) (λ e. s)
shape_each {over} m s (read t i) = read_by (Shaped over) m t i (λ e. s) (λ e. s)
shape_each {over} m s (write t i v) =
    write-by (Shaped over) m t i v
    (λ e. let p = stale-passed m t i e in shape-stale m s (row_no m t) p.row p.active (live m s t p))
    (λ e o. shape_rewritten m (row_no m t) (own_index m (row_no m t) i) v s)
    (λ e o. shape_insert m t i v s (write_passed m t i e) o)
    (λ n k e. s)
shape_each {over} m s (ask t) =
    ask-by (Shaped over) m t
    (λ e. let p = ask_passed m t e in shape-read-only m s (row_no m t) p.row p.active (live m s t p))
    (λ e n. let p = ask_passed m t e in shape-queued m s (row_no m t) p.row p.active (live m s t p) (omega (arith, n)))
    (λ e. s)
shape_each {over} m s (withdraw t) =
    withdraw-by (Shaped over) m t
    (λ e. let p = withdraw_passed m t e in shape-withdrawn m s (row_no m t) p.row p.active (live m s t p))
    (λ e. s)
shape_each {over} m s report = unfold step report_step in s
shape_each {over} m s (send b) = send_by (Shaped over) m b (λ e. shape-sent m s) (λ n k e. s)
shape_each {over} m s (deliver b) = deliver-by (Shaped over) m b (λ e. shape-delivered m b s (deliver_passed m b e)) (λ e. s)
shape_each {over} m s work =
    work-by (Shaped over) m
    (λ e u. shape-out m s u)
    (λ e k. let w = working m s e in shape-next m s w (w.next k))
    (λ e k. shape_committed m s (working m s e) k)
    (λ e. s)
shape_each {over} m s (load l) = load-by (Shaped over) m l (λ e. shape_loaded m s l (load_passed m l e)) (λ e. s)
shape_each {over} m s (notice a) = notice-by (Shaped over) m a (λ e. shape-noticed m s a e) (λ e. s)

pub shape_after : {over : ℕ} (m : Memory) → Shape over m → (cs : List Call) → Shape over (after m cs)
unfolding after
shape_after m s [] = s
shape_after m s (c ∷ cs) = shape_after (step m c).memory (shape_each m s c) cs

-- ---- restarts among the calls

any_shape : (h : History) (m : Memory) → Shape h.over m → (c : AnyCall) → Shape (history_after h c (any_step m c).answer).over (any_step m c).memory
any_shape h m s (call c) = shape_each m s c
any_shape h m s (restart n own values journal notices block) =
    restart-by (λ (o : Outcome). Shape (history_after h (restart n own values journal notices block) o.answer).over o.memory) m n own values journal notices block
    (λ e. let p = restart_passed m n own values block e in shape_restarted n own values p journal notices)
    (λ z. rw (ne_eqb (restart_refusal m n own values block) 0 z) s)

shape_all : (h : History) (m : Memory) → Shape h.over m → (cs : List AnyCall) → Shape (history h m cs).over (after_all m cs)
unfolding history after_all
shape_all h m s [] = s
shape_all h m s (c ∷ cs) = shape_all (history_after h c (any_step m c).answer) (any_step m c).memory (any_shape h m s c) cs

pub shapes : Shapes
unfolding highest_own own_writesets
shapes = record {
  made = shape_made;
  each = shape_each;
  all = λ n own values g cs. shape_all (begun own []) (made_memory n own values) (shape_made n own values g) cs;
  restarted = shape_restarted;
}
