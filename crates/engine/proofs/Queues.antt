-- The queue is the asked transactions in the order asked: one call, then a list of calls. Assumes nothing.
use Prim.Native.Nat.{ℕ}
use mathlib.Core.Path.{◌≡◌, refl, sym, ap, ◌∙◌}
use mathlib.Core.Bool.{Bool, true, false}
use mathlib.Core.List.{List, [], ◌∷◌, ◌++◌}
use native.Mathlib.Omega.{arith}
use lib.IntN.{ℤ}
use Rattle.block.specs.Message.{Record}
use Rattle.memory.specs.Memory.{Memory}
use Rattle.memory.specs.Notices.{Notice}
use Rattle.memory.specs.Rows.{row_at, has}
use Rattle.engine.specs.Answers.{Outcome}
use Rattle.engine.specs.Make.{made_memory}
use Rattle.engine.specs.Client.{row_no, begin_at, rewrite_at, insert_write, stale_at, read_only_at, queue_at, withdraw_at, report_step}
use Rattle.engine.specs.Moves.{waiting, without, hit_tickets, send_now, deliver_now, pass_next, commit_writeset, pass_out}
use Rattle.engine.specs.Calls.{Call, step, after}
use Rattle.engine.specs.Calls.Call.{begin, read, write, ask, withdraw, report, send, deliver, work, load, notice}
use Rattle.engine.specs.Restart.{blocks_in, restarted_memory}
use Rattle.engine.specs.Shape.{Shape}
use Rattle.engine.specs.History.{pending_after, pending, Queues}
use Rattle.engine.proofs.Steps.{begin-by, read_by, write-by, ask-by, withdraw-by, send_by, deliver-by, work-by, notice-by, load-by}
use Rattle.engine.proofs.Passed.{RowPassed, ask_passed}
use Rattle.engine.proofs.HitLaws.{no_zero}
use Rattle.engine.proofs.RowLaws.{row-found}
use Rattle.engine.proofs.QueueLaws.{length-waiting, front-is}
use Rattle.engine.proofs.ShapeAsk.{queued-last}
use Rattle.engine.proofs.Shapes.{shapes}

-- what the queue became is what the answer says
unfoldable pub Ordered : Memory → Call → Outcome → Type 0
Ordered m c o = waiting o.memory.txns.queue ≡ pending_after (waiting m.txns.queue) c o.answer

-- nobody left it
without_none : (l : List ℕ) → without [] l ≡ l
unfolding without has
without_none [] = refl
without_none (x ∷ xs) = ap (λ (l : List ℕ). x ∷ l) (without_none xs)

committed : {over : ℕ} (m : Memory) → Shape over m → (mine : Bool) (w : Record) → Ordered m work (commit_writeset m mine w)
unfolding Ordered commit_writeset pending_after
committed m s true w = sym (without_none (waiting m.txns.queue))
committed m s false w =
    front-is (hit_tickets w.entries m.txns.items 0 m.txns.table) m.txns.queue _ (no_zero w.entries m.txns.items 0 m.txns.table) s.lengths.queue
    (let a = length-waiting m.txns.queue in omega (arith, s.lengths.queue)) s.queue.zeros s.queue.once refl

joined : {over : ℕ} (m : Memory) → Shape over m → (t : ℕ) → RowPassed m t → Ordered m (ask t) (queue_at m (row_no m t) (row_at m.txns.table (row_no m t)))
unfolding Ordered pending_after
joined m s t p =
    let f = row-found t m.txns.table s.lengths.table p.row in
    queued-last m s (row_no m t) p.row p.active f.live
    ∙ unfold queue_at in ap (λ (x : ℕ). waiting m.txns.queue ++ (x ∷ [])) f.is

pub ordered : {over : ℕ} (m : Memory) → Shape over m → (c : Call) → Ordered m c (step m c)
unfolding Ordered pending_after
ordered m s begin = begin-by (Ordered m begin) m (λ e. unfold begin_at in refl) (λ e. refl)
ordered m s (read t i) = read_by (Ordered m (read t i)) m t i (λ e. refl) (λ e. refl)
ordered m s (write t i v) =
    write-by (Ordered m (write t i v)) m t i v (λ e. unfold stale_at in refl) (λ e o. unfold rewrite_at in refl) (λ e o. unfold insert_write in refl) (λ n k e. refl)
ordered m s (ask t) = ask-by (Ordered m (ask t)) m t (λ e. unfold read_only_at in refl) (λ e n. joined m s t (ask_passed m t e)) (λ e. refl)
ordered m s (withdraw t) = withdraw-by (Ordered m (withdraw t)) m t (λ e. unfold withdraw_at in refl) (λ e. refl)
ordered m s report = unfold step report_step in refl
ordered m s (send b) = send_by (Ordered m (send b)) m b (λ e. unfold send_now waiting in refl) (λ n k e. refl)
ordered m s (deliver b) = deliver-by (Ordered m (deliver b)) m b (λ e. unfold deliver_now in refl) (λ e. refl)
ordered m s work =
    work-by (Ordered m work) m
    (λ e u. unfold pass_out in sym (without_none (waiting m.txns.queue)))
    (λ e k. unfold pass_next in sym (without_none (waiting m.txns.queue)))
    (λ e k. committed m s _ _) (λ e. refl)
ordered m s (load l) = load-by (Ordered m (load l)) m l (λ e. refl) (λ e. refl)
ordered m s (notice a) = notice-by (Ordered m (notice a)) m a (λ e. refl) (λ e. refl)

listed : {over : ℕ} (m : Memory) → Shape over m → (cs : List Call) → waiting (after m cs).txns.queue ≡ pending (waiting m.txns.queue) m cs
unfolding after pending Ordered
listed m s [] = refl
listed m s (c ∷ cs) =
    listed (step m c).memory (shapes.each m s c) cs ∙ ap (λ (l : List ℕ). pending l (step m c).memory cs) (ordered m s c)

pub made_empty : (n own : ℕ) (values : List ℤ) → waiting (made_memory n own values).txns.queue ≡ []
unfolding made_memory waiting
made_empty n own values = refl

pub restarted_empty : (n own : ℕ) (values : List ℤ) (notices : List Notice) (bs : List (List ℕ)) → waiting (restarted_memory n own values notices bs).txns.queue ≡ []
unfolding restarted_memory waiting
restarted_empty n own values notices bs = refl

pub queues : Queues
queues = record {
  queue = λ n own values g cs.
      let m = made_memory n own values in
      listed m (shapes.made n own values g) cs ∙ ap (λ (q : List ℕ). pending q m cs) (made_empty n own values);
  restarted = λ n own values g journal notices cs.
      let bs = blocks_in n journal in
      let m = restarted_memory n own values notices bs in
      listed m (shapes.restarted n own values g journal notices) cs ∙ ap (λ (q : List ℕ). pending q m cs) (restarted_empty n own values notices bs);
}
