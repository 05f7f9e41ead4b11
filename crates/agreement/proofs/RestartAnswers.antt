-- No call but a restart answers as a restart does. Assumes nothing.
use Rattle.memory.specs.Memory.{Memory}
use Rattle.engine.specs.Answers.{Answer, Outcome}
use Rattle.engine.specs.Answers.Answer.{refused, made, began, got, wrote, queued, read_only, withdrew, reported, sent, kept, worked, loaded, noticed, restarted}
use Rattle.engine.specs.Client.{begin_at, read_only_at, queue_at, rewrite_at, insert_write, stale_at, withdraw_at, report_step}
use Rattle.engine.specs.Moves.{send_now, deliver_now, pass_next, commit_writeset, pass_out}
use Rattle.engine.specs.Calls.{Call, step}
use Rattle.engine.specs.Calls.Call.{begin, read, write, ask, withdraw, report, send, deliver, work, load, notice}
use Rattle.engine.proofs.Steps.{begin-by, read_by, write-by, ask-by, withdraw-by, send_by, deliver-by, work-by, load-by, notice-by}

abbrev pub NoRestart : Answer → Type 0
NoRestart (refused n) = Unit
NoRestart made = Unit
NoRestart (began t) = Unit
NoRestart (got v) = Unit
NoRestart wrote = Unit
NoRestart queued = Unit
NoRestart read_only = Unit
NoRestart withdrew = Unit
NoRestart (reported r) = Unit
NoRestart (sent b) = Unit
NoRestart kept = Unit
NoRestart (worked s) = Unit
NoRestart loaded = Unit
NoRestart noticed = Unit
NoRestart (restarted k b) = ⊥

abbrev P : Outcome → Type 0
P o = NoRestart o.answer

pub no_restart : (m : Memory) (c : Call) → NoRestart (step m c).answer
unfolding begin_at stale_at rewrite_at insert_write read_only_at queue_at withdraw_at send_now deliver_now pass_next commit_writeset pass_out
no_restart m begin = begin-by P m (λ e. tt) (λ e. tt)
no_restart m (read t i) = read_by P m t i (λ e. tt) (λ e. tt)
no_restart m (write t i v) = write-by P m t i v (λ e. tt) (λ e o. tt) (λ e o. tt) (λ k e q. tt)
no_restart m (ask t) = ask-by P m t (λ e. tt) (λ e o. tt) (λ e. tt)
no_restart m (withdraw t) = withdraw-by P m t (λ e. tt) (λ e. tt)
no_restart m report = unfold step report_step in tt
no_restart m (send b) = send_by P m b (λ e. tt) (λ k e q. tt)
no_restart m (deliver b) = deliver-by P m b (λ e. tt) (λ e. tt)
no_restart m work = work-by P m (λ e k. tt) (λ e k. tt) (λ e k. tt) (λ e. tt)
no_restart m (load l) = load-by P m l (λ e. tt) (λ e. tt)
no_restart m (notice a) = notice-by P m a (λ e. tt) (λ e. tt)
