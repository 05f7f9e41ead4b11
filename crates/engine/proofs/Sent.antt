-- The block sent and the rows open as sent, after every call. Assumes nothing.
use Prim.Native.Nat.{ℕ, ◌<◌, ◌*◌}
use mathlib.Core.Path.{◌≡◌, refl}
use mathlib.Core.Bool.{true, false}
use mathlib.Core.List.{List}
use native.Mathlib.Omega.{arith}
use lib.IntN.{ℤ}
use lib.ListN.{replicate, get_or-replicate}
use borrow.Author.Tests.{eq-eqb}
use Rattle.memory.specs.Memory.{Memory, with_classes}
use Rattle.memory.specs.Notices.{Notice}
use Rattle.memory.specs.Rows.{closed, row_at}
use Rattle.memory.specs.Turns.{place_start, is_empty}
use Rattle.engine.specs.Answers.{Outcome}
use Rattle.engine.specs.Make.{made_memory}
use Rattle.engine.specs.Client.{report_step}
use Rattle.engine.specs.Moves.{sent_already}
use Rattle.engine.specs.Restart.{blocks_in, restarted_memory}
use Rattle.engine.specs.Calls.{Call, step}
use Rattle.engine.specs.Calls.Call.{begin, read, write, ask, withdraw, report, send, deliver, work, load, notice}
use Rattle.engine.specs.Shape.{Shape}
use Rattle.engine.specs.Sent.{SentShape, SentShapes}
use Rattle.engine.proofs.Tests.{clash}
use Rattle.engine.proofs.Steps.{read_by, send_by, deliver-by, work-by, load-by, notice-by}
use Rattle.engine.proofs.Passed.{send_passed, deliver_passed}
use Rattle.engine.proofs.ShapeMade.{get_or-zeros}
use Rattle.engine.proofs.ShapeTurn.{working}
use Rattle.engine.proofs.Shapes.{shapes}
use Rattle.engine.proofs.SentClient.{sent-begin, sent-write, sent-ask, sent-withdraw}
use Rattle.engine.proofs.SentSend.{sent-sent, sent-delivered}
use Rattle.engine.proofs.SentWork.{sent-out, sent-next, sent-committed}
use Rattle.engine.proofs.SentNotice.{sent-noticed}

-- ---- the start

-- nothing is sent, no block waits, no row is open
start : (m : Memory) → sent_already m ≡ false → ((s : ℕ) → is_empty m.group.replicas s m.blocks.places ≡ true)
    → ((r : ℕ) → r < 6 → row_at m.txns.table r ≡ closed) → SentShape m
start m off none shut = record {
  turn = λ t. clash t off;
  awaited = λ t. clash t off;
  own = λ s l u w o. clash (none s) w;
  once = λ t. clash t off;
  live = λ t. clash t off;
  only = λ r h s. absurd (let z : ◌≡◌ {A = ℕ} 0 2 = rw (shut r h) at s in let y : ⊥ = omega arith in y);
}

zeros : (n k s : ℕ) → is_empty k s (replicate (512 * n) 0) ≡ true
zeros n k s = eq-eqb _ 0 (get_or-zeros (512 * n) (place_start k s))

shut : (r : ℕ) → r < 6 → row_at (replicate 6 closed) r ≡ closed
shut r h = get_or-replicate 6 r closed closed h

sent_made : (n own : ℕ) (values : List ℤ) → SentShape (made_memory n own values)
unfolding made_memory
sent_made n own values = start (made_memory n own values) refl (zeros n n) shut

sent_restarted : (n own : ℕ) (values : List ℤ) (journal : List ℕ) (notices : List Notice) → SentShape (restarted_memory n own values notices (blocks_in n journal))
unfolding restarted_memory
sent_restarted n own values journal notices =
    start (restarted_memory n own values notices (blocks_in n journal)) refl (zeros n (restarted_memory n own values notices (blocks_in n journal)).group.replicas) shut

-- classes are no matter
sent-loaded : (m : Memory) → SentShape m → (l : List ℕ) → SentShape (with_classes m l)
sent-loaded m Q l = record { turn = Q.turn; awaited = Q.awaited; own = Q.own; once = Q.once; live = Q.live; only = Q.only }

-- ---- each call

sent-each : {over : ℕ} (m : Memory) → Shape over m → SentShape m → (c : Call) → SentShape (step m c).memory
sent-each m S Q begin = sent-begin m S Q
sent-each m S Q (read t i) = read_by (λ (o : Outcome). SentShape o.memory) m t i (λ e. Q) (λ e. Q)
sent-each m S Q (write t i v) = sent-write m S Q t i v
sent-each m S Q (ask t) = sent-ask m S Q t
sent-each m S Q (withdraw t) = sent-withdraw m S Q t
sent-each m S Q report = unfold step report_step in Q
sent-each m S Q (send b) = send_by (λ (o : Outcome). SentShape o.memory) m b (λ e. sent-sent m S Q (send_passed m b e)) (λ n k e. Q)
sent-each m S Q (deliver b) = deliver-by (λ (o : Outcome). SentShape o.memory) m b (λ e. sent-delivered m b S Q (deliver_passed m b e)) (λ e. Q)
sent-each {over} m S Q work =
    work-by (λ (o : Outcome). Shape over o.memory → SentShape o.memory) m
    (λ e u T. sent-out m S Q u)
    (λ w k T. sent-next m S (working m S w) Q k)
    (λ w k T. sent-committed m S (working m S w) Q k T)
    (λ e T. Q)
    (shapes.each m S work)
sent-each m S Q (load l) = load-by (λ (o : Outcome). SentShape o.memory) m l (λ e. sent-loaded m Q l) (λ e. Q)
sent-each m S Q (notice a) = notice-by (λ (o : Outcome). SentShape o.memory) m a (λ e. sent-noticed m S Q a e) (λ e. Q)

pub sent-shapes : SentShapes
sent-shapes = record { made = sent_made; each = sent-each; restarted = sent_restarted }
