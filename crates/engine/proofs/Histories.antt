-- Report and the queue are those of the history, with restarts among the calls. Assumes nothing.
use Prim.Native.Nat.{ℕ}
use mathlib.Core.Path.{◌≡◌, ap, ◌∙◌}
use mathlib.Core.List.{List, [], ◌∷◌}
use lib.IntN.{ℤ}
use borrow.Author.Tests.{ne_eqb}
use Rattle.memory.specs.Memory.{Memory}
use Rattle.memory.specs.Notices.{Notice}
use Rattle.engine.specs.Answers.{Outcome}
use Rattle.engine.specs.Make.{SettingOf, made_memory}
use Rattle.engine.specs.Moves.{waiting}
use Rattle.engine.specs.Calls.{Call, step}
use Rattle.engine.specs.Restart.{blocks_in, highest_own, own_writesets, restarted_memory, restart_refusal}
use Rattle.engine.specs.Shape.{Shape}
use Rattle.engine.specs.Sent.{SentShape}
use Rattle.engine.specs.History.{Tally, counted, writeset_count, report_from, pending_after, AnyCall, any_step, after_all, History, begun, history_after, history, Told, Histories}
use Rattle.engine.specs.History.AnyCall.{call, restart}
use Rattle.engine.proofs.Steps.{restart-by}
use Rattle.engine.proofs.Passed.{restart_passed}
use Rattle.engine.proofs.Shapes.{shapes}
use Rattle.engine.proofs.Sent.{sent-shapes}
use Rattle.engine.proofs.Reports.{kept, step-counted, report_from_lem, made_own, made_kept, restarted_own, restarted_kept}
use Rattle.engine.proofs.Queues.{Ordered, ordered, made_empty, restarted_empty}

-- what each call and each restart keeps
record Follows (h : History) (m : Memory) : Type 0 where
  shape : Shape h.over m
  sent : SentShape m
  own : m.group.own ≡ h.own
  numbers : kept m ≡ h.tally
  queue : waiting m.txns.queue ≡ h.asked

told : (h : History) (m : Memory) → Follows h m → Told h m
told h m f = record { report = report_from_lem m f.shape ∙ ap (report_from h.over) f.numbers; queue = f.queue }

-- ---- where it begins

made_follows : (n own : ℕ) (values : List ℤ) → SettingOf n own values → Follows (begun own []) (made_memory n own values)
unfolding highest_own own_writesets writeset_count
made_follows n own values g = record {
  shape = shapes.made n own values g;
  sent = sent-shapes.made n own values;
  own = made_own n own values;
  numbers = made_kept n own values;
  queue = made_empty n own values;
}

restarted_follows : (n own : ℕ) (values : List ℤ) → SettingOf n own values → (journal : List ℕ) (notices : List Notice)
    → Follows (begun own (blocks_in n journal)) (restarted_memory n own values notices (blocks_in n journal))
restarted_follows n own values g journal notices = record {
  shape = shapes.restarted n own values g journal notices;
  sent = sent-shapes.restarted n own values journal notices;
  own = restarted_own n own values notices (blocks_in n journal);
  numbers = restarted_kept n own values journal notices;
  queue = restarted_empty n own values notices (blocks_in n journal);
}

-- ---- a call, a restart, a list of them

call_follows : (h : History) (m : Memory) → Follows h m → (c : Call) → Follows (history_after h (call c) (step m c).answer) (step m c).memory
unfolding Ordered
call_follows h m f c =
    let a = (step m c).answer in
    let k = step-counted m f.shape f.sent c in
    record {
      shape = shapes.each m f.shape c;
      sent = sent-shapes.each m f.shape f.sent c;
      own = k.own ∙ f.own;
      numbers = k.numbers ∙ ap (λ (n : ℕ). counted n (kept m) a) f.own ∙ ap (λ (t : Tally). counted h.own t a) f.numbers;
      queue = ordered m f.shape c ∙ ap (λ (l : List ℕ). pending_after l c a) f.queue;
    }

any_follows : (h : History) (m : Memory) → Follows h m → (c : AnyCall) → Follows (history_after h c (any_step m c).answer) (any_step m c).memory
any_follows h m f (call c) = call_follows h m f c
any_follows h m f (restart n own values journal notices block) =
    restart-by (λ (o : Outcome). Follows (history_after h (restart n own values journal notices block) o.answer) o.memory) m n own values journal notices block
    (λ e. let p = restart_passed m n own values block e in restarted_follows n own values p journal notices)
    (λ z. rw (ne_eqb (restart_refusal m n own values block) 0 z) f)

all_follow : (h : History) (m : Memory) → Follows h m → (cs : List AnyCall) → Follows (history h m cs) (after_all m cs)
unfolding history after_all
all_follow h m f [] = f
all_follow h m f (c ∷ cs) = all_follow (history_after h c (any_step m c).answer) (any_step m c).memory (any_follows h m f c) cs

pub histories : Histories
histories = record {
  made = λ n own values g cs.
      let m = made_memory n own values in
      told (history (begun own []) m cs) (after_all m cs) (all_follow (begun own []) m (made_follows n own values g) cs);
  restarted = λ n own values g journal notices cs.
      let b = begun own (blocks_in n journal) in
      let m = restarted_memory n own values notices (blocks_in n journal) in
      told (history b m cs) (after_all m cs) (all_follow b m (restarted_follows n own values g journal notices) cs);
}
