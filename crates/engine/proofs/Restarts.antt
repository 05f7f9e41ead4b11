-- What holds of every restart. Assumes nothing.
use Prim.Native.Nat.{ℕ, ◌/◌}
use mathlib.Core.Path.{◌≡◌, refl, sym, ◌∙◌}
use mathlib.Core.List.{List}
use lib.IntN.{ℤ}
use lib.ListN.{length, replicate}
use borrow.Author.Tests.{eq-eqb}
use Rattle.memory.specs.Memory.{Memory}
use Rattle.memory.specs.Notices.{Notice, with_notices}
use Rattle.memory.specs.Window.{keeping_all}
use Rattle.engine.specs.Answers as calls
use Rattle.engine.specs.Answers.{Outcome, outcome}
use Rattle.engine.specs.Answers.Answer.{restarted}
use Rattle.engine.specs.Make.{made_memory}
use Rattle.engine.specs.Restart.{blocks_from, commit_blocks, highest_own, own_writesets, last_own, restarted_memory, restart_refusal, restart_step}
use Rattle.engine.specs.Restarts.{Restarts}
use Rattle.engine.proofs.Steps.{restart-by}
use Rattle.engine.proofs.RestartLaws.{reads_first}

restart_done : (m : Memory) (n own : ℕ) (values : List ℤ) (journal : List ℕ) (notices : List Notice) (block : List ℕ) → restart_refusal m n own values block ≡ 0
    → let bs = blocks_from n 0 (length journal / 512) journal in restart_step m n own values journal notices block
    ≡ outcome (restarted (length bs) (last_own own notices (replicate 512 0) bs)) (restarted_memory n own values notices bs)
unfolding restart_step
restart_done m n own values journal notices block e = rw (eq-eqb _ 0 e) refl

pub restarts : Restarts
restarts = record {
  number = λ m n own values journal notices block.
      restart-by (λ (o : Outcome). calls.number_of o.answer ≡ restart_refusal m n own values block) m n own values journal notices block (λ e. sym e) (λ e. refl);
  unchanged = λ m n own values journal notices block z.
      restart-by (λ (o : Outcome). o.memory ≡ m) m n own values journal notices block (λ e. absurd (z e)) (λ e. refl);
  any-parts = λ m k n own values journal notices block e f. restart_done m n own values journal notices block e ∙ sym (restart_done k n own values journal notices block f);
  first = λ n journal. reads_first n 0 (length journal / 512) journal;
  empty = λ n own values. unfold blocks_from commit_blocks highest_own own_writesets with_notices keeping_all restarted_memory made_memory in refl;
}
