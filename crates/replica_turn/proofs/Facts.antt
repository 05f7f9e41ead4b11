-- From what a call by value says to what the call on lent parts says: the table has six rows, and for a send the host is a replica. Assumes nothing.
use Prim.Native.Nat.{ℕ}
use mathlib.Core.Path.{◌≡◌, refl, sym, ap, ◌∙◌}
use mathlib.Core.List.{List}
use borrow.Author.Tests.{ne_eqb}
use mathlib.Core.Bool.{false}
use lib.Dec.{eqb}
use lib.ListN.{length, get_or, replicate}
use Rattle.memory.specs.declared.Turn.{Turn}
use Rattle.memory.specs.Memory.{Memory}
use Rattle.memory.specs.Turns.{step_turn}
use Rattle.engine.specs.Answers.{Outcome, unless_station}
use Rattle.engine.specs.Moves.{out_at_turn, block_at_turn, work_refusal, pass_next, commit_writeset, pass_out, pass_block, work_step}
use Rattle.engine.proofs.Tests.{cond_by, unless-by}
use Rattle.call_reply.specs.declared.WorkReply.{WorkReply}
use Rattle.call_reply.specs.Replies.{number, work_reply, Gives, GivesWith}
use Rattle.call_reply.specs.Called.{called}
use Rattle.call_reply.proofs.CalledLaws.{called-six, called-other}

module _ (step : Memory → Outcome) (m : Memory) where
  module _ (ours : m.group.own ≡ 255 → ⊥) (block : List ℕ) where
    pub length_refused : (length m.txns.table ≡ 6 → ⊥) → GivesWith number (unless_station m (called step m)) block 1 m block
    length_refused other = rw (ne_eqb m.group.own 255 ours, called-other step m other) ((refl, refl), refl)

    pub sent_on_six : length m.txns.table ≡ 6 → {n : ℕ} {left : Memory} {after : List ℕ} → GivesWith number (step m) block n left after → GivesWith number (unless_station m (called step m)) block n left after
    sent_on_six six g = rw (ne_eqb m.group.own 255 ours, called-six step m six) g

  pub work_refused : (length m.txns.table ≡ 6 → ⊥)
      → Gives work_reply (called step m) (record { number = 1; sender = 0; moved = false; count = 0; ticket = 0; aborted = replicate 6 0; append = false }) m
  work_refused other = rw (called-other step m other) (refl, refl)

-- what a work that is not refused replies says what it does to the turn
module _ (m : Memory) where
  abbrev pub stepped : WorkReply → Turn
  stepped w = step_turn w.moved (eqb w.sender m.group.own) m.turn

  abbrev Turned : Outcome → Type 0
  Turned o = number o ≡ 0 → stepped (work_reply o) ≡ o.memory.turn

  pub work_turn : Turned (work_step m)
  unfolding work_step pass_out pass_block pass_next commit_writeset
  work_turn = unless-by Turned (work_refusal m) m
      (λ e. cond_by Turned (out_at_turn m) (λ o z. refl) (λ o. cond_by Turned (eqb (get_or (block_at_turn m) 0 0) 1) (λ k z. refl) (λ k z. refl))) (λ e z. absurd (e z))

  -- the turn that a work by value hands back is the lent one, stepped by the reply
  pub stepped_to : {w : WorkReply} {after : Memory} → w.number ≡ 0 → Gives work_reply (work_step m) w after → stepped w ≡ after.turn
  stepped_to z g = ap stepped g.0 ∙ work_turn (sym (ap (λ (x : WorkReply). x.number) g.0) ∙ z) ∙ sym (ap (λ (x : Memory). x.turn) g.1)
