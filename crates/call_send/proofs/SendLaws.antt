-- What a send that is not refused was lent, and its two answers. Assumes nothing.
use Prim.Native.Nat.{ℕ}
use mathlib.Core.Path.{◌≡◌, refl, sym, ap, ◌∙◌}
use mathlib.Core.List.{List, map}
use borrow.Author.Tests.{ne_eqb, eqb-true, not-false}
use lib.ListN.{length, replicate}
use Rattle.block.specs.Bytes.{block_of}
use Rattle.block.proofs.BoolLaws.{both}
use Rattle.memory.specs.declared.Turn.{Turn}
use Rattle.memory.specs.declared.Txn.{Txn}
use Rattle.memory.specs.Memory.{Memory}
use Rattle.memory.specs.Turns.{mark_sent}
use Rattle.engine.specs.Answers.{outcome}
use Rattle.engine.specs.Answers.Answer.{refused, sent}
use Rattle.engine.specs.Moves.{message_for, send_row, send_refusal, send_now, send_step}
use Rattle.engine.proofs.Tests.{passes}
use Rattle.call_reply.specs.declared.faults.Fault.{Fault}
use Rattle.call_reply.specs.Faults.{fault_number}
use Rattle.call_reply.specs.Parts.{send_parts}
use Rattle.call_reply.proofs.FaultLaws.{fault_some}

-- what is known once a send is not refused
pub record Long (m : Memory) (block : List ℕ) : Type 0 where
  pub items : length m.txns.items ≡ 48
  pub writes : length m.txns.writes ≡ 48
  pub queue : length m.txns.queue ≡ 6
  pub outbox : length m.blocks.outbox ≡ 512
  pub lent : length block ≡ 512

module _ (m : Memory) (block : List ℕ) where
  pub send-refused : (f : Fault) → fault_number f ≡ send_refusal m block → outcome (refused (fault_number f)) m ≡ send_step m block
  unfolding send_step
  send-refused f e = rw (← e, ne_eqb (fault_number f) 0 (fault_some f))

  module _ (none : 0 ≡ send_refusal m block) where
    pub send-long : Long m block
    unfolding send_refusal
    send-long =
        let l = both _ _ (not-false _ (passes _ _ refl (sym none)).0) in
        let w = both _ _ l.left in
        let q = both _ _ l.right in
        let o = both _ _ q.right in
        record {
          items = eqb-true _ 48 w.left;
          writes = eqb-true _ 48 w.right;
          queue = eqb-true _ 6 q.left;
          outbox = eqb-true _ 512 o.left;
          lent = eqb-true _ 512 o.right;
        }

    -- turn t, rows, queue q, outbox o and lent block b as they are left
    pub send-taken : (t : Turn) (rows : List Txn) (q o b : List ℕ) → t ≡ mark_sent m.turn → rows ≡ map send_row m.txns.table
        → q ≡ replicate (length m.txns.queue) 0 → o ≡ b → b ≡ block_of (message_for m)
        → outcome (sent b) (send_parts m m.group t rows q m.txns.items m.txns.writes o) ≡ send_step m block
    unfolding send_step send_now
    send-taken t rows q o b mark asked zeros copy is =
        let z : q ≡ replicate 6 0 = zeros ∙ ap (λ (k : ℕ). replicate k 0) send-long.queue in
        rw (← none, mark, asked, z, copy, is)
