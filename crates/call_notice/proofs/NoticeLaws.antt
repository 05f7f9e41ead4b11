-- Each answer of a notice, from the tests that lead to it. Assumes nothing.
use Prim.Native.Nat.{◌*◌, ◌<◌}
use mathlib.Core.Path.{◌≡◌, refl}
use mathlib.Core.Bool.{Bool, cond}
use lib.ListN.{length}
use borrow.Author.Tests.{eq-eqb, ne_eqb, lt-leb}
use Rattle.block.specs.Answers.{first_of}
use Rattle.memory.specs.declared.Group.{Group}
use Rattle.memory.specs.Memory.{Memory, span, slot_limit, with_group}
use Rattle.memory.specs.Notices.{Notice, with_notice}
use Rattle.engine.specs.Answers.{outcome}
use Rattle.engine.specs.Answers.Answer.{refused, noticed}
use Rattle.engine.specs.Notices.{bars_notice, notice_refusal, notice_step}
use Rattle.call_reply.specs.declared.faults.Fault.{Fault}
use Rattle.call_reply.specs.Faults.{fault_number}
use Rattle.call_reply.proofs.FaultLaws.{fault_some}

module _ (m : Memory) (a : Notice) where
  -- past the tests of length and range
  pub barred_last : length m.blocks.places ≡ 512 * span m.group → a.about < m.group.replicas → a.slot < slot_limit → (b : Bool) → b ≡ bars_notice m a → cond b 28 0 ≡ notice_refusal m a
  unfolding notice_refusal first_of
  barred_last long about range b is =
      rw (eq-eqb (length m.blocks.places) (512 * span m.group) long, lt-leb m.group.replicas a.about about, lt-leb slot_limit a.slot range, ← is) refl

  pub notice-refused : (f : Fault) → fault_number f ≡ notice_refusal m a → outcome (refused (fault_number f)) m ≡ notice_step m a
  unfolding notice_step
  notice-refused f e = rw (← e, ne_eqb (fault_number f) 0 (fault_some f))

  pub notice-taken : 0 ≡ notice_refusal m a → (g : Group) → g ≡ with_notice m.group a → outcome noticed (with_group m g) ≡ notice_step m a
  unfolding notice_step
  notice-taken n g e = rw (← n, e)
