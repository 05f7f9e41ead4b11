use Rattle.std.proofs.Common.{refl, sym, ◌∙◌, arith}
use Rattle.call_journal.proofs.WritesetLaws.{highest-start, highest-turn, highest-end}
use Rattle.call_journal.proofs.highest_ticket.Goals as goal

pub loop-j-init : goal.loop-j-init
loop-j-init c = highest-start _ _ refl _

pub loop-j-preserved : goal.loop-j-preserved
loop-j-preserved c = c.loop-j.invariant ∙ highest-turn c.args.block.now _ c.loop-j.j (omega arith) c.loop-j.highest c.max-highest.result (rw (← c.record_at.ensures) c.max-highest.ensures)

pub returns : goal.returns
returns c = sym (c.loop-j.invariant ∙ highest-end c.args.block.now _ c.loop-j.j (omega arith) c.loop-j.highest)
