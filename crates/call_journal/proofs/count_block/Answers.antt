-- `count_block` meets its contract.
use mathlib.Core.Path.{sym, ◌∙◌}
use borrow.Author.Tests.{eq-eqb, ne_eqb}
use Rattle.call_journal.specs.Replays.{tallied}
use Rattle.call_journal.proofs.count_block.Goals as goal

pub returns-then-block-own : goal.returns-then-block-own
unfolding tallied
returns-then-block-own c = rw (ne_eqb _ c.args.own c.if-block-own.true)

pub returns-then-puts_out : goal.returns-then-puts_out
unfolding tallied
returns-then-puts_out c = rw (eq-eqb _ c.args.own c.if-block-own.false, c.highest_ticket.ensures, sym c.puts_out.ensures ∙ c.if-puts_out.true)

pub returns-else-puts_out : goal.returns-else-puts_out
unfolding tallied
returns-else-puts_out c = rw (eq-eqb _ c.args.own c.if-block-own.false, c.highest_ticket.ensures, sym c.puts_out.ensures ∙ c.if-puts_out.false)
