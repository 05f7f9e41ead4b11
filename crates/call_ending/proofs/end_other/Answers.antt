-- `end_other` meets its contract: what the rows hit leave.
use mathlib.Core.Path.{◌≡◌, ◌∙◌}
use mathlib.Core.Logic.{inl, inr}
use lib.ListN.{length}
use Rattle.engine.specs.Moves.{writeset_at}
use Rattle.call_ending.proofs.EndingLaws.{other-ended, other-queue}
use borrow.Author.Rules.{rules}
use Rattle.call_ending.proofs.end_other.Goals as goal
use Rattle.call_ending.proofs.end_other.Goals.{then-count-ne0, else-count-ne0}

pub returns : goal.returns
returns c =
    let six : length c.abort_rows-count.result.tickets ≡ 6 = search rules in
    let o = c.abort_rows-count.result in
    let hit = c.abort_rows-count.ensures in (
      rw (c.mark_applying.ensures, c.requires)
          (other-ended (writeset_at c.args.block.now c.args.j) c.args.turn c.args.counts c.args.rows c.args.items.now o.tickets o.count hit.2 hit.1
          six hit.3 o.marks hit.0 c.bump.result c.saturating_add.result c.bump.ensures c.saturating_add.ensures),
      other-queue (writeset_at c.args.block.now c.args.j) c.args.turn c.args.counts c.args.rows c.args.items.now o.tickets o.count hit.2 hit.1
          c.if-count-ne0.queue c.args.queue.now
          (elim c.if-count-ne0.branch [ then-count-ne0 w ↦ inl (w.queue-is ∙ w.queue_without.ensures) | else-count-ne0 w ↦ inr (w.if-count-ne0.false, w.queue-is) ]),
    )
