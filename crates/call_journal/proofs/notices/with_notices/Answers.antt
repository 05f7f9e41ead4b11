use Rattle.std.proofs.Common.{sym, ◌∙◌, arith}
use Rattle.call_journal.proofs.NoticeLaws.{group-turn, group-end}
use Rattle.call_journal.proofs.notices.with_notices.Goals as goal

pub loop-about-preserved : goal.loop-about-preserved
loop-about-preserved c =
    c.loop-about.invariant
    ∙ group-turn c.args.notices.now c.loop-about.about-index c.as_chunks.result.0.now c.as_chunks.ensures.front (omega arith) c.loop-about.after c.with_notice-after.result c.with_notice-after.ensures

pub returns : goal.returns
returns c = sym (c.loop-about.invariant ∙ group-end c.args.notices.now c.loop-about.about-index c.loop-about.after (omega arith))
