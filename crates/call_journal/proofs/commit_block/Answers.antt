use Rattle.std.proofs.Common.{refl, sym, ◌∙◌, arith}
use Rattle.call_journal.specs.Replays.{replayed}
use Rattle.call_journal.proofs.WritesetLaws.{commit-start, commit-turn, commit-end}
use Rattle.call_journal.proofs.commit_block.Goals as goal

pub loop-j-init : goal.loop-j-init
loop-j-init c = commit-start _ _ refl _

pub loop-j-preserved : goal.loop-j-preserved
loop-j-preserved c =
    c.loop-j.invariant
    ∙ commit-turn c.args.block.now _ c.loop-j.j (omega arith) c.loop-j.after c.bump-after.result c.loop-j.values c.apply.new.values c.loop-j.stamps c.apply.new.stamps
    c.bump-after.ensures c.apply.ensures.0 c.apply.ensures.1

pub returns : goal.returns
returns c = sym (c.loop-j.invariant ∙ commit-end c.args.block.now _ c.loop-j.j (omega arith) (replayed c.loop-j.after c.loop-j.values c.loop-j.stamps))
