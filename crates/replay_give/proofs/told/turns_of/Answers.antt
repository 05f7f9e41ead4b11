-- `told::turns_of` meets its contract.
use mathlib.Core.Path.{◌∙◌}
use Rattle.replay_give.proofs.ToldLaws.{tells_none, told-short, told-other, told_is}
use Rattle.replay_give.proofs.told.turns_of.Goals.{then-line-lt3-via-then-line-lt3, then-line-lt3-via-else-line-lt3+then-line-ne71}
use Rattle.replay_give.proofs.told.turns_of.Goals as goal

pub returns-then-line-lt3 : goal.returns-then-line-lt3
returns-then-line-lt3 c =
    tells_none c.none.ensures.0
    (elim c.then-line-lt3.branch [
      | then-line-lt3-via-then-line-lt3 w ↦ told-short c.args.line.now w.if-line-lt3.true
      | then-line-lt3-via-else-line-lt3+then-line-ne71 w ↦ told-other c.args.line.now w.if-line-lt3.false w.if-line-ne71.true
    ])

pub returns : goal.returns
returns c =
    let n = c.numbers_of.ensures in
    record { first = n.first ∙ told_is c.args.line.now c.if-line-lt3.false c.if-line-ne71.false; within = n.within }
