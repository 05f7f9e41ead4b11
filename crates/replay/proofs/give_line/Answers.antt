-- `give_line` meets its contract.
use Rattle.std.proofs.Common.{[], refl}
use Rattle.replay.proofs.AnswerLaws.{gives_line}
use Rattle.replay.proofs.give_line.Goals as goal

pub put_answer-requires : goal.put_answer-requires
put_answer-requires c =
    let p = c.run-placed.ensures.plays [] in
    (p.count, p.shown, refl)

pub returns : goal.returns
returns c =
    let a = c.args in
    gives_line a.told.now a.lent.now a.place a.page.now c.run-placed.ensures c.put_answer.ensures
