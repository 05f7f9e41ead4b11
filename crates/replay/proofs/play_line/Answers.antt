-- `play_line` meets its contract.
use Rattle.std.proofs.Common.{take}
use Rattle.replay.proofs.AnswerLaws.{answers_at}
use Rattle.replay.proofs.play_line.Goals as goal

pub returns : goal.returns
returns c =
    let p = c in
    let r = p in
    let a = r.args in
    answers_at a.request.call (take a.request.count a.request.bytes) a.place a.page.now r.run-placed.ensures p.put_answer.ensures
