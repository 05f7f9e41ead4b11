-- `answer` meets its contract.
use borrow.Author.Tests.{eqb-true}
use Rattle.std.proofs.Common.{◌≡◌, [], length, take, sym, ◌∙◌}
use Rattle.std.proofs.lemmas.List.{nil_from_length}
use Rattle.replay.proofs.AnswerLaws.{reply-played, reply-passed}
use Rattle.replay.proofs.answer.Goals as goal

pub returns-then-not-is_asked : goal.returns-then-not-is_asked
returns-then-not-is_asked c =
    let a = c.args in
    rw (← c.turns-told.ensures)
    (reply-passed a.request.known a.request.call (take a.request.count a.request.bytes) c.turns-told.result.now a.lender.replica a.place a.page.now a.kept.now a.out.now c.is_asked.ensures c.if-not-is_asked.true c.put_unknown.ensures c.put_unknown.auto.out)

pub returns-then-is_empty : goal.returns-then-is_empty
returns-then-is_empty c =
    let a = c.args in
    let told = c.turns-told.result.now in
    let none : told ≡ [] = nil_from_length told (eqb-true (length told) 0 (sym c.is_empty.ensures ∙ c.if-is_empty.true)) in
    rw (← c.turns-told.ensures)
    (reply-played a.request.known a.request.call (take a.request.count a.request.bytes) c.turns-told.result.now a.lender.replica a.place a.page.now a.kept.now a.out.now c.is_asked.ensures c.if-not-is_asked.false none c.play_line.ensures)
