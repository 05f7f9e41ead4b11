use Rattle.std.proofs.Common.{◌≡◌, false}
use borrow.Author.Tests.{eq-eqb, ne_eqb}
use Rattle.replay_calls.specs.Letters.{size_lent}
use Rattle.week_kept.specs.Blocks.{blocks_of}
use Rattle.week_calls.specs.Steps.{is_missing}
use Rattle.week_calls.proofs.StepLaws.{missing-told, plays-told}
use Rattle.week_calls.proofs.answer.Goals.{else-call-eq68-via-then-call-eq68+else-is_none, else-call-eq68-via-else-call-eq68}
use Rattle.week_calls.proofs.answer.Goals as goal

pub returns-then-is_none : goal.returns-then-is_none
returns-then-is_none c =
    let a = c.args in
    missing-told (size_lent a.call a.replica.group) a.call a.replica a.kept (rw (eq-eqb a.call.letter 68 c.if-call-eq68.true, ← c.find-found.ensures) (rw (c.is_none.ensures, c.if-is_none.true)))

pub returns : goal.returns
returns c =
    let a = c.args in
    let there : is_missing a.call (blocks_of a.kept) ≡ false =
    elim c.else-call-eq68.branch [
      | else-call-eq68-via-then-call-eq68+else-is_none w ↦ rw (eq-eqb a.call.letter 68 w.if-call-eq68.true, ← c.find-found.ensures) (rw (w.is_none.ensures, w.if-is_none.false))
      | else-call-eq68-via-else-call-eq68 w ↦ rw (ne_eqb a.call.letter 68 w.if-call-eq68.false)
    ]
    in
    plays-told (size_lent a.call a.replica.group) a.call a.replica (blocks_of a.kept) c.run-played.result _ c.kept_after.result there
    (rw (c.unwrap_or-bytes.ensures, c.find-found.ensures) at c.run-played.ensures) c.kept_after.ensures
