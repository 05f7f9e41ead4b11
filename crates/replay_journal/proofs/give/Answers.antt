-- `give` meets its contract.
use mathlib.Core.Path.{◌≡◌, sym, ◌∙◌}
use native.Mathlib.Omega.{arith}
use lib.ListN.{length}
use lib.Seq.{take_all}
use Rattle.replay_journal.specs.Journals.{journal_of, bytes_given}
use Rattle.replay_journal.proofs.PartLaws.{given-named, given-outgrown, given-part}
use Rattle.replay_journal.proofs.give.Goals.{in_default-via-in-Some+else-is_part, in_default-via-in_default}
use Rattle.replay_journal.proofs.give.Goals as goal

pub returns-in_default : goal.returns-in_default
returns-in_default c =
    let a = c.args in
    let named = a.named.now in
    let is : named ≡ bytes_given a.call named (journal_of a.held a.page.now) =
    elim c.in_default.branch [
      | in_default-via-in-Some+else-is_part w ↦ given-named a.call a.page.now named a.held (sym w.is_part.ensures ∙ w.if-is_part.false)
      | in_default-via-in_default w ↦ given-outgrown a.call a.page.now named w.in_default.is
    ]
    in
    rw (take_all (length named) named (omega arith) ∙ is) at c.lend-in_default.ensures

pub returns-in-Some : goal.returns-in-Some
returns-in-Some c =
    let a = c.args in
    let part = given-part a.call a.page.now a.named.now c.in-Some.is (sym c.is_part.ensures ∙ c.if-is_part.true) in
    rw (c.part_start.ensures, c.min.ensures, c.part_end.ensures, part) at c.lend.ensures
