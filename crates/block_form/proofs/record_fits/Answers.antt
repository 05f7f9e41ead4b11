-- Each test that fails makes the record unfit, and past them its entries decide.
use mathlib.Core.Path.{◌≡◌, sym, ◌∙◌}
use native.Mathlib.Omega.{arith}
use borrow.Author.Rules.{rules}
use Rattle.block.specs.Message.{within, max_ticket}
use Rattle.block.proofs.FormLaws.{record-ticket, record-writes, record-entries}
use Rattle.block_form.proofs.record_fits.Goals.{then-contains, else-contains}
use Rattle.block_form.proofs.record_fits.Goals as goal

pub returns-then-contains-2 : goal.returns-then-contains-2
unfolding within
returns-then-contains-2 c =
    let l = c.args.part.now in
    let t = c.number_at-ticket in
    let w = c.number_at-writes in
    let ticket : c.contains.result ≡ within 1 max_ticket t.result = search rules in
    elim c.if-contains.branch [
      | then-contains v ↦
          let writes : v.contains-then-contains.result ≡ within 1 8 w.result = search rules in
          c.entries_fit.ensures
          ∙ sym (record-entries l t.result t.ensures w.result (omega arith) w.ensures (sym ticket ∙ v.if-contains.true) (sym writes ∙ sym v.value-is ∙ c.if-contains-2.true))
      | else-contains v ↦ absurd (search rules)
    ]

pub returns-else-contains-2 : goal.returns-else-contains-2
unfolding within
returns-else-contains-2 c =
    let l = c.args.part.now in
    let t = c.number_at-ticket in
    let w = c.number_at-writes in
    let ticket : c.contains.result ≡ within 1 max_ticket t.result = search rules in
    c.if-contains-2.false
    ∙ sym
    (elim c.if-contains.branch [
      | then-contains v ↦
          let writes : v.contains-then-contains.result ≡ within 1 8 w.result = search rules in
          record-writes l t.result t.ensures w.result (omega arith) w.ensures (sym writes ∙ sym v.value-is ∙ c.if-contains-2.false)
      | else-contains v ↦ record-ticket l t.result t.ensures (sym ticket ∙ v.if-contains.false)
    ])
