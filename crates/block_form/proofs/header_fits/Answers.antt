-- Each test that fails makes `header_fits` false, and past them bytes 8 to 15 decide.
use mathlib.Core.Path.{◌≡◌, sym, ◌∙◌}
use borrow.Author.Rules.{rules}
use borrow.Author.Tests.{eqb-true, eqb-false}
use lib.ListN.{get_or}
use Rattle.std.proofs.Common.{inl, inr}
use Rattle.block.specs.Message.{within}
use Rattle.block.proofs.FormLaws.{header_replicas, header-slot, header-sender, header-rest}
use Rattle.block_form.proofs.header_fits.Goals.{then-slot-le99999999, else-slot-le99999999}
use Rattle.block_form.proofs.header_fits.Goals as goal

pub returns-then-sender-slot : goal.returns-then-sender-slot
unfolding within
returns-then-sender-slot c =
    let b = c.args.block.now in
    let replicas : c.contains.result ≡ within 2 6 (get_or b 2 0) = search rules in
    elim c.if-slot-le99999999.branch [
      | then-slot-le99999999 w ↦
          rw c.number64_at.ensures
          (sym (header-rest b c.number_at-slot.result c.number_at-slot.ensures (sym replicas ∙ w.if-slot-le99999999.true.0) w.if-slot-le99999999.true.1 (eqb-true _ _ (sym w.value-is ∙ c.if-sender-slot.true))))
      | else-slot-le99999999 w ↦ absurd (search rules)
    ]

pub returns-else-sender-slot : goal.returns-else-sender-slot
unfolding within
returns-else-sender-slot c =
    let b = c.args.block.now in
    let replicas : c.contains.result ≡ within 2 6 (get_or b 2 0) = search rules in
    elim c.if-slot-le99999999.branch [
      | then-slot-le99999999 w ↦ c.if-sender-slot.false ∙ sym (header-sender b c.number_at-slot.result c.number_at-slot.ensures (eqb-false _ _ (sym w.value-is ∙ c.if-sender-slot.false)))
      | else-slot-le99999999 w ↦ c.if-sender-slot.false ∙ sym (elim w.if-slot-le99999999.either [ inl x ↦ header-slot b c.number_at-slot.result c.number_at-slot.ensures x.1 | inr y ↦ header_replicas b (sym replicas ∙ y) ])
    ]
