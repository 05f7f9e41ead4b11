-- Length, header, kind with number of records, records, tickets; the first that fails refuses. Past length and header the rest decides.
use mathlib.Core.Path.{◌≡◌, sym, ◌∙◌}
use native.Mathlib.Omega.{arith}
use borrow.Author.Rules.{rules}
use lib.ListN.{get_or}
use Rattle.block.specs.Form.{well_formed}
use Rattle.block.proofs.ListLaws.{lent}
use Rattle.block.proofs.FormLaws.{refused, passed, rest_fits, rest-next, rest-none, rest-one, rest-other, rest_over, rest-bad, rest-good, form_length, form-header, form-rest}
use Rattle.block_form.proofs.well_formed.Goals.{Else-not-header_fits}
use Rattle.block_form.proofs.well_formed.Goals as goal

pub returns-in_default : goal.returns-in_default
returns-in_default c = sym (form_length c.args.block.now (search rules))

pub returns-then-not-header_fits : goal.returns-then-not-header_fits
returns-then-not-header_fits c =
    let whole : c.in-Some.block.now ≡ c.args.block.now = search rules in
    sym (form-header c.args.block.now (search rules) (rw whole at (refused c.header_fits.ensures c.if-not-header_fits.true)))

past : (c : Else-not-header_fits) → well_formed c.args.block.now ≡ rest_fits (get_or c.in-Some.block.now 0 0) (get_or c.in-Some.block.now 3 0) (lent 16 504 c.in-Some.block.now)
past c =
    let whole : c.in-Some.block.now ≡ c.args.block.now = search rules in
    rw whole (form-rest c.args.block.now (search rules) (rw whole at (passed c.header_fits.ensures c.if-not-header_fits.false)))

pub returns-in-1-eq0 : goal.returns-in-1-eq0
returns-in-1-eq0 c = c.zero.ensures ∙ sym (past (goal.at.returns-in-1-eq0 c).Else-not-header_fits ∙ rest-next _ _ _ c.in-1-eq0.is-0 c.in-1-eq0.is-1)

pub returns-then-records_fit : goal.returns-then-records_fit
returns-then-records_fit c =
    c.tickets_differ.ensures
    ∙ sym
    (past (goal.at.returns-then-records_fit c).Else-not-header_fits
    ∙ rest-good _ _ _ c.in-2-1-to-6.is-0 (omega arith) (omega arith) (passed c.records_fit.ensures c.if-records_fit.true))

pub returns-else-records_fit : goal.returns-else-records_fit
returns-else-records_fit c =
    c.if-records_fit.false
    ∙ sym
    (past (goal.at.returns-else-records_fit c).Else-not-header_fits
    ∙ rest-bad _ _ _ c.in-2-1-to-6.is-0 (omega arith) (omega arith) (refused c.records_fit.ensures c.if-records_fit.false))

pub returns-in_default-2 : goal.returns-in_default-2
returns-in_default-2 c = sym (past (goal.at.returns-in_default-2 c).Else-not-header_fits ∙ rest-one _ _ _ (omega arith) (omega arith))

pub returns-in_default-2-2 : goal.returns-in_default-2-2
returns-in_default-2-2 c = sym (past (goal.at.returns-in_default-2-2 c).Else-not-header_fits ∙ rest-none _ _ _ (omega arith) (omega arith))

pub returns-in_default-2-3 : goal.returns-in_default-2-3
returns-in_default-2-3 c = sym (past (goal.at.returns-in_default-2-3 c).Else-not-header_fits ∙ rest_over _ _ _ (omega arith))

pub returns-in_default-2-4 : goal.returns-in_default-2-4
returns-in_default-2-4 c = sym (past (goal.at.returns-in_default-2-4 c).Else-not-header_fits ∙ rest-other _ _ _ (omega arith) (omega arith))
