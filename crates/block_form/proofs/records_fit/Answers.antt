use mathlib.Core.Path.{◌≡◌, sym, ◌∙◌}
use native.Mathlib.Nat.{sub-zero as minus-zero}
use native.Mathlib.Omega.{arith}
use lib.ListN.{length-take, length-drop}
use Rattle.block.proofs.FormLaws.{refused, passed, records-bad, records-next, records-end}
use Rattle.block_form.proofs.records_fit.Goals as goal

pub loop-j-init : goal.loop-j-init
loop-j-init c = rw minus-zero

pub record_fits-requires : goal.record_fits-requires
record_fits-requires c = simp (length-take, length-drop) (omega arith)

pub returns-then-not-record_fits : goal.returns-then-not-record_fits
returns-then-not-record_fits c =
    sym (c.loop-j.invariant ∙ records-bad c.args.count c.loop-j.j c.args.body.now (omega arith) (refused c.record_fits.ensures c.if-not-record_fits.true))

pub loop-j-preserved : goal.loop-j-preserved
loop-j-preserved c = c.loop-j.invariant ∙ records-next c.args.count c.loop-j.j c.args.body.now (omega arith) (passed c.record_fits.ensures c.if-not-record_fits.false)

pub returns : goal.returns
returns c =
    let e : c.loop-j.j ≡ c.args.count = omega arith in
    c.zero.ensures ∙ sym (c.loop-j.invariant ∙ rw e (records-end c.args.count c.args.body.now))
