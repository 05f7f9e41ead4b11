use Rattle.std.proofs.Common.{arith, ◌≡◌, ◌∙◌, sym, ◌*◌, ◌/◌, length}
use lib.Dec.{leb}
use Rattle.replay_delivery.specs.Deliveries.{unhex}
use Rattle.replay_delivery.proofs.DeliveryLaws.{hex_odd, and_false, no_delivery, below_none, below_some, decoded-next, decoded-not, decoded_all}
use Rattle.replay_delivery.proofs.decode.Goals as goal

pub returns-then-digits-ne0 : goal.returns-then-digits-ne0
returns-then-digits-ne0 c =
    let d = c.args.digits.now in
    no_delivery (unhex d) (rw (hex_odd d c.if-digits-ne0.true) (and_false (leb (length d) (2 * c.args.most))))

pub returns-in_err-bytes : goal.returns-in_err-bytes
returns-in_err-bytes c =
    let l = c.loop-i in
    let d = c.args.digits.now in
    c.from_residual.ensures ∙ no_delivery (unhex d) (decoded-not d l.bytes l.i c.args.most (omega arith) l.invariant (below_none (sym c.hex_pair.ensures ∙ c.in_err-bytes.was)))

pub loop-i-preserved : goal.loop-i-preserved
loop-i-preserved c =
    let l = c.loop-i in
    let d = c.args.digits.now in
    let x = below_some (sym c.hex_pair.ensures ∙ c.in_ok-bytes.was) in
    decoded-next d l.bytes l.i c.in_ok-bytes.field-0 x.0 (omega arith) l.invariant (omega (arith, x)) (omega arith)

pub returns : goal.returns
returns c =
    let l = c.loop-i in
    let d = c.args.digits.now in
    let e : l.i ≡ length d / 2 = omega arith in
    rw e at (decoded_all d l.bytes l.i c.args.most (omega arith) (omega arith) l.invariant)
