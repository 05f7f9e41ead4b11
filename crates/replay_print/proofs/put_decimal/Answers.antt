-- `put_decimal` meets its contract.
use Prim.Native.Nat.{◌≤◌}
use mathlib.Core.Path.{◌∙◌}
use Rattle.replay_print.proofs.TextLaws.{decimal_digits, decimal-short}
use Rattle.replay_print.proofs.put_decimal.Goals as goal

pub returns : goal.returns
returns c =
    let d = c.decimal-count in
    let n = c in
    let h : d.result ≤ 20 = decimal-short d.result n.args.n n.ranges.n.fits d.ensures.len in
    rw (d.ensures.digits ∙ decimal_digits 20 d.result c.args.n h d.ensures.len) at c.put_bytes.ensures
