-- `put_signed` meets its contract.
use Prim.Native.Nat.{◌≤◌, ◌<◌}
use mathlib.Core.Path.{◌≡◌}
use mir.Facts.{to_z-of_z}
use mir.Syntax.{w32}
use mir.Val.{of_z}
use Rattle.replay_print.proofs.TextLaws.{signed_low, signed_high, appends_then}
use Rattle.replay_print.proofs.put_signed.Goals as goal

pub returns-then-bits-lt2147483648 : goal.returns-then-bits-lt2147483648
returns-then-bits-lt2147483648 c =
    let s = c in
    let e : c.to_bits-bits.result ≡ of_z w32 s.args.value = rw (to_z-of_z s.ranges.value) at c.to_bits-bits.ensures in
    let h : of_z w32 s.args.value < 2147483648 = rw e at c.if-bits-lt2147483648.true in
    rw (signed_low s.args.value s.ranges.value h, ← e) c.put_decimal.ensures

pub returns : goal.returns
returns c =
    let s = c in
    let e : c.to_bits-bits.result ≡ of_z w32 s.args.value = rw (to_z-of_z s.ranges.value) at c.to_bits-bits.ensures in
    let h : 2147483648 ≤ of_z w32 s.args.value = rw e at c.if-bits-lt2147483648.false in
    rw (signed_high s.args.value s.ranges.value h, ← e) (appends_then c.put-end.ensures c.put_decimal-2.ensures)
