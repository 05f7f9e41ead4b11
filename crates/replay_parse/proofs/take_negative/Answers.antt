use Rattle.std.proofs.Common.{arith, ◌-◌, drop, Fits, w32}
use mir.Facts.{of_z-to_z}
use Rattle.replay_parse.proofs.LineLaws.{some_read, some_end, negative_is}
use Rattle.replay_parse.proofs.take_negative.Goals as goal

pub returns : goal.returns
returns c =
    let a = c.args in
    let fits : Fits w32 (4294967296 - c.in_ok-n.n) = record { fits = omega (arith, c.if-n-eq0.false) } in
    record {
      field = rw (c.to_value.ensures, of_z-to_z fits) (negative_is (drop a.from a.line.now) (some_read c.take_digits.ensures c.in_ok-n.was) c.if-n-eq0.false);
      end = some_end c.take_digits.ensures c.in_ok-n.was;
    }
