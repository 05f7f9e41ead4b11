use Rattle.std.proofs.Common.{rules, ◌∙◌, drop, Fits, w32}
use mir.Facts.{of_z-to_z}
use Rattle.replay_parse.proofs.LineLaws.{some_read, some_end, positive_is, signed-plain}
use Rattle.replay_parse.proofs.take_signed.Goals as goal

pub returns : goal.returns
returns c =
    let a = c.args in
    let fits : Fits w32 c.in_ok-n.n = search rules in
    record {
      field = rw (c.to_value.ensures, of_z-to_z fits) (positive_is (drop a.from a.line.now) (some_read c.take_digits.ensures c.in_ok-n.was) ∙ signed-plain a.line.now a.from c.if-line-from.false c.if-line-from-eq45.false);
      end = some_end c.take_digits.ensures c.in_ok-n.was;
    }
