-- The loop's invariant: the digits from i on, on from n, give the number.
use Rattle.std.proofs.Common.{◌≡◌, drop}
use Rattle.replay_parse.specs.Lines.{digits_from, read_digits}
use Rattle.replay_parse.proofs.take_digits.Given as goal

abbrev pub invariant-loop-i : goal.invariant-loop-i
invariant-loop-i l = read_digits l.most (drop l.from l.line) ≡ digits_from l.most l.n (drop l.i l.line)
