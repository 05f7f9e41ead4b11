-- `reply` is safe: the line is put within the rest of the buffer.
use Rattle.std.proofs.Common.{◌+◌, ◌-◌, ◌≤◌, length, drop, arith, length-take}
use Rattle.replay.proofs.reply.Goals as goal

pub returns : goal.returns
returns c =
    let room : c.args.output.held + c.answer-next.result.said.length ≤ 65536 = let s = c in
    let held = s.args.output.held in
    omega (arith, s.requires.0, c.answer-next.ensures.within, c.answer-next.auto.out, length-take (length s.args.out.now - held) (drop held s.args.out.now), s.requires.3) in
    rw c.with_line.ensures (omega (arith, room))
