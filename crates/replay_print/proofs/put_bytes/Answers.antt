use Rattle.std.proofs.Common.{add-one, arith}
use lib.Seq.{take-suc}
use Rattle.replay_print.proofs.TextLaws.{appends_then}
use Rattle.replay_print.proofs.put_bytes.Goals as goal

pub loop-byte-preserved : goal.loop-byte-preserved
loop-byte-preserved c =
    let l = c.loop-byte in
    (omega (arith, l.invariant.0, c.put-end.auto.out), rw (add-one, take-suc c.args.bytes.now l.byte-index 0 c.loop-byte-test.true) (appends_then l.invariant.1 c.put-end.ensures))
