use Prim.Native.Nat.{◌≤◌}
use mathlib.Core.Path.{◌≡◌}
use native.Mathlib.Omega.{arith}
use lib.ListN.{length}
use Rattle.week.proofs.TextLaws.{row_count, rows-held, rows-turn, rows_start}
use Rattle.week.proofs.put_table.Goals as goal

pub loop-k-init : goal.loop-k-init
loop-k-init c = rows_start c.args.week.replicas c.args.output c.args.out.now

pub loop-k-preserved : goal.loop-k-preserved
loop-k-preserved c =
    let l = c.loop-k in
    let a = c.args in
    let long : length l.out ≡ 65536 = omega arith in
    rows-turn a.week.replicas a.output a.out.now c.requires l.k l.output l.invariant.0 l.out _ c.put_row.result c.replica_at-replica.result (omega (arith, c.min-k-end.ensures)) long l.invariant.1 c.replica_at-replica.ensures c.put_row.ensures
