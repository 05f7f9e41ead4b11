use Rattle.std.proofs.Common.{◌≡◌, ◌∙◌, ◌<◌, ◌+◌, ◌-◌, ◌++◌, refl, length, drop, arith, rules}
use Rattle.std.proofs.Math.Seq.{length-take-le}
use Rattle.memory.specs.Rows.{row_at}
use Rattle.engine.specs.Moves.{writeset_at}
use Rattle.call_commit.proofs.RisingLaws.{rising-front, rising-back}
use Rattle.call_commit.proofs.HitLaws.{abort-none, abort-hit, abort-miss}
use Rattle.call_commit.proofs.abort_rows.Goals as goal

pub loop-r-init : goal.loop-r-init
loop-r-init c =
    let a = c.args in
    let six : length a.table ≡ 6 = search rules in
    abort-none (writeset_at a.block.now a.j).entries a.items.now a.table six _ _ refl refl

pub loop-r-preserved-then-is_hit : goal.loop-r-preserved-then-is_hit
loop-r-preserved-then-is_hit c =
    let a = c.args in
    let l = c.loop-r in
    let six : length a.table ≡ 6 = search rules in
    let x = (row_at a.table (l.r - 1)).ticket in
    let more = c.insert_rising.new.list ++ drop (l.count + 1) l.tickets in
    let fits : l.count < length l.tickets = omega arith in
    let long : length c.insert_rising.new.list ≡ l.count + 1 = c.insert_rising.auto.list ∙ length-take-le (l.count + 1) l.tickets (omega arith) in
    abort-hit (writeset_at a.block.now a.j).entries a.items.now a.table six l.marks l.tickets l.count (l.r - 1) l.r
    (omega arith) l.invariant c.is_hit.result c.is_hit.ensures c.if-is_hit.true more
    (rising-front x l.count l.tickets _ fits long c.insert_rising.ensures) (rising-back x l.count l.tickets _ fits long c.insert_rising.ensures)

pub loop-r-preserved : goal.loop-r-preserved
loop-r-preserved c =
    let a = c.args in
    let l = c.loop-r in
    let six : length a.table ≡ 6 = search rules in
    abort-miss (writeset_at a.block.now a.j).entries a.items.now a.table six l.marks l.tickets l.count (l.r - 1) l.r
    (omega arith) l.invariant c.is_hit.result c.is_hit.ensures c.if-is_hit.false
