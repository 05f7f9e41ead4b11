use Rattle.std.proofs.Common.{◌≡◌, ◌+◌, ◌<◌, ◌++◌, ◌∙◌, refl, add-zero, get_or, take, drop, length, arith, rules}
use Rattle.std.proofs.Math.Seq.{take-length, length-take-le}
use Rattle.giving.specs.Giving.{gathered}
use Rattle.call_commit.proofs.RisingLaws.{rising-front, rising-back}
use Rattle.call_give.proofs.TicketLaws.{gather-first, gather-back}
use Rattle.call_give.proofs.tickets.gather.Goals as goal

pub loop-i-init : goal.loop-i-init
unfolding gathered
loop-i-init c = (rw (add-zero c.args.count), refl)

pub loop-i-preserved : goal.loop-i-preserved
loop-i-preserved c =
    let a = c.args in
    let l = c.loop-i in
    let t = c.insert_rising.new.list in
    let longer = t ++ drop (a.count + l.i + 1) l.after in
    let six : length l.after ≡ 6 = search rules in
    let fits : a.count + l.i < length l.after = omega arith in
    let long : length t ≡ a.count + l.i + 1 = c.insert_rising.auto.list ∙ length-take-le (a.count + l.i + 1) l.after (omega arith) in
    let front = rising-front (get_or a.more.now l.i 0) (a.count + l.i) l.after t fits long c.insert_rising.ensures in
    let back = rising-back (get_or a.more.now l.i 0) (a.count + l.i) l.after t fits long c.insert_rising.ensures in (
      gather-first a.list a.more.now l.after longer a.count l.i c.loop-i-test.true l.invariant.0 l.invariant.1 front back,
      gather-back a.list a.more.now l.after longer a.count l.i c.loop-i-test.true l.invariant.0 l.invariant.1 front back,
    )

pub returns : goal.returns
returns c =
    let e : c.loop-i.i ≡ length c.args.more.now = omega arith in
    let w : take c.loop-i.i c.args.more.now ≡ c.args.more.now = rw e (take-length c.args.more.now) in
    (rw (← e) (rw w at c.loop-i.invariant.0), rw (← e) c.loop-i.invariant.1)
