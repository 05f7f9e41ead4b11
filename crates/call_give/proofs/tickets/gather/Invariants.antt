-- `gather` meets its contract. The loop's invariant: the first i of `more` are in, and nothing behind them was touched.
use Rattle.std.proofs.Common.{◌+◌, ◌≡◌, take, drop}
use Rattle.giving.specs.Giving.{gathered}
use Rattle.call_give.proofs.tickets.gather.Given as goal

abbrev pub invariant-loop-i : goal.invariant-loop-i
invariant-loop-i l = (take (l.count + l.i) l.after ≡ gathered (take l.i l.more) (take l.count l.initial.after)) × (drop (l.count + l.i) l.after ≡ drop (l.count + l.i) l.initial.after)
