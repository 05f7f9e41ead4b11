-- `send` meets its contract.
use mathlib.Core.Path.{sym, ◌∙◌}
use Rattle.replay_moves.proofs.MoveLaws.{send-refused, send-does}
use Rattle.replay_moves.proofs.send.Goals as goal

pub returns-then-is_station : goal.returns-then-is_station
returns-then-is_station c =
    let a = c.args in
    λ size.
    send-refused size a.replica a.block.now (sym c.is_station.ensures ∙ c.if-is_station.true) c.bare.ensures

pub returns : goal.returns
returns c =
    let e = c in
    let a = e.args in
    λ size.
    send-does size a.replica a.block.now (sym e.is_station.ensures ∙ e.if-is_station.false) (c.send_at_replica.ensures size)
