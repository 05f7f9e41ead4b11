-- `write` meets its contract.
use mathlib.Core.Path.{sym, ◌∙◌}
use mir.Facts.{to_z-of_z}
use Rattle.replay_replica.specs.Effects.{places_size}
use Rattle.replay_client.proofs.ClientLaws.{write-refused, write-does}
use Rattle.replay_client.proofs.write.Goals as goal

pub returns-then-is_station : goal.returns-then-is_station
returns-then-is_station c =
    let a = c.args in
    let size = places_size a.replica.group.replicas in
    λ lent.
    write-refused size a.replica lent a.ticket a.item a.value (sym c.is_station.ensures ∙ c.if-is_station.true) c.bare.ensures

pub returns : goal.returns
returns c =
    let s = c in
    let a = s.args in
    let size = places_size a.replica.group.replicas in
    let h = rw (to_z-of_z s.ranges.value) at c.write_at_replica.ensures in
    λ lent.
    write-does size a.replica lent a.ticket a.item a.value (sym c.is_station.ensures ∙ c.if-is_station.false) (h lent)
