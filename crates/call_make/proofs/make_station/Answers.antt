-- `make_station` meets its contract: what `make` gave with number 0, without the number. Assumes nothing.
use Rattle.std.proofs.Common.{◌≡◌, refl, ap, List, []}
use Rattle.std.proofs.lemmas.Result.{err_from_is_err_and}
use Rattle.memory.specs.declared.Counts.{Counts}
use Rattle.memory.specs.declared.Group.{Group}
use Rattle.memory.specs.declared.Turn.{Turn}
use Rattle.memory.specs.declared.Txn.{Txn}
use Rattle.memory.specs.Memory.{Memory}
use Rattle.call_reply.specs.declared.Made.{Made}
use Rattle.call_reply.specs.Parts.{all_parts}
use Rattle.call_reply.proofs.FaultLaws.{fault_some}
use Rattle.call_make.proofs.StationLaws.{station-refused, station-made}
use Rattle.call_make.proofs.make_station.Goals as goal

pub returns-in_err-station-clause-gives : goal.returns-in_err-station-clause-gives
returns-in_err-station-clause-gives c =
    let a = c.args in
    let before : Group → Turn → Counts → List Txn → Memory = λ group turn counts rows.
    all_parts group turn counts rows a.queue.now a.items.now a.writes.now a.snapshots.now a.values.now a.stamps.now a.classes.now a.places.now a.outbox.now a.window.now in
    let p = err_from_is_err_and c.from_residual.result c.from_residual.ensures.1 in
    rw (p.1, p.2)
    (λ group turn counts rows. station-refused (before group turn counts rows) a.n a.start.now _ _ (c.in_err-station.ensures.gives group turn counts rows) (fault_some c.in_err-station.field-0.0))

pub returns-clause-gives : goal.returns-clause-gives
returns-clause-gives c =
    let a = c.args in
    let before : Group → Turn → Counts → List Txn → Memory = λ group turn counts rows.
    all_parts group turn counts rows a.queue.now a.items.now a.writes.now a.snapshots.now a.values.now a.stamps.now a.classes.now a.places.now a.outbox.now a.window.now in
    λ group turn counts rows. rw c.in_ok-station.ensures.made (station-made (before group turn counts rows) a.n a.start.now _ _ (rw c.in_ok-station.ensures.made at (c.in_ok-station.ensures.gives group turn counts rows)) refl)
