-- `give` meets its contract: turned away, or the slots one after the other.
use mathlib.Core.Path.{◌≡◌, refl, sym}
use mathlib.Core.List.{[]}
use native.Mathlib.Omega.{arith}
use lib.Dec.{eqb}
use lib.ListN.{length}
use Rattle.std.specs.Prelude.{unwrap_or}
use Rattle.memory.specs.Memory.{Memory}
use Rattle.engine.specs.Make.{made_memory}
use Rattle.giving.specs.Giving.{set_out_field}
use Rattle.giving.proofs.Passed.{give_passed}
use Rattle.call_reply.specs.Faults.{number_in}
use Rattle.call_reply.proofs.FaultLaws.{fault_some}
use Rattle.call_give.specs.Gifts.{give_parts, TurnTold}
use Rattle.call_give.proofs.AnswerLaws.{giver-fits, some_up, turn_told, fits_window, room-start, stands-start, away, given}
use borrow.Author.Rules.{rules}
use Rattle.call_give.proofs.give.Goals as goal

-- the memory lent is `before`
pub check-checked-requires : goal.check-checked-requires
check-checked-requires c =
    let a = c.args in
    fits_window c.lengths_fit-work.result (eqb (length a.outbox.now) 512) (eqb (length a.turns.now) a.group.replicas) (length a.lent.now) c.all_fit-fits.result c.all_fit-fits.ensures

pub named-who-requires : goal.named-who-requires
named-who-requires c =
    let a = c.args in
    let before : Memory → Memory = λ m. give_parts m a.group a.turn a.counts a.rows a.queue.now a.items.now a.values.now a.stamps.now a.places.now a.outbox.now a.window.now in
    let fits = sym (rw c.lengths_fit-work.ensures at c.all_fit-fits.ensures) in
    let to : (m : Memory) → TurnTold (before m) a.turns.now c.turn_of-to.result = λ m. turn_told (before m) a.turns.now c.giver-best.result c.turn_of-to.result c.giver-best.ensures.giver c.giver-best.ensures.another c.turn_of-to.ensures in
    λ h.
    let d = made_memory 0 0 [] in
    let up = giver-fits (before d) a.turns.now a.lent.now (number_in c.check-checked.result) (c.check-checked.ensures (before d) a.turns.now refl refl fits (to d)).0 h in
    some_up c.giver-best.result a.group.own _ a.group.replicas c.giver-best.ensures.giver up (omega arith)

pub give_slots-end-requires : goal.give_slots-end-requires
give_slots-end-requires c =
    let a = c.args in
    let before : Memory → Memory = λ m. give_parts m a.group a.turn a.counts a.rows a.queue.now a.items.now a.values.now a.stamps.now a.places.now a.outbox.now a.window.now in
    let fits = sym (rw c.lengths_fit-work.ensures at c.all_fit-fits.ensures) in
    let to : (m : Memory) → TurnTold (before m) a.turns.now c.turn_of-to.result = λ m. turn_told (before m) a.turns.now c.giver-best.result c.turn_of-to.result c.giver-best.ensures.giver c.giver-best.ensures.another c.turn_of-to.ensures in
    let d = made_memory 0 0 [] in (
      room-start a.turn a.counts a.rows 0 c.set_out-start.result c.set_out-start.ensures (search rules),
      (give_passed (before d) a.turns.now a.lent.now (sym (c.in-Ok.ensures (before d) a.turns.now refl refl fits (to d)).0)).long,
    )

pub returns-in-Ok : goal.returns-in-Ok
returns-in-Ok c =
    let a = c.args in
    let before : Memory → Memory = λ m. give_parts m a.group a.turn a.counts a.rows a.queue.now a.items.now a.values.now a.stamps.now a.places.now a.outbox.now a.window.now in
    let fits = sym (rw c.lengths_fit-work.ensures at c.all_fit-fits.ensures) in
    let to : (m : Memory) → TurnTold (before m) a.turns.now c.turn_of-to.result = λ m. turn_told (before m) a.turns.now c.giver-best.result c.turn_of-to.result c.giver-best.ensures.giver c.giver-best.ensures.another c.turn_of-to.ensures in
    let rows_long : length a.rows ≡ 6 = search rules in
    λ m.
    let went = c.in-Ok.ensures (before m) a.turns.now refl refl fits (to m) in
    given m a.group a.turn a.counts a.rows a.queue.now a.items.now a.values.now a.stamps.now a.places.now a.outbox.now a.window.now a.turns.now a.lent.now
    0 went.0 (unwrap_or c.giver-best.result a.group.own) c.giver-best.ensures.giver c.named-who.result (rw c.in-Ok.is at (c.named-who.ensures a.group.own)) rows_long refl c.in-Ok.count went.1 c.give_slots-end.result _ _ _ _ _ _ _
    (c.give_slots-end.ensures m (set_out_field (before m) 0)
    (stands-start a.turn a.counts a.rows 0 c.set_out-start.result c.set_out-start.ensures refl m a.group a.queue.now a.items.now a.values.now a.stamps.now a.places.now a.outbox.now a.window.now))
    c.answer.result c.answer.ensures

pub returns-in-Err : goal.returns-in-Err
returns-in-Err c =
    let a = c.args in
    let before : Memory → Memory = λ m. give_parts m a.group a.turn a.counts a.rows a.queue.now a.items.now a.values.now a.stamps.now a.places.now a.outbox.now a.window.now in
    let fits = sym (rw c.lengths_fit-work.ensures at c.all_fit-fits.ensures) in
    let to : (m : Memory) → TurnTold (before m) a.turns.now c.turn_of-to.result = λ m. turn_told (before m) a.turns.now c.giver-best.result c.turn_of-to.result c.giver-best.ensures.giver c.giver-best.ensures.another c.turn_of-to.ensures in
    let rows_long : length a.rows ≡ 6 = search rules in
    λ m.
    let went = c.in-Err.ensures (before m) a.turns.now refl refl fits (to m) in
    away m a.group a.turn a.counts a.rows a.queue.now a.items.now a.values.now a.stamps.now a.places.now a.outbox.now a.window.now a.turns.now a.lent.now
    _ went.0 (unwrap_or c.giver-best.result a.group.own) c.giver-best.ensures.giver c.named-who.result (rw c.in-Err.is at (c.named-who.ensures a.group.own)) rows_long (fault_some c.in-Err.fault) c.set_out.result (rw c.number.ensures at c.set_out.ensures) c.answer-in-Err.result c.answer-in-Err.ensures
