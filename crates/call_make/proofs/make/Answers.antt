-- `make` meets its contract: the refusal's number, or what clearing and copying leave.
use Rattle.std.proofs.Common.{◌≡◌, refl, sym, ◌∙◌, List, [], arith}
use Rattle.std.proofs.lemmas.Result.{err_from_is_err_and}
use Rattle.memory.specs.declared.Counts.{Counts}
use Rattle.memory.specs.declared.Group.{Group}
use Rattle.memory.specs.declared.Turn.{Turn}
use Rattle.memory.specs.declared.Txn.{Txn}
use Rattle.memory.specs.Memory.{Memory, group_of}
use Rattle.engine.specs.Make.{turn_zero, counts_zero, make_refusal}
use Rattle.call_reply.specs.Parts.{all_parts}
use Rattle.call_reply.specs.Replies.{number}
use Rattle.call_reply.proofs.ReplyLaws.{gives}
use Rattle.call_make.proofs.MakeLaws.{given, refusal_is, make-refused, make-taken}
use Rattle.call_make.proofs.make.Goals as goal

pub returns-in_err-check-clause-gives : goal.returns-in_err-check-clause-gives
returns-in_err-check-clause-gives c =
    let a = c.args in
    let before : Group → Turn → Counts → List Txn → Memory = λ group turn counts rows.
    all_parts group turn counts rows a.queue.now a.items.now a.writes.now a.snapshots.now a.values.now a.stamps.now a.classes.now a.places.now a.outbox.now a.window.now in
    let p = err_from_is_err_and c.from_residual.result c.from_residual.ensures.1 in
    rw (p.1, p.2)
    (λ group turn counts rows.
    let m = before group turn counts rows in
    gives number (make-refused m a.n a.own a.start.now c.in_err-check.field-0.0 (rw (c.parts_fit-parts.ensures, c.places_fit.ensures) at c.in_err-check.ensures ∙ sym (refusal_is m a.n a.own a.start.now))))

pub copy_all-requires : goal.copy_all-requires
copy_all-requires c =
    let a = c.args in
    let m = all_parts (group_of 0 0) turn_zero counts_zero [] a.queue.now a.items.now a.writes.now a.snapshots.now a.values.now a.stamps.now a.classes.now a.places.now a.outbox.now a.window.now in
    let g = given m a.n a.own a.start.now (refusal_is m a.n a.own a.start.now ∙ sym (rw (c.parts_fit-parts.ensures, c.places_fit.ensures) at c.in_ok-check.ensures)) in
    g.start ∙ sym g.long.values

pub overflow_cast-n : goal.overflow_cast-n
overflow_cast-n c =
    let a = c.args in
    let m = all_parts (group_of 0 0) turn_zero counts_zero [] a.queue.now a.items.now a.writes.now a.snapshots.now a.values.now a.stamps.now a.classes.now a.places.now a.outbox.now a.window.now in
    let g = given m a.n a.own a.start.now (refusal_is m a.n a.own a.start.now ∙ sym (rw (c.parts_fit-parts.ensures, c.places_fit.ensures) at c.in_ok-check.ensures)) in
    omega (arith, g.most)

pub overflow_cast-own : goal.overflow_cast-own
overflow_cast-own c =
    let a = c.args in
    let m = all_parts (group_of 0 0) turn_zero counts_zero [] a.queue.now a.items.now a.writes.now a.snapshots.now a.values.now a.stamps.now a.classes.now a.places.now a.outbox.now a.window.now in
    let g = given m a.n a.own a.start.now (refusal_is m a.n a.own a.start.now ∙ sym (rw (c.parts_fit-parts.ensures, c.places_fit.ensures) at c.in_ok-check.ensures)) in
    omega (arith, g.most, g.own-low)

pub returns-clause-gives : goal.returns-clause-gives
returns-clause-gives c =
    let a = c.args in
    let before : Group → Turn → Counts → List Txn → Memory = λ group turn counts rows.
    all_parts group turn counts rows a.queue.now a.items.now a.writes.now a.snapshots.now a.values.now a.stamps.now a.classes.now a.places.now a.outbox.now a.window.now in
    rw c.made.ensures
    (λ group turn counts rows.
    let m = before group turn counts rows in
    gives number
    (make-taken m a.n a.own a.start.now (rw (c.parts_fit-parts.ensures, c.places_fit.ensures) at c.in_ok-check.ensures ∙ sym (refusal_is m a.n a.own a.start.now))
    c.fill.new.self c.fill-2.new.self c.fill-3.new.self c.fill-4.new.self c.copy_all.new.to c.fill-5.new.self c.fill-6.new.self c.fill-7.new.self c.fill-8.new.self c.fill-9.new.self
    (c.fill.ensures.after (λ y h. h)) (c.fill-2.ensures.after (λ y h. h)) (c.fill-3.ensures.after (λ y h. h)) (c.fill-4.ensures.after (λ y h. h)) c.copy_all.ensures (c.fill-5.ensures.after (λ y h. h))
    (c.fill-6.ensures.after (λ y h. h)) (c.fill-7.ensures.after (λ y h. h)) (c.fill-8.ensures.after (λ y h. h)) (c.fill-9.ensures.after (λ y h. h))))
