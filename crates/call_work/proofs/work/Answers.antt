-- `work` meets its contract: the refusal's number, an out slot, a *next*, or a writeset.
use Rattle.std.proofs.Common.{rules, arith, ◌≡◌, ◌+◌, refl, sym, ◌∙◌, true, false, [], length}
use Rattle.block.proofs.ListLaws.{lent_slice}
use Rattle.memory.specs.Memory.{Memory}
use Rattle.engine.specs.Make.{made_memory}
use Rattle.engine.specs.Moves.{out_at_turn, work_refusal}
use Rattle.call_commit.proofs.EndLaws.{end_none}
use Rattle.call_reply.specs.Parts.{work_parts}
use Rattle.call_reply.specs.Replies.{work_reply}
use Rattle.call_reply.proofs.FaultLaws.{handed_on}
use Rattle.call_reply.proofs.ReplyLaws.{gives}
use Rattle.call_work.proofs.WorkLaws.{same_gives, work-refused, marks-refused, work_out_lem, marks-out, window-long, work_room, work-next, marks-next, work-writeset, marks-writeset, writeset-committed}
use Rattle.call_work.proofs.work.Goals as goal

pub returns-in_err-check : goal.returns-in_err-check
returns-in_err-check c =
    let a = c.args in
    let before : Memory → Memory = λ m. work_parts m a.group a.turn a.counts a.rows a.queue.now a.items.now a.values.now a.stamps.now a.places.now a.window.now in
    let f = c.in_err-check.field-0.0 in
    λ m.
    let said = c.in_err-check.ensures (before m) refl c.place_start-at.ensures (sym c.lengths_fit-fits.ensures) (sym c.is_out-out.ensures) in
    rw (handed_on c.from_residual.result f c.from_residual.ensures.1, end_none 6 a.rows)
    (gives work_reply (work-refused (before m) f said), marks-refused (before m) f said)

-- past the refusals the window has its length
pub pass_out-requires : goal.pass_out-requires
pass_out-requires c =
    let a = c.args in
    let before : Memory → Memory = λ m. work_parts m a.group a.turn a.counts a.rows a.queue.now a.items.now a.values.now a.stamps.now a.places.now a.window.now in
    let said : (m : Memory) → 0 ≡ work_refusal (before m) = λ m. c.in_ok-check.ensures (before m) refl c.place_start-at.ensures (sym c.lengths_fit-fits.ensures) (sym c.is_out-out.ensures) in
    (sym c.is_out-out.ensures ∙ c.if-out.true, window-long (before (made_memory 0 0 [])) (said (made_memory 0 0 [])))

pub returns-then-out : goal.returns-then-out
returns-then-out c =
    let a = c.args in
    let before : Memory → Memory = λ m. work_parts m a.group a.turn a.counts a.rows a.queue.now a.items.now a.values.now a.stamps.now a.places.now a.window.now in
    let said : (m : Memory) → 0 ≡ work_refusal (before m) = λ m. c.in_ok-check.ensures (before m) refl c.place_start-at.ensures (sym c.lengths_fit-fits.ensures) (sym c.is_out-out.ensures) in
    let out : (m : Memory) → out_at_turn (before m) ≡ true = λ m. sym c.is_out-out.ensures ∙ c.if-out.true in
    λ m.
    rw (c.pass_out.ensures.1, end_none 6 a.rows) (
      same_gives work_reply (work_out_lem (before m) (said m) (out m)) (c.pass_out.ensures.0 (before m)),
      marks-out (before m) (said m) (out m),
    )

-- any other slot: past the refusals the block at the turn lies in the places
pub bounds-places-at : goal.bounds-places-at
bounds-places-at c =
    let a = c.args in
    let before : Memory → Memory = λ m. work_parts m a.group a.turn a.counts a.rows a.queue.now a.items.now a.values.now a.stamps.now a.places.now a.window.now in
    let said : (m : Memory) → 0 ≡ work_refusal (before m) = λ m. c.in_ok-check.ensures (before m) refl c.place_start-at.ensures (sym c.lengths_fit-fits.ensures) (sym c.is_out-out.ensures) in
    let live : (m : Memory) → out_at_turn (before m) ≡ false = λ m. sym c.is_out-out.ensures ∙ c.if-out.false in
    let at = c.place_start-at.result in
    let m0 = made_memory 0 0 [] in
    let room = work_room (before m0) (said m0) (live m0) at c.place_start-at.ensures in
    omega (arith, room)

pub pass_next-requires : goal.pass_next-requires
pass_next-requires c =
    let a = c.args in
    let before : Memory → Memory = λ m. work_parts m a.group a.turn a.counts a.rows a.queue.now a.items.now a.values.now a.stamps.now a.places.now a.window.now in
    let said : (m : Memory) → 0 ≡ work_refusal (before m) = λ m. c.in_ok-check.ensures (before m) refl c.place_start-at.ensures (sym c.lengths_fit-fits.ensures) (sym c.is_out-out.ensures) in
    let live : (m : Memory) → out_at_turn (before m) ≡ false = λ m. sym c.is_out-out.ensures ∙ c.if-out.false in
    let at = c.place_start-at.result in
    let m0 = made_memory 0 0 [] in
    let room = work_room (before m0) (said m0) (live m0) at c.place_start-at.ensures in
    (c.place_start-at.ensures, room, window-long (before m0) (said m0))

pub returns-then-places-at-eq1 : goal.returns-then-places-at-eq1
returns-then-places-at-eq1 c =
    let a = c.args in
    let before : Memory → Memory = λ m. work_parts m a.group a.turn a.counts a.rows a.queue.now a.items.now a.values.now a.stamps.now a.places.now a.window.now in
    let said : (m : Memory) → 0 ≡ work_refusal (before m) = λ m. c.in_ok-check.ensures (before m) refl c.place_start-at.ensures (sym c.lengths_fit-fits.ensures) (sym c.is_out-out.ensures) in
    let live : (m : Memory) → out_at_turn (before m) ≡ false = λ m. sym c.is_out-out.ensures ∙ c.if-out.false in
    λ m.
    rw (c.pass_next.ensures.1, end_none 6 a.rows) (
      same_gives work_reply (work-next (before m) (said m) (live m) c.place_start-at.result c.place_start-at.ensures c.if-places-at-eq1.true) (c.pass_next.ensures.0 (before m)),
      marks-next (before m) (said m) (live m) c.place_start-at.result c.place_start-at.ensures c.if-places-at-eq1.true,
    )

pub overflow_add-block : goal.overflow_add-block
overflow_add-block c =
    let a = c.args in
    let before : Memory → Memory = λ m. work_parts m a.group a.turn a.counts a.rows a.queue.now a.items.now a.values.now a.stamps.now a.places.now a.window.now in
    let said : (m : Memory) → 0 ≡ work_refusal (before m) = λ m. c.in_ok-check.ensures (before m) refl c.place_start-at.ensures (sym c.lengths_fit-fits.ensures) (sym c.is_out-out.ensures) in
    let live : (m : Memory) → out_at_turn (before m) ≡ false = λ m. sym c.is_out-out.ensures ∙ c.if-out.false in
    let at = c.place_start-at.result in
    let m0 = made_memory 0 0 [] in
    let room = work_room (before m0) (said m0) (live m0) at c.place_start-at.ensures in
    omega (arith, room, c.type_inv)

pub slice_bounds-block-end : goal.slice_bounds-block-end
slice_bounds-block-end c =
    let a = c.args in
    let before : Memory → Memory = λ m. work_parts m a.group a.turn a.counts a.rows a.queue.now a.items.now a.values.now a.stamps.now a.places.now a.window.now in
    let said : (m : Memory) → 0 ≡ work_refusal (before m) = λ m. c.in_ok-check.ensures (before m) refl c.place_start-at.ensures (sym c.lengths_fit-fits.ensures) (sym c.is_out-out.ensures) in
    let live : (m : Memory) → out_at_turn (before m) ≡ false = λ m. sym c.is_out-out.ensures ∙ c.if-out.false in
    let at = c.place_start-at.result in
    let m0 = made_memory 0 0 [] in
    let room = work_room (before m0) (said m0) (live m0) at c.place_start-at.ensures in
    room

pub pass_writeset-requires : goal.pass_writeset-requires
pass_writeset-requires c =
    let a = c.args in
    let before : Memory → Memory = λ m. work_parts m a.group a.turn a.counts a.rows a.queue.now a.items.now a.values.now a.stamps.now a.places.now a.window.now in
    let said : (m : Memory) → 0 ≡ work_refusal (before m) = λ m. c.in_ok-check.ensures (before m) refl c.place_start-at.ensures (sym c.lengths_fit-fits.ensures) (sym c.is_out-out.ensures) in
    let live : (m : Memory) → out_at_turn (before m) ≡ false = λ m. sym c.is_out-out.ensures ∙ c.if-out.false in
    let at = c.place_start-at.result in
    let m0 = made_memory 0 0 [] in
    let room = work_room (before m0) (said m0) (live m0) at c.place_start-at.ensures in
    (room, window-long (before m0) (said m0))

pub returns : goal.returns
returns c =
    let a = c.args in
    let before : Memory → Memory = λ m. work_parts m a.group a.turn a.counts a.rows a.queue.now a.items.now a.values.now a.stamps.now a.places.now a.window.now in
    let said : (m : Memory) → 0 ≡ work_refusal (before m) = λ m. c.in_ok-check.ensures (before m) refl c.place_start-at.ensures (sym c.lengths_fit-fits.ensures) (sym c.is_out-out.ensures) in
    let live : (m : Memory) → out_at_turn (before m) ≡ false = λ m. sym c.is_out-out.ensures ∙ c.if-out.false in
    let at = c.place_start-at.result in
    let m0 = made_memory 0 0 [] in
    let room = work_room (before m0) (said m0) (live m0) at c.place_start-at.ensures in
    let six : length a.rows ≡ 6 = search rules in
    λ m.
    let placed = c.place_start-at.ensures in
    let block = lent_slice at (at + 512) a.places.now (omega (arith, room)) in
    let is = rw block at c.end_writeset-ended.ensures.0 in
    rw c.pass_writeset.ensures.0 (
      same_gives work_reply (work-writeset (before m) (said m) (live m) at placed c.if-places-at-eq1.false)
          (writeset-committed m a.group a.turn a.counts a.rows a.queue.now a.items.now a.values.now a.stamps.now a.places.now a.window.now six at placed room
          c.end_writeset-ended.result is
          c.end_writeset-ended.new.queue c.end_writeset-ended.new.values c.end_writeset-ended.new.stamps
          (rw block at c.end_writeset-ended.ensures.1) (rw block at c.end_writeset-ended.ensures.2) (rw block at c.end_writeset-ended.ensures.3)
          c.pass_writeset.new.places c.pass_writeset.ensures.1 _ c.pass_writeset.ensures.2),
      marks-writeset (before m) (said m) (live m) at placed c.if-places-at-eq1.false c.end_writeset-ended.result is,
    )
