-- `stemline_give` meets its contract: what `give` gave, put where it lies. Assumes nothing.
use Rattle.std.proofs.Common.{◌≢◌, refl, length}
use Rattle.call_give.specs.Gifts.{give_parts}
use Rattle.call_give.proofs.GiftLaws.{gift-six, gift-other}
use Rattle.replica_give.proofs.stemline_give.Goals as goal

pub returns-in_default : goal.returns-in_default
returns-in_default c =
    let a = c.args in
    let other : length a.table.now ≢ 6 = rw c.in_default.is at c.as_array.ensures.cases in
    λ m.
    let before = give_parts m a.group.now a.turn.now a.counts.now a.table.now a.queue.now a.items.now a.values.now a.stamps.now a.places.now a.outbox.now a.window.now in
    rw (c.into.ensures, gift-other before a.turns.now a.lent.now other) (refl, refl {a = before})

pub returns : goal.returns
returns c =
    let a = c.args in
    let rows = c.in-Some.ensures.cases in
    λ m.
    let before = give_parts m a.group.now a.turn.now a.counts.now a.table.now a.queue.now a.items.now a.values.now a.stamps.now a.places.now a.outbox.now a.window.now in
    rw (c.end_rows.ensures, c.replace_turn.ensures, gift-six before a.turns.now a.lent.now rows.long) (rw rows.same at (c.give-done.ensures m))
