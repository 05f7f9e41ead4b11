-- The last test; the search finds the others.
use Rattle.std.proofs.Common.{refl, true, false}
use Rattle.call_reply.specs.Parts.{notice_parts}
use Rattle.call_notice.proofs.NoticeLaws.{barred_last}
use Rattle.call_notice.proofs.check.Goals as goal

pub returns-then-bars_notice : goal.returns-then-bars_notice
returns-then-bars_notice c = λ m.
    let before = notice_parts m c.args.group c.args.turn c.args.places.now in
    barred_last before _ c.if-places-group.false c.if-group-about.false c.if-slot-ge-SLOT_LIMIT.false true (c.if-bars_notice.ensures before refl refl refl)

pub returns : goal.returns
returns c = λ m.
    let before = notice_parts m c.args.group c.args.turn c.args.places.now in
    barred_last before _ c.if-places-group.false c.if-group-about.false c.if-slot-ge-SLOT_LIMIT.false false (c.if-bars_notice.ensures before refl refl refl)
