-- `check` meets its contract: each number by its law.
use native.Mathlib.Omega.{arith}
use Rattle.call_deliver.proofs.DeliverLaws.{place_in, refused-group, refused-past, refused-out, refused-ahead, refused-own, refused-taken, refused_not}
use Rattle.call_deliver.proofs.check.Goals as goal

pub returns-then-header-group : goal.returns-then-header-group
returns-then-header-group c = λ m.
    refused-group _ _ c.requires.0 c.requires.1 c.args.header c.requires.2 c.if-header-group.true

pub returns-then-header-turn : goal.returns-then-header-turn
returns-then-header-turn c = λ m.
    refused-past _ _ c.requires.0 c.requires.1 c.args.header c.requires.2 c.if-header-group.false (omega (arith, c.if-header-turn.true))

pub returns-then-is_out : goal.returns-then-is_out
returns-then-is_out c = λ m.
    refused-out _ _ c.requires.0 c.requires.1 c.args.header c.requires.2 c.if-header-group.false c.if-header-turn.false c.is_out.result c.is_out.ensures c.if-is_out.true

pub returns-then-group-header : goal.returns-then-group-header
returns-then-group-header c = λ m.
    refused-ahead _ _ c.requires.0 c.requires.1 c.args.header c.requires.2 c.if-header-group.false c.if-header-turn.false c.is_out.result c.is_out.ensures c.if-is_out.false (omega (arith, c.if-group-header.true))

pub returns-then-not_sent_here : goal.returns-then-not_sent_here
returns-then-not_sent_here c = λ m.
    refused-own _ _ c.requires.0 c.requires.1 c.args.header c.requires.2 c.if-header-group.false c.if-header-turn.false c.is_out.result c.is_out.ensures c.if-is_out.false c.if-group-header.false
    c.not_sent_here.result c.not_sent_here.ensures c.if-not_sent_here.true

pub bounds-places-first : goal.bounds-places-first
bounds-places-first c =
    omega (arith, place_in c.args.group.replicas c.args.header.slot c.args.places.now c.args.outbox.now c.args.bytes.now c.requires.0 (omega arith) c.place_start-first.result c.place_start-first.ensures)

pub returns-then-places-first-ne0 : goal.returns-then-places-first-ne0
returns-then-places-first-ne0 c = λ m.
    refused-taken _ _ c.requires.0 c.requires.1 c.args.header c.requires.2 c.if-header-group.false c.if-header-turn.false c.is_out.result c.is_out.ensures c.if-is_out.false c.if-group-header.false
    c.not_sent_here.result c.not_sent_here.ensures c.if-not_sent_here.false c.place_start-first.result c.place_start-first.ensures c.if-places-first-ne0.true

pub returns : goal.returns
returns c = λ m.
    refused_not _ _ c.requires.0 c.requires.1 c.args.header c.requires.2 c.if-header-group.false c.if-header-turn.false c.is_out.result c.is_out.ensures c.if-is_out.false c.if-group-header.false
    c.not_sent_here.result c.not_sent_here.ensures c.if-not_sent_here.false c.place_start-first.result c.place_start-first.ensures c.if-places-first-ne0.false
