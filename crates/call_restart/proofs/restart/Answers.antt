-- `restart` meets its contract: refused as its make is, or what the journal's blocks leave of the parts just made.
use Prim.Native.Nat.{◌%◌}
use mathlib.Core.Path.{◌≡◌, refl, sym, ap, ◌∙◌}
use mathlib.Core.Bool.{true, ◌&&◌}
use mathlib.Core.List.{List, []}
use lib.Dec.{eqb}
use lib.ListN.{length}
use Rattle.std.proofs.lemmas.Result.{err_from_is_err_and}
use Rattle.memory.specs.declared.Counts.{Counts}
use Rattle.memory.specs.declared.Group.{Group}
use Rattle.memory.specs.declared.Turn.{Turn}
use Rattle.memory.specs.declared.Txn.{Txn}
use Rattle.memory.specs.Memory.{Memory, group_of}
use Rattle.memory.specs.Notices.{with_notices}
use Rattle.engine.specs.Make.{turn_zero, counts_zero}
use Rattle.call_reply.specs.declared.Made.{Made}
use Rattle.call_reply.specs.Parts.{all_parts}
use Rattle.call_reply.specs.Replies.{restart_reply}
use Rattle.call_reply.specs.Notices.{notices_in}
use Rattle.call_reply.proofs.FaultLaws.{fault_some}
use Rattle.call_reply.proofs.ReplyLaws.{gives_with}
use Rattle.call_restart.specs.Answered.{answered}
use Rattle.call_restart.proofs.AnswerLaws.{restart-other, restart-long, restart-refused, restart-window, restart-taken, restart-turn, restart-counts}
use Rattle.call_restart.proofs.restart.Goals as goal

-- the memory lent is `before`, with any group, turn, counts and table
pub returns-then-not-lent_fit-clause-gives : goal.returns-then-not-lent_fit-clause-gives
returns-then-not-lent_fit-clause-gives c =
    let a = c.args in
    let before : Group → Turn → Counts → List Txn → Memory = λ group turn counts rows.
    all_parts group turn counts rows a.queue.now a.items.now a.writes.now a.snapshots.now a.values.now a.stamps.now a.classes.now a.places.now a.outbox.now a.window.now in
    λ group turn counts rows. gives_with restart_reply a.block.now (restart-other (before group turn counts rows) a.n a.own a.start.now a.journal.now a.notices.now a.block.now (sym c.lent_fit.ensures ∙ c.if-not-lent_fit.true))

pub returns-in_err-made-clause-gives : goal.returns-in_err-made-clause-gives
returns-in_err-made-clause-gives c =
    let a = c.args in
    let before : Group → Turn → Counts → List Txn → Memory = λ group turn counts rows.
    all_parts group turn counts rows a.queue.now a.items.now a.writes.now a.snapshots.now a.values.now a.stamps.now a.classes.now a.places.now a.outbox.now a.window.now in
    let fits : (eqb (length a.notices.now % 3) 0 && eqb (length a.block.now) 512) ≡ true = sym c.lent_fit.ensures ∙ c.if-not-lent_fit.false in
    let p = err_from_is_err_and c.from_residual.result c.from_residual.ensures.1 in
    rw (p.1, p.2)
    (λ group turn counts rows.
    gives_with restart_reply a.block.now
    (restart-refused (before group turn counts rows) a.n a.own a.start.now a.journal.now a.notices.now a.block.now fits _ _ (c.in_err-made.ensures.gives group turn counts rows) (fault_some c.in_err-made.field-0.0)))

pub read_journal-tally-requires : goal.read_journal-tally-requires
read_journal-tally-requires c =
    let a = c.args in
    let before : Group → Turn → Counts → List Txn → Memory = λ group turn counts rows.
    all_parts group turn counts rows a.queue.now a.items.now a.writes.now a.snapshots.now a.values.now a.stamps.now a.classes.now a.places.now a.outbox.now a.window.now in
    let fits : (eqb (length a.notices.now % 3) 0 && eqb (length a.block.now) 512) ≡ true = sym c.lent_fit.ensures ∙ c.if-not-lent_fit.false in
    restart-window (before (group_of 0 0) turn_zero counts_zero []) a.n a.own a.start.now a.journal.now a.notices.now a.block.now fits _ _ (c.in_ok-made.ensures.gives (group_of 0 0) turn_zero counts_zero []) refl

pub give_back-requires : goal.give_back-requires
give_back-requires c =
    let a = c.args in
    let before : Group → Turn → Counts → List Txn → Memory = λ group turn counts rows.
    all_parts group turn counts rows a.queue.now a.items.now a.writes.now a.snapshots.now a.values.now a.stamps.now a.classes.now a.places.now a.outbox.now a.window.now in
    let fits : (eqb (length a.notices.now % 3) 0 && eqb (length a.block.now) 512) ≡ true = sym c.lent_fit.ensures ∙ c.if-not-lent_fit.false in
    (restart-long (before (group_of 0 0) turn_zero counts_zero []) a.n a.own a.start.now a.journal.now a.notices.now a.block.now fits, c.read_journal-tally.ensures.last-there)

pub returns-clause-gives : goal.returns-clause-gives
unfolding answered
returns-clause-gives c =
    let a = c.args in
    let before : Group → Turn → Counts → List Txn → Memory = λ group turn counts rows.
    all_parts group turn counts rows a.queue.now a.items.now a.writes.now a.snapshots.now a.values.now a.stamps.now a.classes.now a.places.now a.outbox.now a.window.now in
    let fits : (eqb (length a.notices.now % 3) 0 && eqb (length a.block.now) 512) ≡ true = sym c.lent_fit.ensures ∙ c.if-not-lent_fit.false in
    let group : c.with_notices-group.result ≡ with_notices (group_of a.n a.own) (notices_in a.notices.now) = c.with_notices-group.ensures ∙ ap (λ (x : Made). with_notices x.group (notices_in a.notices.now)) c.in_ok-made.ensures.made in
    rw (c.answer.ensures, group, c.give_back.ensures)
    (λ group turn counts rows.
    gives_with restart_reply a.block.now
    (restart-taken (before group turn counts rows) a.n a.own a.start.now a.journal.now a.notices.now a.block.now fits _ _ (c.in_ok-made.ensures.gives group turn counts rows) refl
    c.read_journal-tally.result _ _ _ c.read_journal-tally.ensures))

pub returns-clause-made : goal.returns-clause-made
unfolding answered
returns-clause-made c =
    let a = c.args in
    let before : Group → Turn → Counts → List Txn → Memory = λ group turn counts rows.
    all_parts group turn counts rows a.queue.now a.items.now a.writes.now a.snapshots.now a.values.now a.stamps.now a.classes.now a.places.now a.outbox.now a.window.now in
    let fits : (eqb (length a.notices.now % 3) 0 && eqb (length a.block.now) 512) ≡ true = sym c.lent_fit.ensures ∙ c.if-not-lent_fit.false in
    let group : c.with_notices-group.result ≡ with_notices (group_of a.n a.own) (notices_in a.notices.now) = c.with_notices-group.ensures ∙ ap (λ (x : Made). with_notices x.group (notices_in a.notices.now)) c.in_ok-made.ensures.made in
    let m = before (group_of 0 0) turn_zero counts_zero [] in
    let gave = c.in_ok-made.ensures.gives (group_of 0 0) turn_zero counts_zero [] in
    rw (c.answer.ensures, group) (
      refl,
      restart-turn m a.n a.own a.start.now a.journal.now a.notices.now a.block.now fits _ _ gave refl c.read_journal-tally.result _ _ _ c.read_journal-tally.ensures,
      restart-counts m a.n a.own a.start.now a.journal.now a.notices.now a.block.now fits _ _ gave refl c.read_journal-tally.result _ _ _ c.read_journal-tally.ensures,
    )
