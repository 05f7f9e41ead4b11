use Rattle.std.proofs.Common.{◌≡◌, ap, sym, ◌∙◌, ◌+◌, ◌/◌, ◌<◌, length, get_or, [], arith}
use Rattle.call_reply.specs.Notices.{notices_in}
use Rattle.call_journal.specs.declared.JournalTally.{JournalTally}
use Rattle.call_journal.specs.Replays.{tallied}
use Rattle.call_journal.proofs.JournalLaws.{block_at, read_is, rest-stop, rest-none, replay-start, replay-end, replay-room, replay-turn}
use Rattle.call_journal.proofs.read_journal.Goals as goal

pub loop-block-init : goal.loop-block-init
loop-block-init c =
    let a = c.args in
    let e = c.default-tally.ensures in
    let none : c.default-tally.result ≡ record { blocks = 0; commits = 0; highest = 0; committed = 0; last = 0 } = λ i. record { blocks = e.0 i; commits = e.1.0 i; highest = e.1.1.0 i; committed = e.1.1.1.0 i; last = e.1.1.1.1 i } in
    (e.0, rw none (replay-start a.n a.own a.journal.now (notices_in a.notices.now) a.values.now a.stamps.now a.window.now))

pub returns-then-not-is_next : goal.returns-then-not-is_next
returns-then-not-is_next c =
    let a = c.args in
    let l = c.loop-block in
    let here : l.block-index < length a.journal.now / 512 = omega arith in
    let block : get_or c.as_chunks.result.0.now l.block-index [] ≡ block_at a.journal.now l.tally.blocks = read_is a.n a.journal.now l.block-index c.as_chunks.result.0.now c.as_chunks.ensures.front here l.invariant.0 in
    replay-end a.n a.own a.journal.now (notices_in a.notices.now) _ _ l.values l.stamps l.window l.tally l.invariant.1
    (rest-stop a.n a.journal.now l.tally.blocks (omega arith) (sym (rw block at c.is_next.ensures) ∙ c.if-not-is_next.true))

pub count_block-tally-requires : goal.count_block-tally-requires
count_block-tally-requires c =
    let a = c.args in
    let l = c.loop-block in
    let here : l.block-index < length a.journal.now / 512 = omega arith in
    let block : get_or c.as_chunks.result.0.now l.block-index [] ≡ block_at a.journal.now l.tally.blocks = read_is a.n a.journal.now l.block-index c.as_chunks.result.0.now c.as_chunks.ensures.front here l.invariant.0 in
    rw block
    (replay-room a.n a.own a.journal.now (notices_in a.notices.now) _ _ l.values l.stamps l.window l.tally l.invariant.1 (omega arith) (sym (rw block at c.is_next.ensures) ∙ c.if-not-is_next.false))

pub loop-block-preserved : goal.loop-block-preserved
unfolding tallied
loop-block-preserved c =
    let a = c.args in
    let l = c.loop-block in
    let here : l.block-index < length a.journal.now / 512 = omega arith in
    let block : get_or c.as_chunks.result.0.now l.block-index [] ≡ block_at a.journal.now l.tally.blocks = read_is a.n a.journal.now l.block-index c.as_chunks.result.0.now c.as_chunks.ensures.front here l.invariant.0 in
    let more : c.count_block-tally.result.blocks ≡ l.tally.blocks + 1 = ap (λ (t : JournalTally). t.blocks) c.count_block-tally.ensures in (
      more ∙ ap (λ x. x + 1) l.invariant.0,
      rw (c.count_block-tally.ensures, block)
          (replay-turn a.n a.own a.journal.now (notices_in a.notices.now) _ _ l.values l.stamps l.window l.tally l.invariant.1 (omega arith) (sym (rw block at c.is_next.ensures) ∙ c.if-not-is_next.false)
          c.commit_block-commits.result c.commit_block-commits.new.values c.commit_block-commits.new.stamps c.keep.new.window (rw block at c.commit_block-commits.ensures) (rw block at c.keep.ensures)),
    )

pub returns-after-loop-block : goal.returns-after-loop-block
returns-after-loop-block c =
    let a = c.args in
    let l = c.loop-block in
    replay-end a.n a.own a.journal.now (notices_in a.notices.now) _ _ l.values l.stamps l.window l.tally l.invariant.1 (rest-none a.n a.journal.now l.tally.blocks (omega arith))
