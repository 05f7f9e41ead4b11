-- `read_journal` meets its contract. The loop's invariant: `Replaying`, and so many blocks are counted. Assumes nothing.
use Rattle.std.proofs.Common.{◌≡◌}
use Rattle.call_reply.specs.Notices.{notices_in}
use Rattle.call_journal.specs.Replays.{replayed}
use Rattle.call_journal.proofs.JournalLaws.{Replaying}
use Rattle.call_journal.proofs.read_journal.Given as goal

abbrev pub invariant-loop-block : goal.invariant-loop-block
invariant-loop-block l =
    (l.tally.blocks ≡ l.block-index)
    × Replaying l.n l.own l.journal (notices_in l.notices) (replayed 0 l.initial.values l.initial.stamps) l.initial.window l.values l.stamps l.window l.tally
