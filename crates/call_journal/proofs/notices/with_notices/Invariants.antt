-- `notices::with_notices` meets its contract. The loop's invariant: all notices make of the group what those still to come make of it now. Assumes nothing.
use Rattle.std.proofs.Common.{◌≡◌}
use Rattle.memory.specs.Notices.{with_notices}
use Rattle.call_journal.proofs.NoticeLaws.{notices_from}
use Rattle.call_journal.proofs.notices.with_notices.Given as goal

abbrev pub invariant-loop-about : goal.invariant-loop-about
invariant-loop-about l = with_notices l.initial.after (notices_from l.notices 0) ≡ with_notices l.after (notices_from l.notices l.about-index)
