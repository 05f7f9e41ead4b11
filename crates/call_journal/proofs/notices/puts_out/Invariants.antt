-- `notices::puts_out` meets its contract. The loop's invariant: all notices say of the slot what those still to come say on top of what is known. Assumes nothing.
use Rattle.std.proofs.Common.{◌≡◌, false}
use Rattle.memory.specs.Notices.{puts_out}
use Rattle.call_journal.proofs.NoticeLaws.{notices_from}
use Rattle.call_journal.proofs.notices.puts_out.Given as goal

abbrev pub invariant-loop-about : goal.invariant-loop-about
invariant-loop-about l = puts_out false (notices_from l.notices 0) l.replica l.slot ≡ puts_out l.out (notices_from l.notices l.about-index) l.replica l.slot
