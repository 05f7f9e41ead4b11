-- `notices::lent` meets its contract.
use Rattle.replay_journal.proofs.JournalLaws.{take_there}
use Rattle.replay_journal.proofs.notices.lent.Goals as goal

pub returns-in-Some : goal.returns-in-Some
returns-in-Some c = rw (c.in-Some.is, c.min.ensures, c.as_slice-numbers.ensures) (take_there c.in-Some.all.length c.in-Some.all.numbers)
