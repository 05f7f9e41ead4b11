-- `answer` meets its contract.
use Rattle.call_give.proofs.answer.Goals as goal

pub returns : goal.returns
returns c = rw c.freed.ensures
