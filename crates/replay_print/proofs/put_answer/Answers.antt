-- `put_answer` meets its contract.
use Rattle.replay_print.proofs.TextLaws.{appends_then, held}
use Rattle.replay_print.proofs.put_answer.Goals as goal

pub returns : goal.returns
returns c =
    held
    (appends_then c.put_decimal-first.ensures
    (appends_then c.put_each-second.ensures
    (appends_then c.put_each-third.ensures
    (appends_then c.put_block-fourth.ensures c.put.ensures))))
