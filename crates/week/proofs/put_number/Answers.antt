-- `put_number` meets its contract.
use Rattle.week.proofs.TextLaws.{number_put}
use Rattle.week.proofs.put_number.Goals as goal

pub returns : goal.returns
returns c =
    let s = c in
    number_put s.args.output s.args.number s.args.out.now _ c.put_answer-length.result c.with_line.result s.requires c.put_answer-length.ensures c.with_line.ensures
