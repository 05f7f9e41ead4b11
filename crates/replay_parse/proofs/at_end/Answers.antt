use Rattle.replay_parse.proofs.LineLaws.{end-not}
use Rattle.replay_parse.proofs.at_end.Goals as goal

pub returns-then-end-line : goal.returns-then-end-line
returns-then-end-line c = end-not c.args.line.now c.args.end c.args.call c.if-bytes.false c.if-end-line.true
