-- `put_answer` meets its contract.
use Rattle.std.proofs.Common.{take, sym, arith, length-take-le}
use Rattle.replay.proofs.AnswerLaws.{shows-few, says_all}
use Rattle.replay.proofs.put_answer.Goals as goal

pub slice_bounds-put_played-end : goal.slice_bounds-put_played-end
slice_bounds-put_played-end c = sym (length-take-le c.block_shown-shown.result c.args.block.now (omega (arith, c.block_shown-shown.ensures, shows-few c.args.letter c.args.played.number, c.requires.2)))

pub returns : goal.returns
returns c =
    let a = c.args in
    says_all a.letter a.played.number (take a.played.count a.played.numbers) (take a.played.shown a.played.values) a.block.now a.kept.now a.out.now c.block_shown-shown.ensures c.put_played.ensures c.put_played.auto.out c.keep_sent.ensures
