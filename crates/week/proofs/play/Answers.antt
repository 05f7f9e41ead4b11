use Rattle.text_lines.proofs.OutputLaws.{room-then}
use Rattle.week.proofs.play.Goals as goal

pub end-last-requires : goal.end-last-requires
end-last-requires g c =
    let l = c.loop-turn in
    (room-then l.output l.source c.with_room-output.ensures.held, l.invariant.0)

pub put_number-output-requires : goal.put_number-output-requires
put_number-output-requires g c =
    let l = c.loop-turn in
    (room-then l.output l.source c.with_room-output.ensures.held, l.invariant.0)
