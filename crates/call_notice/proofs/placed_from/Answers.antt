use Rattle.std.proofs.Common.{rules, sym, ◌∙◌}
use Rattle.call_notice.proofs.PlaceLaws.{any_placed}
use Rattle.call_notice.proofs.placed_from.Goals as goal

pub returns : goal.returns
returns c = λ m e.
    rw (← e)
    (any_placed m c.args.replica c.args.slot _ _ (λ a r f' d. search (rules, d.met)) (λ x b f' d. search (rules, d.met))
    c.chunks_exact.result c.any.result (c.chunks_exact.ensures.rest ∙ sym e) c.chunks_exact.ensures.size c.chunks_exact.ensures.runs c.any.ensures.runs)
