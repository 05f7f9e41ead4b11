-- `ask_giver` meets its contract: each answer by its law. The giver fits: it is one of those that turns are told of.
use Rattle.std.proofs.Common.{ℕ, refl, sym, ◌∙◌, ap, Some, arith}
use Rattle.giving.proofs.Choices.{giver_may}
use Rattle.call_giver.proofs.AskLaws.{asked-station, asked-length, asked-nobody, asked-giver}
use Rattle.call_giver.proofs.ask_giver.Goals as goal

pub returns-then-group-eq-NO_NUMBER : goal.returns-then-group-eq-NO_NUMBER
returns-then-group-eq-NO_NUMBER c = λ m eg. asked-station m c.args.turns.now (rw eg c.if-group-eq-NO_NUMBER.true)

pub returns-then-turns-group : goal.returns-then-turns-group
returns-then-turns-group c = λ m eg. asked-length m c.args.turns.now (rw eg c.if-group-eq-NO_NUMBER.false) (rw eg c.if-turns-group.true)

pub returns-in-None : goal.returns-in-None
returns-in-None c = λ m eg. asked-nobody m c.args.turns.now (rw eg c.if-group-eq-NO_NUMBER.false) (rw eg c.if-turns-group.false) c.args.group.own (rw eg c.in-None.ensures.giver) (rw eg refl)

pub overflow_cast-result : goal.overflow_cast-result
overflow_cast-result c =
    let g = c.in-Some.ensures in
    let below = (giver_may c.args.group.own c.args.turns.now (λ q. g.another (ap (λ (x : ℕ). Some x) (g.giver ∙ q)))).0 in
    omega (arith, g.giver, c.if-turns-group.false)

pub returns-in-Some : goal.returns-in-Some
returns-in-Some c = λ m eg.
    let g = c.in-Some.ensures in
    asked-giver m c.args.turns.now (rw eg c.if-group-eq-NO_NUMBER.false) (rw eg c.if-turns-group.false) c.in-Some.giver (rw eg g.giver) (rw eg (λ q. g.another (ap (λ (x : ℕ). Some x) q)))
