-- `check` meets its contract: each refusal by its law.
use Rattle.std.proofs.Common.{◌∙◌, ap, ◌-◌, ℕ}
use Rattle.call_give.proofs.AnswerLaws.{turned-station, turned-length, turned-nobody, turned-lacking, turned-not}
use Rattle.call_give.proofs.check.Goals as goal

pub returns-then-own-eq-NO_NUMBER : goal.returns-then-own-eq-NO_NUMBER
returns-then-own-eq-NO_NUMBER c = λ m told own slot fits T. (turned-station m told c.args.lent.now (own ∙ c.if-own-eq-NO_NUMBER.true), tt)

pub returns-then-not-fits : goal.returns-then-not-fits
returns-then-not-fits c = λ m told own slot fits T. (turned-length m told c.args.lent.now (rw own c.if-own-eq-NO_NUMBER.false) (fits ∙ c.if-not-fits.true), tt)

pub returns-in_default : goal.returns-in_default
returns-in_default c = λ m told own slot fits T. (turned-nobody m told c.args.lent.now (rw own c.if-own-eq-NO_NUMBER.false) (fits ∙ c.if-not-fits.false) (rw c.in_default.is at T), tt)

pub lacks-requires : goal.lacks-requires
lacks-requires c = c.requires c.if-not-fits.false

pub returns-then-lacks : goal.returns-then-lacks
returns-then-lacks c = λ m told own slot fits T. (
  turned-lacking m told c.args.lent.now (rw own c.if-own-eq-NO_NUMBER.false) (fits ∙ c.if-not-fits.false) c.in-Some.to (rw c.in-Some.is at T) c.lacks.result (rw slot c.lacks.ensures) c.if-lacks.true,
  tt,
)

pub returns : goal.returns
returns c = λ m told own slot fits T.
    let t = rw c.in-Some.is at T in (
      turned-not m told c.args.lent.now (rw own c.if-own-eq-NO_NUMBER.false) (fits ∙ c.if-not-fits.false) c.in-Some.to t c.lacks.result (rw slot c.lacks.ensures) c.if-lacks.false,
      c.slots_between.ensures ∙ ap (λ (x : ℕ). x - c.args.slot) t.1,
    )
