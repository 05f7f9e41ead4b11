-- `give_back` meets its contract: zeros, or the journal's block copied. Assumes nothing.
use Rattle.std.proofs.Common.{ℕ, ◌-◌, ◌*◌, refl, ap, ◌∙◌, replicate, arith}
use Rattle.call_restart.proofs.BackLaws.{back_none, back_block}
use Rattle.call_restart.proofs.give_back.Goals as goal

pub returns-then-k-eq0 : goal.returns-then-k-eq0
returns-then-k-eq0 c = c.fill.ensures.after (λ y h. h) ∙ ap (λ (n : ℕ). replicate {A = ℕ} n 0) c.requires.0 ∙ back_none c.args.k c.args.journal.now c.if-k-eq0.true

pub returns : goal.returns
returns c = c.copy_all.ensures ∙ back_block c.args.k c.args.journal.now (512 * (c.args.k - 1)) (omega arith) refl
