-- When the answers that are held are written. Assumes nothing.
use Rattle.std.proofs.Common.{◌≡◌, ℕ, ◌≤◌, Bool, true, false, cond, ◌||◌, ltb, leb, refl, ap, arith, ltb-false}
use Rattle.text_lines.specs.declared.input.Source.{Source}
use Rattle.text_lines.specs.declared.output.Output.{Output}
use Rattle.text_lines.specs.Outputs.{as_written, is_due}

module _ (o : Output) (s : Source) {r : Output} where
  either : (b : Bool) (n : ℕ) → r ≡ cond b (as_written o r.failed) o → o.held ≤ n → r.held ≤ n
  either true n e h = omega (arith, ap (λ (x : Output). x.held) e)
  either false n e h = omega (arith, ap (λ (x : Output). x.held) e)

  pub held_then : (n : ℕ) → r ≡ cond (is_due o s) (as_written o r.failed) o → o.held ≤ n → r.held ≤ n
  held_then n e h = either (is_due o s) n e h

  roomy : (a b : Bool) → ltb 61440 o.held ≡ b → r ≡ cond (a || b) (as_written o r.failed) o → r.held ≤ 61440
  roomy true b f e = omega (arith, ap (λ (x : Output). x.held) e)
  roomy false true f e = omega (arith, ap (λ (x : Output). x.held) e)
  roomy false false f e = omega (arith, ap (λ (x : Output). x.held) e, ltb-false 61440 o.held f)

  -- there is room then
  pub room-then : r ≡ cond (is_due o s) (as_written o r.failed) o → r.held ≤ 61440
  room-then e = roomy (leb s.end s.at) (ltb 61440 o.held) refl e
