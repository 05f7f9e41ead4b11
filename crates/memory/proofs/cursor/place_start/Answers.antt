use Rattle.std.proofs.Common.{◌∙◌, ℕ, ap, ◌*◌}
use Rattle.memory.specs.Turns.{place_start}
use Rattle.memory.proofs.SearchLaws.{rem_or}
use Rattle.memory.proofs.cursor.place_start.Goals as goal

pub returns : goal.returns
unfolding place_start
returns c = ap (λ (n : ℕ). 512 * n) (c.unwrap_or.ensures ∙ rem_or _ _ _ c.checked_rem.ensures)
