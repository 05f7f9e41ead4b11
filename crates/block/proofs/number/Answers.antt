use native.Mathlib.Omega.{arith}
use Rattle.block.specs.Numbers.{number_from}
use Rattle.block.proofs.number.Goals as goal

pub returns : goal.returns
unfolding number_from
returns c = omega (arith, c.from_le_bytes.ensures)
