-- `number64_at` meets its contract: the eight bytes are read as two numbers of 4. Assumes nothing.
use mathlib.Core.Path.{sym}
use Rattle.block.proofs.NumberLaws.{number_halves}
use Rattle.block_form.proofs.number64_at.Goals as goal

pub returns : goal.returns
returns c =
    let s = c in
    rw (c.number_at-low.ensures, c.number_at-high.ensures) (sym (number_halves s.args.part.now s.args.at 4 s.requires))
