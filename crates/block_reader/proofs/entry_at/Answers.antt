use mathlib.Core.Path.{◌≡◌}
use Rattle.block.specs.Theorems.{no_entry}
use mir.Facts.{to_z-of_z}
use mir.Syntax.{w32}
use Rattle.block.proofs.ReaderLaws.{entry-short, entry_past, entry-over, entry-some}
use borrow.Author.Rules.{rules}
use Rattle.block_reader.proofs.entry_at.Goals.{then-block-ne512-via-then-block-ne512, then-block-ne512-via-else-block-ne512+then-j-ge6, then-block-ne512-via-else-block-ne512+else-j-ge6+then-e-ge8}
use Rattle.block_reader.proofs.entry_at.Goals as goal

pub returns-then-block-ne512 : goal.returns-then-block-ne512
returns-then-block-ne512 c =
    let zeros : c.default.result ≡ no_entry = search rules in
    rw zeros
    (elim c.then-block-ne512.branch [
      | then-block-ne512-via-then-block-ne512 w ↦ entry-short _ _ _ w.if-block-ne512.true
      | then-block-ne512-via-else-block-ne512+then-j-ge6 w ↦ entry_past _ _ _ w.if-j-ge6.true
      | then-block-ne512-via-else-block-ne512+else-j-ge6+then-e-ge8 w ↦ entry-over _ _ _ w.if-e-ge8.true
    ])

pub returns : goal.returns
returns c =
    rw (to_z-of_z {w = w32} {z = c.to_value.result} (search rules))
    (entry-some _ _ _ c.if-block-ne512.false c.if-j-ge6.false c.if-e-ge8.false c.number_at.result c.number_at.ensures c.to_value.result c.to_value.ensures)
