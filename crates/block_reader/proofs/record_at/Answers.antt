use mathlib.Core.Path.{◌≡◌}
use borrow.Author.Rules.{rules}
use Rattle.block.proofs.ReaderLaws.{record-short, record-past, record-some}
use Rattle.block_reader.proofs.record_at.Goals.{then-block-ne512-via-then-block-ne512, then-block-ne512-via-else-block-ne512+then-j-ge6}
use Rattle.block_reader.proofs.record_at.Goals as goal

pub returns-then-block-ne512 : goal.returns-then-block-ne512
returns-then-block-ne512 c =
    let zeros : c.default.result ≡ record { ticket = 0; writes = 0 } = search rules in
    rw zeros
    (elim c.then-block-ne512.branch [
      | then-block-ne512-via-then-block-ne512 w ↦ record-short _ _ w.if-block-ne512.true
      | then-block-ne512-via-else-block-ne512+then-j-ge6 w ↦ record-past _ _ w.if-j-ge6.true
    ])

pub returns : goal.returns
returns c = record-some _ _ c.if-block-ne512.false c.if-j-ge6.false c.number_at.result c.number_at.ensures
