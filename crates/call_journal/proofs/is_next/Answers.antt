-- `is_next` meets its contract: by what the reader answers.
use borrow.Author.Tests.{eq-eqb, ne_eqb}
use Rattle.call_journal.proofs.ReadLaws.{not_good, good-header, good-by}
use Rattle.call_journal.proofs.is_next.Goals as goal

pub returns-in-Err : goal.returns-in-Err
returns-in-Err c =
    let a = c.args in
    rw (not_good a.n a.block.now c.read_block.result c.read_block.ensures _ c.in-Err.is)

pub returns-else-header-n : goal.returns-else-header-n
returns-else-header-n c =
    let a = c.args in
    rw (good-by a.n a.block.now c.read_block.result c.read_block.ensures _ c.in-Ok.is, ne_eqb _ a.n c.if-header-n.false)

pub returns-then-header-n : goal.returns-then-header-n
returns-then-header-n c =
    let a = c.args in
    let k = good-by a.n a.block.now c.read_block.result c.read_block.ensures _ c.in-Ok.is in
    let l = good-header a.n a.block.now c.read_block.result c.read_block.ensures _ c.in-Ok.is in
    rw (k, eq-eqb _ a.n c.if-header-n.true, ← l)
