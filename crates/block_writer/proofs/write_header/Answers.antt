-- Four bytes and the slot's part, in this order. Assumes nothing.
use borrow.Author.Tests.{eq-eqb, ne_eqb}
use Rattle.block_writer.specs.Writing.{header_step}
use Rattle.block_writer.proofs.WriterLaws.{header_over_lem}
use Rattle.block_writer.proofs.write_header.Goals as goal

pub returns-then-part-ne16 : goal.returns-then-part-ne16
unfolding header_step
returns-then-part-ne16 c = rw (ne_eqb _ 16 c.if-part-ne16.true)

pub returns : goal.returns
unfolding header_step
returns c =
    let h = c.if-part-ne16.false in
    let e = header_over_lem c.args.part.now c.copy_from_slice.new.self c.put_number.new.part c.args.header h c.copy_from_slice.ensures.after c.put_number.ensures in
    rw (eq-eqb _ 16 h, ← e)
