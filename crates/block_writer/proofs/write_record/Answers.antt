-- The ticket's part, the count's part and the entries' part, in this order. Assumes nothing.
use borrow.Author.Rules.{rules}
use borrow.Author.Tests.{eq-eqb, ne_eqb, le-leb, lt-leb}
use Rattle.block_writer.specs.Writing.{record_step}
use Rattle.block_writer.proofs.WriterLaws.{record-over}
use Rattle.block_writer.proofs.write_record.Goals as goal
use Rattle.block_writer.proofs.write_record.Goals.{then-part-ne72-via-then-part-ne72, then-part-ne72-via-else-part-ne72+then-items-gt8, then-part-ne72-via-else-part-ne72+else-items-gt8+then-values-items}

pub returns-then-part-ne72 : goal.returns-then-part-ne72
unfolding record_step
returns-then-part-ne72 c =
    elim c.then-part-ne72.branch [
      | then-part-ne72-via-then-part-ne72 w ↦ rw (ne_eqb _ 72 w.if-part-ne72.true)
      | then-part-ne72-via-else-part-ne72+then-items-gt8 w ↦ rw (eq-eqb _ 72 w.if-part-ne72.false, lt-leb _ 8 w.if-items-gt8.true)
      | then-part-ne72-via-else-part-ne72+else-items-gt8+then-values-items w ↦
          rw (eq-eqb _ 72 w.if-part-ne72.false, le-leb _ 8 w.if-items-gt8.false, ne_eqb _ _ w.if-values-items.true)
    ]

pub returns : goal.returns
unfolding record_step
returns c =
    let a = c.args in
    let h = c.if-part-ne72.false in
    let l = c.if-items-gt8.false in
    let k = c.if-values-items.false in
    let e = record-over a.part.now a.items.now a.values.now k a.ticket c.put_number.new.part c.put_number-2.new.part c.put_entries.new.part
    h l c.put_number.ensures c.put_number-2.ensures (search rules) c.put_entries.ensures in
    rw (eq-eqb _ 72 h, le-leb _ 8 l, eq-eqb _ _ k, ← e)
