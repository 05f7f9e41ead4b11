-- `put_entry` meets its contract: the item's part and then the value's part are all of the entry's. Assumes nothing.
use mathlib.Core.Path.{ap, ◌∙◌}
use native.Mathlib.Omega.{arith}
use mir.Facts.{to_z-of_z}
use mir.Syntax.{w32}
use mir.Val.{of_z}
use Rattle.block.specs.Numbers.{bytes_of}
use Rattle.block.proofs.WriteLaws.{entry_put}
use Rattle.block_writer.proofs.put_entry.Goals as goal

pub returns : goal.returns
returns c =
    let n = c in
    let m = n in
    let s = m in
    let a = s.args in
    entry_put a.part.now m.put_number.new.part n.put_number-2.new.part (record { item = a.item; value = a.value }) s.requires (omega (arith, s.ranges.item))
    m.put_number.ensures
    (n.put_number-2.ensures ∙ ap (bytes_of 4) (n.to_bits.ensures ∙ ap (of_z w32) (to_z-of_z s.ranges.value)))
