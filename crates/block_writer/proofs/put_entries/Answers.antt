use native.Mathlib.Omega.{arith}
use borrow.Author.Rules.{rules}
use lib.ListN.{get_or}
use lib.IntN.{pos}
use mir.Syntax.{w32}
use mir.Facts.{to_z-of_z}
use Rattle.block.proofs.WriteLaws.{entries_none, entries-put}
use Rattle.block_writer.proofs.put_entries.Goals as goal

pub loop-e-init : goal.loop-e-init
loop-e-init c = entries_none c.args.part.now c.args.items.now c.args.values.now

pub loop-e-preserved : goal.loop-e-preserved
loop-e-preserved c =
    let a = c.args in
    entries-put a.part.now a.items.now a.values.now c.loop-e.e _ c.loop-e.part c.put_entry.new.part
    (omega arith) (omega arith) c.loop-e.invariant c.put_entry.ensures (to_z-of_z {w = w32} {z = get_or a.values.now c.loop-e.e (pos 0)} (search rules))
