-- `pass_next` meets its contract.
use Prim.Native.Nat.{◌+◌}
use mathlib.Core.Path.{refl}
use native.Mathlib.Omega.{arith}
use Rattle.block.proofs.ListLaws.{lent_slice}
use Rattle.call_work.specs.Works.{turn_parts}
use Rattle.call_work.proofs.WorkLaws.{next-passed}
use Rattle.call_work.proofs.pass_next.Goals as goal

pub returns : goal.returns
returns c =
    let part = lent_slice c.args.at (c.args.at + 512) c.args.places.now (omega arith) in (
      λ m. next-passed (turn_parts m c.args.group c.args.turn c.args.counts m.txns.table c.args.places.now c.args.window.now) c.args.at c.requires.0 c.requires.1 c.advance.result c.advance.ensures
          _ (rw part at c.keep.ensures),
      refl,
    )
