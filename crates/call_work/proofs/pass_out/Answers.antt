-- `pass_out` meets its contract: the *next* stands in the window's place of the slot.
use Prim.Native.Nat.{◌+◌}
use mathlib.Core.Path.{◌≡◌, refl, ◌∙◌}
use native.Mathlib.Omega.{arith}
use lib.ListN.{length}
use borrow.Rule.Slice.PartMut.{mid_len}
use Rattle.memory.proofs.ByteLaws.{put-paste}
use Rattle.memory.proofs.NoticeLaws.{owner_within}
use Rattle.call_work.specs.Works.{turn_parts}
use Rattle.call_work.proofs.OutLaws.{in_window, out-passed}
use borrow.Author.Rules.{rules}
use Rattle.call_work.proofs.pass_out.Goals as goal

-- the owner of an out slot is one of six
pub overflow_cast-sender : goal.overflow_cast-sender
overflow_cast-sender c =
    let six : length c.args.group.until ≡ 6 = search rules in
    omega (arith, c.owner_at-sender.ensures, owner_within c.args.group c.args.turn.slot six c.requires.0)

-- the slot's place lies in the window
pub overflow_add-at : goal.overflow_add-at
overflow_add-at c =
    let inside = in_window c.args.window.now c.args.turn.slot c.place_start-at.result c.requires.1 c.place_start-at.ensures in
    omega (arith, inside)

pub slice_bounds-put_next-end : goal.slice_bounds-put_next-end
slice_bounds-put_next-end c = in_window c.args.window.now c.args.turn.slot c.place_start-at.result c.requires.1 c.place_start-at.ensures

pub put_next-requires : goal.put_next-requires
put_next-requires c =
    let inside = in_window c.args.window.now c.args.turn.slot c.place_start-at.result c.requires.1 c.place_start-at.ensures in
    mid_len c.place_start-at.result (c.place_start-at.result + 512) c.args.window.now inside ∙ omega arith

pub returns : goal.returns
returns c =
    let inside = in_window c.args.window.now c.args.turn.slot c.place_start-at.result c.requires.1 c.place_start-at.ensures in
    let a = c.args in
    let at = c.place_start-at.result in
    let block = c.put_next.new.block in
    let long : length block ≡ 512 = c.put_next.auto.block ∙ mid_len at (at + 512) a.window.now inside ∙ omega arith in (
      λ m. out-passed (turn_parts m a.group a.turn a.counts m.txns.table m.blocks.places a.window.now) c.advance.result c.advance.ensures
          c.owner_at-sender.result c.owner_at-sender.ensures block long c.put_next.ensures _ (rw (put-paste at a.window.now block long, c.place_start-at.ensures)),
      refl,
    )
