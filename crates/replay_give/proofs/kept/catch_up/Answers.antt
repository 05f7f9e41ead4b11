use Prim.Native.Nat.{ℕ, ◌+◌, ◌/◌, ◌≤◌}
use mathlib.Core.Path.{ap, ◌∙◌}
use borrow.Author.Rules.{rules}
use native.Mathlib.Omega.{arith}
use lib.ListN.{length}
use lib.Seq.{slice}
use Rattle.block.proofs.ListLaws.{lent_slice}
use Rattle.memory.proofs.WindowLaws.{window_fits}
use Rattle.replay_give.proofs.KeptLaws.{follows_next, follows-all}
use Rattle.replay_give.proofs.kept.catch_up.Goals as goal

-- the slot's place lies in the window
pub overflow_add-at : goal.overflow_add-at
overflow_add-at c = omega (arith, c.place_start-at.ensures, window_fits c.loop-slot.slot, c.requires)

pub slice_bounds-keep-end-in-loop-slot : goal.slice_bounds-keep-end-in-loop-slot
slice_bounds-keep-end-in-loop-slot c =
    let inside : c.place_start-at.result + 512 ≤ length c.args.window.now = omega (arith, c.place_start-at.ensures, window_fits c.loop-slot.slot, c.requires) in
    search (rules, inside)

pub loop-slot-preserved : goal.loop-slot-preserved
loop-slot-preserved c =
    let a = c.args in
    let l = c.loop-slot in
    let at = c.place_start-at.result in
    let part = lent_slice at (at + 512) a.window.now (omega arith) ∙ ap (λ (x : ℕ). slice x (x + 512) a.window.now) c.place_start-at.ensures in
    follows_next a.window.now a.turn (c.min-first.result / 512) a.held a.page.now l.slot l.after l.page l.invariant c.loop-slot-test.true part c.keep-after.ensures c.keep-after.auto.page

pub returns : goal.returns
returns c =
    let a = c.args in
    let l = c.loop-slot in
    follows-all a.window.now a.turn (c.min-first.result / 512) a.held a.page.now l.slot l.after l.page l.invariant c.loop-slot-test.false c.in_ok-held.field-0 c.in_ok-held.was c.in_ok-held.was (ap (λ (n : ℕ). n / 512) c.min-first.ensures)
