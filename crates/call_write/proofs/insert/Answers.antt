-- The item's place is at most the row's count, and both lists open there.
use Prim.Native.Nat.{◌*◌, ◌≤◌, ◌<◌}
use native.Mathlib.Omega.{arith}
use mir.Facts.{to_z-of_z}
use Rattle.call_write.proofs.WriteLaws.{below-lent, insert_made}
use Rattle.call_write.proofs.insert.Goals.{After-count_below}
use Rattle.call_write.proofs.insert.Goals as goal

-- the new item's place is at most the row's count, which is below 8
bound : (c : After-count_below) → (c.count_below.result ≤ c.write_count-n.result) × (c.write_count-n.result < 8)
bound c =
    let a = c.args in
    (omega (arith, c.count_below.ensures, below-lent a.item (8 * a.at) c.write_count-n.result a.items.now), omega (arith, c.write_count-n.ensures, c.requires))

pub overflow_add-place : goal.overflow_add-place
overflow_add-place c = omega (arith, bound c)

pub slice_bounds-insert_first-count : goal.slice_bounds-insert_first-count
slice_bounds-insert_first-count c = omega (arith, bound c)

pub slice_bounds-insert_first-start : goal.slice_bounds-insert_first-start
slice_bounds-insert_first-start c = omega (arith, bound c)

pub slice_bounds-insert_first-count-2 : goal.slice_bounds-insert_first-count-2
slice_bounds-insert_first-count-2 c = omega (arith, bound (goal.at.slice_bounds-insert_first-count-2 c).After-count_below)

pub slice_bounds-insert_first-start-2 : goal.slice_bounds-insert_first-start-2
slice_bounds-insert_first-start-2 c = omega (arith, bound (goal.at.slice_bounds-insert_first-start-2 c).After-count_below)

pub offset_bounds-writes-place : goal.offset_bounds-writes-place
offset_bounds-writes-place c = omega (arith, bound (goal.at.offset_bounds-writes-place c).After-count_below)

pub returns : goal.returns
returns c = λ table here.
    let a = c.args in
    let b = bound (goal.at.returns c).After-count_below in
    rw here
    (insert_made table a.items.now a.writes.now a.at a.item a.value c.write_count-n.result c.count_below.result c.insert_first.new.items c.insert_first-2.new.items
    (rw here at c.write_count-n.ensures) c.count_below.ensures (omega (arith, b)) (omega (arith, b)) c.insert_first.ensures (rw (to_z-of_z c.ranges.value) at c.insert_first-2.ensures))
