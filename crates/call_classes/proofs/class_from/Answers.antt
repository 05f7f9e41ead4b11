use Rattle.std.proofs.Common.{◌<◌, sym, ◌∙◌, get_or, arith}
use borrow.Author.Tests.{lt-ltb}
use Rattle.call_classes.proofs.ClassLaws.{from-here, from-later, from_end}
use Rattle.call_classes.proofs.class_from.Goals as goal

pub returns-then-has_class : goal.returns-then-has_class
returns-then-has_class c =
    let a = c.args in
    let kind : 1 < get_or a.block.now 0 0 = omega arith in
    rw (lt-ltb 1 (get_or a.block.now 0 0) kind)
    (sym (c.loop-j.invariant ∙ from-here a.classes.now a.class a.block.now c.loop-j.j (get_or a.block.now 3 0) c.loop-j-test.true (sym c.if-has_class.ensures)))

pub loop-j-preserved : goal.loop-j-preserved
loop-j-preserved c =
    let a = c.args in
    c.loop-j.invariant ∙ from-later a.classes.now a.class a.block.now c.loop-j.j (get_or a.block.now 3 0) c.loop-j-test.true (sym c.if-has_class.ensures)

pub returns : goal.returns
returns c =
    let a = c.args in
    let kind : 1 < get_or a.block.now 0 0 = omega arith in
    rw (lt-ltb 1 (get_or a.block.now 0 0) kind)
    (sym (c.loop-j.invariant ∙ from_end a.classes.now a.class a.block.now c.loop-j.j (get_or a.block.now 3 0) c.loop-j-test.false))
