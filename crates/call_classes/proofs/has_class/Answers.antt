use Rattle.std.proofs.Common.{sym, ap, ◌∙◌}
use Rattle.block.specs.declared.Entry.{Entry}
use Rattle.call_classes.proofs.ClassLaws.{class-start, class-here, class-later, class-end}
use Rattle.call_classes.proofs.has_class.Goals as goal

pub loop-e-init : goal.loop-e-init
loop-e-init c =
    let a = c.args in
    class-start a.classes.now a.class a.block.now a.j _ c.entry_count-e-end.ensures

pub returns-then-byte_at-class : goal.returns-then-byte_at-class
returns-then-byte_at-class c =
    let a = c.args in
    sym (c.loop-e.invariant
    ∙ class-here a.classes.now a.class a.block.now a.j _ c.loop-e.e c.loop-e-test.true
    _ c.byte_at.result (ap (λ (x : Entry). x.item) c.entry_at-item.ensures) c.byte_at.ensures c.if-byte_at-class.true)

pub loop-e-preserved : goal.loop-e-preserved
loop-e-preserved c =
    let a = c.args in
    c.loop-e.invariant
    ∙ class-later a.classes.now a.class a.block.now a.j _ c.loop-e.e c.loop-e-test.true
    _ c.byte_at.result (ap (λ (x : Entry). x.item) c.entry_at-item.ensures) c.byte_at.ensures c.if-byte_at-class.false

pub returns : goal.returns
returns c =
    let a = c.args in
    sym (c.loop-e.invariant ∙ class-end a.classes.now a.class a.block.now a.j _ c.loop-e.e c.loop-e-test.false)
