use Rattle.std.proofs.Common.{◌≡◌, sym, ◌∙◌, set, rules}
use lib.Seq.{set_out}
use mir.Facts.{to_z-of_z}
use mir.Syntax.{w32}
use mir.Val.{SFits}
use Rattle.call_commit.proofs.EntryLaws.{apply-start, apply-turn, apply-end, stamp-start, stamp-turn, stamp-end}
use Rattle.call_commit.proofs.apply.Goals as goal
use Rattle.call_commit.proofs.apply.Goals.{then-item-values, else-item-values, then-item-stamps, else-item-stamps}

pub loop-e-init : goal.loop-e-init
loop-e-init c =
    let a = c.args in
    (apply-start a.block.now a.j _ c.entry_count-e-end.ensures a.values.now, stamp-start a.block.now a.j _ c.entry_count-e-end.ensures a.commits a.stamps.now)

pub returns : goal.returns
returns c =
    let a = c.args in
    let h = c.loop-e-test.false in (
      sym (c.loop-e.invariant.0 ∙ apply-end a.block.now a.j _ c.loop-e.e h c.loop-e.values),
      sym (c.loop-e.invariant.1 ∙ stamp-end a.block.now a.j _ c.loop-e.e h a.commits c.loop-e.stamps),
    )

pub loop-e-preserved : goal.loop-e-preserved
loop-e-preserved c =
    let a = c.args in
    let w = c.entry_at-entry.result in
    let f : SFits w32 w.value = search rules in
    let v : c.if-item-values.values ≡ set c.loop-e.values w.item w.value =
    elim c.if-item-values.branch [ then-item-values u ↦ u.values-is ∙ rw (to_z-of_z f) | else-item-values u ↦ u.values-is ∙ sym (set_out _ _ _ u.if-item-values.false) ] in
    let s : c.if-item-stamps.stamps ≡ set c.loop-e.stamps w.item a.commits =
    elim c.if-item-stamps.branch [ then-item-stamps u ↦ u.stamps-is | else-item-stamps u ↦ u.stamps-is ∙ sym (set_out _ _ _ u.if-item-stamps.false) ] in (
      c.loop-e.invariant.0 ∙ apply-turn a.block.now a.j _ c.loop-e.e c.loop-e-test.true w c.entry_at-entry.ensures c.loop-e.values c.if-item-values.values v,
      c.loop-e.invariant.1 ∙ stamp-turn a.block.now a.j _ c.loop-e.e c.loop-e-test.true w c.entry_at-entry.ensures a.commits c.loop-e.stamps c.if-item-stamps.stamps s,
    )
