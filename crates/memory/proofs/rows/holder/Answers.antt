use Prim.Native.Nat.{◌<◌}
use mathlib.Core.Path.{◌≡◌, sym, ◌∙◌}
use native.Mathlib.Omega.{arith}
use lib.ListN.{length}
use Rattle.memory.specs.Rows.{closed}
use Rattle.memory.proofs.RowLaws.{scan-found, scan-next, scan-end, holder-me, holder-closed, holder-open, holder-end}
use Rattle.memory.proofs.rows.holder.Goals as goal
use Rattle.memory.proofs.rows.holder.Goals.{then-i-me+then-t-ne0+else-loop-k-test, else-i-me, else-i-me-via-then-i-me+else-t-ne0, else-i-me-via-else-i-me}

pub loop-k-init : goal.loop-k-init
loop-k-init c =
    let a = c.args in (
      omega (arith, c.min-end.ensures),
      c.search.invariant.0,
      c.search.invariant.1
          ∙ holder-open closed a.table c.search.i (omega arith) a.items.now a.me a.item
          c.if-i-me.true c.if-t-ne0.true c.write_count.result c.min-end.result c.write_count.ensures c.min-end.ensures,
    )

pub loop-k-preserved : goal.loop-k-preserved
loop-k-preserved c =
    let v = c.loop-k.invariant in
    (v.0, v.1, scan-next c.args.items.now c.loop-k.k c.min-end.result c.args.item _ _ v.2 (omega arith) v.0 c.if-items-k.false)

pub search-preserved : goal.search-preserved
search-preserved c =
    let a = c.args in
    let h : c.search.i < length a.table = omega arith in
    elim c.if-i-me.branch [
      | then-i-me+then-t-ne0+else-loop-k-test w ↦ (w.found-is ∙ w.loop-k.invariant.1, scan-end a.items.now w.loop-k.k w.min-end.result a.item _ _ w.loop-k.invariant.2 w.loop-k-test.false)
      | else-i-me w ↦ (
        w.found-is ∙ c.search.invariant.0,
        c.search.invariant.1
            ∙ elim w.else-i-me.branch [
              | else-i-me-via-then-i-me+else-t-ne0 v ↦ holder-closed closed a.table c.search.i h a.items.now a.me a.item v.if-i-me.true v.if-t-ne0.false
              | else-i-me-via-else-i-me v ↦ holder-me closed a.table c.search.i h a.items.now a.me a.item v.if-i-me.false
            ],
      )
    ]

pub returns-after-search : goal.returns-after-search
returns-after-search c =
    let a = c.args in
    let e : length a.table ≡ c.search.i = omega arith in
    c.search.invariant.0 ∙ sym (c.search.invariant.1 ∙ holder-end a.table c.search.i e a.items.now a.me a.item)

pub returns-then-items-k : goal.returns-then-items-k
returns-then-items-k c = sym (scan-found c.args.items.now c.loop-k.k c.min-end.result c.args.item _ _ c.loop-k.invariant.2 (omega arith) c.loop-k.invariant.0 c.if-items-k.true)
