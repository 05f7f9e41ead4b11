use Rattle.std.proofs.Common.{◌+◌, sym, ap, ◌∙◌, arith}
use borrow.Author.Tests.{lt-leb}
use Rattle.block.proofs.ListLaws.{lent_slice}
use Rattle.memory.specs.declared.Turn.{Turn}
use Rattle.call_classes.proofs.WaitLaws.{place_low, wait-off, wait-short, wait-on}
use Rattle.call_classes.proofs.must_wait.Goals as goal

pub returns-then-turn-eq0 : goal.returns-then-turn-eq0
returns-then-turn-eq0 c = λ m g t k l p. wait-off m _ (ap (λ (x : Turn). x.applying) t ∙ c.if-turn-eq0.true)

pub overflow_add-at : goal.overflow_add-at
overflow_add-at c = omega (arith, c.place_start-at.ensures, place_low c.args.group.replicas c.args.turn.slot)

pub returns-else-at-places : goal.returns-else-at-places
returns-else-at-places c = λ m g t k l p.
    rw (lt-leb _ _ c.if-at-places.false) (wait-short m _ (rw (g, t, p) (omega (arith, c.place_start-at.ensures))))

pub returns-then-at-places : goal.returns-then-at-places
returns-then-at-places c = λ m g t k l p.
    let a = c.args in
    let at = c.place_start-at.result in
    rw (
      wait-on m a.item (λ z. c.if-turn-eq0.false (sym (ap (λ (x : Turn). x.applying) t) ∙ z)),
      g,
      t,
      k,
      l,
      p,
      ← c.place_start-at.ensures,
      ← c.byte_at-class.ensures,
      ← lent_slice at (at + 512) a.places.now (omega arith),
    ) c.class_from.ensures
