-- `deliver_wanted` meets its contract: the number is that of the deliver where the block is wanted, else the one before.
use mathlib.Core.Path.{◌≡◌, sym, ap, ◌∙◌}
use mathlib.Core.Bool.{false}
use Rattle.memory.specs.Memory.{Memory}
use Rattle.giving.specs.Giving.{Going, is_wanted}
use Rattle.call_reply.specs.Parts.{deliver_parts}
use Rattle.call_give.proofs.StandLaws.{wanted-not, wanted-number, wanted-memory, wanted-aborted, out-unwanted, full-unwanted, empty-wanted}
use Rattle.call_give.proofs.slots.deliver_wanted.Goals as goal
use Rattle.call_give.proofs.slots.deliver_wanted.Goals.{then-is_out-via-then-is_out, then-is_out-via-else-is_out+then-byte_at-ne0}

pub returns-then-is_out : goal.returns-then-is_out
returns-then-is_out c =
    let before : Memory → Memory = λ m. deliver_parts m c.args.group c.args.turn c.args.places.now c.args.outbox.now in
    λ m g here same.
    let unwanted : is_wanted (before m) ≡ false = elim c.then-is_out.branch [
      | then-is_out-via-then-is_out w ↦ out-unwanted (before m) (sym c.is_out.ensures ∙ w.if-is_out.true)
      | then-is_out-via-else-is_out+then-byte_at-ne0 w ↦ full-unwanted (before m) (sym c.is_out.ensures ∙ w.if-is_out.false) w.byte_at.result (rw c.place_start-at.ensures at w.byte_at.ensures) w.if-byte_at-ne0.true
    ] in
    let none = wanted-not (before m) g here c.args.block.now unwanted in
    (same ∙ ap (λ (x : Going). x.number) (sym none), here ∙ ap (λ (x : Going). x.memory) (sym none), ap (λ (x : Going). x.aborted) (sym none))

pub returns : goal.returns
returns c =
    let before : Memory → Memory = λ m. deliver_parts m c.args.group c.args.turn c.args.places.now c.args.outbox.now in
    λ m g here same.
    let kind = rw c.place_start-at.ensures at c.byte_at.ensures in
    let wanted = empty-wanted (before m) (sym c.is_out.ensures ∙ c.if-is_out.false) c.byte_at.result kind c.if-byte_at-ne0.false in (
      wanted-number (before m) g here c.args.block.now wanted c.number_of.result (c.number_of.ensures ∙ (c.deliver.ensures m).0),
      wanted-memory (before m) g here c.args.block.now wanted _ (c.deliver.ensures m).1,
      wanted-aborted (before m) g here c.args.block.now wanted,
    )
