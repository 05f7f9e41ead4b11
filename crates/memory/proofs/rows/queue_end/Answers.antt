use native.Mathlib.Nat.{zero-add}
use Rattle.std.proofs.Common.{◌∙◌, sym, rules, tests, ◌≡◌, eqb}
use Rattle.std.specs.Prelude.{position}
use Rattle.std.proofs.lemmas.Iterator.{YieldsList-from_slice}
use Rattle.std.proofs.lemmas.Iterator.Search.{position_from_yields_List}
use Rattle.memory.proofs.SearchLaws.{index_is, place_or_end}
use Rattle.memory.proofs.rows.queue_end.Goals as goal

pub returns : goal.returns
returns c =
    let a = c.args in
    let found : c.position.result ≡ position (λ y. eqb y 0) a.queue.now = position_from_yields_List (λ y. eqb y 0) _ _ c.position.result c.position.ensures.ran (YieldsList-from_slice _ c.iter.ensures.rest) (λ x b q k. search (rules, tests)) in
    c.unwrap_or.ensures ∙ rw (found) (place_or_end (λ y. eqb y 0) a.queue.now) ∙ sym (index_is 0 a.queue.now 0 ∙ zero-add _)
