use native.Mathlib.Nat.{zero-add}
use Rattle.std.proofs.Common.{◌∙◌, sym, rules, tests, ◌≡◌, leb}
use Rattle.std.specs.Prelude.{position}
use Rattle.std.proofs.lemmas.Iterator.{YieldsList-from_slice}
use Rattle.std.proofs.lemmas.Iterator.Search.{position_from_yields_List}
use Rattle.memory.proofs.SearchLaws.{below_is, place_or_end}
use Rattle.memory.proofs.rows.count_below.Goals as goal

pub returns : goal.returns
returns c =
    let a = c.args in
    let found : c.position.result ≡ position (λ y. leb a.item y) a.items.now = position_from_yields_List (λ y. leb a.item y) _ _ c.position.result c.position.ensures.ran (YieldsList-from_slice _ c.iter.ensures.rest) (λ x b q k. search (rules, tests)) in
    c.unwrap_or.ensures ∙ rw (found) (place_or_end (λ y. leb a.item y) a.items.now) ∙ sym (below_is a.item a.items.now 0 ∙ zero-add _)
