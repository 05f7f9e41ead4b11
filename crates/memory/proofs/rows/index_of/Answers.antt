use native.Mathlib.Nat.{zero-add}
use Rattle.std.proofs.Common.{◌∙◌, sym, rules, tests, ◌≡◌, eqb}
use Rattle.std.specs.Prelude.{position}
use Rattle.std.proofs.lemmas.Iterator.{YieldsList-from_slice}
use Rattle.std.proofs.lemmas.Iterator.Search.{position_from_yields_List}
use Rattle.memory.proofs.SearchLaws.{index_is, place_or_end}
use Rattle.memory.proofs.rows.index_of.Goals as goal

pub returns : goal.returns
returns c =
    let a = c.args in
    let found : c.position.result ≡ position (λ y. eqb y a.item) a.items.now = position_from_yields_List (λ y. eqb y a.item) _ _ c.position.result c.position.ensures.ran (YieldsList-from_slice _ c.iter.ensures.rest) (λ x b q k. search (rules, tests)) in
    c.unwrap_or.ensures ∙ rw (found) (place_or_end (λ y. eqb y a.item) a.items.now) ∙ sym (index_is a.item a.items.now 0 ∙ zero-add _)
