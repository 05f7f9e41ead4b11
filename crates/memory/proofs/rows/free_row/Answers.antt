use native.Mathlib.Nat.{zero-add}
use Rattle.std.proofs.Common.{◌∙◌, sym, rules, tests, ◌≡◌, length, eqb}
use Rattle.std.specs.Prelude.{position}
use Rattle.std.proofs.lemmas.Iterator.{YieldsList-from_slice}
use Rattle.std.proofs.lemmas.Iterator.Search.{position_from_yields_List}
use Rattle.memory.specs.declared.Txn.{Txn}
use Rattle.memory.specs.Rows.{free_row}
use Rattle.memory.proofs.SearchLaws.{row_is, place_or_end}
use Rattle.memory.proofs.rows.free_row.Goals as goal

pub returns : goal.returns
unfolding free_row
returns c =
    let a = c.args in
    let long : length a.table ≡ 6 = search rules in
    let found : c.position.result ≡ position (λ (t : Txn). eqb t.ticket 0) a.table = position_from_yields_List (λ (t : Txn). eqb t.ticket 0) _ _ c.position.result c.position.ensures.ran (YieldsList-from_slice _ c.iter.ensures.rest) (λ x b q k. search (rules, tests)) in
    c.unwrap_or.ensures ∙ rw (found, ← long) (place_or_end (λ (t : Txn). eqb t.ticket 0) a.table) ∙ sym (row_is 0 a.table 0 ∙ zero-add _)
