use native.Mathlib.Nat.{zero-add}
use borrow.Author.Tests.{eq-eqb, ne_eqb}
use Rattle.std.proofs.Common.{◌∙◌, sym, rules, tests, ◌≡◌, length, eqb}
use Rattle.std.specs.Prelude.{position}
use Rattle.std.proofs.lemmas.Iterator.{YieldsList-from_slice}
use Rattle.std.proofs.lemmas.Iterator.Search.{position_from_yields_List}
use Rattle.memory.specs.declared.Txn.{Txn}
use Rattle.memory.specs.Rows.{row_of}
use Rattle.memory.proofs.SearchLaws.{row_is, place_or_end}
use Rattle.memory.proofs.rows.row_of.Goals as goal

pub returns-then-ticket-eq0 : goal.returns-then-ticket-eq0
unfolding row_of
returns-then-ticket-eq0 c = rw (eq-eqb _ _ c.if-ticket-eq0.true)

pub returns : goal.returns
unfolding row_of
returns c =
    let a = c.args in
    let long : length a.table ≡ 6 = search rules in
    let found : c.position.result ≡ position (λ (t : Txn). eqb t.ticket a.ticket) a.table = position_from_yields_List (λ (t : Txn). eqb t.ticket a.ticket) _ _ c.position.result c.position.ensures.ran (YieldsList-from_slice _ c.iter.ensures.rest) (λ x b q k. search (rules, tests)) in
    rw (ne_eqb _ _ c.if-ticket-eq0.false) (c.unwrap_or.ensures ∙ rw (found, ← long) (place_or_end (λ (t : Txn). eqb t.ticket a.ticket) a.table) ∙ sym (row_is a.ticket a.table 0 ∙ zero-add _))
