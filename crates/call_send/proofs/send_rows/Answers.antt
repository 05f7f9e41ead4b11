-- The array's `map` says what it gives place by place.
use Rattle.std.proofs.Common.{rules, arith, ◌≡◌, map, length, sym, ◌∙◌}
use Rattle.std.proofs.lemmas.List.{get_or-map, same_lists}
use lib.ListN.{length-map}
use Rattle.engine.specs.Moves.{send_row}
use Rattle.call_send.proofs.send_rows.Goals as goal

pub returns : goal.returns
returns c =
    let rows = c.args.rows in
    let six : length rows ≡ 6 = search rules in
    let sent = c.map.ensures.items in
    same_lists c.map.result (map send_row rows) (sent.long ∙ sym six ∙ sym (length-map rows send_row))
    (λ k d h. (sent.at k d d (omega (arith, sent.long))).2.met ∙ sym (get_or-map send_row rows k d d (omega (arith, sent.long))))
