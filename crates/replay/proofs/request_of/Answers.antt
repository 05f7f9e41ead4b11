-- `request_of` meets its contract: the place is one of eight, the bytes are not too many, and they are those that the line names.
use Rattle.std.specs.Prelude.{IfSome, unwrap_or}
use Rattle.std.proofs.Common.{ℕ, ◌<◌, Option, Some, None, ◌≡◌, ◌+◌, ◌≤◌, length, refl, arith, rules}
use Rattle.block.proofs.ListLaws.{lent}
use Rattle.replay_delivery.specs.Deliveries.{kept_start, names_bytes, bytes_named}
use Rattle.replay_delivery.proofs.DeliveryLaws.{delivery-short}
use Rattle.replay.specs.Answers.{call_asked, block_at}
use Rattle.replay.proofs.RequestLaws.{first_delivered}
use Rattle.replay.proofs.request_of.Goals as goal

below_eight : (o : Option ℕ) → IfSome o (λ k. k < 8) → unwrap_or o 7 < 8
below_eight None h = omega arith
below_eight (Some k) h = h

pub invariant_of-result : goal.invariant_of-result
invariant_of-result c =
    let s = c.args in
    let call = c.unwrap_or-call.result in
    let from = c.start_of-from.result in
    let there = delivery-short (names_bytes call s.line.now s.sent) (bytes_named call s.line.now (lent from (from + 512) s.kept.now)) _ c.delivered-delivery.ensures c.unwrap_or-count.ensures (omega arith) in
    let l : length c.unwrap_or-count.result.bytes ≡ 2100 = search rules in
    let few : c.unwrap_or-count.result.count ≤ 2100 = omega (arith, there, l) in
    record { at_place = rw c.unwrap_or.ensures (below_eight c.place_named-place.result c.place_named-place.ensures.1); within = few }

pub returns-clause-bytes : goal.returns-clause-bytes
returns-clause-bytes c =
    let s = c.args in
    let call = call_asked s.line.now in
    let asked : c.unwrap_or-call.result ≡ call = search rules in
    let from : c.start_of-from.result ≡ kept_start call.first = search rules in
    let given = rw (asked, from) at c.delivered-delivery.ensures in
    first_delivered (names_bytes call s.line.now s.sent) (bytes_named call s.line.now (block_at call.first s.kept.now)) _ given c.unwrap_or-count.ensures refl
