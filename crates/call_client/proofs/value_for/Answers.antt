-- `value_for` meets its contract.
use Prim.Native.Nat.{◌+◌, ◌*◌}
use lib.IntN.{pos}
use lib.ListN.{get_or}
use mir.Syntax.{w32}
use mir.Facts.{to_z-of_z}
use Rattle.call_reply.specs.Parts.{read_parts}
use Rattle.call_client.proofs.ReadLaws.{value-own, value-old}
use borrow.Author.Rules.{rules}
use Rattle.call_client.proofs.value_for.Goals as goal

pub returns-then-k-n : goal.returns-then-k-n
returns-then-k-n c = λ m table here.
    let a = c.args in
    let w = c.write_count-n in
    let i = c.index_of-k in
    rw (to_z-of_z {w = w32} {z = get_or a.writes.now (8 * a.at + i.result) (pos 0)} (search rules)) (value-own (read_parts m table a.items.now a.writes.now a.snapshots.now) a.at a.item a.t here w.result i.result w.ensures i.ensures c.if-k-n.true)

pub returns : goal.returns
returns c = λ m table here.
    let a = c.args in
    let w = c.write_count-n in
    let i = c.index_of-k in
    rw (to_z-of_z {w = w32} {z = get_or a.snapshots.now (128 * a.at + a.item) (pos 0)} (search rules)) (value-old (read_parts m table a.items.now a.writes.now a.snapshots.now) a.at a.item a.t here w.result i.result w.ensures i.ensures c.if-k-n.false)
