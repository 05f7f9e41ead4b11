-- `put_writeset` meets its contract: the record writer's call over zeros, on the writes of the ticket's row.
use Rattle.std.proofs.Common.{rules, arith, ◌≡◌, ◌≤◌, length}
use Rattle.call_send.proofs.BlockLaws.{row-of-within, row_writes, writeset-written}
use Rattle.call_send.proofs.put_writeset.Goals as goal

-- the row is one of six, or none
pub overflow_mul-from : goal.overflow_mul-from
overflow_mul-from c =
    let six : length c.args.rows ≡ 6 = search rules in
    let row : c.row_of-row.result ≤ 6 = rw c.row_of-row.ensures (row-of-within c.args.rows six _) in
    omega arith

-- its writes stand within the 48
pub overflow_add-to : goal.overflow_add-to
overflow_add-to c =
    let six : length c.args.rows ≡ 6 = search rules in
    let within = row_writes c.args.rows six c.args.ticket c.row_of-row.result c.write_count.result c.row_of-row.ensures (rw c.row_at-t.ensures at c.write_count.ensures) in
    omega (arith, within)

pub slice_bounds-write_record-end : goal.slice_bounds-write_record-end
slice_bounds-write_record-end c =
    let six : length c.args.rows ≡ 6 = search rules in
    let within = row_writes c.args.rows six c.args.ticket c.row_of-row.result c.write_count.result c.row_of-row.ensures (rw c.row_at-t.ensures at c.write_count.ensures) in
    omega (arith, within)

pub offset_bounds-writes-from : goal.offset_bounds-writes-from
offset_bounds-writes-from c =
    let six : length c.args.rows ≡ 6 = search rules in
    let row : c.row_of-row.result ≤ 6 = rw c.row_of-row.ensures (row-of-within c.args.rows six _) in
    omega arith

pub slice_bounds-write_record-end-2 : goal.slice_bounds-write_record-end-2
slice_bounds-write_record-end-2 c =
    let six : length c.args.rows ≡ 6 = search rules in
    let within = row_writes c.args.rows six c.args.ticket c.row_of-row.result c.write_count.result c.row_of-row.ensures (rw c.row_at-t.ensures at c.write_count.ensures) in
    omega (arith, within)

pub returns : goal.returns
returns c =
    let a = c.args in
    let six : length a.rows ≡ 6 = search rules in
    let count = rw c.row_at-t.ensures at c.write_count.ensures in
    writeset-written a.rows a.items.now a.writes.now (c.requires.1, c.requires.2) a.ticket c.row_of-row.result c.write_count.result c.write_record.result
    a.part.now c.write_record.new.part c.row_of-row.ensures count
    (row_writes a.rows six a.ticket c.row_of-row.result c.write_count.result c.row_of-row.ensures count) c.requires.0 c.write_record.ensures
