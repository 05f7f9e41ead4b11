-- Each answer by its law.
use Rattle.std.proofs.Common.{sym, ◌∙◌, set}
use mir.Facts.{to_z-of_z}
use Rattle.engine.specs.Client.{rewrite_at, stale_at}
use Rattle.memory.specs.declared.Txn.{Txn}
use Rattle.call_write.specs.Parts.{inserted}
use Rattle.call_reply.specs.Replies.{number}
use Rattle.call_reply.proofs.ReplyLaws.{gives}
use Rattle.memory.proofs.RowLaws.{same_row}
use Rattle.call_write.proofs.WriteLaws.{write-mine, write-held, write-stale, write-full, write_new}
use Rattle.call_write.proofs.write_at.Goals as goal

pub returns-then-k-n : goal.returns-then-k-n
unfolding rewrite_at
returns-then-k-n c = λ m counts table here same.
    let a = c.args in
    rw (same_row table a.at a.t here, to_z-of_z c.ranges.value)
    (gives number (write-mine _ a.at a.item a.value c.write_count-n.result c.index_of-k.result (rw here at c.write_count-n.ensures) c.index_of-k.ensures c.if-k-n.true))

pub returns-then-t-stamps : goal.returns-then-t-stamps
unfolding stale_at
returns-then-t-stamps c = λ m counts table here same.
    let a = c.args in
    gives number (write-stale _ a.at a.item a.value c.write_count-n.result c.index_of-k.result (rw here at c.write_count-n.ensures) c.index_of-k.ensures c.if-k-n.false (rw here at c.if-t-stamps.true))

pub returns-then-held : goal.returns-then-held
returns-then-held c = λ m counts table here same.
    let a = c.args in
    rw (same_row table a.at a.t here)
    (gives number (write-held _ a.at a.item a.value c.write_count-n.result c.index_of-k.result (rw here at c.write_count-n.ensures) c.index_of-k.ensures c.if-k-n.false (rw here at c.if-t-stamps.false) c.held.result (c.held.ensures ∙ sym same) c.if-held.true))

pub returns-then-n-eq8 : goal.returns-then-n-eq8
returns-then-n-eq8 c = λ m counts table here same.
    let a = c.args in
    rw (same_row table a.at a.t here)
    (gives number (write-full _ a.at a.item a.value c.write_count-n.result c.index_of-k.result (rw here at c.write_count-n.ensures) c.index_of-k.ensures c.if-k-n.false (rw here at c.if-t-stamps.false) c.held.result (c.held.ensures ∙ sym same) c.if-held.false c.if-n-eq8.true))

pub returns : goal.returns
returns c = λ m counts table here same.
    let a = c.args in
    let row : Txn = record { ticket = a.t.ticket; stage = a.t.stage; snapshot = a.t.snapshot; writes = c.insert.result } in
    gives number
    (write_new _ a.at a.item a.value c.write_count-n.result c.index_of-k.result (rw here at c.write_count-n.ensures) c.index_of-k.ensures c.if-k-n.false (rw here at c.if-t-stamps.false) c.held.result (c.held.ensures ∙ sym same) c.if-held.false c.if-n-eq8.false
    (inserted (set table a.at row) c.insert.new.items c.insert.new.writes) (rw (to_z-of_z c.ranges.value) at (c.insert.ensures table here)))
