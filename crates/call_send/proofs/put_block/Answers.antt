-- `put_block` meets its contract: what the four calls leave, one after the other, is the message's block (`message-put`).
use Rattle.std.proofs.Common.{rules, arith, ◌≡◌, ◌≤◌, ◌∙◌, refl, replicate}
use Rattle.memory.proofs.RowLaws.{index_within}
use Rattle.call_reply.specs.Parts.{send_parts}
use Rattle.block_writer.proofs.WholeLaws.{header-written, zeros-behind}
use Rattle.call_send.proofs.BlockLaws.{message-put}
use Rattle.call_send.proofs.put_block.Goals as goal

pub overflow_cast-count : goal.overflow_cast-count
overflow_cast-count c = omega (arith, c.queue_end-count.ensures, c.requires.1, index_within 0 c.args.queue.now 0)

-- the lent block is zeros first
pub put_writesets-requires : goal.put_writesets-requires
put_writesets-requires c =
    let few : c.queue_end-count.result ≤ 6 = omega (arith, c.queue_end-count.ensures, c.requires.1, index_within 0 c.args.queue.now 0) in
    let zeros : c.copy_all.new.to ≡ replicate 512 0 = c.copy_all.ensures in (
      search rules,
      zeros-behind 512 c.copy_all.new.to c.write_header.new.part refl zeros (search rules),
      few,
      c.requires.1,
      c.requires.2,
      c.requires.3,
    )

pub returns : goal.returns
returns c = λ m.
    let a = c.args in
    let few : c.queue_end-count.result ≤ 6 = omega (arith, c.queue_end-count.ensures, c.requires.1, index_within 0 a.queue.now 0) in
    let zeros : c.copy_all.new.to ≡ replicate 512 0 = c.copy_all.ensures in
    message-put (send_parts m a.group a.turn a.rows a.queue.now a.items.now a.writes.now m.blocks.outbox)
    c.queue_end-count.result c.queue_end-count.ensures few 512 c.write_check.result
    c.copy_all.new.to c.write_header.new.part c.put_writesets.new.block c.write_check.new.block
    refl zeros (header-written 512 c.copy_all.new.to c.write_header.new.part refl zeros c.write_header.result _ (rw c.header_for.ensures at c.write_header.ensures))
    c.put_writesets.ensures (c.put_writesets.auto.block ∙ search rules) c.write_check.ensures
