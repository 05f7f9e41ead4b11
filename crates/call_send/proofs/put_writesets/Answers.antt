use Rattle.std.proofs.Common.{◌≡◌, arith, length, take, rules}
use Rattle.std.proofs.lemmas.List.{get_or-take}
use lib.Seq.{length-take-le}
use Rattle.call_send.proofs.BlockLaws.{block_to, writesets-none, writesets-fresh, writesets-put}
use Rattle.call_send.proofs.put_writesets.Goals as goal

pub loop-j-init : goal.loop-j-init
loop-j-init c =
    let a = c.args in
    (c.requires.0, writesets-none a.block.now a.rows a.queue.now a.items.now a.writes.now c.requires.0)

pub put_writeset-requires : goal.put_writeset-requires
put_writeset-requires c =
    let a = c.args in
    let few : length (take a.count a.queue.now) ≡ a.count = length-take-le a.count a.queue.now (omega arith) in (
      writesets-fresh a.block.now a.rows a.queue.now a.items.now a.writes.now c.loop-j.j
          (block_to a.block.now a.rows a.queue.now a.items.now a.writes.now c.loop-j.j) c.loop-j.block c.requires.1 (omega arith) c.loop-j.invariant.1,
      c.requires.4,
      c.requires.5,
    )

pub loop-j-preserved : goal.loop-j-preserved
loop-j-preserved c =
    let a = c.args in
    let few : length (take a.count a.queue.now) ≡ a.count = length-take-le a.count a.queue.now (omega arith) in
    let here = get_or-take a.count a.queue.now c.loop-j.j 0 (omega arith) in (
      search rules,
      writesets-put a.block.now a.rows a.queue.now a.items.now a.writes.now c.loop-j.j c.loop-j.block c.put_writeset.new.part
          (omega arith) (search rules) (rw here at c.put_writeset.ensures) c.loop-j.invariant.1,
    )
