-- `do_work` meets its contract: the work's own contract, and what it leaves by value.
use Rattle.std.proofs.Common.{[]}
use Rattle.memory.specs.Memory.{Memory}
use Rattle.engine.specs.Make.{made_memory}
use Rattle.call_commit.proofs.EndLaws.{end_none}
use Rattle.call_reply.specs.Replies.{worked_reply}
use Rattle.call_give.specs.Gifts.{give_parts}
use Rattle.call_give.proofs.StandLaws.{room_for, room-left, stands_worked, stands_unworked}
use Rattle.call_give.proofs.slots.do_work.Goals as goal

pub after_work-requires : goal.after_work-requires
after_work-requires c =
    let a = c.args in
    let m = made_memory 0 0 [] in
    let before = give_parts m a.group a.state.now.turn a.state.now.counts a.state.now.rows a.queue.now a.items.now a.values.now a.stamps.now a.places.now m.blocks.outbox a.window.now in
    room_for before (worked_reply 0 c.in-Ok.worked) (c.in-Ok.ensures m).0.0 a.state.now.count c.requires

pub returns-in-Ok : goal.returns-in-Ok
returns-in-Ok c =
    let a = c.args in
    let before = λ (m : Memory). give_parts m a.group a.state.now.turn a.state.now.counts a.state.now.rows a.queue.now a.items.now a.values.now a.stamps.now a.places.now m.blocks.outbox a.window.now in
    let w = c.in-Ok.worked in
    let F = c.after_work.ensures in
    let d = made_memory 0 0 [] in
    let few = room_for (before d) (worked_reply 0 w) (c.in-Ok.ensures d).0.0 a.state.now.count c.requires in (
      rw (F.count, F.rows) (room-left (before d) (worked_reply 0 w) (c.in-Ok.ensures d).0.0 a.state.now.count c.requires _ (c.in-Ok.ensures d).0.1),
      λ m g S. stands_worked g a.state.now c.after_work.new.state w (before m) S (c.in-Ok.ensures m).0.0 m a.group _ _ _ _ _ _ _ (c.in-Ok.ensures m).0.1 few F,
    )

pub returns-in-Err : goal.returns-in-Err
returns-in-Err c =
    let a = c.args in
    let before = λ (m : Memory). give_parts m a.group a.state.now.turn a.state.now.counts a.state.now.rows a.queue.now a.items.now a.values.now a.stamps.now a.places.now m.blocks.outbox a.window.now in (
      c.requires,
      λ m g S.
          let said = rw (end_none 6 a.state.now.rows) at (c.in-Err.ensures m) in
          rw c.number-state.ensures (stands_unworked g a.state.now _ (before m) S said.0.0 m a.group _ _ _ _ _ _ _ said.0.1),
    )
