-- A send and a deliver keep what is sent. Assumes nothing.
use Prim.Native.Nat.{ℕ, ◌<◌}
use mathlib.Core.Path.{◌≡◌, refl, sym, ap, ◌∙◌}
use mathlib.Core.Bool.{true}
use mathlib.Core.List.{List}
use native.Mathlib.Omega.{arith}
use lib.ListN.{length, get_or}
use borrow.Author.Tests.{ne_eqb}
use Rattle.block.specs.Message.{owner_of}
use Rattle.block.specs.Answers.{header_of}
use Rattle.memory.specs.declared.Txn.{Txn}
use Rattle.memory.specs.Memory.{Memory}
use Rattle.memory.specs.Rows.{row_of, row_at}
use Rattle.engine.specs.Moves.{waiting, send_now, deliver_now, is_sent}
use Rattle.engine.specs.Shape.{Shape}
use Rattle.engine.specs.Sent.{SentShape, sent_count, sent_ticket}
use Rattle.engine.proofs.Tests.{same_by, clash}
use Rattle.engine.proofs.HasLaws.{has_where}
use Rattle.engine.proofs.RowLaws.{row-found, sent-row}
use Rattle.engine.proofs.QueueLaws.{waiting-at}
use Rattle.engine.proofs.PlaceLaws.{empty_same}
use Rattle.engine.proofs.BlockFacts.{taken_block}
use Rattle.engine.proofs.Passed.{SendPassed, DeliverPassed}
use Rattle.engine.proofs.ShapeDeliver as delivered
use Rattle.engine.proofs.SentLaws.{same_bytes_lem, is_sent_lem, count-sent, ticket-sent, row-of-sends}

module _ {over : ℕ} (m : Memory) (S : Shape over m) (Q : SentShape m) (p : SendPassed m) where
  abbrev table : List Txn
  table = m.txns.table

  abbrev queue : List ℕ
  queue = m.txns.queue

  -- no block of this slot has come
  none_done : m.counts.done ≡ 0
  none_done =
      same_by m.counts.done 0 (λ e. e)
      (λ d. clash (Q.own m.turn.slot (omega arith) (omega (arith, S.ranges.least)) (S.places.done (omega (arith, d))).0 p.owner).0 p.unsent)

  ticket : (j : ℕ) → j < length (waiting m.txns.queue) → sent_ticket (send_now m).memory j ≡ get_or m.txns.queue j 0
  unfolding send_now
  ticket j h =
      let r = row_of (get_or queue j 0) table in
      let a = (S.queue.asked j h).0 in
      ticket-sent m S.lengths.queue j h
      (omega (arith, (row-found (get_or queue j 0) table S.lengths.table a).is, (S.rows r a).given, S.ranges.tickets))

  count : sent_count (send_now m).memory ≡ length (waiting m.txns.queue)
  unfolding send_now
  count = count-sent m S.lengths.queue

  live : (j : ℕ) → j < length (waiting m.txns.queue) → is_sent (send_now m).memory (get_or m.txns.queue j 0) ≡ true
  unfolding send_now
  live j h =
      let t = get_or queue j 0 in
      let a = S.queue.asked j h in
      is_sent_lem (send_now m).memory t (record { below = rw (row-of-sends t table) a.0; stage = rw (row-of-sends t table, sent-row table (row_of t table), a.1) })

  pub sent-sent : SentShape (send_now m).memory
  unfolding send_now
  sent-sent = record {
    turn = λ e. p.owner;
    awaited = λ e. p.live;
    own = λ s l u w o. clash (Q.own s l u w o).0 p.unsent;
    once = λ e j k h u q.
        S.queue.once j k h (omega (arith, count)) (sym (ticket j (omega (arith, count))) ∙ q ∙ ticket k (omega (arith, count)));
    live = λ e j h u. rw (ticket j (omega (arith, count))) (live j (omega (arith, count)));
    only = λ r h s. same_by (row_at m.txns.table r).stage 1
        (λ q. let w = has_where (row_at table r).ticket (waiting queue) (S.queue.queued r h q) in (
          refl,
          w.place,
          omega (arith, none_done),
          omega (arith, count, w.within),
          ticket w.place w.within ∙ sym (waiting-at queue w.place w.within) ∙ w.is ∙ ap (λ (x : Txn). x.ticket) (sym (sent-row table r)),
        ))
        (λ d. clash (Q.only r h (rw (sent-row table r, ne_eqb (row_at table r).stage 1 d) at s)).0 p.unsent);
  }

module _ {over : ℕ} (m : Memory) (bytes : List ℕ) (S : Shape over m) (Q : SentShape m) (k : DeliverPassed m bytes) where
  -- its sender is the owner of its slot
  sender : (s : ℕ) → s ≡ (header_of bytes).slot → owner_of m.group.replicas s ≡ m.group.own → (header_of bytes).sender ≡ m.group.own
  unfolding header_of
  sender s z o = (taken_block bytes k.taken).sender ∙ rw (k.replicas, ← z) o

  pub sent-delivered : SentShape (deliver_now m bytes).memory
  unfolding deliver_now
  sent-delivered = record {
    turn = Q.turn;
    awaited = Q.awaited;
    own = λ s l u w o. same_by s (header_of bytes).slot
        (λ z. let h = k.own (sender s z o) in
        (h.0, rw (z, delivered.same m bytes S k) (same_bytes_lem bytes m.blocks.outbox h.1)))
        (λ d. let b = delivered.beside m bytes S k s l u d in
        let a = Q.own s l u (sym (empty_same m.group.replicas s _ m.blocks.places b) ∙ w) o in
        (a.0, b ∙ a.1));
    once = Q.once;
    live = Q.live;
    only = Q.only;
  }
