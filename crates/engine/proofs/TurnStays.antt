-- After a send the turn stays until the replica gets its block back. Assumes nothing.
use Prim.Native.Nat.{ℕ}
use mathlib.Core.Path.{◌≡◌, refl, sym, ap, ◌∙◌, subst}
use mathlib.Core.Bool.{true}
use mathlib.Core.List.{List, Memᴰ, [], ◌∷◌}
use native.Mathlib.Omega.{arith}
use Rattle.block.specs.Message.{owner_of}
use Rattle.block.specs.Answers.{header_of}
use Rattle.memory.specs.Memory.{Memory}
use Rattle.memory.specs.Turns.{is_empty}
use Rattle.engine.specs.Answers.{Outcome}
use Rattle.engine.specs.Answers.Answer.{sent}
use Rattle.engine.specs.Moves.{sent_already, send_now, deliver_now}
use Rattle.engine.specs.Calls.{Call, step, after}
use Rattle.engine.specs.Calls.Call.{begin, read, write, ask, withdraw, report, send, deliver, work, load, notice}
use Rattle.engine.specs.Shape.{Shape}
use Rattle.engine.specs.Sent.{SentShape}
use Rattle.engine.proofs.Tests.{bool_by, clash}
use Rattle.engine.proofs.PlaceLaws.{empty_same}
use Rattle.engine.proofs.BlockFacts.{taken_block}
use Rattle.engine.proofs.Steps.{send_by, deliver-by, work-by, notice-by}
use Rattle.engine.proofs.Passed.{DeliverPassed, send_passed, deliver_passed, work_passed}
use Rattle.engine.proofs.Frames.{frames}
use Rattle.engine.proofs.ShapeDeliver as delivered
use Rattle.engine.proofs.Shapes.{shapes}
use Rattle.engine.proofs.SentLaws.{same_bytes_lem}
use Rattle.engine.proofs.Sent.{sent-shapes}

-- the block is sent for slot s, which is the turn's and an own one, and nothing waits there
record Awaits (s : ℕ) (block : List ℕ) (m : Memory) : Type 0 where
  slot : m.turn.slot ≡ s
  mark : sent_already m ≡ true
  owner : owner_of m.group.replicas s ≡ m.group.own
  outbox : m.blocks.outbox ≡ block
  empty : is_empty m.group.replicas s m.blocks.places ≡ true

module _ (s : ℕ) (block : List ℕ) where
  alike : (m n : Memory) → Awaits s block m → n.turn ≡ m.turn → n.blocks ≡ m.blocks → n.group ≡ m.group → Awaits s block n
  alike m n A t b g = record {
    slot = rw t A.slot;
    mark = rw t A.mark;
    owner = rw g A.owner;
    outbox = rw b A.outbox;
    empty = rw (g, b) A.empty;
  }

  -- another block is kept in another place: at an own slot 19 lets none pass but the one sent
  module _ {over : ℕ} (m : Memory) (S : Shape over m) (A : Awaits s block m) (bytes : List ℕ) (other : bytes ≡ block → ⊥) (k : DeliverPassed m bytes) where
    sender : s ≡ (header_of bytes).slot → (header_of bytes).sender ≡ m.group.own
    unfolding header_of
    sender z = (taken_block bytes k.taken).sender ∙ rw (k.replicas, ← z) A.owner

    beside : s ≡ (header_of bytes).slot → ⊥
    beside z = other (same_bytes_lem bytes m.blocks.outbox (k.own (sender z)).1 ∙ A.outbox)

    kept-beside : Awaits s block (deliver_now m bytes).memory
    unfolding deliver_now
    kept-beside =
        let b = delivered.beside m bytes S k s (omega (arith, A.slot)) (omega (arith, A.slot, S.ranges.least)) beside in
        record { slot = A.slot; mark = A.mark; owner = A.owner; outbox = A.outbox; empty = empty_same m.group.replicas s _ m.blocks.places b ∙ A.empty }

  module _ {over : ℕ} (m : Memory) (S : Shape over m) (Q : SentShape m) (A : Awaits s block m) where
    stays-each : (c : Call) → (c ≡ deliver block → ⊥) → Awaits s block (step m c).memory
    stays-each begin d = let f = frames.begins m in alike m _ A f.kept.turn f.kept.blocks f.kept.group
    stays-each (read t i) d = subst (Awaits s block) (sym (frames.reads m t i)) A
    stays-each (write t i v) d = let f = frames.writes m t i v in alike m _ A f.kept.turn f.kept.blocks f.kept.group
    stays-each (ask t) d = let f = frames.asks m t in alike m _ A f.kept.turn f.kept.blocks f.kept.group
    stays-each (withdraw t) d = let f = frames.withdraws m t in alike m _ A f.kept.turn f.kept.blocks f.kept.group
    stays-each report d = subst (Awaits s block) (sym (frames.reports m)) A
    stays-each (send b) d = send_by (λ (o : Outcome). Awaits s block o.memory) m b (λ e. clash A.mark (send_passed m b e).unsent) (λ n k e. A)
    stays-each (deliver b) d = deliver-by (λ (o : Outcome). Awaits s block o.memory) m b (λ e. kept-beside m S A b (λ z. d (ap deliver z)) (deliver_passed m b e)) (λ e. A)
    stays-each work d = work-by (λ (o : Outcome). Awaits s block o.memory) m (λ e u. clash u (Q.awaited A.mark)) (λ e k. clash waiting (work_passed m e)) (λ e k. clash waiting (work_passed m e)) (λ e. A)
      where
        waiting : is_empty m.group.replicas m.turn.slot m.blocks.places ≡ true
        waiting = rw A.slot A.empty
    stays-each (load l) d = let f = frames.loads m l in
        alike m _ A (ap (λ (x : Memory). x.turn) f) (ap (λ (x : Memory). x.blocks) f) (ap (λ (x : Memory). x.group) f)
    stays-each (notice a) d =
        notice-by (λ (o : Outcome). Awaits s block o.memory) m a
        (λ e. record { slot = A.slot; mark = A.mark; owner = A.owner; outbox = A.outbox; empty = A.empty })
        (λ e. A)

  stays_all : {over : ℕ} (m : Memory) → Shape over m → SentShape m → Awaits s block m → (cs : List Call) → (Memᴰ (deliver block) cs → ⊥) → Awaits s block (after m cs)
  unfolding after
  stays_all m S Q A [] d = A
  stays_all m S Q A (c ∷ cs) d =
      stays_all (step m c).memory (shapes.each m S c) (sent-shapes.each m S Q c) (stays-each m S Q A c (λ z. d (Memᴰ.head (sym z)))) cs
      (λ h. d (Memᴰ.tail h))

-- just after the send
sent_awaits : {over : ℕ} (m : Memory) → Shape over m → SentShape m → (lent block : List ℕ) → (step m (send lent)).answer ≡ sent block → Awaits m.turn.slot block (step m (send lent)).memory
unfolding send_now
sent_awaits m S Q lent block =
    send_by (λ (o : Outcome). o.answer ≡ sent block → Awaits m.turn.slot block o.memory) m lent
    (λ e q. let p = send_passed m lent e in
    record {
      slot = refl;
      mark = refl;
      owner = p.owner;
      outbox = cc;
      empty = bool_by (is_empty m.group.replicas m.turn.slot m.blocks.places) (λ h. h)
          (λ h. clash (Q.own m.turn.slot (omega arith) (omega (arith, S.ranges.least)) h p.owner).0 p.unsent);
    })
    (λ n k e q. absurd (let z : ◌≡◌ {A = ℕ} 0 1 = cc in omega arith))

pub turn-stays : {over : ℕ} (m : Memory) → Shape over m → SentShape m → (lent block : List ℕ) → (step m (send lent)).answer ≡ sent block
    → (cs : List Call) → (Memᴰ (deliver block) cs → ⊥) → (after (step m (send lent)).memory cs).turn.slot ≡ m.turn.slot
turn-stays m S Q lent block e cs d =
    (stays_all m.turn.slot block (step m (send lent)).memory (shapes.each m S (send lent)) (sent-shapes.each m S Q (send lent)) (sent_awaits m S Q lent block e) cs d).slot
