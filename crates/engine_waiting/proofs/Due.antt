-- A change that was asked ends by the next own slot: every call keeps this. Assumes nothing.
use Prim.Native.Nat.{ℕ, ◌-◌, ◌≤◌, ◌<◌}
use mathlib.Core.Path.{◌≡◌, refl, ap, ◌∙◌}
use mathlib.Core.Bool.{true, false}
use mathlib.Core.Logic.{◌⊎◌, inl, inr}
use mathlib.Core.List.{List}
use native.Mathlib.Omega.{arith}
use borrow.Author.Tests.{eq-eqb, ne_eqb, ltb-false}
use Rattle.block.specs.Message.{owner_of}
use Rattle.memory.specs.Memory.{Memory}
use Rattle.memory.specs.Rows.{row_at}
use Rattle.memory.specs.Turns.{mark_applying, advance}
use Rattle.engine.specs.Answers.{Outcome}
use Rattle.engine.specs.Moves.{out_at_turn, sent_already, send_now, pass_out}
use Rattle.engine.specs.Calls.{Call, step}
use Rattle.engine.specs.Calls.Call.{begin, read, write, ask, withdraw, report, send, deliver, work, load, notice}
use Rattle.engine.specs.History.AnyCall.{call}
use Rattle.engine.specs.Frames.{WorkFrame}
use Rattle.engine.specs.Shape.{Shape}
use Rattle.engine.specs.Sent.{SentShape}
use Rattle.engine.proofs.Tests.{same_by, clash}
use Rattle.engine.proofs.RowLaws.{sent-row}
use Rattle.engine.proofs.Steps.{Awaited, send_by, work-by}
use Rattle.engine.proofs.Frames.{frames}
use Rattle.engine.proofs.Shaping.{bumps}
use Rattle.engine.proofs.ShapeTurn.{working}
use Rattle.engine.proofs.Sent.{sent-shapes}
use Rattle.engine_waiting.specs.Waiting.{moves_out, leaves_out}
use Rattle.engine_waiting.proofs.Traced.{Came, Traced, traced}

-- ---- due by an own slot

-- a row with the ticket is asked or sent, and the turn has not passed the slot; in the slot, with the sent mark on, it is sent
pub record DueRow (s : ℕ) (m : Memory) (r : ℕ) : Type 0 where
  pub turn : m.turn.slot ≤ s
  pub asked : (row_at m.txns.table r).stage ≡ 0 → ⊥
  pub sent : m.turn.slot ≡ s → sent_already m ≡ true → (row_at m.txns.table r).stage ≡ 2

pub record Due (ticket s : ℕ) (m : Memory) : Type 0 where
  pub owner : owner_of m.group.replicas s ≡ m.group.own
  pub old : ticket ≤ m.counts.tickets
  pub rows : (r : ℕ) → r < 6 → (row_at m.txns.table r).ticket ≡ ticket → DueRow s m r

module _ {over : ℕ} (m : Memory) (S : Shape over m) (Q : SentShape m) (ticket s : ℕ) (some : ticket ≡ 0 → ⊥) (D : Due ticket s m) where
  -- with what each call makes of the rows that have it
  due-by : (n : Memory) → Traced ticket m n → ((r : ℕ) → r < 6 → (row_at n.txns.table r).ticket ≡ ticket → DueRow s m r → Came m n r → DueRow s n r) → Due ticket s n
  due-by n t f = record {
    owner = rw (t.replicas, t.own) D.owner;
    old = omega (arith, D.old, t.tickets);
    rows = λ r h q. let c = t.rows r h q in f r h q (D.rows r h (c.had ∙ q)) c;
  }

  -- the turn and the marks are as they were
  due-same : (n : Memory) → Traced ticket m n → n.turn ≡ m.turn → Due ticket s n
  due-same n t e = due-by n t (λ r h q d c. record {
    turn = rw e d.turn;
    asked = c.asked d.asked;
    sent = rw e (λ z y. c.sent (d.sent z y));
  })

  sent-slot : {r : ℕ} → DueRow s m r → (send_now m).memory.turn.slot ≤ s
  unfolding send_now
  sent-slot d = d.turn

  sent-now : (r : ℕ) → r < 6 → ((row_at m.txns.table r).stage ≡ 0 → ⊥) → (row_at (send_now m).memory.txns.table r).stage ≡ 2
  unfolding send_now
  sent-now r h a =
      let w = sent-row m.txns.table r in
      same_by (row_at m.txns.table r).stage 1
      (λ y. rw (w, eq-eqb (row_at m.txns.table r).stage 1 y))
      (λ y. rw (w, ne_eqb (row_at m.txns.table r).stage 1 y) (let z = (S.rows r h).stage in omega (arith, a, y)))

  due-sent : (b : List ℕ) → Due ticket s (step m (send b)).memory
  due-sent b =
      send_by (λ (o : Outcome). Traced ticket m o.memory → Due ticket s o.memory) m b
      (λ e t. due-by (send_now m).memory t (λ r h q d c. record { turn = sent-slot d; asked = c.asked d.asked; sent = λ z y. sent-now r h d.asked }))
      (λ k e d t. due-same m t refl)
      (traced m S ticket some D.old (send b))

  -- a slot that is passed as out is another one
  other-out : out_at_turn m ≡ true → moves_out s m (pass_out m).memory.turn.slot ≡ false → m.turn.slot ≡ s → ⊥
  unfolding pass_out
  other-out u f z =
      let e = eq-eqb m.turn.slot s z in
      let b = (bumps m S).slot in
      let l = ltb-false s (pass_out m).memory.turn.slot (rw (e, u) at f) in
      omega arith

  due-out : out_at_turn m ≡ true → moves_out s m (pass_out m).memory.turn.slot ≡ false → Traced ticket m (pass_out m).memory → Due ticket s (pass_out m).memory
  due-out u f t = due-by (pass_out m).memory t (λ r h q d c. record {
    turn = let a = d.turn in let x = other-out u f in unfold pass_out in rw (bumps m S).slot (omega (arith, x));
    asked = c.asked d.asked;
    sent = λ z y. clash y (unfold pass_out in refl);
  })

  -- a work that moves the turn out of the slot, which was not passed as out, leaves no row sent, and found the sent mark on
  due-worked : moves_out s m (step m work).memory.turn.slot ≡ false → Due ticket s (step m work).memory
  due-worked =
      work-by (λ (o : Outcome).
      WorkFrame m o.memory → SentShape o.memory → Traced ticket m o.memory → moves_out s m o.memory.turn.slot ≡ false → Due ticket s o.memory) m
      (λ e u f P t g. due-out u g t)
      (λ e k f P t g. moved _ e f P t)
      (λ e k f P t g. moved _ e f P t)
      (λ e f P t g. due-same m t refl)
      (frames.works m) (sent-shapes.each m S Q work) (traced m S ticket some D.old work)
    where
      moved : (n : Memory) → Awaited m → WorkFrame m n → SentShape n → Traced ticket m n → Due ticket s n
      moved n e f P t = due-by n t (λ r h q d c. by r h d c f.turn)
        where
          by : (r : ℕ) → r < 6 → DueRow s m r → Came m n r → (n.turn ≡ m.turn) ⊎ ((n.turn ≡ mark_applying m.turn) ⊎ (n.turn ≡ advance m.turn)) → DueRow s n r
          by r h d c (inl z) = record { turn = rw z d.turn; asked = c.asked d.asked; sent = rw z (λ x y. c.sent (d.sent x y)) }
          by r h d c (inr (inl z)) = record { turn = rw z d.turn; asked = c.asked d.asked; sent = rw z (λ x y. c.sent (d.sent x y)) }
          by r h d c (inr (inr z)) =
              let off : sent_already n ≡ false = rw z refl in
              record {
                turn = rw (z, (bumps m S).slot) (same_by m.turn.slot s
                    (λ x. absurd (clash (P.only r h (c.sent (d.sent x (Q.own s (omega arith) (omega (arith, S.ranges.least)) (rw x at (working m S e).waits) D.owner).0))).0 off))
                    (λ x. let y = d.turn in omega (arith, x)));
                asked = c.asked d.asked;
                sent = λ x y. clash y off;
              }

  pub due-each : (c : Call) → leaves_out s m (call c) ≡ false → Due ticket s (step m c).memory
  due-each begin f = due-same _ (traced m S ticket some D.old begin) (frames.begins m).kept.turn
  due-each (read t i) f = due-same _ (traced m S ticket some D.old (read t i)) (ap (λ (x : Memory). x.turn) (frames.reads m t i))
  due-each (write t i v) f = due-same _ (traced m S ticket some D.old (write t i v)) (frames.writes m t i v).kept.turn
  due-each (ask t) f = due-same _ (traced m S ticket some D.old (ask t)) (frames.asks m t).kept.turn
  due-each (withdraw t) f = due-same _ (traced m S ticket some D.old (withdraw t)) (frames.withdraws m t).kept.turn
  due-each report f = due-same _ (traced m S ticket some D.old report) (ap (λ (x : Memory). x.turn) (frames.reports m))
  due-each (send b) f = due-sent b
  due-each (deliver b) f = due-same _ (traced m S ticket some D.old (deliver b)) (ap (λ (x : Memory). x.turn) (frames.delivers m b).rest)
  due-each work f = due-worked f
  due-each (load l) f = due-same _ (traced m S ticket some D.old (load l)) (ap (λ (x : Memory). x.turn) (frames.loads m l))
  due-each (notice a) f = due-same _ (traced m S ticket some D.old (notice a)) (ap (λ (x : Memory). x.turn) (frames.notices m a).rest)
