-- A client's call keeps what is sent. Assumes nothing.
use Prim.Native.Nat.{ℕ}
use mathlib.Core.Path.{◌≡◌, ap}
use mathlib.Core.List.{List}
use native.Mathlib.Omega.{arith}
use lib.IntN.{ℤ}
use lib.ListN.{length, set, length-set, get_or-eq_default}
use lib.Seq.{get_or-set_same}
use Rattle.memory.specs.declared.Counts.{Counts}
use Rattle.memory.specs.declared.Txn.{Txn}
use Rattle.memory.specs.Memory.{Memory}
use Rattle.memory.specs.Rows.{closed, free_row, row_at}
use Rattle.engine.specs.Answers.{Outcome}
use Rattle.engine.specs.Client.{row_no, row_in, begin_at, rewrite_at, insert_write, stale_at, read_only_at, queue_at, withdraw_at}
use Rattle.engine.specs.Calls.{step}
use Rattle.engine.specs.Calls.Call.{begin, write, ask, withdraw}
use Rattle.engine.specs.Frames.{TurnKept, RowsBut, BeginFrame, WriteFrame, AskFrame, WithdrawFrame}
use Rattle.engine.specs.Shape.{Shape}
use Rattle.engine.specs.Sent.{SentShape, sent_ticket}
use Rattle.engine.proofs.Tests.{less_by, same_by}
use Rattle.engine.proofs.RowLaws.{free_found}
use Rattle.engine.proofs.Steps.{begin-by, write-by, ask-by, withdraw-by}
use Rattle.engine.proofs.Passed.{RowPassed, begin_passed, write_passed, stale-passed, ask_passed, withdraw_passed}
use Rattle.engine.proofs.Frames.{frames}
use Rattle.engine.proofs.Shapes.{shapes}
use Rattle.engine.proofs.SentLaws.{sent-found, stays-sent}

-- row r, which is not sent, becomes another that is not
client : {over : ℕ} (m n : Memory) → Shape over m → Shape over n → SentShape m → TurnKept m n → n.counts.done ≡ m.counts.done → (r : ℕ) → RowsBut m n r
    → ((row_at m.txns.table r).stage ≡ 2 → ⊥) → ((row_at n.txns.table r).stage ≡ 2 → ⊥) → SentShape n
client m n S T Q k d r rows old new = record {
  turn = rw (k.turn, k.group) Q.turn;
  awaited = rw (k.turn, k.group) Q.awaited;
  own = rw (k.turn, k.blocks, k.group) Q.own;
  once = rw (k.turn, k.blocks) Q.once;
  live = rw (k.turn, k.blocks, d) (λ e j h l.
      let s = Q.live e j h l in
      stays-sent m n S T (sent_ticket m j) s (rows _ (λ q. old (rw q at (sent-found m (sent_ticket m j) s).stage))));
  only = λ i h s. same_by i r
      (λ e. absurd (new (rw e at s)))
      (λ o. rw (k.turn, k.blocks, d, rows i o) (Q.only i h (rw (rows i o) at s)));
}

set-stage : (l : List Txn) (r : ℕ) (t : Txn) → (t.stage ≡ 2 → ⊥) → (row_at (set l r t) r).stage ≡ 2 → ⊥
set-stage l r t h =
    less_by r (length l) (λ u. rw (get_or-set_same l r t closed u) h)
    (λ u. let out : row_at (set l r t) r ≡ closed = get_or-eq_default (set l r t) closed (rw (length-set l r t) u) in rw out (λ e. omega arith))

closed-stage : (l : List Txn) (r : ℕ) → (row_at (set l r closed) r).stage ≡ 2 → ⊥
closed-stage l r = set-stage l r closed (λ e. omega arith)

module _ {over : ℕ} (m : Memory) (S : Shape over m) (Q : SentShape m) where
  active : (t : ℕ) → RowPassed m t → (row_in m (row_no m t)).stage ≡ 2 → ⊥
  active t p e = omega (arith, p.active)

  pub sent-begin : SentShape (step m begin).memory
  unfolding begin_at
  sent-begin =
      let r = free_row m.txns.table in
      begin-by (λ (o : Outcome). Shape over o.memory → BeginFrame m o.memory → SentShape o.memory) m
      (λ e T f.
      let p = (begin_passed m e).row in
      let z = ap (λ (x : Txn). x.stage) ((S.rows r p).free (free_found m.txns.table S.lengths.table p)) in
      client m _ S T Q f.kept (ap (λ (c : Counts). c.done) f.counts) r f.rows (λ q. omega arith) (set-stage m.txns.table r _ (λ q. omega arith)))
      (λ e T f. Q) (shapes.each m S begin) (frames.begins m)

  pub sent-write : (t i : ℕ) (v : ℤ) → SentShape (step m (write t i v)).memory
  unfolding stale_at rewrite_at insert_write
  sent-write t i v =
      let r = row_no m t in
      write-by (λ (o : Outcome). Shape over o.memory → WriteFrame m o.memory (row_no m t) → SentShape o.memory) m t i v
      (λ e T f. client m _ S T Q f.kept (ap (λ (c : Counts). c.done) f.counts) r f.rows (active t (stale-passed m t i e)) (closed-stage m.txns.table r))
      (λ e o T f.
      let a = active t (write_passed m t i e).own in
      client m _ S T Q f.kept (ap (λ (c : Counts). c.done) f.counts) r f.rows a a)
      (λ e o T f.
      let a = active t (write_passed m t i e).own in
      client m _ S T Q f.kept (ap (λ (c : Counts). c.done) f.counts) r f.rows a (set-stage m.txns.table r _ a))
      (λ n k e T f. Q) (shapes.each m S (write t i v)) (frames.writes m t i v)

  pub sent-ask : (t : ℕ) → SentShape (step m (ask t)).memory
  unfolding read_only_at queue_at
  sent-ask t =
      let r = row_no m t in
      ask-by (λ (o : Outcome). Shape over o.memory → AskFrame m o.memory (row_no m t) → SentShape o.memory) m t
      (λ e T f. client m _ S T Q f.kept (ap (λ (c : Counts). c.done) f.counts) r f.rows (active t (ask_passed m t e)) (closed-stage m.txns.table r))
      (λ e d T f.
      client m _ S T Q f.kept (ap (λ (c : Counts). c.done) f.counts) r f.rows (active t (ask_passed m t e)) (set-stage m.txns.table r _ (λ q. omega arith)))
      (λ e T f. Q) (shapes.each m S (ask t)) (frames.asks m t)

  pub sent-withdraw : (t : ℕ) → SentShape (step m (withdraw t)).memory
  unfolding withdraw_at
  sent-withdraw t =
      let r = row_no m t in
      withdraw-by (λ (o : Outcome). Shape over o.memory → WithdrawFrame m o.memory (row_no m t) → SentShape o.memory) m t
      (λ e T f. client m _ S T Q f.kept (ap (λ (c : Counts). c.done) f.counts) r f.rows (active t (withdraw_passed m t e)) (closed-stage m.txns.table r))
      (λ e T f. Q) (shapes.each m S (withdraw t)) (frames.withdraws m t)
