-- A send does what the model's send does, on the memory's view. Assumes nothing.
use Prim.Native.Nat.{ℕ, suc, ◌<◌}
use mathlib.Core.Path.{◌≡◌, refl, ap, ◌∙◌}
use mathlib.Core.Bool.{Bool, true, false, cond}
use mathlib.Core.Option.{some}
use mathlib.Core.List.{List, [], ◌∷◌, map}
use native.Mathlib.Omega.{arith}
use lib.IntN.{ℤ}
use lib.ListN.{length, get_or, replicate}
use borrow.Author.Tests.{eq-eqb, lt-leb}
use Rattle.block.specs.Bytes.{block_of}
use Rattle.block.specs.Form.{message_of}
use Rattle.block.specs.Message.{owner_of}
use Rattle.block.proofs.Theorems.{theorems}
use Rattle.memory.specs.declared.Txn.{Txn}
use Rattle.memory.specs.Memory.{Transactions, Memory}
use Rattle.memory.specs.Rows.{is_open, row_of}
use Rattle.engine.specs.Moves as engine
use Rattle.engine.specs.Moves.{waiting, message_for, send_row, send_refusal, send_now}
use Rattle.engine.specs.Shape.{Shape}
use Rattle.engine.specs.Calls.{step}
use Rattle.engine.specs.Calls.Call.{send}
use Rattle.engine.proofs.Steps.{send_by}
use Rattle.protocol.specs.Replica.{Setup, transactions, Replica, replica, handed_out, Outcome, outcome}
use Rattle.protocol.specs.Moves as model
use Rattle.protocol.specs.Moves.{out_here, mark_sent, send_txn, outgoing, send_step}
use Rattle.protocol.specs.System as system
use Rattle.protocol.specs.Machine.{Alike}
use Rattle.agreement.specs.Group as group
use Rattle.agreement.specs.Group.{message_in, heard}
use Rattle.agreement.proofs.View.{out-same, setup, txn_of, rows_from, open_txns, view, Sound, Owed}
use Rattle.agreement.proofs.ClientStep.{refused-owes}
use Rattle.agreement.proofs.RowView.{find-row}
use Rattle.agreement.proofs.Sendable.{send_passed, asked-row, sendable}

-- ---- the model's send

abbrev sent_by : Replica ℤ → Outcome ℤ
sent_by r =
    outcome (replica r.own (mark_sent r.cursor) r.store (transactions r.transactions.tickets (map send_txn r.transactions.txns) [])
    (record { places = r.blocks.places; outbox = some (outgoing r); outages = r.blocks.outages })) (handed_out (outgoing r))

sends : (S : Setup ℤ) (r : Replica ℤ) → r.cursor.turn < S.slot_limit → S.owner r.cursor.turn ≡ r.own → out_here S r r.cursor.turn ≡ false → r.cursor.sent ≡ false
    → system.step S r system.Call.send ≡ sent_by r
unfolding system.step send_step
sends S r h o i u = rw (lt-leb S.slot_limit r.cursor.turn h, eq-eqb (S.owner r.cursor.turn) r.own o, i, u)

-- ---- what is handed out

map_through : {A B C : Type 0} (d : A) (g : B → C) (f : A → B) (h : A → C) (w : List A) → ((k : ℕ) → k < length w → g (f (get_or w k d)) ≡ h (get_or w k d)) → map g (map f w) ≡ map h w
map_through d g f h [] e = refl
map_through d g f h (a ∷ w) e = rw (e 0 (omega arith), map_through d g f h w (λ k l. e (suc k) (omega arith)))

module _ {over : ℕ} (m : Memory) (S : Shape over m) where
  -- the writeset of an open row is that of its transaction
  writeset-is : (t : ℕ) → row_of t m.txns.table < 6
      → group.writeset_from (engine.writeset_of m.txns t) ≡ model.writeset_under (open_txns m.txns) t
  unfolding engine.writeset_of txn_of
  writeset-is t h = rw (find-row m S t h)

  handed : message_of (block_of (message_for m)) ≡ message_for m → message_in (block_of (message_for m)) ≡ outgoing (view m)
  unfolding message_in message_for
  handed e =
      let w = waiting m.txns.queue in
      rw (
        e,
        map_through 0 group.writeset_from (engine.writeset_of m.txns)
            (model.writeset_under (open_txns m.txns)) w (λ k h. writeset-is (get_or w k 0) (asked-row m S k h).0),
      )

-- ---- the rows

-- the transactions after a send
abbrev sent_txns : Transactions → Transactions
sent_txns x = record { table = map send_row x.table; queue = replicate 6 0; items = x.items; writes = x.writes; snapshots = x.snapshots }

sent-row : (x : Transactions) (r : ℕ) (t : Txn) → txn_of (sent_txns x) r (send_row t) ≡ send_txn (txn_of x r t)
unfolding txn_of
sent-row x r t = refl

sent_rows : (x : Transactions) (r : ℕ) (ts : List Txn) → rows_from (sent_txns x) r (map send_row ts) ≡ map send_txn (rows_from x r ts)
unfolding rows_from
sent_rows x r [] = refl
sent_rows x r (t ∷ ts) = go (is_open t) (sent_rows x (suc r) ts)
  where
    go : (b : Bool) → rows_from (sent_txns x) (suc r) (map send_row ts) ≡ map send_txn (rows_from x (suc r) ts)
        → cond b (txn_of (sent_txns x) r (send_row t) ∷ rows_from (sent_txns x) (suc r) (map send_row ts)) (rows_from (sent_txns x) (suc r) (map send_row ts))
        ≡ map send_txn (cond b (txn_of x r t ∷ rows_from x (suc r) ts) (rows_from x (suc r) ts))
    go true e = rw (e, sent-row x r t)
    go false e = e

-- ---- the call

alike-sent : (n : ℕ) (start : List ℤ) (m : Memory) → Alike (setup n start) (sent_by (view m)).replica (view (send_now m).memory)
unfolding send_now waiting
alike-sent n start m =
    let e = sent_rows m.txns 0 m.txns.table in
    record {
      own = refl;
      cursor = refl;
      commits = refl;
      values = refl;
      stamps = λ i. refl;
      tickets = refl;
      queue = refl;
      there = λ u h. rw e h;
      back = λ u h. rw e at h;
      places = λ p. refl;
      outages = λ t. refl;
    }

pub send_owes : (n : ℕ) (start : List ℤ) (m : Memory) → Sound n m → (b : List ℕ) → Owed n start m (send b) (step m (send b))
unfolding heard send_now
send_owes n start m s b = send_by (Owed n start m (send b)) m b accepted (λ k h z. refused-owes n start m (send b) k h)
  where
    accepted : send_refusal m b ≡ 0 → Owed n start m (send b) (send_now m)
    accepted e =
        let p = send_passed m b e in
        let f : owner_of n m.turn.slot ≡ m.group.own = rw (← s.size) p.owner in
        let q = sends (setup n start) (view m) p.slot f (out-same n start m s.size m.turn.slot ∙ p.live) p.unsent in
        Owed.follows (rw q (ap handed_out (handed m s.shape (theorems.round_trip (message_for m) (sendable n m s b e)).message))) (rw q (alike-sent n start m))
