-- A send keeps the shape. Assumes nothing.
use Prim.Native.Nat.{ℕ, ◌+◌, ◌*◌, ◌≤◌, ◌<◌, min}
use mathlib.Core.Path.{◌≡◌, refl, ap, ◌∙◌}
use mathlib.Core.List.{List, [], ◌∷◌, map}
use native.Mathlib.Omega.{arith}
use lib.Dec.{eqb}
use lib.IntN.{ℤ}
use lib.ListN.{length, take, length-append, length-replicate, length-take, length-drop, length-map}
use lib.Seq.{slice}
use borrow.Author.Tests.{eqb-true, eqb-false}
use Rattle.block.specs.Message.{Message}
use Rattle.block.specs.Bytes.{records_bytes, body_bytes, block_of}
use Rattle.block.specs.Writing.{entries_from}
use Rattle.block.proofs.CheckLaws.{length-check_bytes}
use Rattle.block.proofs.BlockLaws.{length-record_bytes, length-header_bytes}
use Rattle.memory.specs.declared.Txn.{Txn}
use Rattle.memory.specs.Memory.{Transactions, Memory}
use Rattle.memory.specs.Rows.{open_count, row_of, row_at}
use Rattle.engine.specs.Moves.{waiting, writeset_of, message_for, send_row, send_now, next_at_turn}
use Rattle.engine.specs.Shape.{RowShape, QueueShape, Shape}
use Rattle.engine.proofs.Tests.{cond_by}
use Rattle.engine.proofs.RowLaws.{sent-row}
use Rattle.engine.proofs.QueueLaws.{length-waiting}

-- ---- the block is 512 bytes

length-slice_most : {A : Type 0} (f n : ℕ) (l : List A) → length (slice f (f + n) l) ≤ n
length-slice_most f n l = let a = length-drop f (take (f + n) l) in let b = length-take (f + n) l in omega arith

length-entries_from : (is : List ℕ) (vs : List ℤ) → length (entries_from is vs) ≤ length is
unfolding entries_from
length-entries_from [] vs = omega arith
length-entries_from (i ∷ is) [] = omega arith
length-entries_from (i ∷ is) (v ∷ vs) = let h = length-entries_from is vs in omega arith

pub writeset-few : (x : Transactions) (ticket : ℕ) → length (writeset_of x ticket).entries ≤ 8
unfolding writeset_of
writeset-few x ticket =
    let r = row_of ticket x.table in
    let n = min (row_at x.table r).writes 8 in
    let a = length-slice_most (8 * r) n x.items in
    let b = length-entries_from (slice (8 * r) (8 * r + n) x.items) (slice (8 * r) (8 * r + n) x.writes) in
    omega arith

pub length_writesets : (x : Transactions) (ts : List ℕ) → length (records_bytes (map (writeset_of x) ts)) ≡ 72 * length ts
unfolding records_bytes
length_writesets x [] = refl
length_writesets x (t ∷ ts) = simp (length-append, length-record_bytes (writeset_of x t) (writeset-few x t), length_writesets x ts) (omega arith)

length_block : (w : Message) (n : ℕ) → length w.records ≡ n → n ≤ 6 → length (records_bytes w.records) ≡ 72 * n → length (block_of w) ≡ 512
unfolding block_of body_bytes
length_block w n e h l = simp (length-append, length-check_bytes, length-header_bytes, e, l, length-replicate) (omega arith)

-- that of an out slot too
pub length-next : (m : Memory) → length (block_of (next_at_turn m)) ≡ 512
unfolding records_bytes
length-next m = length_block (next_at_turn m) 0 refl (omega arith) refl

pub length_outbox : (m : Memory) → length m.txns.queue ≡ 6 → length (block_of (message_for m)) ≡ 512
unfolding message_for
length_outbox m e =
    let l = length-waiting m.txns.queue in
    length_block (message_for m) (length (waiting m.txns.queue)) (length-map (waiting m.txns.queue) (writeset_of m.txns)) (omega arith)
    (length_writesets m.txns (waiting m.txns.queue))

-- ---- the rows

sent_open : (table : List Txn) → open_count (map send_row table) ≡ open_count table
unfolding open_count
sent_open [] = refl
sent_open (t ∷ ts) = rw (sent_open ts)

module _ {over : ℕ} (m : Memory) (S : Shape over m) where
  abbrev table : List Txn
  table = m.txns.table

  row-shape : (r : ℕ) → r < 6 → RowShape (send_now m).memory r
  unfolding send_now
  row-shape r h =
      let s = S.rows r h in
      record {
        free = rw (sent-row table r) (λ e. ap send_row (s.free e));
        given = rw (sent-row table r) s.given;
        stage = rw (sent-row table r) (cond_by (λ (k : ℕ). k ≤ 2) (eqb (row_at table r).stage 1) (λ e. omega arith) (λ e. s.stage));
        since = rw (sent-row table r) s.since;
        few = rw (sent-row table r) s.few;
        some = rw (sent-row table r) (cond_by (λ (k : ℕ). 0 < k → 0 < (row_at table r).writes) (eqb (row_at table r).stage 1)
            (λ e l. s.some (omega (arith, eqb-true (row_at table r).stage 1 e))) (λ e. s.some));
        rising = rw (sent-row table r) s.rising;
        items = rw (sent-row table r) s.items;
      }

  not-asked : (t : Txn) → (send_row t).stage ≡ 1 → ⊥
  not-asked t = cond_by (λ (k : ℕ). k ≡ 1 → ⊥) (eqb t.stage 1) (λ e l. omega arith) (λ e. eqb-false t.stage 1 e)

  queue-shape : QueueShape (send_now m).memory
  unfolding send_now waiting
  queue-shape = record {
    zeros = refl;
    asked = λ k h. absurd (omega arith);
    queued = λ r h e. absurd (not-asked (row_at table r) (rw (sent-row table r) at e));
    once = λ j k h l e. omega arith;
  }

  pub shape-sent : Shape over (send_now m).memory
  unfolding send_now
  shape-sent = record {
    lengths = record {
      table = length-map table send_row ∙ S.lengths.table;
      queue = refl;
      items = S.lengths.items;
      writes = S.lengths.writes;
      snapshots = S.lengths.snapshots;
      values = S.lengths.values;
      stamps = S.lengths.stamps;
      classes = S.lengths.classes;
      places = S.lengths.places;
      outbox = length_outbox m S.lengths.queue;
      window = S.lengths.window;
      from = S.lengths.from;
      until = S.lengths.until;
    };
    ranges = record {
      least = S.ranges.least;
      most = S.ranges.most;
      own = S.ranges.own;
      slot = S.ranges.slot;
      tickets = S.ranges.tickets;
      commits = S.ranges.commits;
      repeats = S.ranges.repeats;
      endings = rw (sent_open table) S.ranges.endings;
    };
    rows = row-shape;
    distinct = λ i j h l d. rw (sent-row table i, sent-row table j) (S.distinct i j h l d);
    queue = queue-shape;
    places = record { waits = S.places.waits; clear = S.places.clear; done = S.places.done; applying = S.places.applying };
    single = λ i j h l d x. rw (sent-row table i, sent-row table j) (S.single i j h l d x);
  }
