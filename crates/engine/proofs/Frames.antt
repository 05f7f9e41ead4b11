-- What each call may change. Assumes nothing.
use Prim.Native.Nat.{ℕ, ◌+◌, ◌*◌, ◌-◌, ◌≤◌, ◌<◌}
use mathlib.Core.Path.{◌≡◌, refl, ap}
use mathlib.Core.Bool.{cond}
use mathlib.Core.List.{List}
use native.Mathlib.Nat.{mod-lt}
use native.Mathlib.Omega.{arith}
use lib.IntN.{ℤ, pos}
use lib.ListN.{length}
use borrow.Author.Tests.{ltb-true, eq-eqb}
use Rattle.block.specs.Answers.{header_of}
use Rattle.memory.specs.declared.Group.{Group}
use Rattle.memory.specs.declared.Txn.{Txn}
use Rattle.memory.specs.Memory.{Memory, slot_limit, with_group, with_read_only, with_aborted, with_txns, with_classes}
use Rattle.memory.specs.Notices.{Notice, with_notice}
use Rattle.memory.specs.Rows.{closed, free_row, row_at, write_count, items_of, index_of, count_below}
use Rattle.memory.specs.Turns.{place_start}
use Rattle.engine.specs.Make.{made_memory, make_refusal, make_step}
use Rattle.engine.specs.Client.{free_no, row_no, row_in, own_index, begin_at, rewrite_at, insert_write, stale_at, read_only_at, queue_at, withdraw_at, report_step}
use Rattle.engine.specs.Moves.{send_now, deliver_now}
use Rattle.engine.specs.Calls.{Call, step}
use Rattle.engine.specs.Calls.Call.{begin, read, write, ask, withdraw, report, send, deliver, work, load, notice}
use Rattle.engine.specs.Frames.{Frames, SameBut, BeginFrame, WriteFrame, AskFrame, WithdrawFrame, SendFrame, DeliverFrame, NoticeFrame, WorkFrame}
use Rattle.engine.proofs.Tests.{cond_by}
use Rattle.engine.proofs.Steps.{begin-by, read_by, write-by, ask-by, withdraw-by, send_by, deliver-by, work-by, notice-by, load-by}
use Rattle.engine.proofs.Passed.{BeginPassed, begin_passed, write_passed, DeliverPassed, deliver_passed}
use Rattle.engine.proofs.PartLaws.{set-but, paste-but, insert_but, below-part}
use Rattle.engine.proofs.RowLaws.{others, sent-row}
use Rattle.engine.proofs.BlockFacts.{taken_block}
use Rattle.engine.proofs.WorkFrame.{pass_frame, out_frame, commit_frame, work_same}

-- ---- begin

begin_frame : (m : Memory) → BeginPassed m → BeginFrame m (begin_at m (free_no m)).memory
unfolding begin_at
begin_frame m p =
    let r = free_row m.txns.table in
    record {
      kept = record { group = refl; turn = refl; store = refl; blocks = refl };
      queue = refl;
      items = refl;
      writes = refl;
      rows = others m.txns.table r _;
      snapshots = paste-but (pos 0) m.txns.snapshots m.store.values (128 * r) 128 (omega arith) (omega arith);
      counts = refl;
    }

begin_same : (m : Memory) → BeginFrame m m
begin_same m = record {
  kept = record { group = refl; turn = refl; store = refl; blocks = refl };
  queue = refl;
  items = refl;
  writes = refl;
  rows = λ i h. refl;
  snapshots = λ i s. refl;
  counts = refl;
}

-- ---- write

-- the rows, items and values written are others, and the count of aborted ones
abbrev written : Memory → ℕ → List Txn → List ℕ → List ℤ → Memory
written m aborted table items writes =
    with_txns m (with_aborted m.counts aborted) (record { table = table; queue = m.txns.queue; items = items; writes = writes; snapshots = m.txns.snapshots })

written_frame : (m : Memory) (r aborted : ℕ) (table : List Txn) (items : List ℕ) (writes : List ℤ)
    → ((i : ℕ) → (i ≡ r → ⊥) → row_at table i ≡ row_at m.txns.table i)
    → SameBut 0 (8 * r) 8 m.txns.items items → SameBut (pos 0) (8 * r) 8 m.txns.writes writes → WriteFrame m (written m aborted table items writes) r
written_frame m r aborted table items writes t i w = record {
  kept = record { group = refl; turn = refl; store = refl; blocks = refl };
  queue = refl;
  snapshots = refl;
  rows = t;
  items = i;
  writes = w;
  counts = refl;
}

stale_frame : (m : Memory) (r : ℕ) → WriteFrame m (stale_at m r).memory r
unfolding stale_at
stale_frame m r = written_frame m r _ _ m.txns.items m.txns.writes (others m.txns.table r closed) (λ i s. refl) (λ i s. refl)

rewrite_frame : (m : Memory) (r k : ℕ) (v : ℤ) → k < 8 → WriteFrame m (rewrite_at m r k v).memory r
unfolding rewrite_at
rewrite_frame m r k v h =
    written_frame m r m.counts.aborted m.txns.table m.txns.items _ (λ i h. refl) (λ i s. refl)
    (set-but (pos 0) m.txns.writes (8 * r) 8 (8 * r + k) v (omega arith) (omega arith))

insert_frame : (m : Memory) (r : ℕ) (t : Txn) (i : ℕ) (v : ℤ) → r < 6 → write_count t < 8 → length m.txns.items ≡ 48 → length m.txns.writes ≡ 48
    → WriteFrame m (insert_write m r t i v).memory r
unfolding insert_write
insert_frame m r t i v h u a b =
    let n = write_count t in
    let p = count_below i (items_of r t m.txns.items) 0 in
    let few : p ≤ n = below-part i (8 * r) n m.txns.items (omega arith) in
    written_frame m r m.counts.aborted _ _ _ (others m.txns.table r _)
    (insert_but 0 m.txns.items (8 * r + p) (n - p) i (8 * r) 8 (omega arith) (omega arith) (omega arith))
    (insert_but (pos 0) m.txns.writes (8 * r + p) (n - p) v (8 * r) 8 (omega arith) (omega arith) (omega arith))

write_same : (m : Memory) (r : ℕ) → WriteFrame m m r
write_same m r = written_frame m r m.counts.aborted m.txns.table m.txns.items m.txns.writes (λ i h. refl) (λ i s. refl) (λ i s. refl)

write_frame : (m : Memory) (t i : ℕ) (v : ℤ) → WriteFrame m (step m (write t i v)).memory (row_no m t)
write_frame m t i v =
    let r = row_no m t in
    write-by (λ o. WriteFrame m o.memory r) m t i v (λ e. stale_frame m r)
    (λ e o. rewrite_frame m r (own_index m (row_no m t) i) v (omega (arith, ltb-true (own_index m (row_no m t) i) (write_count (row_in m (row_no m t))) o)))
    (λ e o. let p = write_passed m t i e in insert_frame m r (row_in m (row_no m t)) i v p.own.row (p.room o) p.items p.writes)
    (λ n k e. write_same m r)

-- ---- ask, withdraw

-- the rows and the queue are others, and the count of read-only ones
abbrev asked : Memory → ℕ → List Txn → List ℕ → Memory
asked m read_only table queue =
    with_txns m (with_read_only m.counts read_only)
    (record { table = table; queue = queue; items = m.txns.items; writes = m.txns.writes; snapshots = m.txns.snapshots })

asked_frame : (m : Memory) (r read_only : ℕ) (table : List Txn) (queue : List ℕ) → ((i : ℕ) → (i ≡ r → ⊥) → row_at table i ≡ row_at m.txns.table i)
    → SameBut 0 (index_of 0 m.txns.queue) 1 m.txns.queue queue → AskFrame m (asked m read_only table queue) r
asked_frame m r read_only table queue t q = record {
  kept = record { group = refl; turn = refl; store = refl; blocks = refl };
  items = refl;
  writes = refl;
  snapshots = refl;
  rows = t;
  queue = q;
  counts = refl;
}

read-only_frame : (m : Memory) (r : ℕ) → AskFrame m (read_only_at m r).memory r
unfolding read_only_at
read-only_frame m r = asked_frame m r _ _ m.txns.queue (others m.txns.table r closed) (λ i s. refl)

queue_frame : (m : Memory) (r : ℕ) (t : Txn) → AskFrame m (queue_at m r t).memory r
unfolding queue_at
queue_frame m r t =
    let k = index_of 0 m.txns.queue in
    asked_frame m r m.counts.read_only _ _ (others m.txns.table r _) (set-but 0 m.txns.queue k 1 k t.ticket (omega arith) (omega arith))

ask_same : (m : Memory) (r : ℕ) → AskFrame m m r
ask_same m r = asked_frame m r m.counts.read_only m.txns.table m.txns.queue (λ i h. refl) (λ i s. refl)

withdraw_frame : (m : Memory) (r : ℕ) → WithdrawFrame m (withdraw_at m r).memory r
unfolding withdraw_at
withdraw_frame m r = record {
  kept = record { group = refl; turn = refl; store = refl; blocks = refl };
  queue = refl;
  items = refl;
  writes = refl;
  snapshots = refl;
  rows = others m.txns.table r closed;
  counts = refl;
}

withdraw_same : (m : Memory) (r : ℕ) → WithdrawFrame m m r
withdraw_same m r = record {
  kept = record { group = refl; turn = refl; store = refl; blocks = refl };
  queue = refl;
  items = refl;
  writes = refl;
  snapshots = refl;
  rows = λ i h. refl;
  counts = refl;
}

-- ---- send, deliver

send_frame : (m : Memory) → SendFrame m (send_now m).memory
unfolding send_now
send_frame m =
    let row = sent-row m.txns.table in
    record {
      group = refl;
      slot = refl;
      applying = refl;
      counts = refl;
      store = refl;
      places = refl;
      window = refl;
      items = refl;
      writes = refl;
      snapshots = refl;
      tickets = λ i. ap (λ (t : Txn). t.ticket) (row i);
      since = λ i. ap (λ (t : Txn). t.snapshot) (row i);
      counted = λ i. ap (λ (t : Txn). t.writes) (row i);
    }

send_same : (m : Memory) → SendFrame m m
send_same m = record {
  group = refl;
  slot = refl;
  applying = refl;
  counts = refl;
  store = refl;
  places = refl;
  window = refl;
  items = refl;
  writes = refl;
  snapshots = refl;
  tickets = λ i. refl;
  since = λ i. refl;
  counted = λ i. refl;
}

deliver_frame : (m : Memory) (b : List ℕ) → DeliverPassed m b → DeliverFrame m (deliver_now m b).memory (header_of b).slot
unfolding deliver_now place_start
deliver_frame m b p =
    let r = m.group.replicas in
    let s = (header_of b).slot in
    let some = (taken_block b p.taken).replicas in
    record {
      rest = refl;
      outbox = refl;
      window = refl;
      places = paste-but 0 m.blocks.places b (place_start r s) 512 (omega (arith, mod-lt s {m = r} (omega arith))) (omega arith);
    }

deliver_same : (m : Memory) (s : ℕ) → DeliverFrame m m s
deliver_same m s = record { rest = refl; outbox = refl; window = refl; places = λ i h. refl }

-- ---- notice

notice_frame : (m : Memory) (a : Notice) → NoticeFrame m (with_group m (with_notice m.group a)) a.about
notice_frame m a =
    let k = a.about in
    record {
      rest = refl;
      replicas = refl;
      own = refl;
      from = cond_by (λ (l : List ℕ). SameBut 0 k 1 m.group.from l) a.out (λ b. set-but 0 m.group.from k 1 k a.slot (omega arith) (omega arith)) (λ b i h. refl);
      until = set-but 0 m.group.until k 1 k (cond a.out slot_limit a.slot) (omega arith) (omega arith);
    }

notice_same : (m : Memory) (k : ℕ) → NoticeFrame m m k
notice_same m k = record { rest = refl; replicas = refl; own = refl; from = λ i h. refl; until = λ i h. refl }

-- ---- make

make_frame : (m : Memory) (n own : ℕ) (values : List ℤ) → make_refusal m n own values ≡ 0 → (make_step m n own values).memory ≡ made_memory n own values
unfolding make_step
make_frame m n own values e = rw (eq-eqb (make_refusal m n own values) 0 e)

pub frames : Frames
frames = record {
  makes = make_frame;
  begins = λ m. begin-by (λ o. BeginFrame m o.memory) m (λ e. begin_frame m (begin_passed m e)) (λ e. begin_same m);
  reads = λ m t i. read_by (λ o. o.memory ≡ m) m t i (λ e. refl) (λ e. refl);
  writes = write_frame;
  asks = λ m t. ask-by (λ o. AskFrame m o.memory (row_no m t)) m t
      (λ e. read-only_frame m (row_no m t))
      (λ e n. queue_frame m (row_no m t) (row_in m (row_no m t)))
      (λ e. ask_same m (row_no m t));
  withdraws = λ m t. withdraw-by (λ o. WithdrawFrame m o.memory (row_no m t)) m t (λ e. withdraw_frame m (row_no m t)) (λ e. withdraw_same m (row_no m t));
  reports = λ m. unfold step report_step in refl;
  sends = λ m b. send_by (λ o. SendFrame m o.memory) m b (λ e. send_frame m) (λ n k e. send_same m);
  delivers = λ m b. deliver-by (λ o. DeliverFrame m o.memory (header_of b).slot) m b
      (λ e. deliver_frame m b (deliver_passed m b e))
      (λ e. deliver_same m (header_of b).slot);
  works = λ m. work-by (λ o. WorkFrame m o.memory) m (λ e u. out_frame m e) (λ a k. pass_frame m a) (λ a k. commit_frame m a _) (λ e. work_same m);
  loads = λ m l. load-by (λ o. o.memory ≡ with_classes m o.memory.store.classes) m l (λ e. refl) (λ e. refl);
  notices = λ m a. notice-by (λ o. NoticeFrame m o.memory a.about) m a (λ e. notice_frame m a) (λ e. notice_same m a.about);
}

-- no call changes how many replicas there are, nor the replica's own number
pub record NumbersKept (m n : Memory) : Type 0 where
  pub replicas : n.group.replicas ≡ m.group.replicas
  pub own : n.group.own ≡ m.group.own

group-kept : (m n : Memory) → n.group ≡ m.group → NumbersKept m n
group-kept m n e = record { replicas = ap (λ (g : Group). g.replicas) e; own = ap (λ (g : Group). g.own) e }

pub numbers-same : (m : Memory) (c : Call) → NumbersKept m (step m c).memory
numbers-same m begin = group-kept m _ (frames.begins m).kept.group
numbers-same m (read t i) = group-kept m _ (ap (λ (x : Memory). x.group) (frames.reads m t i))
numbers-same m (write t i v) = group-kept m _ (frames.writes m t i v).kept.group
numbers-same m (ask t) = group-kept m _ (frames.asks m t).kept.group
numbers-same m (withdraw t) = group-kept m _ (frames.withdraws m t).kept.group
numbers-same m report = group-kept m _ (ap (λ (x : Memory). x.group) (frames.reports m))
numbers-same m (send b) = group-kept m _ (frames.sends m b).group
numbers-same m (deliver b) = group-kept m _ (ap (λ (x : Memory). x.group) (frames.delivers m b).rest)
numbers-same m work = group-kept m _ (frames.works m).group
numbers-same m (load l) = group-kept m _ (ap (λ (x : Memory). x.group) (frames.loads m l))
numbers-same m (notice a) = let f = frames.notices m a in record { replicas = f.replicas; own = f.own }

pub own_same : (m : Memory) (c : Call) → (step m c).memory.group.own ≡ m.group.own
own_same m c = (numbers-same m c).own
