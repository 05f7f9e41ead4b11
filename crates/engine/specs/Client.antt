-- What a client may do: begin, read, write, ask, withdraw, report. Each call's refusals stand in the order of document 01's table, a write's in document 02's. What a call does is said at a row,
-- on any memory and any row; the call itself is that at the row of its ticket.
use Rattle.std.specs.Prelude.{ℕ, ◌+◌, ◌*◌, ◌-◌, Bool, cond, not, ◌&&◌, List, [], ◌∷◌, ◌++◌, eqb, ltb, leb, ℤ, pos, get_or, set}
use Rattle.std.proofs.Math.Seq.{paste}
use Rattle.block.specs.Answers.{Refusal, refuse, first_of}
use Rattle.engine.specs.declared.Report.{Report}
use Rattle.memory.specs.declared.Txn.{Txn}
use Rattle.block.specs.Message.{max_ticket}
use Rattle.memory.specs.Memory.{Memory, bump, queue_lent, writes_lent, snapshots_lent, values_lent, stamps_lent, classes_lent, places_lent, with_tickets, with_read_only, with_aborted, with_withdrawn, with_table, with_txns}
use Rattle.memory.specs.Rows.{closed, open_count, row_of, free_row, row_at, write_count, items_of, index_of, holder_of, is_held, count_below, insert_at}
use Rattle.engine.specs.Answers.{Outcome, outcome, unless}
use Rattle.engine.specs.Answers.Answer.{refused, began, got, wrote, queued, read_only, withdrew, reported}
use Rattle.engine.specs.Classes.{must_wait}

-- ---- what the calls look at

-- the row of the ticket, 6 where no open transaction has it
abbrev pub row_no : Memory → ℕ → ℕ
row_no m ticket = row_of ticket m.txns.table

-- the first free row, 6 where there is none
abbrev pub free_no : Memory → ℕ
free_no m = free_row m.txns.table

-- row r's record
abbrev pub row_in : Memory → ℕ → Txn
row_in m r = row_at m.txns.table r

-- where the item stands among row r's own, one past the last where it does not
abbrev pub own_index : Memory → ℕ → ℕ → ℕ
own_index m r item = index_of item (items_of r (row_in m r) m.txns.items)

abbrev pub is_own : Memory → ℕ → ℕ → Bool
is_own m r item = ltb (own_index m r item) (write_count (row_in m r))

-- ---- the conditions of document 01's table

-- 2: the item is out of range
abbrev pub item_out : ℕ → Bool
item_out item = leb 128 item

-- a row's number that is none. 3: no open transaction has this ticket, and so it has no row; 5: 6 transactions are open, and no row is free
abbrev pub no_row : ℕ → Bool
no_row r = leb 6 r

-- 4: it is asked or sent already
abbrev pub not_active : Memory → ℕ → Bool
not_active m r = not (eqb (row_in m r).stage 0)

-- 6: 100,000,000 tickets given
abbrev pub tickets_spent : Memory → Bool
tickets_spent m = leb max_ticket m.counts.tickets

-- 8: another open transaction holds the item
abbrev pub held_by_other : Memory → ℕ → ℕ → Bool
held_by_other m r item = is_held (holder_of m.txns.table m.txns.items r item)

-- 9: the item's stamp is above the snapshot
abbrev pub is_stale : Memory → ℕ → ℕ → Bool
is_stale m r item = ltb (row_in m r).snapshot (get_or m.store.stamps item 0)

-- 10: a ninth item
abbrev pub is_full : Memory → ℕ → Bool
is_full m r = eqb (write_count (row_in m r)) 8

-- ---- begin

unfoldable pub begin_refusal : Memory → ℕ → ℕ
begin_refusal m r =
    first_of
    (refuse 1 (not (values_lent m && snapshots_lent m))
    ∷ refuse 5 (no_row r)
    ∷ refuse 6 (tickets_spent m)
    ∷ [])

-- the row gets the next ticket, the commit count now and the values now
unfoldable pub begin_at : Memory → ℕ → Outcome
begin_at m r =
    let ticket = m.counts.tickets + 1 in
    let x = m.txns in
    outcome (began ticket)
    (with_txns m (with_tickets m.counts ticket)
    (record {
      table = set x.table r (record { ticket = ticket; stage = 0; snapshot = m.counts.commits; writes = 0 });
      queue = x.queue;
      items = x.items;
      writes = x.writes;
      snapshots = paste x.snapshots (128 * r) m.store.values 128;
    }))

unfoldable pub begin_row : Memory → ℕ → Outcome
begin_row m r = unless (begin_refusal m r) m (begin_at m r)

-- at the first free row
abbrev pub begin_step : Memory → Outcome
begin_step m = begin_row m (free_no m)

-- ---- read

unfoldable pub read_refusal : Memory → ℕ → ℕ → ℕ
read_refusal m r item =
    first_of
    (refuse 1 (not (writes_lent m && snapshots_lent m))
    ∷ refuse 2 (item_out item)
    ∷ refuse 3 (no_row r)
    ∷ refuse 4 (not_active m r)
    ∷ [])

-- what the transaction wrote last to the item, else the value at its snapshot
unfoldable pub value_for : Memory → ℕ → ℕ → ℤ
value_for m r item =
    cond (is_own m r item)
    (get_or m.txns.writes (8 * r + own_index m r item) (pos 0))
    (get_or m.txns.snapshots (128 * r + item) (pos 0))

unfoldable pub read_row : Memory → ℕ → ℕ → Outcome
read_row m r item = unless (read_refusal m r item) m (outcome (got (value_for m r item)) m)

abbrev pub read_step : Memory → ℕ → ℕ → Outcome
read_step m ticket item = read_row m (row_no m ticket) item

-- ---- write

-- the lent parts have their lengths
abbrev pub write_lent : Memory → Bool
write_lent m = writes_lent m && (stamps_lent m && (classes_lent m && places_lent m))

-- the refusals before that of waiting; `lent` where the lent parts have their lengths
abbrev pub early_refusals : Bool → Memory → ℕ → ℕ → List Refusal
early_refusals lent m r item = refuse 1 (not lent) ∷ refuse 2 (item_out item) ∷ refuse 3 (no_row r) ∷ refuse 4 (not_active m r) ∷ []

-- and behind it: an item that the transaction holds already is accepted before 9, 8 and 10 are looked at; 9 stands before 8 (document 02, Req 07)
abbrev pub late_refusals : Memory → ℕ → ℕ → List Refusal
late_refusals m r item = cond (is_own m r item) [] (refuse 9 (is_stale m r item) ∷ refuse 8 (held_by_other m r item) ∷ refuse 10 (is_full m r) ∷ [])

unfoldable pub write_refusal : Memory → ℕ → ℕ → ℕ
write_refusal m r item = first_of (early_refusals (write_lent m) m r item ++ (refuse 7 (must_wait m item) ∷ late_refusals m r item))

-- a second write to an item replaces the first
unfoldable pub rewrite_at : Memory → ℕ → ℕ → ℤ → Outcome
rewrite_at m r k value =
    let x = m.txns in
    outcome wrote
    (with_txns m m.counts
    (record {
      table = x.table;
      queue = x.queue;
      items = x.items;
      writes = set x.writes (8 * r + k) value;
      snapshots = x.snapshots;
    }))

-- a new item goes to its place among the row's items, which rise
unfoldable pub insert_write : Memory → ℕ → Txn → ℕ → ℤ → Outcome
insert_write m r t item value =
    let x = m.txns in
    let n = write_count t in
    let p = count_below item (items_of r t x.items) 0 in
    outcome wrote
    (with_txns m m.counts
    (record {
      table = set x.table r (record { ticket = t.ticket; stage = t.stage; snapshot = t.snapshot; writes = n + 1 });
      queue = x.queue;
      items = insert_at (8 * r + p) (n - p) item x.items;
      writes = insert_at (8 * r + p) (n - p) value x.writes;
      snapshots = x.snapshots;
    }))

-- under 9 the transaction ends as aborted
unfoldable pub stale_at : Memory → ℕ → Outcome
stale_at m r = outcome (refused 9) (with_txns m (with_aborted m.counts (bump m.counts.aborted)) (with_table m.txns (set m.txns.table r closed)))

-- the write where its refusal is n
abbrev pub write_unless : ℕ → Memory → ℕ → ℕ → ℤ → Outcome
write_unless n m r item value =
    cond (eqb n 9) (stale_at m r)
    (unless n m (cond (is_own m r item) (rewrite_at m r (own_index m r item) value) (insert_write m r (row_in m r) item value)))

unfoldable pub write_row : Memory → ℕ → ℕ → ℤ → Outcome
write_row m r item value = write_unless (write_refusal m r item) m r item value

abbrev pub write_step : Memory → ℕ → ℕ → ℤ → Outcome
write_step m ticket item value = write_row m (row_no m ticket) item value

-- ---- ask

unfoldable pub ask_refusal : Memory → ℕ → ℕ
ask_refusal m r =
    first_of
    (refuse 1 (not (queue_lent m))
    ∷ refuse 3 (no_row r)
    ∷ refuse 4 (not_active m r)
    ∷ [])

-- an empty writeset commits and ends on the spot
unfoldable pub read_only_at : Memory → ℕ → Outcome
read_only_at m r = outcome read_only (with_txns m (with_read_only m.counts (bump m.counts.read_only)) (with_table m.txns (set m.txns.table r closed)))

-- any other joins the queue at its end
unfoldable pub queue_at : Memory → ℕ → Txn → Outcome
queue_at m r t =
    let x = m.txns in
    outcome queued
    (with_txns m m.counts
    (record {
      table = set x.table r (record { ticket = t.ticket; stage = 1; snapshot = t.snapshot; writes = t.writes });
      queue = set x.queue (index_of 0 x.queue) t.ticket;
      items = x.items;
      writes = x.writes;
      snapshots = x.snapshots;
    }))

unfoldable pub ask_row : Memory → ℕ → Outcome
ask_row m r = unless (ask_refusal m r) m (cond (eqb (write_count (row_in m r)) 0) (read_only_at m r) (queue_at m r (row_in m r)))

abbrev pub ask_step : Memory → ℕ → Outcome
ask_step m ticket = ask_row m (row_no m ticket)

-- ---- withdraw

unfoldable pub withdraw_refusal : Memory → ℕ → ℕ
withdraw_refusal m r = first_of (refuse 3 (no_row r) ∷ refuse 4 (not_active m r) ∷ [])

unfoldable pub withdraw_at : Memory → ℕ → Outcome
withdraw_at m r = outcome withdrew (with_txns m (with_withdrawn m.counts (bump m.counts.withdrawn)) (with_table m.txns (set m.txns.table r closed)))

unfoldable pub withdraw_row : Memory → ℕ → Outcome
withdraw_row m r = unless (withdraw_refusal m r) m (withdraw_at m r)

abbrev pub withdraw_step : Memory → ℕ → Outcome
withdraw_step m ticket = withdraw_row m (row_no m ticket)

-- ---- report

unfoldable pub report_of : Memory → Report
report_of m = record {
  turn = m.turn.slot;
  commits = m.counts.commits;
  tickets = m.counts.tickets;
  open_count = open_count m.txns.table;
  committed = m.counts.committed;
  read_only = m.counts.read_only;
  aborted = m.counts.aborted;
  withdrawn = m.counts.withdrawn;
}

unfoldable pub report_step : Memory → Outcome
report_step m = outcome (reported (report_of m)) m
