-- What moves the turn: send, deliver, work. Each call's refusals stand in the order of document 01's table, 29 where document 02's Req 10 puts it.
use Rattle.std.specs.Prelude.{ℕ, zero, suc, ◌+◌, ◌*◌, ◌-◌, min, Bool, true, false, cond, not, ◌&&◌, ◌||◌, List, [], ◌∷◌, ◌++◌, map, eqb, ltb, leb, ℤ, length, get_or, set, replicate}
use Rattle.std.proofs.Math.Seq.{slice, paste}
use Rattle.block.specs.declared.Entry.{Entry}
use Rattle.block.specs.Message.{Record, Message}
use Rattle.block.specs.Bytes.{block_of}
use Rattle.block.specs.Check.{check_matches}
use Rattle.block.specs.Form.{well_formed}
use Rattle.block.specs.Answers.{refuse, first_of, header_of, record_at, entry_at}
use Rattle.block.specs.Writing.{entries_from}
use Rattle.memory.specs.declared.Txn.{Txn}
use Rattle.memory.specs.Memory.{Transactions, Store, Blocks, Memory, owner_at, span, slot_limit, bump, is_block, queue_lent, items_lent, writes_lent, values_lent, stamps_lent, places_lent, outbox_lent, window_lent, with_done, with_commit, with_blocks, with_turn}
use Rattle.memory.specs.Notices.{is_out}
use Rattle.memory.specs.Rows.{closed, is_open, row_of, row_at, write_count, items_of, has}
use Rattle.memory.specs.Turns.{is_on, mark_sent, advance, step_turn, place_start, block_in, is_empty, emptied}
use Rattle.memory.specs.Window.{keeping}
use Rattle.engine.specs.Answers.{Outcome, outcome, unless}
use Rattle.engine.specs.Answers.Answer.{sent, kept, worked}

-- ---- send

-- the tickets asked, in the order asked: document 01's *asked list*
unfoldable pub waiting : List ℕ → List ℕ
waiting [] = []
waiting (t ∷ ts) = cond (eqb t 0) [] (t ∷ waiting ts)

-- the writeset of the transaction with the ticket, empty where none is open
unfoldable pub writeset_of : Transactions → ℕ → Record
writeset_of x ticket =
    let r = row_of ticket x.table in
    let t = row_at x.table r in
    record { ticket = ticket; entries = entries_from (items_of r t x.items) (slice (8 * r) (8 * r + write_count t) x.writes) }

-- a *next* where nothing is asked, else a *tocommit* with the whole list
unfoldable pub message_for : Memory → Message
message_for m = record {
  kind = cond (eqb (length (waiting m.txns.queue)) 0) 1 2;
  sender = m.group.own;
  replicas = m.group.replicas;
  slot = m.turn.slot;
  records = map (writeset_of m.txns) (waiting m.txns.queue);
}

-- an asked transaction becomes sent
abbrev pub send_row : Txn → Txn
send_row t = record { ticket = t.ticket; stage = cond (eqb t.stage 1) 2 t.stage; snapshot = t.snapshot; writes = t.writes }

abbrev pub send_lent : Memory → List ℕ → Bool
send_lent m block = writes_lent m && (queue_lent m && (outbox_lent m && is_block block))

-- 13: slots spent
abbrev pub slots_spent : Memory → Bool
slots_spent m = leb slot_limit m.turn.slot

-- 11: the turn is another's slot
abbrev pub others_turn : Memory → Bool
others_turn m = not (eqb (owner_at m.group m.turn.slot) m.group.own)

-- 29: the turn's slot is out
abbrev pub out_at_turn : Memory → Bool
out_at_turn m = is_out m.group m.turn.slot

-- 12: sent already for this slot
abbrev pub sent_already : Memory → Bool
sent_already m = is_on m.turn.sent

unfoldable pub send_refusal : Memory → List ℕ → ℕ
send_refusal m block =
    first_of
    (refuse 1 (not (send_lent m block))
    ∷ refuse 13 (slots_spent m)
    ∷ refuse 11 (others_turn m)
    ∷ refuse 29 (out_at_turn m)
    ∷ refuse 12 (sent_already m)
    ∷ [])

unfoldable pub send_now : Memory → Outcome
send_now m =
    let block = block_of (message_for m) in
    let x = m.txns in
    outcome (sent block)
    (record {
      group = m.group;
      turn = mark_sent m.turn;
      counts = m.counts;
      txns = record { table = map send_row x.table; queue = replicate 6 0; items = x.items; writes = x.writes; snapshots = x.snapshots };
      store = m.store;
      blocks = record { places = m.blocks.places; outbox = block; window = m.blocks.window };
    })

unfoldable pub send_step : Memory → List ℕ → Outcome
send_step m block = unless (send_refusal m block) m (send_now m)

-- ---- deliver

unfoldable pub same_bytes : List ℕ → List ℕ → Bool
same_bytes [] [] = true
same_bytes [] (y ∷ ys) = false
same_bytes (x ∷ xs) [] = false
same_bytes (x ∷ xs) (y ∷ ys) = eqb x y && same_bytes xs ys

-- the block that the replica sent for its present turn
abbrev pub is_own_block : Memory → List ℕ → Bool
is_own_block m bytes = is_on m.turn.sent && same_bytes bytes m.blocks.outbox

abbrev pub deliver_lent : Memory → List ℕ → Bool
deliver_lent m bytes = places_lent m && (outbox_lent m && is_block bytes)

-- 16: its N is not ours
abbrev pub other_group : Memory → List ℕ → Bool
other_group m bytes = not (eqb (header_of bytes).replicas m.group.replicas)

-- 17: slot below the turn
abbrev pub slot_past : Memory → List ℕ → Bool
slot_past m bytes = ltb (header_of bytes).slot m.turn.slot

-- 29: its slot is out
abbrev pub slot_out : Memory → List ℕ → Bool
slot_out m bytes = is_out m.group (header_of bytes).slot

-- 18: slot at or above turn + N, the first for which there is no place
abbrev pub slot_ahead : Memory → List ℕ → Bool
slot_ahead m bytes = leb (m.turn.slot + span m.group) (header_of bytes).slot

-- 19: sender is this replica, and the block is not the one it sent for its present turn
abbrev pub not_sent_here : Memory → List ℕ → Bool
not_sent_here m bytes = eqb (header_of bytes).sender m.group.own && not (is_own_block m bytes)

-- 20: its place is taken
abbrev pub place_taken : Memory → List ℕ → Bool
place_taken m bytes = not (is_empty (span m.group) (header_of bytes).slot m.blocks.places)

unfoldable pub deliver_refusal : Memory → List ℕ → ℕ
deliver_refusal m bytes =
    first_of
    (refuse 1 (not (deliver_lent m bytes))
    ∷ refuse 14 (not (check_matches bytes))
    ∷ refuse 15 (not (well_formed bytes))
    ∷ refuse 16 (other_group m bytes)
    ∷ refuse 17 (slot_past m bytes)
    ∷ refuse 29 (slot_out m bytes)
    ∷ refuse 18 (slot_ahead m bytes)
    ∷ refuse 19 (not_sent_here m bytes)
    ∷ refuse 20 (place_taken m bytes)
    ∷ [])

unfoldable pub deliver_now : Memory → List ℕ → Outcome
deliver_now m bytes =
    outcome kept
    (with_blocks m
    (record {
      places = paste m.blocks.places (place_start (span m.group) (header_of bytes).slot) bytes 512;
      outbox = m.blocks.outbox;
      window = m.blocks.window;
    }))

unfoldable pub deliver_step : Memory → List ℕ → Outcome
deliver_step m bytes = unless (deliver_refusal m bytes) m (deliver_now m bytes)

-- ---- work

-- the block at the turn
abbrev pub block_at_turn : Memory → List ℕ
block_at_turn m = block_in (span m.group) m.turn.slot m.blocks.places

-- n entries of record j, from entry e on
unfoldable pub entries_for : List ℕ → ℕ → ℕ → ℕ → List Entry
entries_for b j e zero = []
entries_for b j e (suc n) = entry_at b j e ∷ entries_for b j (suc e) n

-- the writeset to commit next: record j of a block, of at most 8 entries
abbrev pub writeset_at : List ℕ → ℕ → Record
writeset_at b j = record { ticket = (record_at b j).ticket; entries = entries_for b j 0 (min (record_at b j).writes 8) }

-- values and stamps of its items; an item past the last changes nothing
unfoldable pub applied : List Entry → List ℤ → List ℤ
applied [] l = l
applied (e ∷ es) l = applied es (set l e.item e.value)

unfoldable pub stamped : ℕ → List Entry → List ℕ → List ℕ
stamped n [] l = l
stamped n (e ∷ es) l = stamped n es (set l e.item n)

-- so of a writeset that is the n-th committed
abbrev pub store_after : ℕ → List Entry → Store → Store
store_after n es s = record { values = applied es s.values; stamps = stamped n es s.stamps; classes = s.classes }

-- the row has written an item of the entries
unfoldable pub shares : List ℕ → List Entry → Bool
shares items [] = false
shares items (e ∷ es) = has e.item items || shares items es

-- active or asked, with an item of another's writeset: it is aborted
abbrev pub is_hit : List Entry → List ℕ → ℕ → Txn → Bool
is_hit es items r t = is_open t && (ltb t.stage 2 && shares (items_of r t items) es)

-- the table with those rows closed, and their tickets, rising
unfoldable pub after_aborts : List Entry → List ℕ → ℕ → List Txn → List Txn
after_aborts es items r [] = []
after_aborts es items r (t ∷ ts) = cond (is_hit es items r t) closed t ∷ after_aborts es items (suc r) ts

unfoldable pub insert_rising : ℕ → List ℕ → List ℕ
insert_rising x [] = x ∷ []
insert_rising x (y ∷ ys) = cond (ltb x y) (x ∷ (y ∷ ys)) (y ∷ insert_rising x ys)

unfoldable pub hit_tickets : List Entry → List ℕ → ℕ → List Txn → List ℕ
hit_tickets es items r [] = []
hit_tickets es items r (t ∷ ts) = cond (is_hit es items r t) (insert_rising t.ticket (hit_tickets es items (suc r) ts)) (hit_tickets es items (suc r) ts)

-- the list without those tickets
unfoldable pub without : List ℕ → List ℕ → List ℕ
without gone [] = []
without gone (t ∷ ts) = cond (has t gone) (without gone ts) (t ∷ without gone ts)

-- the queue without them, with zeros behind
abbrev pub queue_without : List ℕ → List ℕ → List ℕ
queue_without gone queue = without gone queue ++ replicate (length queue - length (without gone queue)) 0

-- open as sent, among the rows
abbrev pub sent_among : List Txn → ℕ → Bool
sent_among table ticket = ltb (row_of ticket table) 6 && eqb (row_at table (row_of ticket table)).stage 2

abbrev pub is_sent : Memory → ℕ → Bool
is_sent m ticket = sent_among m.txns.table ticket

-- whether a writeset ends its own transaction: `mine` where the replica sent it itself
abbrev pub ends_own : Bool → List Txn → ℕ → Bool
ends_own mine table ticket = mine && sent_among table ticket

abbrev pub work_lent : Memory → Bool
work_lent m = places_lent m && (items_lent m && (queue_lent m && (values_lent m && (stamps_lent m && window_lent m))))

-- the turn's place is empty
abbrev pub nothing_waits : Memory → Bool
nothing_waits m = is_empty (span m.group) m.turn.slot m.blocks.places

-- 21: the turn's place is empty, and its slot is not out; number 22, of own writesets not open as sent, is gone (`OwnSent.antt`), and no other refusal takes it
unfoldable pub work_refusal : Memory → ℕ
work_refusal m = first_of (refuse 1 (not (work_lent m)) ∷ refuse 21 (not (out_at_turn m) && nothing_waits m) ∷ [])

-- the window keeps a block for the slot that the turn leaves
abbrev pub window_with : Memory → List ℕ → List ℕ
window_with m block = keeping m.blocks.window m.turn.slot block

-- after the last writeset, or a *next*, the place empties and the window has its block, own or another's
abbrev pub turn_blocks : Memory → Blocks
turn_blocks m = record {
  places = emptied (span m.group) m.turn.slot m.blocks.places;
  outbox = m.blocks.outbox;
  window = window_with m (block_at_turn m);
}

-- the turn leaves its slot: the place empties, the window keeps its block, the turn advances, and of the next block nothing is done
abbrev pub leave_slot : Memory → Memory
leave_slot m = with_turn m (advance m.turn) (with_done m.counts 0) (turn_blocks m)

-- the block to append to the journal: that at the turn, where the turn leaves another's slot
abbrev pub appending : Memory → Bool → List ℕ
appending m moved = cond moved (cond (eqb (get_or (block_at_turn m) 1 0) m.group.own) [] (block_at_turn m)) []

unfoldable pub pass_next : Memory → Outcome
pass_next m =
    outcome (worked (record { sender = get_or (block_at_turn m) 1 0; ticket = 0; moved = true; aborted = []; append = appending m true }))
    (leave_slot m)

-- whether the writeset is the block's last
abbrev pub is_last : Memory → Bool
is_last m = leb (get_or (block_at_turn m) 3 0) (m.counts.done + 1)

-- one writeset of the block at the turn; where the replica sent it itself, its transaction ends if it is open as sent, and nobody if not, which an altered
-- state alone meets (`OwnSent.antt`)
unfoldable pub commit_writeset : Memory → Bool → Record → Outcome
commit_writeset m mine w =
    let x = m.txns in
    let es = w.entries in
    let n = bump m.counts.commits in
    let ends = ends_own mine x.table w.ticket in
    let gone = cond mine [] (hit_tickets es x.items 0 x.table) in
    let c = with_commit m.counts n
    (cond ends (bump m.counts.committed) m.counts.committed)
    (min (m.counts.aborted + length gone) 4_294_967_295) in
    outcome (worked (record { sender = get_or (block_at_turn m) 1 0; ticket = w.ticket; moved = is_last m; aborted = gone; append = appending m (is_last m) }))
    (record {
      group = m.group;
      turn = step_turn (is_last m) mine m.turn;
      counts = with_done c (cond (is_last m) 0 (m.counts.done + 1));
      txns = record {
        table = cond mine (cond ends (set x.table (row_of w.ticket x.table) closed) x.table) (after_aborts es x.items 0 x.table);
        queue = cond mine x.queue (queue_without gone x.queue);
        items = x.items;
        writes = x.writes;
        snapshots = x.snapshots;
      };
      store = store_after n es m.store;
      blocks = cond (is_last m) (turn_blocks m) m.blocks;
    })

-- the *next* of the turn's slot, from its owner
abbrev pub next_at_turn : Memory → Message
next_at_turn m = record { kind = 1; sender = owner_at m.group m.turn.slot; replicas = m.group.replicas; slot = m.turn.slot; records = [] }

-- there the window keeps that *next*
abbrev pub out_blocks : Memory → Blocks
out_blocks m = record { places = m.blocks.places; outbox = m.blocks.outbox; window = window_with m (block_of (next_at_turn m)) }

-- an out slot is passed: no block is needed, and journal and window get its *next*, also where the slot is the replica's own
unfoldable pub pass_out : Memory → Outcome
pass_out m =
    outcome (worked (record { sender = owner_at m.group m.turn.slot; ticket = 0; moved = true; aborted = []; append = block_of (next_at_turn m) }))
    (with_turn m (advance m.turn) (with_done m.counts 0) (out_blocks m))

-- what waits at the turn: a *next*, or one writeset
unfoldable pub pass_block : Memory → Outcome
pass_block m =
    cond (eqb (get_or (block_at_turn m) 0 0) 1) (pass_next m)
    (commit_writeset m (eqb (get_or (block_at_turn m) 1 0) m.group.own) (writeset_at (block_at_turn m) m.counts.done))

unfoldable pub work_step : Memory → Outcome
work_step m = unless (work_refusal m) m (cond (out_at_turn m) (pass_out m) (pass_block m))
