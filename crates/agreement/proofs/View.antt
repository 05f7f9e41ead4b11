-- The memory of a replica as the protocol's model sees it, and what a call owes: the model's step, up to the order of the open transactions. Assumes nothing.
use Prim.Native.Nat.{ℕ, suc, ◌+◌, ◌*◌, ◌%◌}
use mathlib.Core.Path.{◌≡◌, refl}
use mathlib.Core.Bool.{true, cond}
use mathlib.Core.Option.{Option, none, some}
use mathlib.Core.List.{List, [], ◌∷◌, map}
use lib.Dec.{eqb}
use lib.IntN.{ℤ, pos}
use lib.ListN.{get_or}
use lib.Seq.{slice}
use Rattle.block.specs.Message.{owner_of, signed32, max_ticket}
use Rattle.block.specs.Writing.{entries_from}
use Rattle.memory.specs.declared.Txn.{Txn}
use Rattle.memory.specs.declared.Group.{Group}
use Rattle.memory.specs.Memory.{Transactions, Memory, slot_limit}
use Rattle.memory.specs.Notices.{is_out}
use Rattle.memory.specs.Turns.{is_on}
use Rattle.memory.specs.Rows.{is_open, write_count, items_of}
use Rattle.engine.specs.Answers.{Outcome}
use Rattle.engine.specs.Moves.{waiting}
use Rattle.engine.specs.Shape.{Shape}
use Rattle.engine.specs.Sent.{SentShape}
use Rattle.engine.specs.Calls.{Call}
use Rattle.engine.specs.Calls.Call.{begin, read, write, ask, withdraw, report, send, deliver, work, load, notice}
use Rattle.engine.specs.History.AnyCall.{call}
use Rattle.protocol.specs.Writesets.{Write, Message}
use Rattle.protocol.specs.Notices.{Outage, outage}
use Rattle.protocol.specs.Moves.{out_here}
use Rattle.protocol.specs.Replica.{Setup, Transaction, transaction, Cursor, Store, transactions, Blocks, Replica, replica, refused}
use Rattle.protocol.specs.System.{step}
use Rattle.protocol.specs.Machine.{Alike}
use Rattle.protocol.proofs.Stations.{numbered}
use Rattle.agreement.specs.Group.{write_of, message_in, notice_in, heard}

-- `same_message` is not asked: where a deliver of the replica's own block is accepted, its bytes are those sent
abbrev pub setup : ℕ → List ℤ → Setup ℤ
setup n start = record {
  size = n;
  slot_limit = slot_limit;
  ticket_limit = max_ticket;
  items = 128;
  owner = owner_of n;
  place = λ s. s % n;
  same_message = λ a b. true;
  start_values = start;
  blank = pos 0;
}

-- ---- the memory

-- row r's items, each with the value beside it
abbrev pub row_writes : ℕ → Txn → List ℕ → List ℤ → List (Write ℤ)
row_writes r t items writes = map write_of (entries_from (items_of r t items) (slice (8 * r) (8 * r + write_count t) writes))

-- row r as a transaction
unfoldable pub txn_of : Transactions → ℕ → Txn → Transaction ℤ
txn_of x r t = transaction t.ticket t.stage t.snapshot (slice (128 * r) (128 * r + 128) x.snapshots) (row_writes r t x.items x.writes)

-- the open rows from row r on
unfoldable pub rows_from : Transactions → ℕ → List Txn → List (Transaction ℤ)
rows_from x r [] = []
rows_from x r (t ∷ ts) = cond (is_open t) (txn_of x r t ∷ rows_from x (suc r) ts) (rows_from x (suc r) ts)

abbrev pub open_txns : Transactions → List (Transaction ℤ)
open_txns x = rows_from x 0 x.table

-- the message in place p, none where its first byte is 0
unfoldable pub place_at : List ℕ → ℕ → Option (Message ℤ)
place_at places p = cond (eqb (get_or places (512 * p) 0) 0) none (some (message_in (slice (512 * p) (512 * p + 512) places)))

abbrev pub cursor_of : Memory → Cursor
cursor_of m = record { turn = m.turn.slot; sent = is_on m.turn.sent; done = m.counts.done }

abbrev pub store_of : Memory → Store ℤ
store_of m = record { commits = m.counts.commits; values = m.store.values; stamps = λ i. get_or m.store.stamps i 0 }

-- of each replica the last outage
abbrev pub outages_in : Group → ℕ → Outage
outages_in g k = outage (get_or g.from k 0) (get_or g.until k 0)

abbrev pub blocks_of : Memory → Blocks ℤ
blocks_of m = record { places = place_at m.blocks.places; outbox = some (message_in m.blocks.outbox); outages = outages_in m.group }

abbrev pub view : Memory → Replica ℤ
view m = replica m.group.own (cursor_of m) (store_of m) (transactions m.counts.tickets (open_txns m.txns) (waiting m.txns.queue)) (blocks_of m)

-- as member k's: a replica's number is its own, a station's is the group's
abbrev pub view_at : ℕ → Memory → Replica ℤ
view_at k m = numbered k (view m)

-- what holds of a replica's or a station's memory after every call: its shape; what is sent; its group's size; each value written is a signed 32-bit number
pub record Sound (n : ℕ) (m : Memory) : Type 0 where
  pub over : ℕ
  pub shape : Shape over m
  pub sent : SentShape m
  pub size : m.group.replicas ≡ n
  pub fits : (i : ℕ) → signed32 (get_or m.txns.writes i (pos 0)) ≡ true

-- ---- the calls

abbrev pub meant : Call → Rattle.protocol.specs.System.Call ℤ
meant begin = Rattle.protocol.specs.System.Call.begin
meant (read t i) = Rattle.protocol.specs.System.Call.read t i
meant (write t i v) = Rattle.protocol.specs.System.Call.write t i v
meant (ask t) = Rattle.protocol.specs.System.Call.ask t
meant (withdraw t) = Rattle.protocol.specs.System.Call.withdraw t
meant report = Rattle.protocol.specs.System.Call.report
meant (send b) = Rattle.protocol.specs.System.Call.send
meant (deliver b) = Rattle.protocol.specs.System.Call.deliver (message_in b)
meant work = Rattle.protocol.specs.System.Call.work
meant (load l) = Rattle.protocol.specs.System.Call.load
meant (notice a) = Rattle.protocol.specs.System.Call.notice (notice_in a)

-- what the outcome o of call c on memory m owes: a refusal other than 9 that leaves the view alone, or the model's step
pub data Owed (n : ℕ) (start : List ℤ) (m : Memory) (c : Call) (o : Outcome) : Type 0 where
  refuses : (k : ℕ) → (k ≡ 9 → ⊥) → heard (call c) o.answer ≡ refused k → Alike (setup n start) (view m) (view o.memory) → Owed n start m c o
  follows : heard (call c) o.answer ≡ (step (setup n start) (view m) (meant c)).event → Alike (setup n start) (step (setup n start) (view m) (meant c)).replica (view o.memory)
      → Owed n start m c o

pub alike_same : {S : Setup ℤ} (r : Replica ℤ) → Alike S r r
alike_same r = record {
  own = refl;
  cursor = refl;
  commits = refl;
  values = refl;
  stamps = λ i. refl;
  tickets = refl;
  queue = refl;
  there = λ u h. h;
  back = λ u h. h;
  places = λ p. refl;
  outages = λ t. refl;
}

-- a slot is out for the model where it is out
pub out-same : (n : ℕ) (start : List ℤ) (m : Memory) → m.group.replicas ≡ n → (s : ℕ) → out_here (setup n start) (view m) s ≡ is_out m.group s
out-same n start m size s = rw size refl
