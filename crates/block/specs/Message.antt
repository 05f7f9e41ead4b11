-- A message as data, and which messages are valid.
use Rattle.std.specs.Prelude.{ℕ, suc, ◌%◌, Bool, true, not, cond, ◌&&◌, List, [], ◌∷◌, eqb, ltb, leb, ℤ, pos, negsuc, length}
use Rattle.block.specs.declared.Entry.{Entry}

-- what a transaction writes: its ticket, and an entry (item and value) for each item written
pub record Record : Type 0 where
  pub ticket : ℕ
  pub entries : List Entry

-- kind 1 is document 01's *next*, kind 2 its *tocommit*; `replicas` is its N
pub record Message : Type 0 where
  pub kind : ℕ
  pub sender : ℕ
  pub replicas : ℕ
  pub slot : ℕ
  pub records : List Record

-- the highest ticket; tickets are given from 1 on, so it is also how many are given at most
abbrev pub max_ticket : ℕ
max_ticket = 100_000_000

-- the highest slot
abbrev pub max_slot : ℕ
max_slot = 99_999_999

-- slot s belongs to replica s mod N
unfoldable pub owner_of : ℕ → ℕ → ℕ
owner_of replicas slot = slot % replicas

unfoldable pub within : ℕ → ℕ → ℕ → Bool
within low high x = leb low x && leb x high

-- a *next* has no record, a *tocommit* 1 to 6
unfoldable pub kind_fits : ℕ → ℕ → Bool
kind_fits kind count = cond (eqb kind 1) (eqb count 0) (eqb kind 2 && within 1 6 count)

-- entries rise strictly by item: each item is at least `low`, one more than the item before it, and at most 127
unfoldable pub entries_fit : ℕ → List Entry → Bool
entries_fit low [] = true
entries_fit low (e ∷ es) = within low 127 e.item && entries_fit (suc e.item) es

unfoldable pub record_fits : Record → Bool
record_fits r = within 1 max_ticket r.ticket && (within 1 8 (length r.entries) && entries_fit 0 r.entries)

unfoldable pub records_fit : List Record → Bool
records_fit [] = true
records_fit (r ∷ rs) = record_fits r && records_fit rs

-- no record has the ticket
unfoldable pub ticket_absent : ℕ → List Record → Bool
ticket_absent t [] = true
ticket_absent t (r ∷ rs) = not (eqb r.ticket t) && ticket_absent t rs

unfoldable pub tickets_differ : List Record → Bool
tickets_differ [] = true
tickets_differ (r ∷ rs) = ticket_absent r.ticket rs && tickets_differ rs

-- the sender is the slot's owner
abbrev pub from_owner : Message → Bool
from_owner m = eqb m.sender (owner_of m.replicas m.slot)

-- all that document 01 asks of a block's fields
unfoldable pub valid : Message → Bool
valid m =
    kind_fits m.kind (length m.records)
    && (within 2 6 m.replicas
    && (leb m.slot max_slot
    && (from_owner m
    && (records_fit m.records && tickets_differ m.records))))

-- each value is a signed 32-bit number; of four bytes it always is
unfoldable pub signed32 : ℤ → Bool
signed32 (pos n) = ltb n 2_147_483_648
signed32 (negsuc n) = ltb n 2_147_483_648

unfoldable pub values_fit : List Entry → Bool
values_fit [] = true
values_fit (e ∷ es) = signed32 e.value && values_fit es

unfoldable pub all_values_fit : List Record → Bool
all_values_fit [] = true
all_values_fit (r ∷ rs) = values_fit r.entries && all_values_fit rs
