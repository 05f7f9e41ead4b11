-- The block of a message: 16 bytes of header, 72 for each record, zeros up to byte 504, eight of check.
use Rattle.std.specs.Prelude.{ℕ, ◌*◌, ◌-◌, List, [], ◌∷◌, ◌++◌, length, replicate}
use Rattle.block.specs.declared.Entry.{Entry}
use Rattle.block.specs.declared.Header.{Header}
use Rattle.block.specs.Numbers.{bytes_of, value_bytes}
use Rattle.block.specs.Check.{check_bytes}
use Rattle.block.specs.Message.{Record, Message}

-- item, three zeros, value
unfoldable pub entry_bytes : Entry → List ℕ
entry_bytes e = (e.item ∷ 0 ∷ 0 ∷ 0 ∷ []) ++ value_bytes e.value

unfoldable pub entries_bytes : List Entry → List ℕ
entries_bytes [] = []
entries_bytes (e ∷ es) = entry_bytes e ++ entries_bytes es

-- ticket, number of writes, three zeros, eight entries: the unused ones are zero
unfoldable pub record_bytes : Record → List ℕ
record_bytes r =
    bytes_of 4 r.ticket
    ++ ((length r.entries ∷ 0 ∷ 0 ∷ 0 ∷ [])
    ++ (entries_bytes r.entries ++ replicate (64 - 8 * length r.entries) 0))

unfoldable pub records_bytes : List Record → List ℕ
records_bytes [] = []
records_bytes (r ∷ rs) = record_bytes r ++ records_bytes rs

unfoldable pub header_for : Message → Header
header_for m = record {
  kind = m.kind;
  sender = m.sender;
  replicas = m.replicas;
  count = length m.records;
  slot = m.slot;
}

-- bytes 0 to 15
unfoldable pub header_bytes : Header → List ℕ
header_bytes h = (h.kind ∷ h.sender ∷ h.replicas ∷ h.count ∷ []) ++ (bytes_of 4 h.slot ++ replicate 8 0)

-- bytes 0 to 503
unfoldable pub body_bytes : Message → List ℕ
body_bytes m = header_bytes (header_for m) ++ (records_bytes m.records ++ replicate (488 - 72 * length m.records) 0)

unfoldable pub block_of : Message → List ℕ
block_of m = body_bytes m ++ check_bytes (body_bytes m)
