-- What the writers of header and record leave in the bytes lent to them: what they write, and behind it what was there. A fresh block is zeros, and
-- over zeros this is all of a header, all of a record.
use Rattle.std.specs.Prelude.{ℕ, ◌+◌, ◌*◌, ◌&&◌, List, [], ◌∷◌, ◌++◌, eqb, leb, ℤ, length, drop}
use Rattle.block.specs.declared.Header.{Header}
use Rattle.block.specs.Numbers.{bytes_of}
use Rattle.block.specs.Message.{Record}
use Rattle.block.specs.Bytes.{entries_bytes}
use Rattle.block.specs.Writing.{Written, write_where, record_from}

-- bytes 0 to 7 of a block, over the first of a part
unfoldable pub header_over : Header → List ℕ → List ℕ
header_over h part = (h.kind ∷ h.sender ∷ h.replicas ∷ h.count ∷ []) ++ (bytes_of 4 h.slot ++ drop 8 part)

-- ticket, number of writes, three zeros and the entries, over the first of a part
unfoldable pub record_over : Record → List ℕ → List ℕ
record_over r part =
    bytes_of 4 r.ticket
    ++ ((length r.entries ∷ 0 ∷ 0 ∷ 0 ∷ [])
    ++ (entries_bytes r.entries ++ drop (8 + 8 * length r.entries) part))

-- into 16 bytes
unfoldable pub header_step : List ℕ → Header → Written
header_step part h = write_where (eqb (length part) 16) (header_over h part) part

-- into 72 bytes, at most 8 items and as many values
unfoldable pub record_step : List ℕ → ℕ → List ℕ → List ℤ → Written
record_step part t is vs =
    write_where (eqb (length part) 72 && (leb (length is) 8 && eqb (length vs) (length is)))
    (record_over (record_from t is vs) part)
    part
