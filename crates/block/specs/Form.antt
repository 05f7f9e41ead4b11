-- The message of a block's bytes, and which blocks are well formed. Defined on any bytes: what is past the end reads as zero.
use Rattle.std.specs.Prelude.{ℕ, zero, suc, Bool, true, ◌&&◌, List, [], ◌∷◌, eqb, leb, length, get_or, take, drop}
use Rattle.std.proofs.Math.Seq.{slice}
use Rattle.block.specs.declared.Entry.{Entry}
use Rattle.block.specs.Numbers.{number_from, value_of}
use Rattle.block.specs.Message.{Record, Message, max_slot, owner_of, within, valid}

-- of 8 bytes
unfoldable pub entry_of : List ℕ → Entry
entry_of l = record { item = get_or l 0 0; value = value_of (slice 4 8 l) }

unfoldable pub entries_of : ℕ → List ℕ → List Entry
entries_of zero l = []
entries_of (suc n) l = entry_of (take 8 l) ∷ entries_of n (drop 8 l)

-- of 72 bytes
unfoldable pub record_of : List ℕ → Record
record_of l = record { ticket = number_from (take 4 l); entries = entries_of (get_or l 4 0) (drop 8 l) }

unfoldable pub records_of : ℕ → List ℕ → List Record
records_of zero l = []
records_of (suc n) l = record_of (take 72 l) ∷ records_of n (drop 72 l)

unfoldable pub message_of : List ℕ → Message
message_of b = record {
  kind = get_or b 0 0;
  sender = get_or b 1 0;
  replicas = get_or b 2 0;
  slot = number_from (slice 4 8 b);
  records = records_of (get_or b 3 0) (slice 16 504 b);
}

-- ---- the unused bytes are zero

unfoldable pub all_zero : List ℕ → Bool
all_zero [] = true
all_zero (b ∷ bs) = eqb b 0 && all_zero bs

-- bytes 1 to 3 of each of n entries, and all of what follows them
unfoldable pub entries_padded : ℕ → List ℕ → Bool
entries_padded zero l = all_zero l
entries_padded (suc n) l = all_zero (slice 1 4 l) && entries_padded n (drop 8 l)

-- bytes 5 to 7 of a record, and what its entries leave
unfoldable pub record_padded : List ℕ → Bool
record_padded l = all_zero (slice 5 8 l) && entries_padded (get_or l 4 0) (drop 8 l)

-- what each of n records leaves, and all of what follows them
unfoldable pub records_padded : ℕ → List ℕ → Bool
records_padded zero l = all_zero l
records_padded (suc n) l = record_padded (take 72 l) && records_padded n (drop 72 l)

-- bytes 8 to 15, and what the records leave up to byte 503
unfoldable pub padded : List ℕ → Bool
padded b = all_zero (slice 8 16 b) && records_padded (get_or b 3 0) (slice 16 504 b)

-- document 01's *well formed*: all but the check
unfoldable pub well_formed : List ℕ → Bool
well_formed b = eqb (length b) 512 && (valid (message_of b) && padded b)

-- the part of it that is about the header alone: N, slot, sender, bytes 8 to 15
unfoldable pub header_fits : List ℕ → Bool
header_fits b =
    within 2 6 (get_or b 2 0)
    && (leb (number_from (slice 4 8 b)) max_slot
    && (eqb (get_or b 1 0) (owner_of (get_or b 2 0) (number_from (slice 4 8 b))) && all_zero (slice 8 16 b)))
