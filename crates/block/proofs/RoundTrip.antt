-- The block of a sendable message is accepted, and reads as that message. Assumes nothing.
use Prim.Native.Nat.{ℕ, zero, suc, ◌*◌, ◌-◌}
use mathlib.Core.Path.{◌≡◌, refl, ap, ◌∙◌}
use mathlib.Core.Bool.{true}
use mathlib.Core.List.{List, [], ◌∷◌, ◌++◌, append_assoc}
use native.Mathlib.Omega.{arith}
use lib.ListN.{length, take, replicate, length-append, length-replicate}
use lib.Seq.{slice, take_at, drop_at, take_all}
use borrow.Author.Tests.{eq-eqb}
use Rattle.block.specs.declared.Entry.{Entry}
use Rattle.block.specs.Numbers.{bytes_of, value_bytes, value_of}
use Rattle.block.specs.Check.{check_bytes, check_matches}
use Rattle.block.specs.Message.{Record, Message, signed32, values_fit, records_fit, all_values_fit, valid}
use Rattle.block.specs.Bytes.{entry_bytes, entries_bytes, record_bytes, records_bytes, header_for, header_bytes, body_bytes, block_of}
use Rattle.block.specs.Form.{entry_of, entries_of, record_of, records_of, message_of, all_zero, entries_padded, record_padded, records_padded, padded, well_formed}
use Rattle.block.specs.Theorems.{Sendable, RoundTrip}
use Rattle.block.proofs.BoolLaws.{both, joined}
use Rattle.block.proofs.NumberLaws.{number_from-bytes_of, length-value_bytes, value_of-value_bytes}
use Rattle.block.proofs.CheckLaws.{check_matches_lem}
use Rattle.block.proofs.AnswerLaws.{not_refused}
use Rattle.block.proofs.MessageLaws.{RecordFacts, record_facts, MessageFacts, message_facts}
use Rattle.block.proofs.BlockLaws.{length-entry_bytes, length-record_bytes, length-records_bytes, length-body_bytes, length-block_of, bytes_body_bytes, bytes_block_of}

pub zeros-all_zero : (n : ℕ) → all_zero (replicate n 0) ≡ true
unfolding all_zero
zeros-all_zero zero = refl
zeros-all_zero (suc n) = zeros-all_zero n

-- ---- entries

entry_back : (e : Entry) → signed32 e.value ≡ true → entry_of (entry_bytes e) ≡ e
unfolding entry_of entry_bytes
entry_back e h = λ i. record { item = e.item; value = value i }
  where
    value : value_of (take 4 (value_bytes e.value)) ≡ e.value
    value = rw (take_all 4 (value_bytes e.value) (omega (arith, length-value_bytes e.value))) (value_of-value_bytes e.value h)

entry_padded : (e : Entry) (rest : List ℕ) → all_zero (slice 1 4 (entry_bytes e ++ rest)) ≡ true
unfolding entry_bytes all_zero
entry_padded e rest = refl

entries_back : (es : List Entry) (rest : List ℕ) → values_fit es ≡ true → entries_of (length es) (entries_bytes es ++ rest) ≡ es
unfolding entries_of entries_bytes values_fit
entries_back [] rest h = refl
entries_back (e ∷ es) rest h =
    let b = both _ _ h in
    rw (
      append_assoc,
      take_at (entry_bytes e) (entries_bytes es ++ rest) 8 (length-entry_bytes e),
      drop_at (entry_bytes e) (entries_bytes es ++ rest) 8 (length-entry_bytes e),
      entry_back e b.left,
      entries_back es rest b.right,
    )

entries_padded_lem : (es : List Entry) (n : ℕ) → entries_padded (length es) (entries_bytes es ++ replicate n 0) ≡ true
unfolding entries_padded entries_bytes
entries_padded_lem [] n = zeros-all_zero n
entries_padded_lem (e ∷ es) n =
    let rest = entries_bytes es ++ replicate n 0 in
    rw (append_assoc, entry_padded e rest, drop_at (entry_bytes e) rest 8 (length-entry_bytes e)) (entries_padded_lem es n)

-- ---- records

module _ (r : Record) (f : RecordFacts r) where
  record-back : values_fit r.entries ≡ true → record_of (record_bytes r) ≡ r
  unfolding record_of record_bytes bytes_of
  record-back v = λ i. record {
    ticket = number_from-bytes_of 4 r.ticket (omega arith) i;
    entries = entries_back r.entries (replicate (64 - 8 * length r.entries) 0) v i;
  }

  record-padded : record_padded (record_bytes r) ≡ true
  unfolding record_padded record_bytes bytes_of all_zero
  record-padded = entries_padded_lem r.entries (64 - 8 * length r.entries)

records_back : (rs : List Record) (rest : List ℕ) → records_fit rs ≡ true → all_values_fit rs ≡ true → records_of (length rs) (records_bytes rs ++ rest) ≡ rs
unfolding records_of records_bytes records_fit all_values_fit
records_back [] rest h v = refl
records_back (r ∷ rs) rest h v =
    let b = both _ _ h in
    let w = both _ _ v in
    let f = record_facts r b.left in
    let e = length-record_bytes r f.writes.below in
    rw (
      append_assoc,
      take_at (record_bytes r) (records_bytes rs ++ rest) 72 e,
      drop_at (record_bytes r) (records_bytes rs ++ rest) 72 e,
      record-back r f w.left,
      records_back rs rest b.right w.right,
    )

records_padded_lem : (rs : List Record) (n : ℕ) → records_fit rs ≡ true → records_padded (length rs) (records_bytes rs ++ replicate n 0) ≡ true
unfolding records_padded records_bytes records_fit
records_padded_lem [] n h = zeros-all_zero n
records_padded_lem (r ∷ rs) n h =
    let b = both _ _ h in
    let f = record_facts r b.left in
    let e = length-record_bytes r f.writes.below in
    let rest = records_bytes rs ++ replicate n 0 in
    rw (append_assoc, take_at (record_bytes r) rest 72 e, drop_at (record_bytes r) rest 72 e, record-padded r f) (records_padded_lem rs n b.right)

-- ---- the block

module _ (m : Message) (f : MessageFacts m) where
  middle-back : slice 16 504 (block_of m) ≡ records_bytes m.records ++ replicate (488 - 72 * length m.records) 0
  unfolding block_of body_bytes header_bytes bytes_of
  middle-back =
      take_at (records_bytes m.records ++ replicate (488 - 72 * length m.records) 0) (check_bytes (body_bytes m)) 488
      (simp (length-append, length-records_bytes m.records f.records, length-replicate) (omega arith))

  message-back : all_values_fit m.records ≡ true → message_of (block_of m) ≡ m
  unfolding message_of block_of body_bytes header_bytes header_for bytes_of
  message-back v = λ i. record {
    kind = m.kind;
    sender = m.sender;
    replicas = m.replicas;
    slot = number_from-bytes_of 4 m.slot (omega arith) i;
    records = records i;
  }
    where
      records : records_of (length m.records) (slice 16 504 (block_of m)) ≡ m.records
      records = rw middle-back (records_back m.records (replicate (488 - 72 * length m.records) 0) f.records v)

  padded-back : padded (block_of m) ≡ true
  unfolding padded block_of body_bytes header_bytes header_for bytes_of all_zero
  padded-back = ap (records_padded (length m.records)) middle-back ∙ records_padded_lem m.records (488 - 72 * length m.records) f.records

  check-back : check_matches (block_of m) ≡ true
  unfolding block_of
  check-back = check_matches_lem (body_bytes m) (bytes_body_bytes m f) (length-body_bytes m f)

pub round_trip : (m : Message) → Sendable m → RoundTrip m
unfolding well_formed
round_trip m s =
    let f = message_facts m s.fields in
    let long = length-block_of m f in
    let back = message-back m f s.values in
    let forms : well_formed (block_of m) ≡ true = joined (eq-eqb _ 512 long) (joined (ap valid back ∙ s.fields) (padded-back m f)) in
    record {
      long = long;
      bytes = (bytes_block_of m f).each;
      checks = check-back m f;
      forms = forms;
      taken = not_refused (block_of m) (record { long = long; checks = check-back m f; forms = forms });
      message = back;
    }
