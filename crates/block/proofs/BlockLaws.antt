-- How long each part of a message's block is, and that it is bytes. Assumes nothing.
use Prim.Native.Nat.{ℕ, ◌*◌, ◌-◌, ◌≤◌, ◌<◌}
use mathlib.Core.Path.{◌≡◌, refl}
use mathlib.Core.Bool.{true}
use mathlib.Core.List.{List, [], ◌∷◌}
use native.Mathlib.Omega.{arith}
use lib.ListN.{length, length-append, length-replicate}
use Rattle.block.specs.declared.Entry.{Entry}
use Rattle.block.specs.declared.Header.{Header}
use Rattle.block.specs.Message.{Record, Message, entries_fit, records_fit}
use Rattle.block.specs.Bytes.{entry_bytes, entries_bytes, record_bytes, records_bytes, header_for, header_bytes, body_bytes, block_of}
use Rattle.block.proofs.BoolLaws.{both, is_within}
use Rattle.block.proofs.ListLaws.{AllBytes, bytes_nil, bytes_cons, bytes_append, bytes_zeros}
use Rattle.block.proofs.NumberLaws.{length-bytes_of, bytes_bytes_of, length-value_bytes, bytes_value_bytes}
use Rattle.block.proofs.CheckLaws.{length-check_bytes, bytes_check_bytes}
use Rattle.block.proofs.MessageLaws.{RecordFacts, record_facts, MessageFacts, sender_small}

-- ---- lengths

pub length-entry_bytes : (e : Entry) → length (entry_bytes e) ≡ 8
unfolding entry_bytes
length-entry_bytes e = simp length-value_bytes

pub length-entries_bytes : (es : List Entry) → length (entries_bytes es) ≡ 8 * length es
unfolding entries_bytes
length-entries_bytes [] = refl
length-entries_bytes (e ∷ es) = simp (length-append, length-entry_bytes, length-entries_bytes es) (omega arith)

pub length-record_bytes : (r : Record) → length r.entries ≤ 8 → length (record_bytes r) ≡ 72
unfolding record_bytes
length-record_bytes r h = simp (length-append, length-bytes_of, length-entries_bytes, length-replicate) (omega arith)

pub length-records_bytes : (rs : List Record) → records_fit rs ≡ true → length (records_bytes rs) ≡ 72 * length rs
unfolding records_bytes records_fit
length-records_bytes [] h = refl
length-records_bytes (r ∷ rs) h =
    let b = both _ _ h in
    simp (length-append, length-record_bytes r (record_facts r b.left).writes.below, length-records_bytes rs b.right) (omega arith)

pub length-header_bytes : (h : Header) → length (header_bytes h) ≡ 16
unfolding header_bytes
length-header_bytes h = simp (length-append, length-bytes_of)

module _ (m : Message) (f : MessageFacts m) where
  pub length-body_bytes : length (body_bytes m) ≡ 504
  unfolding body_bytes
  length-body_bytes = simp (length-append, length-header_bytes, length-records_bytes m.records f.records, length-replicate) (omega arith)

  pub length-block_of : length (block_of m) ≡ 512
  unfolding block_of
  length-block_of = simp (length-append, length-check_bytes, length-body_bytes)

-- ---- bytes

pub bytes_entry_bytes : (e : Entry) → e.item < 256 → AllBytes (entry_bytes e)
unfolding entry_bytes
bytes_entry_bytes e h = bytes_cons h (bytes_append (bytes_zeros 3) (bytes_value_bytes e.value))

pub bytes_entries_bytes : (low : ℕ) (es : List Entry) → entries_fit low es ≡ true → AllBytes (entries_bytes es)
unfolding entries_bytes entries_fit
bytes_entries_bytes low [] h = bytes_nil
bytes_entries_bytes low (e ∷ es) h =
    let b = both _ _ h in
    let w = is_within _ _ _ b.left in
    bytes_append (bytes_entry_bytes e (omega arith)) (bytes_entries_bytes _ es b.right)

pub bytes_record_bytes : (r : Record) → RecordFacts r → AllBytes (record_bytes r)
unfolding record_bytes
bytes_record_bytes r f =
    bytes_append (bytes_bytes_of 4 r.ticket)
    (bytes_cons (omega arith) (bytes_append (bytes_zeros 3)
    (bytes_append (bytes_entries_bytes 0 r.entries f.fit) (bytes_zeros (64 - 8 * length r.entries)))))

pub bytes_records_bytes : (rs : List Record) → records_fit rs ≡ true → AllBytes (records_bytes rs)
unfolding records_bytes records_fit
bytes_records_bytes [] h = bytes_nil
bytes_records_bytes (r ∷ rs) h =
    let b = both _ _ h in
    bytes_append (bytes_record_bytes r (record_facts r b.left)) (bytes_records_bytes rs b.right)

pub bytes_body_bytes : (m : Message) → MessageFacts m → AllBytes (body_bytes m)
unfolding body_bytes header_bytes header_for
bytes_body_bytes m f =
    let s = sender_small m f in
    bytes_append
    (bytes_cons (omega arith) (bytes_cons (omega arith) (bytes_cons (omega arith) (bytes_cons (omega arith)
    (bytes_append (bytes_bytes_of 4 m.slot) (bytes_zeros 8))))))
    (bytes_append (bytes_records_bytes m.records f.records) (bytes_zeros (488 - 72 * length m.records)))

pub bytes_block_of : (m : Message) → MessageFacts m → AllBytes (block_of m)
unfolding block_of
bytes_block_of m f = bytes_append (bytes_body_bytes m f) (bytes_check_bytes _)
