-- An accepted block is the block of its message, and is read as that message. Assumes nothing.
use Prim.Native.Nat.{ℕ, ◌+◌, ◌*◌, ◌≤◌, ◌<◌}
use mathlib.Core.Path.{◌≡◌, refl, sym, ap, ap₂, ◌∙◌}
use mathlib.Core.Bool.{true}
use mathlib.Core.List.{List, [], ◌∷◌, ◌++◌, append_assoc}
use native.Mathlib.Omega.{arith}
use lib.ListN.{length, get_or, take, drop, replicate}
use lib.Seq.{slice, drop-drop, length-slice}
use borrow.Author.Tests.{eq-eqb, lt-ltb}
use Rattle.block.specs.Message.{all_values_fit}
use Rattle.block.specs.Bytes.{header_for, header_bytes, body_bytes, block_of}
use Rattle.block.specs.Form.{entry_of, record_of, message_of, padded}
use Rattle.block.specs.Answers.{header_of, record_at, entry_at}
use Rattle.block.specs.Theorems.{Accepted, Reading, head_of, no_record, no_entry}
use Rattle.block.proofs.BoolLaws.{both}
use Rattle.block.proofs.ListLaws.{AllBytes, bytes_slice, slice-split, part_in, get_or-slice}
use Rattle.block.proofs.NumberLaws.{bytes_of-number_from}
use Rattle.block.proofs.CheckLaws.{check_whole}
use Rattle.block.proofs.MessageLaws.{MessageFacts, message_facts, record_facts_at}
use Rattle.block.proofs.AnswerLaws.{Taken, is_taken, is_formed}
use Rattle.block.proofs.ReadLaws.{all_zero-zeros, length-entries_of, length-records_of, records_whole, records_signed, entry_at_lem, record_at_lem}

take-four : (l : List ℕ) → 4 ≤ length l → take 4 l ≡ get_or l 0 0 ∷ get_or l 1 0 ∷ get_or l 2 0 ∷ get_or l 3 0 ∷ []
take-four (p ∷ q ∷ r ∷ s ∷ l) h = refl
take-four (p ∷ q ∷ r ∷ []) h = absurd (omega arith)
take-four (p ∷ q ∷ []) h = absurd (omega arith)
take-four (p ∷ []) h = absurd (omega arith)
take-four [] h = absurd (omega arith)

body_whole : (b : List ℕ) → length b ≡ 512 → AllBytes b → MessageFacts (message_of b) → padded b ≡ true → body_bytes (message_of b) ≡ take 504 b
unfolding body_bytes header_bytes header_for message_of padded
body_whole b long f m z =
    let n = get_or b 3 0 in
    let middle = slice 16 504 b in
    let size : length middle ≡ 488 = length-slice 16 504 b (omega arith) in
    let count = length-records_of n middle in
    let c = both _ _ z in
    let zeros = all_zero-zeros 8 (slice 8 16 b) (length-slice 8 16 b (omega arith)) c.left in
    let records = records_whole n middle (bytes_slice 16 504 f) (omega arith) m.records c.right in
    let slot = bytes_of-number_from 4 (slice 4 8 b) (bytes_slice 4 8 f) (length-slice 4 8 b (omega arith)) in
    rw (count, slot, rw size at records)
    (sym (slice-split 0 4 504 b (omega arith) (omega arith)
    ∙ ap₂ ◌++◌ (take-four b (omega arith))
    (slice-split 4 8 504 b (omega arith) (omega arith)
    ∙ ap (λ (k : List ℕ). slice 4 8 b ++ k) (slice-split 8 16 504 b (omega arith) (omega arith) ∙ ap (λ (k : List ℕ). k ++ middle) (sym zeros))
    ∙ sym (append_assoc (slice 4 8 b) (replicate 8 0) middle))))

block_whole : (b : List ℕ) → AllBytes b → Taken b → MessageFacts (message_of b) → padded b ≡ true → block_of (message_of b) ≡ b
unfolding block_of
block_whole b f t m z = rw (body_whole b t.long f m z) (check_whole b f t.checks)

-- ---- each at its place

header_is : (b : List ℕ) → header_of b ≡ header_for (message_of b)
unfolding header_of header_for message_of
header_is b = rw length-records_of

-- the 72 bytes of record j, and its parts
abbrev part : List ℕ → ℕ → List ℕ
part b j = slice (16 + 72 * j) (88 + 72 * j) b

ticket_is : (b : List ℕ) (j : ℕ) → take 4 (part b j) ≡ slice (16 + 72 * j) (20 + 72 * j) b
ticket_is b j = part_in b (16 + 72 * j) (88 + 72 * j) 0 4 (16 + 72 * j) (20 + 72 * j) (omega arith) (omega arith) (omega arith)

writes_are : (b : List ℕ) (j : ℕ) → get_or (part b j) 4 0 ≡ get_or b (20 + 72 * j) 0
writes_are b j = get_or-slice b 0 (16 + 72 * j) (88 + 72 * j) 4 (20 + 72 * j) (omega arith) (omega arith)

entry_is : (b : List ℕ) (j e : ℕ) → e < 8 → take 8 (drop (8 * e) (drop 8 (part b j))) ≡ slice (24 + 72 * j + 8 * e) (32 + 72 * j + 8 * e) b
entry_is b j e h =
    ap (take 8) (drop-drop (8 * e) 8 (part b j))
    ∙ part_in b (16 + 72 * j) (88 + 72 * j) (8 + 8 * e) 8 (24 + 72 * j + 8 * e) (32 + 72 * j + 8 * e) (omega arith) (omega arith) (omega arith)

module _ (b : List ℕ) (long : length b ≡ 512) (m : MessageFacts (message_of b)) (j : ℕ) (h : j < length (message_of b).records) where
  record-found : get_or (message_of b).records j no_record ≡ record_of (part b j)
  unfolding message_of
  record-found =
      let c = m.kinds.count in
      record_at_lem (get_or b 3 0) j (slice 16 504 b) no_record (omega (arith, length-records_of (get_or b 3 0) (slice 16 504 b)))
      ∙ ap record_of (part_in b 16 504 (72 * j) 72 (16 + 72 * j) (88 + 72 * j) refl (omega arith) (omega arith))

  pub record-read : record_at b j ≡ head_of (get_or (message_of b).records j no_record)
  unfolding record_at record_of
  record-read = rw (eq-eqb (length b) 512 long, lt-ltb j 6 (omega (arith, m.kinds.count)), record-found, ← ticket_is b j, ← writes_are b j, length-entries_of)

  pub entry_read : (e : ℕ) → e < length (get_or (message_of b).records j no_record).entries → entry_at b j e ≡ get_or (get_or (message_of b).records j no_record).entries e no_entry
  unfolding entry_at record_of
  entry_read e l =
      let few = (record_facts_at (message_of b).records j no_record m.records h).writes.below in
      let n = get_or (part b j) 4 0 in
      let below = rw record-found at l in
      rw (eq-eqb (length b) 512 long, lt-ltb j 6 (omega (arith, m.kinds.count)), lt-ltb e 8 (omega arith), record-found)
      (sym (entry_at_lem n e (drop 8 (part b j)) no_entry (omega (arith, length-entries_of n (drop 8 (part b j)))) ∙ ap entry_of (entry_is b j e (omega arith))))

-- ---- the theorems

values-fit : (b : List ℕ) → AllBytes b → all_values_fit (message_of b).records ≡ true
unfolding message_of
values-fit b f = records_signed (get_or b 3 0) (slice 16 504 b) (bytes_slice 16 504 f)

pub reading : (b : List ℕ) → Accepted b → Reading b
reading b a =
    let t = is_taken b a.taken in
    let w = is_formed b t.forms in
    let m = message_facts (message_of b) w.fields in
    let f : AllBytes b = record { each = a.bytes } in
    record {
      sendable = record { fields = w.fields; values = values-fit b f };
      block = block_whole b f t m w.unused;
      header = header_is b;
      records = record-read b t.long m;
      entries = λ j e h l. entry_read b t.long m j h e l;
    }

pub only : (b c : List ℕ) → Accepted b → Accepted c → message_of b ≡ message_of c → b ≡ c
only b c f g e = sym (reading b f).block ∙ ap block_of e ∙ (reading c g).block
