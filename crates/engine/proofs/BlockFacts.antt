-- A block that the reader takes: its slot and replicas, a message's kind and count, and no ticket is 0. Assumes nothing.
-- modules are checked in the order of their names, this one first: so what is computed comes before the proofs, and a wrong definition is refused there
use Prim.Native.Nat.{ℕ, ◌+◌, ◌*◌, ◌≤◌, ◌<◌}
use mathlib.Core.Path.{◌≡◌, refl, ap, ◌∙◌}
use mathlib.Core.Bool.{Bool, true, false, cond, ◌&&◌}
use mathlib.Core.List.{List}
use native.Mathlib.Omega.{arith}
use lib.Dec.{eqb}
use lib.ListN.{length, get_or, take, drop}
use lib.Seq.{slice, take-take, get_or-take, get_or-drop}
use borrow.Author.Tests.{eqb-true, eqb-false, eq-eqb, lt-ltb}
use Rattle.block.specs.Message.{Record, Message, owner_of, within, kind_fits, valid}
use Rattle.block.specs.Form.{record_of, records_of, message_of}
use Rattle.block.specs.Answers.{block_refusal, header_of, record_at}
use Rattle.block.specs.Theorems.{no_record}
use Rattle.block.proofs.BoolLaws.{both, is_within}
use Rattle.block.proofs.ListLaws.{part_in, get_or-slice}
use Rattle.block.proofs.MessageLaws.{message_facts, record_facts_at}
use Rattle.block.proofs.AnswerLaws.{is_taken, is_formed}
use Rattle.block.proofs.ReadLaws.{length-entries_of, length-records_of, record_at_lem}

-- a *next* has no record, any other message 1 to 6
kind_counted : (k n : ℕ) → kind_fits k n ≡ true → (k ≡ 1 → n ≡ 0) × ((k ≡ 1 → ⊥) → 0 < n) × (n ≤ 6) × ((k ≡ 1 → ⊥) → k ≡ 2)
unfolding kind_fits
kind_counted k n h = go (eqb k 1) refl h
  where
    go : (b : Bool) → eqb k 1 ≡ b → cond b (eqb n 0) (eqb k 2 && within 1 6 n) ≡ true → (k ≡ 1 → n ≡ 0) × ((k ≡ 1 → ⊥) → 0 < n) × (n ≤ 6) × ((k ≡ 1 → ⊥) → k ≡ 2)
    go true e q = let z = eqb-true n 0 q in ((λ p. z), (λ p. absurd (p (eqb-true k 1 e))), omega arith, (λ p. absurd (p (eqb-true k 1 e))))
    go false e q =
        let f = both (eqb k 2) (within 1 6 n) q in
        let w = is_within 1 6 n f.right in
        ((λ p. absurd (eqb-false k 1 e p)), (λ p. omega arith), w.below, (λ p. eqb-true k 2 f.left))

kind_fits_lem : (m : Message) → valid m ≡ true → kind_fits m.kind (length m.records) ≡ true
unfolding valid
kind_fits_lem m h = (both _ _ h).left

-- record j's ticket, read from the block
ticket-read : (b : List ℕ) (j : ℕ) → length b ≡ 512 → j < 6 → (record_of (take 72 (drop (72 * j) (slice 16 504 b)))).ticket ≡ (record_at b j).ticket
unfolding record_of record_at
ticket-read b j long h =
    rw (
      eq-eqb (length b) 512 long,
      lt-ltb j 6 h,
      take-take 4 72 (drop (72 * j) (slice 16 504 b)) (omega arith),
      part_in b 16 504 (72 * j) 4 (16 + 72 * j) (20 + 72 * j) refl (omega arith) (omega arith),
    )

-- and how many entries it has
writes_read : (b : List ℕ) (j : ℕ) → length b ≡ 512 → j < 6 → length (record_of (take 72 (drop (72 * j) (slice 16 504 b)))).entries ≡ (record_at b j).writes
unfolding record_of record_at
writes_read b j long h =
    rw (
      eq-eqb (length b) 512 long,
      lt-ltb j 6 h,
      length-entries_of,
      get_or-take 72 (drop (72 * j) (slice 16 504 b)) 4 0 (omega arith),
      get_or-drop,
    ) (get_or-slice b 0 16 504 (72 * j + 4) (20 + 72 * j) (omega arith) (omega arith))

pub record TakenBlock (b : List ℕ) : Type 0 where
  pub replicas : 2 ≤ (header_of b).replicas
  pub slot : (header_of b).slot ≤ 99_999_999
  pub sender : get_or b 1 0 ≡ owner_of (header_of b).replicas (header_of b).slot
  pub count : get_or b 3 0 ≤ 6
  pub next : get_or b 0 0 ≡ 1 → get_or b 3 0 ≡ 0
  pub some : (get_or b 0 0 ≡ 1 → ⊥) → 0 < get_or b 3 0
  pub kind : (get_or b 0 0 ≡ 1 → ⊥) → get_or b 0 0 ≡ 2
  pub ticket : (j : ℕ) → j < get_or b 3 0 → (1 ≤ (record_at b j).ticket) × ((record_at b j).ticket ≤ 100_000_000)
  pub writes : (j : ℕ) → j < get_or b 3 0 → 1 ≤ (record_at b j).writes

pub taken_block : (b : List ℕ) → block_refusal b ≡ 0 → TakenBlock b
unfolding message_of header_of
taken_block b e =
    let t = is_taken b e in
    let v = (is_formed b t.forms).fields in
    let f = message_facts (message_of b) v in
    let l = slice 16 504 b in
    let n = length-records_of (get_or b 3 0) l in
    let k = kind_counted (get_or b 0 0) (get_or b 3 0) (rw n at (kind_fits_lem (message_of b) v)) in
    record {
      replicas = f.replicas.above;
      slot = f.slot;
      sender = f.sender;
      count = k.2;
      next = k.0;
      some = k.1;
      kind = k.3;
      ticket = λ j h.
          let r = (record_facts_at (records_of (get_or b 3 0) l) j no_record f.records (omega arith)).ticket in
          let same = ap (λ (x : Record). x.ticket) (record_at_lem (get_or b 3 0) j l no_record h) ∙ ticket-read b j t.long (omega (arith, k.2)) in
          (rw same at r.above, rw same at r.below);
      writes = λ j h.
          let r = (record_facts_at (records_of (get_or b 3 0) l) j no_record f.records (omega arith)).writes in
          let same = ap (λ (x : Record). length x.entries) (record_at_lem (get_or b 3 0) j l no_record h) ∙ writes_read b j t.long (omega (arith, k.2)) in
          rw same at r.above;
    }
