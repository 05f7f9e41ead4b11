-- A block that the reader takes, as the model sees it: its sender, its writesets, and what a writeset makes of values and stamps. Assumes nothing.
use Prim.Native.Nat.{ℕ, suc, ◌+◌, ◌<◌, min}
use mathlib.Core.Path.{◌≡◌, refl, sym, ap, ◌∙◌}
use mathlib.Core.Bool.{true}
use mathlib.Core.List.{List, [], ◌∷◌, map}
use native.Mathlib.Nat.{zero-add, add-zero, add-suc, suc-add}
use native.Mathlib.Omega.{arith}
use lib.IntN.{ℤ}
use lib.ListN.{length, get_or, set, length-set, length-map, get_or-map}
use lib.Seq.{get_or-set_same, get_or-set_other}
use borrow.Author.Tests.{eq-eqb, ne_eqb}
use Rattle.block.specs.declared.Entry.{Entry}
use Rattle.block.specs.Message.{Record, entries_fit}
use Rattle.block.specs.Form.{message_of}
use Rattle.block.specs.Answers.{block_refusal, entry_at}
use Rattle.block.specs.Theorems.{no_record, no_entry}
use Rattle.block.proofs.BoolLaws.{both, is_within}
use Rattle.block.proofs.MessageLaws.{message_facts, record_facts_at}
use Rattle.block.proofs.AnswerLaws.{is_taken, is_formed}
use Rattle.block.proofs.ReadLaws.{length-records_of}
use Rattle.block.proofs.Reading.{record-read, entry_read}
use Rattle.engine.specs.Moves.{entries_for, writeset_at, applied, stamped}
use Rattle.engine.proofs.Tests.{same_by}
use Rattle.protocol.specs.Lists.{update}
use Rattle.protocol.specs.Writesets.{apply_one, stamp_one, no_writeset}
use Rattle.agreement.specs.Group.{write_of, writeset_from, message_in}

-- ---- the writesets

entries_are : (b : List ℕ) (j e : ℕ) (es : List Entry) → ((k : ℕ) → k < length es → entry_at b j (e + k) ≡ get_or es k no_entry) → entries_for b j e (length es) ≡ es
unfolding entries_for
entries_are b j e [] h = refl
entries_are b j e (x ∷ xs) h =
    rw (rw (add-zero e) at (h 0 (omega arith)), entries_are b j (suc e) xs (λ k u. rw (suc-add e k, ← add-suc e k) (h (suc k) (omega arith))))

pub counted : (b : List ℕ) → length (message_of b).records ≡ get_or b 3 0
unfolding message_of
counted b = length-records_of _ _

-- the writeset read from the block is that of the message
module _ (b : List ℕ) (taken : block_refusal b ≡ 0) (j : ℕ) (h : j < get_or b 3 0) where
  abbrev this : Record
  this = get_or (message_of b).records j no_record

  within : j < length (message_of b).records
  within = rw (counted b) h

  pub writeset-read : writeset_at b j ≡ this
  writeset-read =
      let t = is_taken b taken in
      let f = message_facts (message_of b) (is_formed b t.forms).fields in
      let r = record_facts_at (message_of b).records j no_record f.records within in
      let few : min (length this.entries) 8 ≡ length this.entries = omega (arith, r.writes.below) in
      rw (record-read b t.long f j within, few, entries_are b j 0 this.entries (λ k u. rw (zero-add k) (entry_read b t.long f j within k u)))

  pub writeset-seen : get_or (message_in b).writesets j no_writeset ≡ writeset_from (writeset_at b j)
  unfolding message_in
  writeset-seen = get_or-map writeset_from (message_of b).records j no_record ∙ ap writeset_from (sym writeset-read)

  -- its items rise and are items
  pub writeset-fits : entries_fit 0 (writeset_at b j).entries ≡ true
  writeset-fits =
      let f = message_facts (message_of b) (is_formed b (is_taken b taken).forms).fields in
      ap (λ (r : Record). entries_fit 0 r.entries) writeset-read ∙ (record_facts_at (message_of b).records j no_record f.records within).fit

pub count-seen : (b : List ℕ) → length (message_in b).writesets ≡ get_or b 3 0
unfolding message_in
count-seen b = length-map (message_of b).records writeset_from ∙ counted b

pub sender_seen : (b : List ℕ) → (message_in b).sender ≡ get_or b 1 0
unfolding message_in message_of
sender_seen b = refl

-- ---- values and stamps

pub values-after : (es : List Entry) (l : List ℤ) → applied es l ≡ apply_one l (map write_of es)
unfolding applied apply_one
values-after [] l = refl
values-after (e ∷ es) l = values-after es (set l e.item e.value)

pub stamps_after : (c low : ℕ) (es : List Entry) (l : List ℕ) (f : ℕ → ℕ) → entries_fit low es ≡ true → length l ≡ 128 → ((i : ℕ) → get_or l i 0 ≡ f i)
    → (i : ℕ) → get_or (stamped c es l) i 0 ≡ stamp_one f c (map write_of es) i
unfolding stamped stamp_one entries_fit
stamps_after c low [] l f fit long same i = same i
stamps_after c low (e ∷ es) l f fit long same i =
    let b = both _ _ fit in
    stamps_after c (suc e.item) es (set l e.item c) (update f e.item c) b.right (length-set l e.item c ∙ long)
    (λ k. same_by k e.item
    (λ q. rw (eq-eqb k e.item q, q) (get_or-set_same l e.item c 0 (omega (arith, (is_within low 127 e.item b.left).below))))
    (λ d. rw (ne_eqb k e.item d) (get_or-set_other l e.item k c 0 d ∙ same k))) i
