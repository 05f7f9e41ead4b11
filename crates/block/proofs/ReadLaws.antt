-- Entries and records read from padded bytes: written again they are those bytes, and each is read at its own place. Assumes nothing.
use Prim.Native.Nat.{ℕ, zero, suc, ◌*◌, ◌-◌, ◌≤◌, ◌<◌}
use mathlib.Core.Path.{◌≡◌, refl, sym, ap, ap₂, ◌∙◌}
use mathlib.Core.Bool.{true}
use mathlib.Core.List.{List, [], ◌∷◌, ◌++◌, append_assoc}
use native.Mathlib.Nat.{not-suc-le-zero, le_of_suc-le-suc}
use native.Mathlib.Omega.{arith}
use lib.ListN.{length, get_or, take, drop, replicate, length-take, length-drop, take-append-drop}
use lib.Seq.{slice, drop-cons, length-take-le, length-slice}
use borrow.Author.Tests.{eqb-true}
use Rattle.block.specs.declared.Entry.{Entry}
use Rattle.block.specs.Message.{Record, records_fit, values_fit, all_values_fit}
use Rattle.block.specs.Bytes.{entry_bytes, entries_bytes, record_bytes, records_bytes}
use Rattle.block.specs.Form.{entry_of, entries_of, record_of, records_of, all_zero, entries_padded, record_padded, records_padded}
use Rattle.block.proofs.BoolLaws.{both, joined}
use Rattle.block.proofs.ListLaws.{AllBytes, bytes_take, bytes_drop, bytes_slice, slice-take, cut, drop-slice, drop-step}
use Rattle.block.proofs.NumberLaws.{bytes_of-number_from, value_bytes-value_of, signed-value_of}
use Rattle.block.proofs.MessageLaws.{RecordFacts, record_facts}

pub all_zero-zeros : (n : ℕ) (l : List ℕ) → length l ≡ n → all_zero l ≡ true → replicate n 0 ≡ l
unfolding all_zero
all_zero-zeros zero [] e h = refl
all_zero-zeros zero (x ∷ xs) e h = absurd (omega arith)
all_zero-zeros (suc n) [] e h = absurd (omega arith)
all_zero-zeros (suc n) (x ∷ xs) e h =
    let b = both _ _ h in
    rw (eqb-true x 0 b.left, all_zero-zeros n xs (omega arith) b.right)

-- ---- counts

pub length-entries_of : (n : ℕ) (l : List ℕ) → length (entries_of n l) ≡ n
unfolding entries_of
length-entries_of zero l = refl
length-entries_of (suc n) l = ap suc (length-entries_of n (drop 8 l))

pub length-records_of : (n : ℕ) (l : List ℕ) → length (records_of n l) ≡ n
unfolding records_of
length-records_of zero l = refl
length-records_of (suc n) l = ap suc (length-records_of n (drop 72 l))

-- ---- written again

entry_whole : (l : List ℕ) → AllBytes l → length l ≡ 8 → all_zero (slice 1 4 l) ≡ true → entry_bytes (entry_of l) ≡ l
unfolding entry_bytes entry_of
entry_whole l f e z =
    let zeros = all_zero-zeros 3 (slice 1 4 l) (length-slice 1 4 l (omega arith)) z in
    rw (value_bytes-value_of (slice 4 8 l) (bytes_slice 4 8 f) (length-slice 4 8 l (omega arith)))
    (sym (drop-cons l 0 0 (omega arith)
    ∙ ap (λ (k : List ℕ). get_or l 0 0 ∷ k) (cut 1 4 l (omega arith) ∙ ap₂ ◌++◌ (sym zeros) (drop-slice 4 8 l e))))

entries_whole : (n : ℕ) (l : List ℕ) → AllBytes l → 8 * n ≤ length l → entries_padded n l ≡ true
    → entries_bytes (entries_of n l) ++ replicate (length l - 8 * n) 0 ≡ l
unfolding entries_bytes entries_of entries_padded
entries_whole zero l f h z = all_zero-zeros (length l - 0) l (omega arith) z
entries_whole (suc n) l f h z =
    let b = both _ _ z in
    let count : length l - 8 * suc n ≡ length (drop 8 l) - 8 * n = simp length-drop (omega arith) in
    let first = entry_whole (take 8 l) (bytes_take 8 f) (length-take-le 8 l (omega arith)) (ap all_zero (slice-take 1 4 8 l (omega arith)) ∙ b.left) in
    rw (append_assoc, first, count, entries_whole n (drop 8 l) (bytes_drop 8 f) (simp length-drop (omega arith)) b.right) (take-append-drop 8 l)

record_whole : (l : List ℕ) → AllBytes l → length l ≡ 72 → RecordFacts (record_of l) → record_padded l ≡ true → record_bytes (record_of l) ≡ l
unfolding record_bytes record_of record_padded
record_whole l f e r z =
    let n = get_or l 4 0 in
    let count = length-entries_of n (drop 8 l) in
    let long : length (drop 8 l) ≡ 64 = length-drop 8 l ∙ omega arith in
    let b = both _ _ z in
    let zeros = all_zero-zeros 3 (slice 5 8 l) (length-slice 5 8 l (omega arith)) b.left in
    let entries = entries_whole n (drop 8 l) (bytes_drop 8 f) (omega arith) b.right in
    rw (bytes_of-number_from 4 (take 4 l) (bytes_take 4 f) (length-take-le 4 l (omega arith)), count, rw long at entries)
    (sym (sym (take-append-drop 4 l)
    ∙ ap (λ (k : List ℕ). take 4 l ++ k) (drop-cons l 4 0 (omega arith)
    ∙ ap (λ (k : List ℕ). get_or l 4 0 ∷ k) (cut 5 8 l (omega arith) ∙ ap (λ (k : List ℕ). k ++ drop 8 l) (sym zeros)))))

pub records_whole : (n : ℕ) (l : List ℕ) → AllBytes l → 72 * n ≤ length l → records_fit (records_of n l) ≡ true → records_padded n l ≡ true
    → records_bytes (records_of n l) ++ replicate (length l - 72 * n) 0 ≡ l
unfolding records_bytes records_of records_padded records_fit
records_whole zero l f h r z = all_zero-zeros (length l - 0) l (omega arith) z
records_whole (suc n) l f h r z =
    let b = both _ _ z in
    let c = both _ _ r in
    let count : length l - 72 * suc n ≡ length (drop 72 l) - 72 * n = simp length-drop (omega arith) in
    let first = record_whole (take 72 l) (bytes_take 72 f) (length-take-le 72 l (omega arith)) (record_facts _ c.left) b.left in
    rw (append_assoc, first, count, records_whole n (drop 72 l) (bytes_drop 72 f) (simp length-drop (omega arith)) c.right b.right) (take-append-drop 72 l)

-- ---- values

entries_signed : (n : ℕ) (l : List ℕ) → AllBytes l → values_fit (entries_of n l) ≡ true
unfolding values_fit entries_of entry_of
entries_signed zero l f = refl
entries_signed (suc n) l f =
    joined (signed-value_of (slice 4 8 (take 8 l)) (bytes_slice 4 8 (bytes_take 8 f)) (simp (length-drop, length-take) (omega arith)))
    (entries_signed n (drop 8 l) (bytes_drop 8 f))

pub records_signed : (n : ℕ) (l : List ℕ) → AllBytes l → all_values_fit (records_of n l) ≡ true
unfolding all_values_fit records_of record_of
records_signed zero l f = refl
records_signed (suc n) l f = joined (entries_signed _ _ (bytes_drop 8 (bytes_take 72 f))) (records_signed n (drop 72 l) (bytes_drop 72 f))

-- ---- each at its place

pub entry_at_lem : (n e : ℕ) (l : List ℕ) (d : Entry) → e < n → get_or (entries_of n l) e d ≡ entry_of (take 8 (drop (8 * e) l))
unfolding entries_of
entry_at_lem zero e l d h = absurd (not-suc-le-zero h)
entry_at_lem (suc n) zero l d h = refl
entry_at_lem (suc n) (suc e) l d h = rw (← drop-step) (entry_at_lem n e (drop 8 l) d (le_of_suc-le-suc h))

pub record_at_lem : (n j : ℕ) (l : List ℕ) (d : Record) → j < n → get_or (records_of n l) j d ≡ record_of (take 72 (drop (72 * j) l))
unfolding records_of
record_at_lem zero j l d h = absurd (not-suc-le-zero h)
record_at_lem (suc n) zero l d h = refl
record_at_lem (suc n) (suc j) l d h = rw (← drop-step) (record_at_lem n j (drop 72 l) d (le_of_suc-le-suc h))
