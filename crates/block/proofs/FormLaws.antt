-- Laws of the form check over plain lists and numbers: one step of each recursion of the definitions, from a place in the whole list,
-- for each answer that the code gives there. Assumes nothing.
use Prim.Native.Nat.{ℕ, zero, suc, ◌+◌, ◌*◌, ◌-◌, ◌%◌, ◌<◌, ◌≤◌}
use mathlib.Core.Bool.{Bool, true, false, cond, ◌&&◌, and-false, and-true, and_self, and_assoc, and_comm}
use mathlib.Core.List.{List, [], ◌∷◌, ◌++◌}
use mathlib.Core.Path.{◌≡◌, refl, sym, ◌∙◌}
use native.Mathlib.Nat.{add-zero, sub_self}
use native.Mathlib.Numerals.{add-one}
use native.Mathlib.Omega.{arith}
use borrow.Author.Tests.{eq-eqb, ne_eqb, le-leb, lt-leb}
use lib.Dec.{eqb, leb}
use lib.ListN.{length, get_or, take, drop}
use lib.Seq.{slice, drop-length, drop-drop, take-take, get_or-take, get_or-drop}
use Rattle.std.specs.List.{list_all}
use Rattle.block.specs.Form.{entry_of, entries_of, record_of, records_of, message_of, all_zero, entries_padded, record_padded, records_padded, padded, well_formed, header_fits}
use Rattle.block.specs.Message.{Record, within, max_ticket, max_slot, owner_of, kind_fits, entries_fit, record_fits, records_fit, ticket_absent, tickets_differ, valid}
use Rattle.block.specs.Numbers.{number_from}
use Rattle.block.proofs.ListLaws.{part-take, part-drop, lent, lent_slice, lent-rest, cut}
use Rattle.block.proofs.NumberLaws.{number_more}
use Rattle.block.proofs.ReadLaws.{length-entries_of, length-records_of}

-- ---- tests and conjunctions

pub within_in : (low high x : ℕ) → low ≤ x → x ≤ high → within low high x ≡ true
unfolding within
within_in low high x h k = rw (le-leb low x h, le-leb x high k)

pub within-below : (low high x : ℕ) → x < low → within low high x ≡ false
unfolding within
within-below low high x h = rw (lt-leb low x h)

pub within-above : (low high x : ℕ) → high < x → within low high x ≡ false
unfolding within
within-above low high x h = rw (lt-leb x high h, and-false)

-- what a call's result r says, where the test `!r` holds and where it does not
pub refused : {r b : Bool} → r ≡ b → r ≡ false → b ≡ false
refused e h = sym e ∙ h

pub passed : {r b : Bool} → r ≡ b → r ≡ true → b ≡ true
passed e h = sym e ∙ h

and_left : (a b c : Bool) → (a && (b && c)) ≡ (b && (a && c))
and_left true b c = refl
and_left false b c = sym (and-false b)

ruleset sorted = (and_assoc, and_comm, and_left)

and_pairs : (a x b y : Bool) → (a && x && (b && y)) ≡ (a && b && (x && y))
and_pairs a x b y = simp sorted

-- conditions as the definitions have them, and in the order of the code's tests: a record's, a block's
and_record : (a b x z y : Bool) → (a && (b && x) && (z && y)) ≡ (a && (b && z && (x && y)))
and_record a b x z y = simp sorted

and_block : (k w s o r d z p : Bool)
    → (k && (w && (s && (o && (r && d)))) && (z && p)) ≡ (w && (s && (o && z)) && (k && (r && p && d)))
and_block k w s o r d z p = simp sorted

-- ---- zeros

zero_both : (b y : ℕ) → eqb (b + 256 * y) 0 ≡ (eqb b 0 && eqb y 0)
zero_both zero zero = refl
zero_both zero (suc y) = rw (ne_eqb (zero + 256 * suc y) 0 (omega arith), ne_eqb (suc y) 0 (omega arith))
zero_both (suc b) y = rw (ne_eqb (suc b + 256 * y) 0 (omega arith), ne_eqb (suc b) 0 (omega arith))

zero_number : (l : List ℕ) → all_zero l ≡ eqb (number_from l) 0
unfolding all_zero number_from
zero_number [] = refl
zero_number (b ∷ bs) = rw (zero_both b (number_from bs), zero_number bs)

zero_append : (l k : List ℕ) → all_zero (l ++ k) ≡ (all_zero l && all_zero k)
unfolding all_zero
zero_append [] k = refl
zero_append (b ∷ bs) k = rw (zero_append bs k, and_assoc)

pub zero_all : (l : List ℕ) → all_zero l ≡ list_all (λ b. eqb b 0) l
unfolding all_zero
zero_all [] = refl
zero_all (b ∷ bs) = rw (zero_all bs)

zero-end : (l : List ℕ) (i : ℕ) → length l ≡ i → all_zero (drop i l) ≡ true
unfolding all_zero
zero-end l i e = rw (← e, drop-length l)

-- from place i on: eight bytes, whose number is x, and what follows them
zero_part : (l : List ℕ) (i x : ℕ) → x ≡ number_from (slice i (i + 8) l) → all_zero (drop i l) ≡ (eqb x 0 && all_zero (drop (i + 8) l))
zero_part l i x e = rw (cut i (i + 8) l (omega arith), zero_append, zero_number (slice i (i + 8) l), e)

zero_later : (l : List ℕ) (i k : ℕ) → i ≤ k → (all_zero (drop i l) && all_zero (drop k l)) ≡ all_zero (drop i l)
zero_later l i k h = rw (cut i k l h, zero_append, and_assoc, and_self)

zero_differ : (w x : ℕ) (b : Bool) → (w ≡ x → ⊥) → (eqb x 0 && (eqb w 0 && b)) ≡ false
zero_differ w zero b h = rw (ne_eqb w 0 h)
zero_differ w (suc x) b h = rw (ne_eqb (suc x) 0 (omega arith))

-- by eight: x is the number of the last eight bytes, which stand from place k on, and w that of the eight from place i on
module _ (l : List ℕ) (k x : ℕ) (full : k + 8 ≡ length l) (last : x ≡ number_from (slice k (k + 8) l)) where
  zero-last : eqb x 0 ≡ all_zero (drop k l)
  zero-last = rw (zero_part l k x last, zero-end l (k + 8) (sym full), and-true)

  pub eight-start : all_zero l ≡ (eqb x 0 && all_zero l)
  eight-start = rw (zero-last, and_comm) (sym (zero_later l 0 k (omega arith)))

  module _ (i : ℕ) where
    pub eight-end : k ≤ i → (eqb x 0 && all_zero (drop i l)) ≡ eqb x 0
    eight-end h = rw zero-last (zero_later l k i h)

    module _ (w : ℕ) (here : w ≡ number_from (slice i (i + 8) l)) where
      pub eight-differ : (w ≡ x → ⊥) → (eqb x 0 && all_zero (drop i l)) ≡ false
      eight-differ h = rw (zero_part l i w here) (zero_differ w x _ h)

      pub eight-next : w ≡ x → (eqb x 0 && all_zero (drop i l)) ≡ (eqb x 0 && all_zero (drop (i + 8) l))
      eight-next e = rw (zero_part l i w here, e, ← and_assoc, and_self)

-- ---- a number whose lowest byte is b: at most `high` just if b is, and the other bytes are zero

packed : (low high b y : ℕ) (P : ℕ → Bool) → high < 256
    → (within low high b && eqb y 0 && P b) ≡ (within low high (b + 256 * y) && P (b + 256 * y))
packed low high b zero P h =
    let e : b + 256 * 0 ≡ b = omega arith in
    rw (and-true (within low high b), e)
packed low high b (suc y) P h =
    rw (within-above low high (b + 256 * suc y) (omega arith), ne_eqb (suc y) 0 (omega arith), and-false (within low high b))

packed-at : (l : List ℕ) (f t x low high : ℕ) (P : ℕ → Bool) → high < 256 → f < t → t ≤ length l → x ≡ number_from (slice f t l)
    → (within low high (get_or l f 0) && all_zero (slice (f + 1) t l) && P (get_or l f 0)) ≡ (within low high x && P x)
packed-at l f t x low high P small h k e =
    rw (e, number_more l f (f + 1) t refl h k, zero_number (slice (f + 1) t l)) (packed low high (get_or l f 0) (number_from (slice (f + 1) t l)) P small)

-- ---- entries

-- n entries, the first item at least `low`, and the zeros among and after them
abbrev pub entries_good : ℕ → ℕ → List ℕ → Bool
entries_good low n l = entries_fit low (entries_of n l) && entries_padded n l

entry_step : (low m : ℕ) (l : List ℕ) → entries_good low (suc m) l
    ≡ (within low 127 (get_or l 0 0) && all_zero (slice 1 4 l) && entries_good (suc (get_or l 0 0)) m (drop 8 l))
unfolding entries_fit entries_of entry_of entries_padded
entry_step low m l = rw (get_or-take 8 l 0 0 (omega arith), and_pairs (within low 127 (get_or l 0 0)) (entries_fit (suc (get_or l 0 0)) (entries_of m (drop 8 l))))

-- those from entry e on
abbrev pub entries_rest : ℕ → ℕ → ℕ → List ℕ → Bool
entries_rest low n e l = entries_good low (n - e) (drop (8 * e) l)

-- entry e, whose item and unused bytes are the number x
module _ (low n e : ℕ) (l : List ℕ) (x : ℕ) (h : e < n) (room : 8 * e + 4 ≤ length l) (item : x ≡ number_from (slice (8 * e) (8 * e + 4) l)) where
  entries-step : entries_rest low n e l ≡ (within low 127 x && entries_rest (x + 1) n (e + 1) l)
  entries-step =
      let left : n - e ≡ suc (n - (e + 1)) = omega arith in
      let next : 8 * e + 8 ≡ 8 * (e + 1) = omega arith in
      rw (
        left,
        entry_step low (n - (e + 1)) (drop (8 * e) l),
        get_or-drop,
        add-zero,
        part-drop,
        drop-drop,
        next,
        ← add-one (get_or l (8 * e) 0),
      ) (packed-at l (8 * e) (8 * e + 4) x low 127 (λ i. entries_rest (i + 1) n (e + 1) l) (omega arith) (omega arith) room item)

  pub entries-bad : within low 127 x ≡ false → entries_rest low n e l ≡ false
  entries-bad k = rw (entries-step, k)

  pub entries_next : within low 127 x ≡ true → entries_rest low n e l ≡ entries_rest (x + 1) n (e + 1) l
  entries_next k = rw (entries-step, k)

pub entries_end : (low n : ℕ) (l : List ℕ) → entries_rest low n n l ≡ all_zero (lent (8 * n) (length l) l)
unfolding entries_fit entries_of entries_padded
entries_end low n l = rw (sub_self n, lent-rest (8 * n) l)

-- ---- one record, whose ticket is t and whose number of writes and unused bytes are the number w

abbrev pub record_good : List ℕ → Bool
record_good l = record_fits (record_of l) && record_padded l

module _ (l : List ℕ) (t : ℕ) (ticket : t ≡ number_from (take 4 l)) where
  record_is : record_good l
      ≡ (within 1 max_ticket t && (within 1 8 (get_or l 4 0) && all_zero (slice 5 8 l) && entries_good 0 (get_or l 4 0) (lent 8 (length l) l)))
  unfolding record_fits record_of record_padded
  record_is = rw (ticket, length-entries_of, and_record, lent-rest 8 l)

  pub record-ticket : within 1 max_ticket t ≡ false → record_good l ≡ false
  record-ticket e = rw (record_is, e)

  module _ (w : ℕ) (room : 8 ≤ length l) (writes : w ≡ number_from (slice 4 8 l)) where
    record-packed : record_good l ≡ (within 1 max_ticket t && (within 1 8 w && entries_good 0 w (lent 8 (length l) l)))
    record-packed =
        rw (record_is, packed-at l 4 8 w 1 8 (λ n. entries_good 0 n (lent 8 (length l) l)) (omega arith) (omega arith) room writes)

    pub record-writes : within 1 8 w ≡ false → record_good l ≡ false
    record-writes e = rw (record-packed, e, and-false)

    pub record-entries : within 1 max_ticket t ≡ true → within 1 8 w ≡ true → record_good l ≡ entries_good 0 w (lent 8 (length l) l)
    record-entries e k = rw (record-packed, e, k)

-- ---- records

-- n records, and the zeros among and after them
abbrev pub records_good : ℕ → List ℕ → Bool
records_good n l = records_fit (records_of n l) && records_padded n l

-- those from record j on
abbrev pub records_from : ℕ → ℕ → List ℕ → List Record
records_from n j l = records_of (n - j) (drop (72 * j) l)

abbrev pub records_rest : ℕ → ℕ → List ℕ → Bool
records_rest n j l = records_good (n - j) (drop (72 * j) l)

-- record j's ticket
abbrev pub ticket_at : ℕ → List ℕ → ℕ
ticket_at j l = number_from (slice (72 * j) (72 * j + 4) l)

module _ (n j : ℕ) (l : List ℕ) (h : j < n) where
  left : n - j ≡ suc (n - (j + 1))
  left = omega arith

  next : drop 72 (drop (72 * j) l) ≡ drop (72 * (j + 1)) l
  next =
      let e : 72 * j + 72 ≡ 72 * (j + 1) = omega arith in
      rw (drop-drop, e)

  records-cons : records_from n j l ≡ record_of (take 72 (drop (72 * j) l)) ∷ records_from n (j + 1) l
  unfolding records_of
  records-cons = rw (left, next)

  records-step : records_rest n j l ≡ (record_good (lent (72 * j) (72 * j + 72) l) && records_rest n (j + 1) l)
  unfolding records_fit records_padded records_of
  records-step =
      let size : 72 * j + 72 - 72 * j ≡ 72 = omega arith in
      rw (records-cons, left, next, size, and_pairs (record_fits (record_of (take 72 (drop (72 * j) l)))) (records_fit (records_from n (j + 1) l)))

  pub records-bad : record_good (lent (72 * j) (72 * j + 72) l) ≡ false → records_rest n j l ≡ false
  records-bad e = rw (records-step, e)

  pub records-next : record_good (lent (72 * j) (72 * j + 72) l) ≡ true → records_rest n j l ≡ records_rest n (j + 1) l
  records-next e = rw (records-step, e)

  ticket_is : (record_of (take 72 (drop (72 * j) l))).ticket ≡ ticket_at j l
  unfolding record_of
  ticket_is =
      let k : 4 ≤ 72 = omega arith in
      rw (part-take, take-take)

  pub absent-found : (t : ℕ) → ticket_at j l ≡ t → ticket_absent t (records_from n j l) ≡ false
  unfolding ticket_absent
  absent-found t e = rw (records-cons, ticket_is, eq-eqb _ t e)

  pub absent-next : (t : ℕ) → (ticket_at j l ≡ t → ⊥) → ticket_absent t (records_from n j l) ≡ ticket_absent t (records_from n (j + 1) l)
  unfolding ticket_absent
  absent-next t e = rw (records-cons, ticket_is, ne_eqb _ t e)

  pub differ-twice : ticket_absent (ticket_at j l) (records_from n (j + 1) l) ≡ false → tickets_differ (records_from n j l) ≡ false
  unfolding tickets_differ
  differ-twice e = rw (records-cons, ticket_is, e)

  pub differ-next : ticket_absent (ticket_at j l) (records_from n (j + 1) l) ≡ true
      → tickets_differ (records_from n j l) ≡ tickets_differ (records_from n (j + 1) l)
  unfolding tickets_differ
  differ-next e = rw (records-cons, ticket_is, e)

module _ (n : ℕ) (l : List ℕ) where
  pub records-end : records_rest n n l ≡ all_zero (lent (72 * n) (length l) l)
  unfolding records_fit records_of records_padded
  records-end = rw (sub_self n, lent-rest (72 * n) l)

  pub absent-end : (t : ℕ) → ticket_absent t (records_from n n l) ≡ true
  unfolding ticket_absent records_of
  absent-end t = rw (sub_self n)

  pub differ-end : tickets_differ (records_from n n l) ≡ true
  unfolding tickets_differ records_of
  differ-end = rw (sub_self n)

-- ---- the header, whose slot is t

pub header_replicas : (b : List ℕ) → within 2 6 (get_or b 2 0) ≡ false → header_fits b ≡ false
unfolding header_fits
header_replicas b e = rw e

module _ (b : List ℕ) (t : ℕ) (slot : t ≡ number_from (slice 4 8 b)) where
  pub header-slot : max_slot < t → header_fits b ≡ false
  unfolding header_fits
  header-slot h = rw (← slot, lt-leb t max_slot h, and-false)

  pub header-sender : (get_or b 1 0 ≡ t % get_or b 2 0 → ⊥) → header_fits b ≡ false
  unfolding header_fits owner_of
  header-sender h = rw (← slot, ne_eqb (get_or b 1 0) (t % get_or b 2 0) h, and-false (leb t max_slot), and-false)

  pub header-rest : within 2 6 (get_or b 2 0) ≡ true → t ≤ max_slot → get_or b 1 0 ≡ t % get_or b 2 0 → header_fits b ≡ eqb (number_from (slice 8 16 b)) 0
  unfolding header_fits owner_of
  header-rest e h k =
      rw (e, ← slot, le-leb t max_slot h, eq-eqb (get_or b 1 0) (t % get_or b 2 0) k, zero_number (slice 8 16 b))

-- ---- kind k, and n records in the bytes l

abbrev pub rest_fits : ℕ → ℕ → List ℕ → Bool
rest_fits k n l = kind_fits k n && (records_good n l && tickets_differ (records_of n l))

cond_same : (a : Bool) → cond a false false ≡ false
cond_same true = refl
cond_same false = refl

module _ (k n : ℕ) (l : List ℕ) where
  pub rest-next : k ≡ 1 → n ≡ 0 → rest_fits k n l ≡ all_zero l
  unfolding kind_fits records_fit records_of records_padded tickets_differ
  rest-next e z = rw (e, z) (and-true (all_zero l))

  pub rest-none : n ≡ 0 → (k ≡ 1 → ⊥) → rest_fits k n l ≡ false
  unfolding kind_fits
  rest-none z e = rw (ne_eqb k 1 e, within-below 1 6 n (omega arith), and-false)

  pub rest-one : k ≡ 1 → (n ≡ 0 → ⊥) → rest_fits k n l ≡ false
  unfolding kind_fits
  rest-one e z = rw (e, ne_eqb n 0 z)

  pub rest-other : (k ≡ 1 → ⊥) → (k ≡ 2 → ⊥) → rest_fits k n l ≡ false
  unfolding kind_fits
  rest-other e o = rw (ne_eqb k 1 e, ne_eqb k 2 o)

  pub rest_over : 6 < n → rest_fits k n l ≡ false
  unfolding kind_fits
  rest_over h = rw (ne_eqb n 0 (omega arith), within-above 1 6 n h, and-false, cond_same)

  module _ (kind : k ≡ 2) (low : 1 ≤ n) (high : n ≤ 6) where
    rest-two : rest_fits k n l ≡ (records_good n l && tickets_differ (records_of n l))
    unfolding kind_fits
    rest-two = rw (ne_eqb k 1 (omega arith), eq-eqb k 2 kind, within_in 1 6 n low high)

    pub rest-bad : records_good n l ≡ false → rest_fits k n l ≡ false
    rest-bad e = rw (rest-two, e)

    pub rest-good : records_good n l ≡ true → rest_fits k n l ≡ tickets_differ (records_of n l)
    rest-good e = rw (rest-two, e)

-- ---- the block

pub form_length : (b : List ℕ) → (length b ≡ 512 → ⊥) → well_formed b ≡ false
unfolding well_formed
form_length b h = rw (ne_eqb (length b) 512 h)

module _ (b : List ℕ) (full : length b ≡ 512) where
  form-is : well_formed b ≡ (header_fits b && rest_fits (get_or b 0 0) (get_or b 3 0) (lent 16 504 b))
  unfolding well_formed valid message_of padded header_fits
  form-is = rw (eq-eqb (length b) 512 full, length-records_of, lent_slice 16 504 b (omega arith), and_block)

  pub form-header : header_fits b ≡ false → well_formed b ≡ false
  form-header e = rw (form-is, e)

  pub form-rest : header_fits b ≡ true → well_formed b ≡ rest_fits (get_or b 0 0) (get_or b 3 0) (lent 16 504 b)
  form-rest e = rw (form-is, e)
