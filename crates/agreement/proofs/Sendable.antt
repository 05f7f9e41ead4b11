-- The message that a send hands out is one that a block can carry. Assumes nothing.
use Prim.Native.Nat.{ℕ, suc, ◌+◌, ◌*◌, ◌≤◌, ◌<◌}
use mathlib.Core.Path.{◌≡◌, refl, sym, ap, ◌∙◌}
use mathlib.Core.Bool.{true, false, cond, not}
use mathlib.Core.List.{List, [], ◌∷◌, map}
use native.Mathlib.Omega.{arith}
use lib.Dec.{eqb}
use lib.IntN.{ℤ, pos}
use lib.ListN.{length, get_or, length-map}
use lib.Seq.{slice, length-slice}
use borrow.Author.Tests.{eqb-true, eqb-false, eq-eqb, ne_eqb, le-leb, leb-false, not-false}
use Rattle.block.specs.Message.{Record, max_ticket, max_slot, owner_of, kind_fits, entries_fit, record_fits, records_fit, ticket_absent, tickets_differ, valid, signed32, values_fit, all_values_fit}
use Rattle.block.specs.Theorems.{Sendable}
use Rattle.block.specs.Writing.{entries_from}
use Rattle.block.proofs.BoolLaws.{joined}
use Rattle.block.proofs.FormLaws.{within_in}
use Rattle.block.proofs.ListLaws.{get_or-slice}
use Rattle.block.proofs.WriteLaws.{length_entries}
use Rattle.memory.specs.declared.Txn.{Txn}
use Rattle.memory.specs.Memory.{Transactions, Memory, slot_limit}
use Rattle.memory.specs.Turns.{is_on}
use Rattle.memory.specs.Rows.{row_of, row_at, write_count}
use Rattle.engine.specs.Moves.{out_at_turn, waiting, writeset_of, message_for, send_refusal}
use Rattle.engine.specs.Shape.{RowShape, Shape}
use Rattle.engine.proofs.Tests.{bool_by, passes}
use Rattle.engine.proofs.QueueLaws.{length-waiting, waiting-at}
use Rattle.engine.proofs.RowLaws.{FoundRow, row-found}
use Rattle.agreement.proofs.View.{Sound}

-- ---- what the tests say where a send is not refused

pub record SendPassed (m : Memory) : Type 0 where
  pub slot : m.turn.slot < slot_limit
  pub owner : owner_of m.group.replicas m.turn.slot ≡ m.group.own
  pub live : out_at_turn m ≡ false
  pub unsent : is_on m.turn.sent ≡ false

pub send_passed : (m : Memory) (b : List ℕ) → send_refusal m b ≡ 0 → SendPassed m
unfolding send_refusal
send_passed m b e =
    let a = passes _ _ refl e in
    let s = passes _ _ refl a.1 in
    let o = passes _ _ refl s.1 in
    let l = passes _ _ refl o.1 in
    let u = passes _ _ refl l.1 in
    record { slot = leb-false slot_limit m.turn.slot s.0; owner = eqb-true _ _ (not-false _ o.0); live = l.0; unsent = u.0 }

-- ---- tests that hold

kind_fits_lem : (n : ℕ) → n ≤ 6 → kind_fits (cond (eqb n 0) 1 2) n ≡ true
unfolding kind_fits
kind_fits_lem n h = bool_by (eqb n 0) (λ e. rw e refl) (λ e. rw e (within_in 1 6 n (omega (arith, eqb-false n 0 e)) h))

-- items that rise, each at least `low` and below 128
entries_fit_lem : (low : ℕ) (is : List ℕ) (vs : List ℤ) → ((k : ℕ) → k < length is → low ≤ get_or is k 0) → ((k : ℕ) → k < length is → get_or is k 0 < 128)
    → ((j k : ℕ) → j < k → k < length is → get_or is j 0 < get_or is k 0) → entries_fit low (entries_from is vs) ≡ true
unfolding entries_fit entries_from
entries_fit_lem low [] vs above below rises = refl
entries_fit_lem low (i ∷ is) [] above below rises = refl
entries_fit_lem low (i ∷ is) (v ∷ vs) above below rises =
    joined (within_in low 127 i (above 0 (omega arith)) (omega (arith, below 0 (omega arith))))
    (entries_fit_lem (suc i) is vs (λ k h. rises 0 (suc k) (omega arith) (omega arith)) (λ k h. below (suc k) (omega arith))
    (λ j k h u. rises (suc j) (suc k) (omega arith) (omega arith)))

values-fit : (is : List ℕ) (vs : List ℤ) → ((k : ℕ) → k < length vs → signed32 (get_or vs k (pos 0)) ≡ true) → values_fit (entries_from is vs) ≡ true
unfolding values_fit entries_from
values-fit [] vs f = refl
values-fit (i ∷ is) [] f = refl
values-fit (i ∷ is) (v ∷ vs) f = joined (f 0 (omega arith)) (values-fit is vs (λ k h. f (suc k) (omega arith)))

-- ---- a record for each ticket of a list

module _ (f : ℕ → Record) where
  records_fit_lem : (w : List ℕ) → ((k : ℕ) → k < length w → record_fits (f (get_or w k 0)) ≡ true) → records_fit (map f w) ≡ true
  unfolding records_fit
  records_fit_lem [] h = refl
  records_fit_lem (t ∷ ts) h = joined (h 0 (omega arith)) (records_fit_lem ts (λ k u. h (suc k) (omega arith)))

  all_fit : (w : List ℕ) → ((k : ℕ) → k < length w → values_fit (f (get_or w k 0)).entries ≡ true) → all_values_fit (map f w) ≡ true
  unfolding all_values_fit
  all_fit [] h = refl
  all_fit (t ∷ ts) h = joined (h 0 (omega arith)) (all_fit ts (λ k u. h (suc k) (omega arith)))

  module _ (is : (t : ℕ) → (f t).ticket ≡ t) where
    ticket-absent : (t : ℕ) (w : List ℕ) → ((k : ℕ) → k < length w → t ≡ get_or w k 0 → ⊥) → ticket_absent t (map f w) ≡ true
    unfolding ticket_absent
    ticket-absent t [] h = refl
    ticket-absent t (u ∷ us) h =
        joined (ap not (ne_eqb (f u).ticket t (λ e. h 0 (omega arith) (sym e ∙ is u)))) (ticket-absent t us (λ k l. h (suc k) (omega arith)))

    tickets-differ : (w : List ℕ) → ((j k : ℕ) → j < k → k < length w → get_or w j 0 ≡ get_or w k 0 → ⊥) → tickets_differ (map f w) ≡ true
    unfolding tickets_differ
    tickets-differ [] h = refl
    tickets-differ (t ∷ ts) h =
        let a : ticket_absent (f t).ticket (map f ts) ≡ true = rw (is t) (ticket-absent t ts (λ k l. h 0 (suc k) (omega arith) (omega arith))) in
        joined a (tickets-differ ts (λ j k l u. h (suc j) (suc k) (omega arith) (omega arith)))

-- ---- the writesets of the tickets that wait

module _ {over : ℕ} (m : Memory) (S : Shape over m) where
  abbrev x : Transactions
  x = m.txns

  abbrev table : List Txn
  table = m.txns.table

  abbrev line : List ℕ
  line = waiting m.txns.queue

  -- each has an asked row
  pub asked-row : (k : ℕ) → k < length line → (row_of (get_or line k 0) table < 6) × ((row_at table (row_of (get_or line k 0) table)).stage ≡ 1)
  asked-row k h = rw (waiting-at m.txns.queue k h) (S.queue.asked k h)

  line-once : (j k : ℕ) → j < k → k < length line → get_or line j 0 ≡ get_or line k 0 → ⊥
  line-once j k h u = rw (waiting-at m.txns.queue j (omega arith), waiting-at m.txns.queue k u) (S.queue.once j k h u)

  module _ (t : ℕ) (h : row_of t table < 6) (asked : (row_at table (row_of t table)).stage ≡ 1) where
    abbrev r : ℕ
    r = row_of t table

    abbrev count : ℕ
    count = write_count (row_at table r)

    abbrev its : List ℕ
    its = slice (8 * r) (8 * r + count) x.items

    abbrev values : List ℤ
    values = slice (8 * r) (8 * r + count) x.writes

    row : RowShape m r
    row = S.rows r h

    its-long : length its ≡ count
    its-long = length-slice (8 * r) (8 * r + count) x.items (omega (arith, S.lengths.items)) ∙ omega arith

    values-long : length values ≡ count
    values-long = length-slice (8 * r) (8 * r + count) x.writes (omega (arith, S.lengths.writes)) ∙ omega arith

    item-at : (k : ℕ) → k < length its → get_or its k 0 ≡ get_or x.items (8 * r + k) 0
    item-at k l = get_or-slice x.items 0 (8 * r) (8 * r + count) k (8 * r + k) refl (omega (arith, its-long))

    writeset-fits : record_fits (writeset_of x t) ≡ true
    unfolding record_fits writeset_of
    writeset-fits =
        let f : FoundRow t table = row-found t table S.lengths.table h in
        joined (within_in 1 max_ticket t (omega (arith, f.some)) (omega (arith, f.is, row.given, S.ranges.tickets)))
        (joined (within_in 1 8 (length (entries_from its values))
        (omega (arith, length_entries its values (values-long ∙ sym its-long), its-long, row.some (omega (arith, asked))))
        (omega (arith, length_entries its values (values-long ∙ sym its-long), its-long)))
        (entries_fit_lem 0 its values (λ k l. omega arith) (λ k l. rw (item-at k l) (row.items k (omega (arith, its-long))))
        (λ j k l u. rw (item-at j (omega arith), item-at k u) (row.rising j k l (omega (arith, its-long))))))

    writeset-values : ((i : ℕ) → signed32 (get_or x.writes i (pos 0)) ≡ true) → values_fit (writeset_of x t).entries ≡ true
    unfolding writeset_of
    writeset-values f =
        values-fit its values (λ k l.
        rw (get_or-slice x.writes (pos 0) (8 * r) (8 * r + count) k (8 * r + k) refl (omega (arith, values-long))) (f (8 * r + k)))

writeset-ticket : (x : Transactions) (t : ℕ) → (writeset_of x t).ticket ≡ t
unfolding writeset_of
writeset-ticket x t = refl

pub sendable : (n : ℕ) (m : Memory) → Sound n m → (b : List ℕ) → send_refusal m b ≡ 0 → Sendable (message_for m)
unfolding valid message_for
sendable n m s b e =
    let S = s.shape in
    let p = send_passed m b e in
    let w = waiting m.txns.queue in
    let f = writeset_of m.txns in
    let k : kind_fits (cond (eqb (length w) 0) 1 2) (length (map f w)) ≡ true =
    rw (length-map w f) (kind_fits_lem (length w) (omega (arith, length-waiting m.txns.queue, S.lengths.queue))) in
    record {
      fields = joined k
          (joined (within_in 2 6 m.group.replicas S.ranges.least S.ranges.most)
          (joined (le-leb m.turn.slot max_slot (omega (arith, p.slot)))
          (joined (eq-eqb m.group.own _ (sym p.owner))
          (joined (records_fit_lem f w (λ k h. let a = asked-row m S k h in writeset-fits m S (get_or w k 0) a.0 a.1))
          (tickets-differ f (writeset-ticket m.txns) w (line-once m S))))));
      values = all_fit f w (λ k h. let a = asked-row m S k h in writeset-values m S (get_or w k 0) a.0 a.1 s.fits);
    }
