-- A write that no early refusal meets is that of an active transaction; and each answer of that, from the tests that lead to it. Assumes nothing.
use Prim.Native.Nat.{ℕ, suc, ◌+◌, ◌*◌, ◌-◌, ◌≤◌, ◌<◌, min}
use mathlib.Core.Path.{◌≡◌, refl, sym, ap, ◌∙◌}
use mathlib.Core.Bool.{Bool, true, false, cond, not, ◌&&◌}
use mathlib.Core.List.{List, [], ◌∷◌, ◌++◌}
use native.Mathlib.Omega.{arith}
use borrow.Rule.Slice.PartMut.{put_mid}
use borrow.Author.Tests.{eqb-true, eq-eqb, ne_eqb, lt-ltb, le-ltb, lt-leb, le-leb}
use lib.Dec.{eqb, leb}
use lib.IntN.{ℤ}
use lib.ListN.{length, get_or, set, drop, length-take}
use lib.Seq.{slice}
use Rattle.block.specs.Answers.{Refusal, refuse, first_of}
use Rattle.block.proofs.BoolLaws.{both}
use Rattle.block.proofs.ListLaws.{lent, lent_slice}
use Rattle.memory.specs.declared.Txn.{Txn}
use Rattle.memory.specs.Memory.{Memory, with_txns}
use Rattle.memory.specs.Rows.{row_at, index_of, count_below, shift_in}
use Rattle.memory.proofs.RowLaws.{below-within, insert-back}
use Rattle.engine.specs.Answers.{Outcome, outcome, unless}
use Rattle.engine.specs.Answers.Answer.{refused, wrote}
use Rattle.engine.specs.Classes.{must_wait}
use Rattle.engine.specs.Client.{write_lent, early_refusals, late_refusals, is_own, held_by_other, is_stale, is_full, write_refusal, rewrite_at, insert_write, stale_at, write_row}
use Rattle.engine.proofs.Tests.{bool_by, less_by, not_first}
use Rattle.call_reply.specs.declared.faults.Fault.{Fault}
use Rattle.call_reply.specs.declared.faults.Fault.TheVariants.{Stale}
use Rattle.call_reply.specs.Faults.{fault_number}
use Rattle.call_reply.proofs.FaultLaws.{fault_some}
use Rattle.call_write.specs.Parts.{Inserted, inserted, insert_in, write_active}

-- the last three refusals, where the item is not the transaction's own
last_three : Bool → Bool → Bool → Bool → ℕ
last_three own stale held full = first_of (cond own [] (refuse 9 stale ∷ refuse 8 held ∷ refuse 10 full ∷ []))

-- by the numbers or by the tests: the same outcome
by_cases : (m : Memory) (own stale held full : Bool) (rewritten ended added : Outcome)
    → cond (eqb (last_three own stale held full) 9) ended (unless (last_three own stale held full) m (cond own rewritten added))
    ≡ cond own rewritten (cond stale ended (cond held (outcome (refused 8) m) (cond full (outcome (refused 10) m) added)))
unfolding last_three first_of
by_cases m true s h f a b c = refl
by_cases m false true h f a b c = refl
by_cases m false false true f a b c = refl
by_cases m false false false true a b c = refl
by_cases m false false false false a b c = refl

module _ (m : Memory) (r item : ℕ) (value : ℤ) (lengths : write_lent m ≡ true) (there : r < 6) (low : item < 128)
    (active : (row_at m.txns.table r).stage ≡ 0) where
  pub write-waits : must_wait m item ≡ true → write_row m r item value ≡ outcome (refused 7) m
  unfolding write_row write_refusal first_of
  write-waits waits = rw (lengths, lt-leb 128 item low, lt-leb 6 r there, active, waits)

  module _ (free : must_wait m item ≡ false) where
    past : write_refusal m r item ≡ last_three (is_own m r item) (is_stale m r item) (held_by_other m r item) (is_full m r)
    unfolding write_refusal first_of last_three
    past = rw (lengths, lt-leb 128 item low, lt-leb 6 r there, active, free)

    pub write-active : write_row m r item value ≡ write_active m r item value
    unfolding write_row write_active
    write-active = rw past (by_cases m _ _ _ _ _ _ _)

-- what the first refusals say, where one holds, all say
first-early : (early rest : List Refusal) (k : ℕ) → k ≡ first_of early → (k ≡ 0 → ⊥) → first_of (early ++ rest) ≡ k
unfolding first_of
first-early [] rest k e some = absurd (some e)
first-early (r ∷ early) rest k e some =
    bool_by r.holds (λ h. rw h (sym (rw h at e))) (λ h. rw h (first-early early rest k (rw h at e) some))

-- the first refusals, by the stage of the row's record
abbrev pub by_stage : Bool → ℕ → ℕ → ℕ → List Refusal
by_stage lent item r stage = refuse 1 (not lent) ∷ refuse 2 (leb 128 item) ∷ refuse 3 (leb 6 r) ∷ refuse 4 (not (eqb stage 0)) ∷ []

-- the stage is looked at only where there is a row
pub same_stage : (lent : Bool) (item r s s' : ℕ) → (r < 6 → s ≡ s') → first_of (by_stage lent item r s) ≡ first_of (by_stage lent item r s')
unfolding first_of
same_stage lent item r s s' e = less_by r 6 (λ h. rw (e h)) (λ h. rw (le-leb 6 r h))

module _ (f : Fault) (lent : Bool) (item r s : ℕ) (early : fault_number f ≡ first_of (by_stage lent item r s)) where
  not_nine : fault_number f ≡ 9 → ⊥
  not_nine z = not_first 9 (by_stage lent item r s) refl (sym early ∙ z)

  pub not_stale : f ≡ Stale → ⊥
  not_stale z = not_nine (ap fault_number z)

pub write-early : (m : Memory) (r item : ℕ) (value : ℤ) (f : Fault) → fault_number f ≡ first_of (early_refusals (write_lent m) m r item)
    → outcome (refused (fault_number f)) m ≡ write_row m r item value
unfolding write_row write_refusal
write-early m r item value f early =
    rw (
      first-early (early_refusals (write_lent m) m r item) (refuse 7 (must_wait m item) ∷ late_refusals m r item) (fault_number f) early (fault_some f),
      ne_eqb (fault_number f) 9 (not_nine f (write_lent m) item r (row_at m.txns.table r).stage early),
      ne_eqb (fault_number f) 0 (fault_some f),
    )

-- what the lengths are where they fit
pub fits_long : (i w s c p n : ℕ) → (eqb i 48 && eqb w 48 && (eqb s 128 && (eqb c 128 && eqb p n))) ≡ true → (i ≡ 48) × (w ≡ 48) × (s ≡ 128)
fits_long i w s c p n h =
    let a = both (eqb i 48 && eqb w 48) (eqb s 128 && (eqb c 128 && eqb p n)) h in
    let b = both (eqb i 48) (eqb w 48) a.left in
    let d = both (eqb s 128) (eqb c 128 && eqb p n) a.right in
    (eqb-true i 48 b.left, eqb-true w 48 b.right, eqb-true s 128 d.left)

-- ---- at the row

module _ (m : Memory) (r item : ℕ) (value : ℤ) (n k : ℕ) (count : n ≡ min (row_at m.txns.table r).writes 8)
    (index : k ≡ index_of item (lent (8 * r) (8 * r + n) m.txns.items)) where
  place : k ≡ index_of item (slice (8 * r) (8 * r + n) m.txns.items)
  place = index ∙ ap (index_of item) (lent_slice (8 * r) (8 * r + n) m.txns.items (omega arith))

  pub write-mine : k < n → rewrite_at m r k value ≡ write_active m r item value
  unfolding write_active
  write-mine h = rw (← count, ← place, lt-ltb k n h)

  module _ (new : n ≤ k) where
    pub write-stale : (row_at m.txns.table r).snapshot < get_or m.store.stamps item 0 → stale_at m r ≡ write_active m r item value
    unfolding write_active
    write-stale h = rw (← count, ← place, le-ltb k n new, lt-ltb (row_at m.txns.table r).snapshot (get_or m.store.stamps item 0) h)

    module _ (newer : get_or m.store.stamps item 0 ≤ (row_at m.txns.table r).snapshot) (held : Bool) (holder : held ≡ held_by_other m r item) where
      pub write-held : held ≡ true → outcome (refused 8) m ≡ write_active m r item value
      unfolding write_active
      write-held h = rw (← count, ← place, le-ltb k n new, le-ltb (row_at m.txns.table r).snapshot (get_or m.store.stamps item 0) newer, ← holder, h)

      module _ (none : held ≡ false) where
        pub write-full : n ≡ 8 → outcome (refused 10) m ≡ write_active m r item value
        unfolding write_active
        write-full e = rw (← count, ← place, le-ltb k n new, le-ltb (row_at m.txns.table r).snapshot (get_or m.store.stamps item 0) newer, ← holder, none, eq-eqb n 8 e)

        -- o' is what table, items and values became
        pub write_new : (n ≡ 8 → ⊥) → (o' : Inserted) → o' ≡ insert_in m.txns.table m.txns.items m.txns.writes r item value
            → outcome wrote (with_txns m m.counts (record { table = o'.table; queue = m.txns.queue; items = o'.items; writes = o'.writes; snapshots = m.txns.snapshots }))
            ≡ write_active m r item value
        unfolding write_active insert_write insert_in
        write_new e o' q =
            rw (q, ← count, ← place, le-ltb k n new, le-ltb (row_at m.txns.table r).snapshot (get_or m.store.stamps item 0) newer, ← holder, none, ne_eqb n 8 e)

-- ---- a new item: it stands among the row's n items or behind them

pub below-lent : (x f n : ℕ) (l : List ℕ) → count_below x (lent f (f + n) l) 0 ≤ n
below-lent x f n l = omega (arith, below-within x (lent f (f + n) l) 0, length-take (f + n - f) (drop f l))

-- what `insert` leaves; is and ws are what the lent parts became
pub insert_made : (table : List Txn) (items : List ℕ) (writes : List ℤ) (r item : ℕ) (value : ℤ) (n p : ℕ) (is : List ℕ) (ws : List ℤ)
    → n ≡ min (row_at table r).writes 8 → p ≡ count_below item (lent (8 * r) (8 * r + n) items) 0 → 8 * r + n < length items → 8 * r + n < length writes
    → is ≡ shift_in item (lent (8 * r + p) (8 * r + n + 1) items) → ws ≡ shift_in value (lent (8 * r + p) (8 * r + n + 1) writes)
    → inserted
    (set table r (record { ticket = (row_at table r).ticket; stage = (row_at table r).stage; snapshot = (row_at table r).snapshot; writes = n + 1 }))
    (put_mid (8 * r + p) (8 * r + n + 1 - (8 * r + p)) items is)
    (put_mid (8 * r + p) (8 * r + n + 1 - (8 * r + p)) writes ws)
    ≡ insert_in table items writes r item value
unfolding insert_in
insert_made table items writes r item value n p is ws count place h g i w =
    let b : p ≤ n = omega (arith, below-lent item (8 * r) n items) in
    let k : 8 * r + n + 1 - (8 * r + p) ≡ suc (n - p) = omega arith in
    rw (
      i,
      w,
      insert-back items (8 * r + p) (n - p) (8 * r + n + 1 - (8 * r + p)) k (omega arith) item,
      insert-back writes (8 * r + p) (n - p) (8 * r + n + 1 - (8 * r + p)) k (omega arith) value,
      ← count,
      ← lent_slice (8 * r) (8 * r + n) items (omega arith),
      ← place,
    )
