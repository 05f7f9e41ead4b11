-- What a valid message's tests say of its fields. Assumes nothing.
use Prim.Native.Nat.{ℕ, zero, suc, ◌≤◌, ◌<◌}
use mathlib.Core.Path.{◌≡◌, refl}
use mathlib.Core.Bool.{Bool, true, false, cond, ◌&&◌}
use mathlib.Core.List.{List, [], ◌∷◌}
use native.Mathlib.Nat.{mod-lt, not-suc-le-zero, le_of_suc-le-suc}
use native.Mathlib.Omega.{arith}
use lib.Dec.{eqb}
use lib.ListN.{length, get_or}
use borrow.Author.Tests.{leb-true, eqb-true}
use Rattle.block.specs.Message.{Record, Message, max_ticket, max_slot, owner_of, within, kind_fits, entries_fit, record_fits, records_fit, valid}
use Rattle.block.proofs.BoolLaws.{both, Within, is_within}

pub record RecordFacts (r : Record) : Type 0 where
  pub ticket : Within 1 max_ticket r.ticket
  pub writes : Within 1 8 (length r.entries)
  pub fit : entries_fit 0 r.entries ≡ true

pub record_facts : (r : Record) → record_fits r ≡ true → RecordFacts r
unfolding record_fits
record_facts r h =
    let a = both _ _ h in
    let b = both _ _ a.right in
    record { ticket = is_within _ _ _ a.left; writes = is_within _ _ _ b.left; fit = b.right }

pub record KindFacts (k n : ℕ) : Type 0 where
  pub kind : k ≤ 2
  pub count : n ≤ 6

pub kind_facts : (k n : ℕ) → kind_fits k n ≡ true → KindFacts k n
unfolding kind_fits
kind_facts k n h = by-test (eqb k 1) (λ e. eqb-true k 1 e) h
  where
    by-test : (t : Bool) → (t ≡ true → k ≡ 1) → cond t (eqb n 0) (eqb k 2 && within 1 6 n) ≡ true → KindFacts k n
    by-test true is_one e = let a = is_one refl in let b = eqb-true n 0 e in record { kind = omega arith; count = omega arith }
    by-test false is_one e =
        let a = both _ _ e in
        let b = eqb-true k 2 a.left in
        record { kind = omega arith; count = (is_within _ _ _ a.right).below }

pub record MessageFacts (m : Message) : Type 0 where
  pub kinds : KindFacts m.kind (length m.records)
  pub replicas : Within 2 6 m.replicas
  pub slot : m.slot ≤ max_slot
  pub sender : m.sender ≡ owner_of m.replicas m.slot
  pub records : records_fit m.records ≡ true

pub message_facts : (m : Message) → valid m ≡ true → MessageFacts m
unfolding valid
message_facts m h =
    let a = both _ _ h in
    let b = both _ _ a.right in
    let c = both _ _ b.right in
    let d = both _ _ c.right in
    record {
      kinds = kind_facts _ _ a.left;
      replicas = is_within _ _ _ b.left;
      slot = leb-true _ _ c.left;
      sender = eqb-true _ _ d.left;
      records = (both _ _ d.right).left;
    }

pub sender_small : (m : Message) → MessageFacts m → m.sender < 6
unfolding owner_of
sender_small m f = omega (arith, mod-lt m.slot {m = m.replicas} (omega arith))

-- each record of a list that fits
pub record_facts_at : (rs : List Record) (j : ℕ) (d : Record) → records_fit rs ≡ true → j < length rs → RecordFacts (get_or rs j d)
unfolding records_fit
record_facts_at [] j d h k = absurd (not-suc-le-zero k)
record_facts_at (r ∷ rs) zero d h k = record_facts r (both _ _ h).left
record_facts_at (r ∷ rs) (suc j) d h k = record_facts_at rs j d (both (record_fits r) (records_fit rs) h).right (le_of_suc-le-suc k)
