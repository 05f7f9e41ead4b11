-- What a call's tests say where it is not refused. Assumes nothing.
use Prim.Native.Nat.{ℕ, ◌+◌, ◌*◌, ◌≤◌, ◌<◌}
use mathlib.Core.Path.{◌≡◌, refl, ◌∙◌}
use mathlib.Core.Bool.{Bool, true, false, cond, not, ◌&&◌, ◌||◌}
use mathlib.Core.List.{List}
use native.Mathlib.Omega.{arith}
use lib.Dec.{eqb, ltb, leb}
use lib.IntN.{ℤ}
use lib.ListN.{length, get_or, get_or-eq_default}
use lib.Seq.{length-slice}
use borrow.Author.Tests.{eqb-true, eqb-false, eq-eqb, ltb-false, leb-false, not-false}
use Rattle.block.proofs.AnswerLaws.{not_refused}
use Rattle.block.proofs.BoolLaws.{Both, both, is_within}
use Rattle.block.specs.Answers.{block_refusal, header_of}
use Rattle.block.specs.Message.{owner_of, within, max_ticket}
use Rattle.memory.specs.Memory.{Memory, span, slot_limit, window_bytes, queue_lent, items_lent, values_lent, stamps_lent, places_lent}
use Rattle.memory.specs.Notices.{Notice, is_out}
use Rattle.memory.specs.Rows.{free_row, write_count}
use Rattle.memory.specs.Turns.{place_start, is_empty}
use Rattle.engine.specs.Classes.{load_refusal}
use Rattle.engine.specs.Client.{free_no, row_no, row_in, is_own, no_row, not_active, held_by_other, begin_refusal, write_refusal, ask_refusal, withdraw_refusal}
use Rattle.engine.specs.Moves.{out_at_turn, sent_already, send_refusal, same_bytes, is_own_block, deliver_refusal, block_at_turn, work_refusal}
use Rattle.engine.specs.Notices.{placed_from, sent_from, bars_out, bars_back, notice_refusal}
use Rattle.engine.specs.Make.{SettingOf, places_fit, slices_fit, parts_fit, size_out, make_refusal}
use Rattle.engine.specs.Restart.{restart_refusal}
use Rattle.engine.proofs.Tests.{bool_by, less_by, clash, passes}
use Rattle.engine.proofs.PlaceLaws.{place-fits}
use Rattle.engine.proofs.Steps.{Awaited}

-- two tests joined, where their joint denial does not hold
both_so : (a b : Bool) → not (a && b) ≡ false → Both a b
both_so a b h = both a b (not-false (a && b) h)

-- ---- begin

pub record BeginPassed (m : Memory) : Type 0 where
  pub values : length m.store.values ≡ 128
  pub snapshots : length m.txns.snapshots ≡ 768
  pub row : free_row m.txns.table < 6
  pub tickets : m.counts.tickets < max_ticket

pub begin_passed : (m : Memory) → begin_refusal m (free_no m) ≡ 0 → BeginPassed m
unfolding begin_refusal
begin_passed m e =
    let a = passes _ _ refl e in
    let b = passes _ _ refl a.1 in
    let c = passes _ _ refl b.1 in
    let l = both_so _ _ a.0 in
    record {
      values = eqb-true _ _ l.left;
      snapshots = eqb-true _ _ l.right;
      row = leb-false 6 _ b.0;
      tickets = leb-false max_ticket _ c.0;
    }

-- ---- the calls of an active transaction

-- the ticket's row
pub record RowPassed (m : Memory) (t : ℕ) : Type 0 where
  pub row : row_no m t < 6
  pub active : (row_in m (row_no m t)).stage ≡ 0

pub row-passed : (m : Memory) (t : ℕ) → no_row (row_no m t) ≡ false → not_active m (row_no m t) ≡ false → RowPassed m t
row-passed m t a b = record { row = leb-false 6 (row_no m t) a; active = eqb-true (row_in m (row_no m t)).stage 0 (not-false _ b) }

pub record WritePassed (m : Memory) (t i : ℕ) : Type 0 where
  pub items : length m.txns.items ≡ 48
  pub writes : length m.txns.writes ≡ 48
  pub item : i < 128
  pub own : RowPassed m t
  pub unheld : is_own m (row_no m t) i ≡ false → held_by_other m (row_no m t) i ≡ false
  pub room : is_own m (row_no m t) i ≡ false → write_count (row_in m (row_no m t)) < 8

pub write_passed : (m : Memory) (t i : ℕ) → write_refusal m (row_no m t) i ≡ 0 → WritePassed m t i
unfolding write_refusal
write_passed m t i e =
    let a = passes _ _ refl e in
    let b = passes _ _ refl a.1 in
    let c = passes _ _ refl b.1 in
    let d = passes _ _ refl c.1 in
    let f = passes _ _ refl d.1 in
    let k = both _ _ (both_so _ _ a.0).left in
    record {
      items = eqb-true _ _ k.left;
      writes = eqb-true _ _ k.right;
      item = leb-false 128 i b.0;
      own = row-passed m t c.0 d.0;
      unheld = λ o. (passes _ _ refl (passes _ _ refl (rw o at f.1)).1).0;
      room = λ o. let g = passes _ _ refl (rw o at f.1) in
          let h = passes _ _ refl g.1 in
          let j = passes _ _ refl h.1 in
          omega (arith, eqb-false (write_count (row_in m (row_no m t))) 8 j.0);
    }

pub stale-passed : (m : Memory) (t i : ℕ) → write_refusal m (row_no m t) i ≡ 9 → RowPassed m t
unfolding write_refusal
stale-passed m t i e =
    let a = passes _ _ refl e in
    let b = passes _ _ refl a.1 in
    let c = passes _ _ refl b.1 in
    let d = passes _ _ refl c.1 in
    row-passed m t c.0 d.0

pub ask_passed : (m : Memory) (t : ℕ) → ask_refusal m (row_no m t) ≡ 0 → RowPassed m t
unfolding ask_refusal
ask_passed m t e =
    let a = passes _ _ refl e in
    let b = passes _ _ refl a.1 in
    row-passed m t b.0 (passes _ _ refl b.1).0

pub withdraw_passed : (m : Memory) (t : ℕ) → withdraw_refusal m (row_no m t) ≡ 0 → RowPassed m t
unfolding withdraw_refusal
withdraw_passed m t e =
    let a = passes _ _ refl e in
    row-passed m t a.0 (passes _ _ refl a.1).0

pub neither : (a b : Bool) → a || b ≡ false → (a ≡ false) × (b ≡ false)
neither true b h = clash {b = true} refl h
neither false b h = (refl, h)

-- ---- send

pub record SendPassed (m : Memory) : Type 0 where
  pub slot : m.turn.slot < slot_limit
  pub owner : owner_of m.group.replicas m.turn.slot ≡ m.group.own
  pub live : out_at_turn m ≡ false
  pub unsent : sent_already m ≡ false

pub send_passed : (m : Memory) (b : List ℕ) → send_refusal m b ≡ 0 → SendPassed m
unfolding send_refusal
send_passed m b e =
    let a = passes _ _ refl e in
    let s = passes _ _ refl a.1 in
    let o = passes _ _ refl s.1 in
    let l = passes _ _ refl o.1 in
    let u = passes _ _ refl l.1 in
    record { slot = leb-false slot_limit m.turn.slot s.0; owner = eqb-true _ _ (not-false _ o.0); live = l.0; unsent = u.0 }

-- ---- deliver

pub record DeliverPassed (m : Memory) (b : List ℕ) : Type 0 where
  pub places : length m.blocks.places ≡ 512 * m.group.replicas
  pub long : length b ≡ 512
  pub taken : block_refusal b ≡ 0
  pub replicas : (header_of b).replicas ≡ m.group.replicas
  pub low : m.turn.slot ≤ (header_of b).slot
  pub live : is_out m.group (header_of b).slot ≡ false
  pub high : (header_of b).slot < m.turn.slot + m.group.replicas
  -- an own block is the one sent, byte for byte
  pub own : (header_of b).sender ≡ m.group.own → (sent_already m ≡ true) × (same_bytes b m.blocks.outbox ≡ true)
  pub empty : is_empty m.group.replicas (header_of b).slot m.blocks.places ≡ true

only_right : (a b : Bool) → a && not b ≡ false → a ≡ true → b ≡ true
only_right true b h e = not-false b h
only_right false b h e = clash {b = false} e refl

-- whichever of its two tests comes first
own_block : (m : Memory) (b : List ℕ) → is_own_block m b ≡ true → (sent_already m ≡ true) × (same_bytes b m.blocks.outbox ≡ true)
own_block m b h =
    bool_by (sent_already m)
    (λ s. bool_by (same_bytes b m.blocks.outbox) (λ e. (s, e)) (λ e. clash {b = is_own_block m b} h (simp (s, e))))
    (λ s. bool_by (same_bytes b m.blocks.outbox) (λ e. clash {b = is_own_block m b} h (simp (s, e))) (λ e. clash {b = is_own_block m b} h (simp (s, e))))

pub deliver_passed : (m : Memory) (b : List ℕ) → deliver_refusal m b ≡ 0 → DeliverPassed m b
unfolding deliver_refusal
deliver_passed m b e =
    let p = passes _ _ refl e in
    let q = passes _ _ refl p.1 in
    let r = passes _ _ refl q.1 in
    let s = passes _ _ refl r.1 in
    let t = passes _ _ refl s.1 in
    let o = passes _ _ refl t.1 in
    let u = passes _ _ refl o.1 in
    let v = passes _ _ refl u.1 in
    let w = passes _ _ refl v.1 in
    let l = both_so _ _ p.0 in
    let long = eqb-true (length b) 512 (both (eqb (length m.blocks.outbox) 512) (eqb (length b) 512) l.right).right in
    record {
      places = eqb-true _ _ l.left;
      long = long;
      taken = not_refused b (record { long = long; checks = not-false _ q.0; forms = not-false _ r.0 });
      replicas = eqb-true _ _ (not-false _ s.0);
      low = ltb-false _ _ t.0;
      live = o.0;
      high = leb-false _ _ u.0;
      own = λ q. own_block m b (only_right _ (is_own_block m b) v.0 (eq-eqb (header_of b).sender m.group.own q));
      empty = not-false _ w.0;
    }

-- ---- work

pub record WorkLent (m : Memory) : Type 0 where
  pub places : length m.blocks.places ≡ 512 * m.group.replicas
  pub window : length m.blocks.window ≡ window_bytes

pub work_lent : (m : Memory) → work_refusal m ≡ 0 → WorkLent m
unfolding work_refusal
work_lent m e =
    let a = both_so (places_lent m) _ (passes _ _ refl e).0 in
    let b = both (items_lent m) _ a.right in
    let c = both (queue_lent m) _ b.right in
    let d = both (values_lent m) _ c.right in
    let f = both (stamps_lent m) _ d.right in
    record { places = eqb-true _ _ a.left; window = eqb-true _ _ f.right }

-- a block waits at the turn
pub work_passed : (m : Memory) → Awaited m → is_empty m.group.replicas m.turn.slot m.blocks.places ≡ false
unfolding work_refusal
work_passed m a = let e = (passes _ _ refl (passes _ _ refl a.passed).1).0 in rw a.live at e

-- of 512 bytes: with no replicas there would be no place, and none waits
pub work_long : (m : Memory) → Awaited m → length (block_at_turn m) ≡ 512
work_long m a =
    let n = m.group.replicas in
    let s = m.turn.slot in
    let l = (work_lent m a.passed).places in
    less_by 0 n
    (λ h. let f = place-fits n s h in length-slice (place_start n s) (place_start n s + 512) m.blocks.places (omega arith) ∙ omega arith)
    (λ h. clash (eq-eqb _ 0 (get_or-eq_default m.blocks.places 0 (omega arith))) (work_passed m a))

-- ---- notice

pub record NoticePassed (m : Memory) (a : Notice) : Type 0 where
  pub about : a.about < m.group.replicas
  pub range : a.slot < slot_limit
  -- the turn is not above its slot
  pub turn : m.turn.slot ≤ a.slot
  pub bars : cond a.out (bars_out m a) (bars_back m a) ≡ false

pub notice_passed : (m : Memory) (a : Notice) → notice_refusal m a ≡ 0 → NoticePassed m a
unfolding notice_refusal
notice_passed m a e =
    let p = passes _ _ refl e in
    let q = passes _ _ refl p.1 in
    let r = passes _ _ refl q.1 in
    let s = neither (leb m.group.replicas a.about) (leb slot_limit a.slot) q.0 in
    let t = neither (ltb a.slot m.turn.slot) (cond a.out (bars_out m a) (bars_back m a)) r.0 in
    record { about = leb-false _ _ s.0; range = leb-false _ _ s.1; turn = ltb-false _ _ t.0; bars = t.1 }

pub record OutPassed (m : Memory) (a : Notice) : Type 0 where
  -- the last outage has ended at or below the turn
  pub ended : get_or m.group.until a.about 0 ≤ m.turn.slot
  pub unplaced : placed_from m a.about a.slot (span m.group) ≡ false
  pub unsent : sent_from m a.about a.slot ≡ false

pub out-passed : (m : Memory) (a : Notice) → notice_refusal m a ≡ 0 → a.out ≡ true → OutPassed m a
out-passed m a e o =
    let b = rw o at (notice_passed m a e).bars in
    let p = neither _ _ b in
    let q = neither _ _ p.1 in
    record { ended = ltb-false _ _ p.0; unplaced = q.0; unsent = q.1 }

pub record BackPassed (m : Memory) (a : Notice) : Type 0 where
  -- the last outage has no end yet, and began below the slot
  pub endless : get_or m.group.until a.about 0 ≡ slot_limit
  pub above : get_or m.group.from a.about 0 < a.slot

pub back-passed : (m : Memory) (a : Notice) → notice_refusal m a ≡ 0 → a.out ≡ false → BackPassed m a
back-passed m a e o =
    let b = rw o at (notice_passed m a e).bars in
    let p = neither _ _ b in
    record { endless = eqb-true _ _ (not-false _ p.0); above = leb-false _ _ p.1 }

-- ---- load

pub load_passed : (m : Memory) (l : List ℕ) → load_refusal m l ≡ 0 → length l ≡ 128
unfolding load_refusal
load_passed m l e = eqb-true (length l) 128 (both_so (eqb (length m.store.classes) 128) (eqb (length l) 128) (passes _ _ refl e).0).right

-- ---- make and restart

lent-setting : (n own : ℕ) (values : List ℤ) (fit : Bool) → not (eqb (length values) 128 && fit) ≡ false → size_out n own ≡ false → SettingOf n own values
lent-setting n own values fit l s =
    let z = neither (not (within 2 6 n)) (leb n own) s in
    let w = is_within 2 6 n (not-false _ z.0) in
    record { group = record { least = w.above; most = w.below; long = eqb-true _ _ (both_so _ _ l).left }; below = leb-false n own z.1 }

pub make_passed : (m : Memory) (n own : ℕ) (values : List ℤ) → make_refusal m n own values ≡ 0 → SettingOf n own values
unfolding make_refusal
make_passed m n own values e =
    let a = passes _ _ refl e in
    lent-setting n own values (parts_fit m n) a.0 (passes _ _ refl a.1).0

pub restart_passed : (m : Memory) (n own : ℕ) (values : List ℤ) (block : List ℕ) → restart_refusal m n own values block ≡ 0 → SettingOf n own values
unfolding restart_refusal
restart_passed m n own values block e =
    let a = passes _ _ refl e in
    lent-setting n own values _ a.0 (passes _ _ refl a.1).0

-- the places lent have room for N blocks
pub restart_places : (m : Memory) (n own : ℕ) (values : List ℤ) (block : List ℕ) → restart_refusal m n own values block ≡ 0 → length m.blocks.places ≡ 512 * n
unfolding restart_refusal parts_fit places_fit
restart_places m n own values block e =
    let a = passes _ _ refl e in
    let b = passes _ _ refl a.1 in
    let s = neither (not (within 2 6 n)) (leb n own) b.0 in
    let g = (both (eqb (length block) 512) (parts_fit m n) (both_so (eqb (length values) 128) _ a.0).right).right in
    let f : not (within 2 6 n) || eqb (length m.blocks.places) (512 * n) ≡ true = (both (slices_fit m) _ g).right in
    eqb-true (length m.blocks.places) (512 * n) (rw s.0 at f)
