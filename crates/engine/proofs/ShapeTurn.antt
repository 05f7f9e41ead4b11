-- The block at the turn, the places after a work, a *next* and an out slot passed, which keep the shape. Assumes nothing.
use Prim.Native.Nat.{ℕ, suc, ◌+◌, ◌*◌, ◌≤◌, ◌<◌}
use mathlib.Core.Path.{◌≡◌, refl, sym, ap, ◌∙◌}
use mathlib.Core.Bool.{true, false}
use mathlib.Core.List.{List}
use native.Mathlib.Omega.{arith}
use lib.Dec.{eqb}
use lib.ListN.{length, get_or, length-set}
use Rattle.block.specs.Answers.{block_refusal, header_of, record_at}
use Rattle.block.specs.Bytes.{block_of}
use Rattle.memory.specs.Memory.{Memory, window_bytes, bump}
use Rattle.memory.specs.Notices.{is_out}
use Rattle.memory.specs.Turns.{advance, place_start, block_in, is_empty, emptied}
use Rattle.engine.specs.Moves.{out_at_turn, block_at_turn, window_with, pass_next, next_at_turn, pass_out}
use Rattle.engine.specs.Shape.{PlaceShape, Shape}
use Rattle.engine.proofs.Tests.{same_by, clash, bump_is}
use Rattle.engine.proofs.PlaceLaws.{place-again, empty_same, emptied-empty, emptied-beside}
use Rattle.engine.proofs.BlockFacts.{taken_block}
use Rattle.engine.proofs.Steps.{Awaited}
use Rattle.engine.proofs.Passed.{work_passed, work_long}
use Rattle.engine.proofs.RingLaws.{length-keeping}
use Rattle.engine.proofs.NoticeLaws.{in_outage}
use Rattle.engine.proofs.Shaping.{shape_besides, bumps}
use Rattle.engine.proofs.ShapeSend.{length-next}

-- ---- what an accepted work's tests say

pub record Working (m : Memory) : Type 0 where
  pub waits : is_empty m.group.replicas m.turn.slot m.blocks.places ≡ false
  pub long : length (block_at_turn m) ≡ 512
  pub slot : m.turn.slot ≤ 99_999_999
  pub few : get_or (block_at_turn m) 3 0 ≤ 6
  pub next : get_or (block_at_turn m) 0 0 ≡ 1 → m.counts.done ≡ 0
  -- the writeset to commit next: one of the block's, with a ticket
  pub more : (get_or (block_at_turn m) 0 0 ≡ 1 → ⊥) → m.counts.done < get_or (block_at_turn m) 3 0
  pub ticket : (get_or (block_at_turn m) 0 0 ≡ 1 → ⊥) → 1 ≤ (record_at (block_at_turn m) m.counts.done).ticket
  pub commits : bump m.counts.commits ≡ suc m.counts.commits

pub working : {over : ℕ} (m : Memory) → Shape over m → Awaited m → Working m
working m S e =
    let p = work_passed m e in
    let w = S.places.waits m.turn.slot (omega arith) (omega (arith, S.ranges.least)) p in
    let k = taken_block (block_at_turn m) w.0 in
    let n = m.counts.done in
    let begun : (n ≡ 0 → ⊥) → n < get_or (block_at_turn m) 3 0 = λ d. (S.places.done (omega (arith, d))).1 in
    let more : (get_or (block_at_turn m) 0 0 ≡ 1 → ⊥) → n < get_or (block_at_turn m) 3 0 = λ h. same_by n 0 (λ q. omega (arith, k.some h)) begun in
    let few : n < 6 = same_by n 0 (λ q. omega arith) (λ d. omega (arith, begun d, k.count)) in
    record {
      waits = p;
      long = work_long m e;
      slot = omega (arith, k.slot, w.1);
      few = k.count;
      next = λ h. same_by n 0 (λ q. q) (λ d. absurd (omega (arith, begun d, k.next h)));
      more = more;
      ticket = λ h. (k.ticket n (more h)).0;
      commits = bump_is m.counts.commits (omega (arith, S.ranges.commits, S.ranges.slot));
    }

-- ---- the places after

-- where the place of the slot that the turn leaves is empty and the others are as they were
module _ {over : ℕ} (m : Memory) (S : Shape over m) (new : List ℕ) (left : is_empty m.group.replicas (m.turn.slot + m.group.replicas) new ≡ true)
    (kept : (s : ℕ) → suc m.turn.slot ≤ s → s < m.turn.slot + m.group.replicas
    → block_in m.group.replicas s new ≡ block_in m.group.replicas s m.blocks.places) where
  abbrev size : ℕ
  size = m.group.replicas

  abbrev now : ℕ
  now = m.turn.slot

  abbrev was : List ℕ
  was = m.blocks.places

  waits-after : (s : ℕ) → suc now ≤ s → s < suc now + size → is_empty size s new ≡ false
      → (block_refusal (block_in size s new) ≡ 0) × ((header_of (block_in size s new)).slot ≡ s) × ((header_of (block_in size s new)).replicas ≡ size)
  waits-after s p q e =
      same_by s (now + size)
      (λ z. clash left (rw z at e))
      (λ d. let b = kept s p (omega (arith, d)) in
      rw b (S.places.waits s (omega arith) (omega (arith, d)) (sym (empty_same size s new was b) ∙ e)))

  clear-after : (s : ℕ) → suc now ≤ s → s < suc now + size → is_out m.group s ≡ true → is_empty size s new ≡ true
  clear-after s p q u =
      same_by s (now + size) (λ z. rw z left)
      (λ d. empty_same size s new was (kept s p (omega (arith, d))) ∙ S.places.clear s (omega arith) (omega (arith, d)) u)

  places-up : (k : Memory) → k.group ≡ m.group → k.turn.slot ≡ suc now → k.counts.done ≡ 0 → k.blocks.places ≡ new → k.turn.applying ≡ 0 → PlaceShape k
  places-up k a b c d o = record {
    waits = rw (a, b, d) waits-after;
    clear = rw (a, b, d) clear-after;
    done = rw c (λ h. absurd (omega arith));
    applying = rw o (λ e. clash {b = false} e refl);
  }

module _ {over : ℕ} (m : Memory) (S : Shape over m) (w : Working m) where
  abbrev n : ℕ
  n = m.group.replicas

  abbrev turn : ℕ
  turn = m.turn.slot

  abbrev old : List ℕ
  old = m.blocks.places

  abbrev new : List ℕ
  new = emptied n turn old

  pub beside : (s : ℕ) → suc turn ≤ s → s < turn + n → block_in n s new ≡ block_in n s old
  beside s p q =
      emptied-beside n old (omega (arith, S.ranges.least)) S.lengths.places turn s turn (omega arith) q (omega arith) (omega arith) (λ e. omega arith)

  pub again : is_empty n (turn + n) new ≡ true
  again = ap (λ (k : ℕ). eqb (get_or new k 0) 0) (place-again n turn) ∙ emptied-empty n old (omega (arith, S.ranges.least)) S.lengths.places turn

  -- the turn went up, and the place is empty
  pub places-turned : (k : Memory) → k.group ≡ m.group → k.turn.slot ≡ suc turn → k.counts.done ≡ 0 → k.blocks.places ≡ new → k.turn.applying ≡ 0 → PlaceShape k
  places-turned = places-up m S new again beside

  -- one more writeset is done, and it was not the last
  pub places-done : (k : Memory) → k.group ≡ m.group → k.turn.slot ≡ turn → k.counts.done ≡ m.counts.done + 1 → k.blocks.places ≡ old
      → m.counts.done + 1 < get_or (block_at_turn m) 3 0 → PlaceShape k
  places-done k a b c d l = record { waits = rw (a, b, d) S.places.waits; clear = rw (a, b, d) S.places.clear; done = rw (a, b, c, d) (λ h. (w.waits, l)); applying = λ e. rw c (omega arith) }

  pub length-emptied : length new ≡ 512 * n
  length-emptied = length-set old (place_start n turn) 0 ∙ S.lengths.places

  -- the window has its block
  pub length-kept : length (window_with m (block_at_turn m)) ≡ window_bytes
  length-kept = length-keeping m.blocks.window S.lengths.window turn (block_at_turn m) w.long

  -- ---- a *next*
  pub shape-next : m.counts.done ≡ 0 → Shape over (pass_next m).memory
  unfolding pass_next
  shape-next z =
      let l = w.slot in
      let b = (bumps m S).slot in
      let c = S.ranges.commits in
      shape_besides m S (advance m.turn) 0 new _ m.txns.writes length-emptied length-kept S.lengths.writes (omega arith) (omega arith)
      (places-turned (pass_next m).memory refl b refl refl refl)

-- ---- an out slot is passed: nothing waits there, so nothing of it is done

module _ {over : ℕ} (m : Memory) (S : Shape over m) (u : out_at_turn m ≡ true) where
  pub out-empty : is_empty m.group.replicas m.turn.slot m.blocks.places ≡ true
  out-empty = S.places.clear m.turn.slot (omega arith) (omega (arith, S.ranges.least)) u

  pub out-again : is_empty m.group.replicas (m.turn.slot + m.group.replicas) m.blocks.places ≡ true
  out-again = ap (λ (k : ℕ). eqb (get_or m.blocks.places k 0) 0) (place-again m.group.replicas m.turn.slot) ∙ out-empty

  pub out-none-done : m.counts.done ≡ 0
  out-none-done = same_by m.counts.done 0 (λ q. q) (λ d. clash out-empty (S.places.done (omega (arith, d))).0)

  pub shape-out : Shape over (pass_out m).memory
  unfolding pass_out
  shape-out =
      let l = (in_outage m.group m.turn.slot u).slot in
      let b = (bumps m S).slot in
      let c = S.ranges.commits in
      let d = out-none-done in
      shape_besides m S (advance m.turn) 0 m.blocks.places _ m.txns.writes S.lengths.places
      (length-keeping m.blocks.window S.lengths.window m.turn.slot (block_of (next_at_turn m)) (length-next m)) S.lengths.writes (omega arith) (omega arith)
      (places-up m S m.blocks.places out-again (λ s p q. refl) (pass_out m).memory refl b refl refl refl)
