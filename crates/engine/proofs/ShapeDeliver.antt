-- A deliver keeps the shape. Assumes nothing.
use Prim.Native.Nat.{ℕ, ◌+◌, ◌≤◌, ◌<◌}
use mathlib.Core.Path.{◌≡◌, refl, sym, ap, ◌∙◌}
use mathlib.Core.Bool.{true, false}
use mathlib.Core.List.{List}
use native.Mathlib.Omega.{arith}
use lib.ListN.{get_or}
use lib.Seq.{paste, length-paste}
use Rattle.block.specs.Answers.{block_refusal, header_of}
use Rattle.memory.specs.Memory.{Memory}
use Rattle.memory.specs.Notices.{is_out}
use Rattle.memory.specs.Turns.{place_start, block_in, is_empty}
use Rattle.engine.specs.Moves.{deliver_now}
use Rattle.engine.specs.Shape.{PlaceShape, Shape}
use Rattle.engine.proofs.Tests.{same_by, clash}
use Rattle.engine.proofs.Passed.{DeliverPassed}
use Rattle.engine.proofs.Shaping.{shape_besides}
use Rattle.engine.proofs.PlaceLaws.{place-fits, empty_same, block-kept, block-beside}

module _ {over : ℕ} (m : Memory) (bytes : List ℕ) (S : Shape over m) (k : DeliverPassed m bytes) where
  abbrev n : ℕ
  n = m.group.replicas

  abbrev old : List ℕ
  old = m.blocks.places

  abbrev new : List ℕ
  new = paste old (place_start n (header_of bytes).slot) bytes 512

  pub same : block_in n (header_of bytes).slot new ≡ bytes
  same = block-kept n old (omega (arith, S.ranges.least)) S.lengths.places (header_of bytes).slot bytes k.long

  pub beside : (s : ℕ) → m.turn.slot ≤ s → s < m.turn.slot + n → (s ≡ (header_of bytes).slot → ⊥) → block_in n s new ≡ block_in n s old
  beside s p q d =
      block-beside n old (omega (arith, S.ranges.least)) S.lengths.places m.turn.slot s (header_of bytes).slot bytes k.long p q k.low k.high d

  waits : (s : ℕ) → m.turn.slot ≤ s → s < m.turn.slot + n → is_empty n s new ≡ false
      → (block_refusal (block_in n s new) ≡ 0) × ((header_of (block_in n s new)).slot ≡ s) × ((header_of (block_in n s new)).replicas ≡ n)
  waits s p q e =
      same_by s (header_of bytes).slot
      (λ z. rw (z, same) (k.taken, refl, k.replicas))
      (λ d. let b = beside s p q d in rw b (S.places.waits s p q (sym (empty_same n s new old b) ∙ e)))

  clear : (s : ℕ) → m.turn.slot ≤ s → s < m.turn.slot + n → is_out m.group s ≡ true → is_empty n s new ≡ true
  clear s p q u =
      same_by s (header_of bytes).slot (λ z. clash u (ap (is_out m.group) z ∙ k.live)) (λ d. empty_same n s new old (beside s p q d) ∙ S.places.clear s p q u)

  places : PlaceShape (deliver_now m bytes).memory
  unfolding deliver_now
  places = record { waits = waits; clear = clear; done = done; applying = S.places.applying }
    where
      done : 0 < m.counts.done → (is_empty n m.turn.slot new ≡ false) × (m.counts.done < get_or (block_in n m.turn.slot new) 3 0)
      done h =
          let w = S.places.done h in
          same_by m.turn.slot (header_of bytes).slot
          (λ z. clash k.empty (rw z at w.0))
          (λ d. let b = beside m.turn.slot (omega arith) (omega (arith, S.ranges.least)) d in
          (empty_same n m.turn.slot new old b ∙ w.0, rw b w.1))

  pub shape-delivered : Shape over (deliver_now m bytes).memory
  unfolding deliver_now
  shape-delivered =
      let f = place-fits n (header_of bytes).slot (omega (arith, S.ranges.least)) in
      shape_besides m S m.turn m.counts.done new m.blocks.window m.txns.writes
      (length-paste old (place_start n (header_of bytes).slot) bytes 512 (omega (arith, S.lengths.places)) (omega (arith, k.long)) ∙ S.lengths.places)
      S.lengths.window S.lengths.writes S.ranges.slot S.ranges.commits places
