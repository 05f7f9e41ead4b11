-- Each answer of a write's wait, from the tests that lead to it. Assumes nothing.
use Prim.Native.Nat.{ℕ, zero, suc, ◌+◌, ◌-◌, ◌*◌, ◌≤◌, ◌<◌}
use mathlib.Core.Path.{◌≡◌, refl, sym}
use mathlib.Core.Bool.{Bool, true, false, ◌&&◌}
use mathlib.Core.List.{List}
use native.Mathlib.Nat.{mod-le}
use native.Mathlib.Omega.{arith}
use lib.Dec.{ltb}
use lib.ListN.{length, get_or, length-take, length-drop, take}
use borrow.Author.Tests.{ne_eqb}
use Rattle.block.specs.Answers.{record_at}
use Rattle.memory.specs.Memory.{Memory}
use Rattle.memory.specs.Turns.{place_start}
use Rattle.engine.specs.Moves.{entries_for, block_at_turn}
use Rattle.engine.specs.Classes.{is_applying, has_class, class_from, class_to_come, must_wait}

-- no record of a block of another length has an entry
short_from : (l : List ℕ) (c : ℕ) (b : List ℕ) → (length b ≡ 512 → ⊥) → (j k : ℕ) → class_from l c b j k ≡ false
unfolding class_from has_class entries_for record_at
short_from l c b h j zero = refl
short_from l c b h j (suc k) = rw (ne_eqb (length b) 512 h) (short_from l c b h (suc j) k)

and_none : (a b c : Bool) → c ≡ false → false ≡ a && (b && c)
and_none true true c h = sym h
and_none true false c h = refl
and_none false b c h = refl

pub place_low : (n s : ℕ) → place_start n s ≤ 512 * s
unfolding place_start
place_low n s = let h = mod-le s n in omega arith

module _ (m : Memory) (item : ℕ) where
  pub wait-off : m.turn.applying ≡ 0 → false ≡ must_wait m item
  unfolding must_wait
  wait-off h = rw h refl

  pub wait-short : length m.blocks.places < place_start m.group.replicas m.turn.slot + 512 → false ≡ must_wait m item
  unfolding must_wait class_to_come
  wait-short h =
      let p = place_start m.group.replicas m.turn.slot in
      let a = length-take (p + 512) m.blocks.places in
      let b = length-drop p (take (p + 512) m.blocks.places) in
      and_none (is_applying m) (ltb 1 (get_or (block_at_turn m) 0 0)) _
      (short_from m.store.classes (get_or m.store.classes item 0) (block_at_turn m) (λ e. omega arith) m.counts.done (get_or (block_at_turn m) 3 0 - m.counts.done))

  pub wait-on : (m.turn.applying ≡ 0 → ⊥) → must_wait m item
      ≡ (ltb 1 (get_or (block_at_turn m) 0 0) && class_from m.store.classes (get_or m.store.classes item 0) (block_at_turn m) m.counts.done (get_or (block_at_turn m) 3 0 - m.counts.done))
  unfolding must_wait class_to_come
  wait-on h = rw (ne_eqb m.turn.applying 0 h) refl
