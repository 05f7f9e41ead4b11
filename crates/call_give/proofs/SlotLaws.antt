-- Where the code is after a work more at a slot, after its works, and after a slot more. Assumes nothing.
use Prim.Native.Nat.{ℕ, ◌+◌, ◌≤◌}
use mathlib.Core.Path.{◌≡◌, sym, ap, ◌∙◌, subst}
use mathlib.Core.Bool.{Bool, true, false, cond, ◌&&◌}
use mathlib.Core.List.{List}
use native.Mathlib.Numerals.{add-one}
use lib.Dec.{eqb}
use lib.ListN.{length}
use lib.Seq.{slice}
use borrow.Author.Tests.{eq-eqb, ne_eqb}
use Rattle.memory.specs.declared.Turn.{Turn}
use Rattle.memory.specs.Memory.{Memory, window_slots}
use Rattle.memory.specs.Turns.{place_start}
use Rattle.memory.specs.Window.{kept_block}
use Rattle.engine.specs.Calls.Call.{deliver, work}
use Rattle.giving.specs.Giving.{Going, doing, most_writesets, work_out, is_wanted, take_slot, give_slots}
use Rattle.call_reply.specs.Replies.{six_of}
use Rattle.call_give.specs.declared.Giving.{Giving}
use Rattle.call_give.specs.Gifts.{Stands}
use Rattle.call_give.proofs.LoopLaws.{goes_on, work_on, work_over, slot-on, slot-over}

-- ---- works

module _ (slot c : ℕ) (g : Going) (now : Giving) (mem : Memory) (same : mem.turn ≡ now.turn) (S : Stands (work_out slot c g) now mem) (on : Bool)
    (is : on ≡ (eqb now.number 0 && eqb now.turn.slot slot)) where
  -- the code's test is the definition's
  test : on ≡ goes_on slot (work_out slot c g)
  test = is ∙ rw (S.number, ← same, S.memory)

  pub stands_on : on ≡ true → (next : Giving) (left : Memory) → (Stands (work_out slot c g) now mem → Stands (doing (work_out slot c g) work) next left)
      → Stands (work_out slot (c + 1) g) next left
  stands_on e next left f = rw (add-one c) (subst (λ (x : Going). Stands x next left) (sym (work_on slot c g (sym test ∙ e))) (f S))

  pub stands-over : on ≡ false → c ≤ most_writesets → Stands (work_out slot most_writesets g) now mem
  stands-over e h = subst (λ (x : Going). Stands x now mem) (sym (work_over slot c most_writesets g h (sym test ∙ e))) S

-- ---- a slot

-- s, with the number that the deliver ends with, and mem: what is by value and what is lent after the deliver
pub stands-placed : (g : Going) (block : List ℕ) (before : Giving) (m : Memory) → Stands g before m →
    let d = cond (is_wanted g.memory) (doing g (deliver block)) g in
    (mem : Memory) → mem ≡ d.memory → g.aborted ≡ d.aborted → (s : Giving) → s.number ≡ d.number → s.count ≡ before.count → s.aborted ≡ before.aborted → Stands d s mem
stands-placed g block before m S mem memory aborted s number count list = record {
  memory = memory;
  number = number;
  count = count ∙ S.count ∙ ap length aborted;
  aborted = list ∙ S.aborted ∙ ap six_of aborted;
}

pub stands-taken : (g : Going) (block : List ℕ) (m : Memory) → m ≡ g.memory → (after : Giving) (left : Memory)
    → Stands (work_out m.turn.slot most_writesets (cond (is_wanted g.memory) (doing g (deliver block)) g)) after left → Stands (take_slot block g) after left
unfolding take_slot
stands-taken g block m e after left S =
    subst (λ (x : ℕ). Stands (work_out x most_writesets (cond (is_wanted g.memory) (doing g (deliver block)) g)) after left) (ap (λ (x : Memory). x.turn.slot) e) S

-- ---- slots

module _ (lent : List ℕ) (c : ℕ) (g : Going) (now : Giving) (mem : Memory) (same : mem.turn ≡ now.turn) (S : Stands (give_slots lent c g) now mem) where
  -- the block lent is the window's of the turn's slot
  pub stands-slot : now.number ≡ 0 → (at : ℕ) → at ≡ place_start window_slots now.turn.slot → (block : List ℕ) → block ≡ slice at (at + 512) lent → (next : Giving) (left : Memory)
      → (Stands (give_slots lent c g) now mem → Stands (take_slot block (give_slots lent c g)) next left) → Stands (give_slots lent (c + 1) g) next left
  stands-slot n at start block is next left f =
      let turn : now.turn.slot ≡ (give_slots lent c g).memory.turn.slot = ap (λ (x : Turn). x.slot) (sym same) ∙ ap (λ (x : Memory). x.turn.slot) S.memory in
      let kept : block ≡ kept_block lent (give_slots lent c g).memory.turn.slot = is ∙ ap (λ (x : ℕ). slice x (x + 512) lent) (start ∙ ap (place_start window_slots) turn) in
      rw (add-one c)
      (subst (λ (x : Going). Stands x next left) (sym (slot-on lent c g (eq-eqb _ 0 (sym S.number ∙ n))))
      (subst (λ (b : List ℕ). Stands (take_slot b (give_slots lent c g)) next left) kept (f S)))

  pub stands-stopped : (now.number ≡ 0 → ⊥) → (n : ℕ) → c ≤ n → Stands (give_slots lent n g) now mem
  stands-stopped d n h = subst (λ (x : Going). Stands x now mem) (sym (slot-over lent c n g h (ne_eqb _ 0 (λ e. d (S.number ∙ e))))) S
