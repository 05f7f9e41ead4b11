-- A window's blocks put behind a journal, one after the other. Assumes nothing.
use Rattle.std.specs.Prelude.{Option, Some, None}
use Prim.Native.Nat.{ℕ, suc, ◌+◌, ◌-◌, ◌/◌, ◌≤◌, ◌<◌, min}
use mathlib.Core.Path.{◌≡◌, refl, sym, ◌∙◌}
use mathlib.Core.List.{List, [], ◌++◌, append_assoc, append-nil}
use native.Mathlib.Numerals.{add-one}
use native.Mathlib.Omega.{arith}
use borrow.Author.Tests.{le-leb, lt-leb, leb-false}
use lib.Dec.{leb}
use lib.ListN.{length, take, length-append, length-take}
use Rattle.engine.proofs.Tests.{bool_by}
use Rattle.memory.specs.Window.{kept_block}
use Rattle.replay_journal.specs.declared.Change.TheVariants.{Grows}
use Rattle.replay_journal.specs.Journals.{Journal, whole, outgrown, grown, journal_of, Keeps}
use Rattle.replay_give.specs.Kept.{blocks_from, behind_all, CatchesUp}

-- ---- the journal

-- bytes and more bytes
grown_more : (room : ℕ) (a b : List ℕ) (j : Journal) → grown room (a ++ b) j ≡ grown room b (grown room a j)
grown_more room a b outgrown = refl
grown_more room a b (whole before) =
    bool_by (leb (length (before ++ a)) room)
    (λ e. rw (e, append_assoc before a b))
    (λ e. let k = leb-false (length (before ++ a)) room e in
    let many : room < length (before ++ (a ++ b)) = simp length-append (omega (arith, length-append before a, k)) in
    rw (e, lt-leb (length (before ++ (a ++ b))) room many))

grown_none : (h : Option ℕ) (page : List ℕ) → grown (length page) [] (journal_of h page) ≡ journal_of h page
grown_none None page = refl
grown_none (Some n) page =
    let few : length (take n page) ≤ length page = rw (length-take n page) (omega arith) in
    rw (append-nil (take n page), le-leb (length (take n page)) (length page) few)

-- ---- its page

-- from slot₀ to the slot, the rest is to come
pub record Follows (window : List ℕ) (turn slot₀ : ℕ) (h₀ : Option ℕ) (page₀ : List ℕ) (slot : ℕ) (h : Option ℕ) (page : List ℕ) : Type 0 where
  pub long : length page ≡ length page₀
  pub bytes : behind_all window slot (turn - slot) h page ≡ behind_all window slot₀ (turn - slot₀) h₀ page₀
  pub journal : grown (length page₀) (blocks_from window slot (turn - slot)) (journal_of h page) ≡ grown (length page₀) (blocks_from window slot₀ (turn - slot₀)) (journal_of h₀ page₀)

module _ (window : List ℕ) (turn slot₀ : ℕ) (h₀ : Option ℕ) (page₀ : List ℕ) where
  module _ (slot : ℕ) (h : Option ℕ) (page : List ℕ) (f : Follows window turn slot₀ h₀ page₀ slot h page) where
    pub follows_next : slot < turn → {given block left : List ℕ} {after : Option ℕ} → block ≡ kept_block window slot → Keeps Grows given block h page after left → length left ≡ length page
        → Follows window turn slot₀ h₀ page₀ (slot + 1) after left
    unfolding behind_all blocks_from
    follows_next k e kept l =
        let some : turn - slot ≡ suc (turn - suc slot) = omega arith in
        record {
          long = l ∙ f.long;
          bytes = rw (add-one slot, kept.held, kept.bytes, e) (rw some at f.bytes);
          journal = rw (add-one slot, kept.journal, f.long, e) (sym (grown_more (length page₀) (kept_block window slot) (blocks_from window (suc slot) (turn - suc slot)) (journal_of h page)) ∙ rw some at f.journal);
        }

    module _ (k : turn ≤ slot) where
      none : turn - slot ≡ 0
      none = omega arith

      last : (h, page) ≡ behind_all window slot₀ (turn - slot₀) h₀ page₀
      unfolding behind_all
      last = rw none at f.bytes

      last-journal : journal_of h page ≡ grown (length page₀) (blocks_from window slot₀ (turn - slot₀)) (journal_of h₀ page₀)
      unfolding blocks_from
      last-journal = sym (rw f.long at (grown_none h page)) ∙ rw none at f.journal

      -- the journal's own length, in blocks, was the first slot
      pub follows-all : {held : Option ℕ} (n : ℕ) → held ≡ Some n → h₀ ≡ Some n → slot₀ ≡ min n (length page₀) / 512 → CatchesUp window turn held page₀ h page
      follows-all n e e₀ s =
          let j = rw e₀ at last-journal in
          let b = rw e₀ at last in
          rw e (record { journal = rw (length-take n page₀, ← s) j; bytes = rw (← s) b })
