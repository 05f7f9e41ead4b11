-- What the loops' laws share, over plain lists. Assumes nothing.
use Prim.Native.Nat.{ℕ, ◌+◌}
use mathlib.Core.Path.{◌≡◌, refl, sym, ap, ◌∙◌}
use mathlib.Core.List.{List, [], ◌∷◌}
use native.Mathlib.Nat.{add-zero}
use lib.ListN.{get_or, drop}
use lib.Seq.{drop-drop, get_or-drop}
use Rattle.engine.proofs.Tests.{bool_by}
use Rattle.std.specs.List.{list_any}
use Rattle.memory.specs.Rows.{has}
use lib.Dec.{eqb}

-- ---- two lists that are the same from place i on

module _ (l q : List ℕ) (i : ℕ) (same : drop i l ≡ drop i q) where
  pub same_here : get_or q i 0 ≡ get_or l i 0
  same_here = rw (get_or-drop i l 0 0, get_or-drop i q 0 0, add-zero i) at (sym (ap (λ (x : List ℕ). get_or x 0 0) same))

  pub same-later : drop (i + 1) l ≡ drop (i + 1) q
  same-later = sym (drop-drop 1 i l) ∙ ap (λ (x : List ℕ). drop 1 x) same ∙ drop-drop 1 i q

-- ---- a list has what any of it is

pub has_any : (x : ℕ) (l : List ℕ) → list_any (λ (y : ℕ). eqb y x) l ≡ has x l
unfolding has
has_any x [] = refl
has_any x (y ∷ l) = bool_by (eqb y x) (λ e. rw e) (λ e. rw e (has_any x l))
