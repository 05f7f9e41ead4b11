-- What lists of notices put out: two lists joined, notices of later slots, those about one replica, an Out at the end. Assumes nothing.
use Prim.Native.Nat.{ℕ, ◌≤◌, ◌<◌}
use mathlib.Core.Path.{◌≡◌, refl, ap, ◌∙◌}
use mathlib.Core.Bool.{Bool, true, false, cond, ◌&&◌}
use mathlib.Core.List.Memᴰ
use mathlib.Core.List.{List, [], ◌∷◌, ◌++◌}
use lib.Dec.{eqb, leb}
use borrow.Author.Tests.{eq-eqb, le-leb, lt-leb}
use Rattle.memory.specs.Notices.{Notice, puts_out}
use Rattle.protocol.specs.Lists.{Mem, keep}
use Rattle.protocol.proofs.ListLaws.{and_no}
use Rattle.agreement.specs.Group.{about}
use Rattle.agreement_progress.specs.Progress.{out_from}

module _ (k s : ℕ) where
  puts-append : (b : Bool) (l m : List Notice) → puts_out b (l ++ m) k s ≡ puts_out (puts_out b l k s) m k s
  unfolding puts_out
  puts-append b [] m = refl
  puts-append b (a ∷ l) m = puts-append (cond (eqb a.about k && leb a.slot s) a.out b) l m

  puts-ahead : (b : Bool) (l : List Notice) → ((a : Notice) → Mem a l → s < a.slot) → puts_out b l k s ≡ b
  unfolding puts_out
  puts-ahead b [] f = refl
  puts-ahead b (a ∷ l) f = rw (lt-leb a.slot s (f a (Memᴰ.head refl)), and_no (eqb a.about k)) (puts-ahead b l (λ c h. f c (Memᴰ.tail h)))

  -- a list of which all behind a first part is of later slots
  pub puts_first : (l m : List Notice) → ((a : Notice) → Mem a m → s < a.slot) → puts_out false (l ++ m) k s ≡ puts_out false l k s
  puts_first l m f = puts-append false l m ∙ puts-ahead (puts_out false l k s) m f

  -- those about k alone
  pub puts_about : (b : Bool) (l : List Notice) → puts_out b (about k l) k s ≡ puts_out b l k s
  unfolding puts_out keep
  puts_about b [] = refl
  puts_about b (a ∷ l) = go (eqb a.about k) refl (λ c. puts_about c l)
    where
      go : (z : Bool) → eqb a.about k ≡ z → ((c : Bool) → puts_out c (about k l) k s ≡ puts_out c l k s)
          → puts_out b (cond z (a ∷ about k l) (about k l)) k s ≡ puts_out (cond (z && leb a.slot s) a.out b) l k s
      go true e r = ap (λ (z : Bool). puts_out (cond (z && leb a.slot s) a.out b) (about k l) k s) e ∙ r (cond (leb a.slot s) a.out b)
      go false e r = r b

  -- an Out at or below s at the end
  pub puts-last : (l : List Notice) (v : ℕ) → v ≤ s → puts_out false (l ++ (out_from k v ∷ [])) k s ≡ true
  unfolding puts_out
  puts-last l v h = puts-append false l (out_from k v ∷ []) ∙ rw (eq-eqb k k refl, le-leb v s h) refl
