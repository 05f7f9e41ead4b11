-- A number among the first of a list, before the first above it: those not above it, the number, and the others. Assumes nothing.
use Prim.Native.Nat.{ℕ, suc, ◌+◌, ◌-◌, ◌≤◌, ◌<◌}
use mathlib.Core.Path.{◌≡◌, refl, ◌∙◌}
use mathlib.Core.List.{List, [], ◌∷◌, ◌++◌, append-nil}
use native.Mathlib.Omega.{arith}
use borrow.Author.Tests.{lt-ltb, le-ltb, le-leb, lt-leb}
use borrow.Rule.Slice.PartMut.{put_mid}
use lib.Dec.{leb}
use lib.ListN.{length, take, drop, length-drop, length-take, drop_of_length-le}
use lib.Seq.{take-take, take_all}
use Rattle.std.specs.List.{prefix_len, take_while}
use Rattle.std.proofs.lemmas.List.{take_at, drop_at}
use Rattle.std.proofs.lemmas.List.Folds.{length-prefix_len}
use Rattle.std.proofs.lemmas.List.Sums.{prefix_len-le-length}
use Rattle.std.proofs.lemmas.Slice.{between_is}
use Rattle.memory.specs.Rows.{shift_in}
use Rattle.engine.specs.Moves.{insert_rising}
use Rattle.engine.proofs.Tests.{less_by}

-- how many stand before the first above x
abbrev pub before : ℕ → List ℕ → ℕ
before x l = prefix_len (λ (t : ℕ). leb t x) l

rising_by : (x : ℕ) (l : List ℕ) → insert_rising x l ≡ take (before x l) l ++ (x ∷ drop (before x l) l)
unfolding insert_rising
rising_by x [] = refl
rising_by x (y ∷ l) =
    less_by x y
    (λ h. rw (lt-ltb x y h, lt-leb y x h))
    (λ h. let k : 1 + before x l ≡ suc (before x l) = omega arith in rw (le-ltb x y h, le-leb y x h, k, rising_by x l))

module _ (x at n : ℕ) (l : List ℕ) (some : 0 < length l) (e : n ≡ length l - 1) (counted : at ≡ length (take_while (λ (t : ℕ). leb t x) (take n l))) where
  here : at ≡ before x (take n l)
  here = counted ∙ length-prefix_len (λ (t : ℕ). leb t x) (take n l)

  pub within : at < length l
  within = let k : before x (take n l) ≤ length (take n l) = prefix_len-le-length (λ (t : ℕ). leb t x) (take n l) in omega (arith, here, length-take n l)

  -- x in front of the rest
  pub rising-put : (part : List ℕ) → part ≡ shift_in x (take (length l - at) (drop at l)) → put_mid at (length l - at) l part ≡ insert_rising x (take n l)
  rising-put part p =
      let q = drop at l in
      let long : length q ≡ suc (n - at) = omega (arith, within, length-drop at l) in
      let all : take (length l - at) q ≡ q = take_all (length l - at) q (omega (arith, length-drop at l)) in
      let none : drop (length l - at) q ≡ [] = drop_of_length-le q {i = length l - at} (omega (arith, length-drop at l)) in
      let front : take at (take n l) ≡ take at l = take-take at n l (omega (arith, within)) in
      rw (p, all, long, none, append-nil (take (n - at) q), rising_by x (take n l), ← here, front, ← between_is l at n)

-- the same of the first n of a longer list, which keeps what is behind them
module _ (x n : ℕ) (l part : List ℕ) (fits : n < length l) (long : length part ≡ n + 1)
    (said : part ≡ insert_rising x (take (length (take (n + 1) l) - 1) (take (n + 1) l))) where
  pub rising-front : take (n + 1) (part ++ drop (n + 1) l) ≡ insert_rising x (take n l)
  rising-front =
      let k : length (take (n + 1) l) - 1 ≡ n = omega (arith, length-take (n + 1) l) in
      take_at part (drop (n + 1) l) (n + 1) long ∙ said ∙ rw (k, take-take n (n + 1) l (omega arith))

  pub rising-back : drop (n + 1) (part ++ drop (n + 1) l) ≡ drop (n + 1) l
  rising-back = drop_at part (drop (n + 1) l) (n + 1) long
