-- Tickets put one after the other into a rising list. Assumes nothing.
use Prim.Native.Nat.{ℕ, zero, suc, ◌+◌, ◌-◌, ◌≤◌, ◌<◌}
use mathlib.Core.Path.{◌≡◌, refl, sym, ◌∙◌}
use mathlib.Core.List.{List, [], ◌∷◌, ◌++◌}
use native.Mathlib.Numerals.{add-one}
use native.Mathlib.Omega.{arith}
use lib.ListN.{length, get_or, take, drop, replicate, take-append-drop}
use lib.Seq.{take-suc, take-append_seam, drop-append-add}
use Rattle.engine.specs.Moves.{insert_rising}
use Rattle.giving.specs.Giving.{gathered}
use Rattle.giving.proofs.Freed.{length-gathered}
use Rattle.call_reply.specs.Replies.{six_of}
use Rattle.call_commit.proofs.ListLaws.{same-later}

-- one more at the end
gathered_on : (ts : List ℕ) (t : ℕ) (l : List ℕ) → gathered (ts ++ (t ∷ [])) l ≡ insert_rising t (gathered ts l)
unfolding gathered
gathered_on [] t l = refl
gathered_on (x ∷ ts) t l = gathered_on ts t (insert_rising x l)

-- the first `count` of `list` with the first i of `more` are in `after`; with one more in `longer`
module _ (list more after longer : List ℕ) (count i : ℕ) (here : i < length more)
    (first : take (count + i) after ≡ gathered (take i more) (take count list)) (back : drop (count + i) after ≡ drop (count + i) list)
    (first' : take (count + i + 1) longer ≡ insert_rising (get_or more i 0) (take (count + i) after)) (back' : drop (count + i + 1) longer ≡ drop (count + i + 1) after) where
  pub gather-first : take (count + (i + 1)) longer ≡ gathered (take (i + 1) more) (take count list)
  gather-first =
      let e : count + (i + 1) ≡ count + i + 1 = omega arith in
      rw (e, first', first, add-one i, take-suc more i 0 here) (sym (gathered_on (take i more) (get_or more i 0) (take count list)))

  pub gather-back : drop (count + (i + 1)) longer ≡ drop (count + (i + 1)) list
  gather-back =
      let e : count + (i + 1) ≡ count + i + 1 = omega arith in
      rw e (back' ∙ same-later after list (count + i) back)

-- ---- six numbers: tickets with zeros behind

zeros-left : (n k : ℕ) → drop n (replicate {A = ℕ} k 0) ≡ replicate (k - n) 0
zeros-left zero k = let e : k - 0 ≡ k = omega arith in rw e
zeros-left (suc n) zero = let e : 0 - suc n ≡ 0 = omega arith in rw e
zeros-left (suc n) (suc k) = let e : suc k - suc n ≡ k - n = omega arith in rw e (zeros-left n k)

-- `more` among `list`, each as six numbers: what was gathered, as six numbers
pub six-gathered : (list more after : List ℕ) → length list + length more ≤ 6
    → take (length list + length more) after ≡ gathered (take (length more) (six_of more)) (take (length list) (six_of list))
    → drop (length list + length more) after ≡ drop (length list + length more) (six_of list) → after ≡ six_of (gathered more list)
six-gathered list more after few first back =
    let n = length list + length more in
    let named : take n after ≡ gathered more list = first ∙ rw (take-append_seam more (replicate (6 - length more) 0), take-append_seam list (replicate (6 - length list) 0)) in
    let long : length (gathered more list) ≡ n = length-gathered more list ∙ omega arith in
    let zeros : drop n after ≡ replicate (6 - length (gathered more list)) 0 = back ∙ drop-append-add list (replicate (6 - length list) 0) (length more) ∙ zeros-left (length more) (6 - length list)
    ∙ (let e : 6 - length list - length more ≡ 6 - length (gathered more list) = omega arith in rw e) in
    sym (take-append-drop n after) ∙ rw (named, zeros)
