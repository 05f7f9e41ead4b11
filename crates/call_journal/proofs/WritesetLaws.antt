-- One turn of each loop over the writesets of a block. Assumes nothing.
use Prim.Native.Nat.{ℕ, suc, ◌+◌, ◌-◌, ◌≤◌, ◌<◌, max}
use mathlib.Core.Path.{◌≡◌}
use mathlib.Core.List.{List, [], ◌∷◌}
use native.Mathlib.Numerals.{add-one}
use native.Mathlib.Omega.{arith}
use lib.IntN.{ℤ}
use lib.ListN.{get_or}
use Rattle.block.specs.Message.{Record}
use Rattle.block.specs.Answers.{record_at}
use Rattle.memory.specs.Memory.{bump}
use Rattle.engine.specs.Moves.{writeset_at, applied, stamped}
use Rattle.engine.specs.Restart.{writesets_from, writesets_in, Replayed, commit_all, highest_ticket}
use Rattle.call_journal.specs.Replays.{replayed}

-- the writesets of a block from the j-th up to the n-th
abbrev pub rest : List ℕ → ℕ → ℕ → List Record
rest b n j = writesets_from b j (n - j)

module _ (b : List ℕ) (n : ℕ) (h : n ≡ get_or b 3 0) where
  rest_all : writesets_in b ≡ rest b n 0
  rest_all = let k : n - 0 ≡ n = omega arith in rw (k, h)

  pub commit-start : (r : Replayed) → commit_all r (writesets_in b) ≡ commit_all r (rest b n 0)
  commit-start r = rw rest_all

  pub highest-start : (k : ℕ) → max k (highest_ticket (writesets_in b)) ≡ max k (highest_ticket (rest b n 0))
  highest-start k = rw rest_all

module _ (b : List ℕ) (n j : ℕ) (h : j < n) where
  rest-cons : rest b n j ≡ writeset_at b j ∷ rest b n (j + 1)
  unfolding writesets_from
  rest-cons = let k : n - j ≡ suc (n - (j + 1)) = omega arith in rw (k, add-one j)

  pub commit-turn : (c d : ℕ) (v x : List ℤ) (s t : List ℕ) → d ≡ bump c → x ≡ applied (writeset_at b j).entries v → t ≡ stamped d (writeset_at b j).entries s
      → commit_all (replayed c v s) (rest b n j) ≡ commit_all (replayed d x t) (rest b n (j + 1))
  unfolding commit_all
  commit-turn c d v x s t e p q = rw (q, p, e, rest-cons)

  pub highest-turn : (k l : ℕ) → l ≡ max k (record_at b j).ticket → max k (highest_ticket (rest b n j)) ≡ max l (highest_ticket (rest b n (j + 1)))
  unfolding highest_ticket
  highest-turn k l e = rw (e, rest-cons) (omega arith)

module _ (b : List ℕ) (n j : ℕ) (h : n ≤ j) where
  rest-none : rest b n j ≡ []
  unfolding writesets_from
  rest-none = let k : n - j ≡ 0 = omega arith in rw k

  pub commit-end : (r : Replayed) → commit_all r (rest b n j) ≡ r
  unfolding commit_all
  commit-end r = rw rest-none

  pub highest-end : (k : ℕ) → max k (highest_ticket (rest b n j)) ≡ k
  unfolding highest_ticket
  highest-end k = rw rest-none (omega arith)
