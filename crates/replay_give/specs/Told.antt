-- The turns that a line tells a giving: behind its letter and its place numbers to its end, six at most.
use Rattle.std.specs.Prelude.{ℕ, zero, suc, ◌≤◌, ◌≡◌, cond, List, [], ◌∷◌, ◌++◌, eqb, ltb, length, get_or, take, drop}
use Rattle.replay_parse.specs.Lines.{Field, read_number}
use Rattle.replay_parse.specs.Lines.Field.{none, found}
use Rattle.replay_give.specs.declared.TurnsTold.{TurnsTold}

-- the one where a text is at its end, else the other
abbrev pub at_end : (text one other : List ℕ) → List ℕ
at_end [] one other = one
at_end (b ∷ text) one other = other

-- nothing where no number stands there
abbrev pub read_then : Field ℕ → (ℕ → List ℕ → List ℕ) → List ℕ
read_then none f = []
read_then (found n rest) f = f n rest

-- behind those read already the numbers that fill a text, so many at most; none at all where they are more, or another thing stands among them
unfoldable pub numbers_from : (most : ℕ) → (before text : List ℕ) → List ℕ
numbers_from zero before text = at_end text before []
numbers_from (suc most) before text = at_end text before (read_then (read_number text) (λ (n : ℕ) (rest : List ℕ). numbers_from most (before ++ (n ∷ [])) rest))

-- G is 71
unfoldable pub told_in : List ℕ → List ℕ
told_in line = cond (ltb (length line) 3) [] (cond (eqb (get_or line 0 0) 71) (numbers_from 6 [] (drop 3 line)) [])

-- ---- what the program has of it

pub record Tells (t : TurnsTold) (turns : List ℕ) : Type 0 where
  pub first : take t.count t.turns ≡ turns
  pub within : t.count ≤ 6
