-- Lines worked out, as bytes.
use Rattle.std.specs.Prelude.{◌≡◌, [], ◌∷◌, pos, negsuc, Some, None}
use Rattle.replay_parse.specs.Lines.{call_with}
use Rattle.week_lines.specs.Weeks.{group_of, line_of}

pub record WorkedFirst : Type 0 where
  -- `N 2`
  pub two : group_of (78 ∷ 32 ∷ 50 ∷ []) ≡ Some 2
  -- `N 4`
  pub four : group_of (78 ∷ 32 ∷ 52 ∷ []) ≡ Some 4
  -- `N 1`
  pub one : group_of (78 ∷ 32 ∷ 49 ∷ []) ≡ None
  -- `N 5`
  pub five : group_of (78 ∷ 32 ∷ 53 ∷ []) ≡ None
  -- `N 02`
  pub zeroed : group_of (78 ∷ 32 ∷ 48 ∷ 50 ∷ []) ≡ None
  -- `N 2 `
  pub spaced : group_of (78 ∷ 32 ∷ 50 ∷ 32 ∷ []) ≡ None
  -- an empty line, or none
  pub empty : group_of [] ≡ None

-- in a week of two
pub record WorkedLines : Type 0 where
  -- `B 0`
  pub begin : line_of 2 (66 ∷ 32 ∷ 48 ∷ []) ≡ Some (0, call_with 66 0 0 (pos 0))
  -- `W 0 1 5 40`
  pub write : line_of 2 (87 ∷ 32 ∷ 48 ∷ 32 ∷ 49 ∷ 32 ∷ 53 ∷ 32 ∷ 52 ∷ 48 ∷ []) ≡ Some (0, call_with 87 1 5 (pos 40))
  -- `W 1 1 5 -4`
  pub negative : line_of 2 (87 ∷ 32 ∷ 49 ∷ 32 ∷ 49 ∷ 32 ∷ 53 ∷ 32 ∷ 45 ∷ 52 ∷ []) ≡ Some (1, call_with 87 1 5 (negsuc 3))
  -- `C 0 1`
  pub ask : line_of 2 (67 ∷ 32 ∷ 48 ∷ 32 ∷ 49 ∷ []) ≡ Some (0, call_with 67 1 0 (pos 0))
  -- `D 1 0`
  pub deliver : line_of 2 (68 ∷ 32 ∷ 49 ∷ 32 ∷ 48 ∷ []) ≡ Some (1, call_with 68 0 0 (pos 0))
  -- `K 2`, which would be a line in a week of three
  pub other : line_of 2 (75 ∷ 32 ∷ 50 ∷ []) ≡ None
  pub third : line_of 3 (75 ∷ 32 ∷ 50 ∷ []) ≡ Some (2, call_with 75 0 0 (pos 0))
  -- `K 00`
  pub doubled : line_of 2 (75 ∷ 32 ∷ 48 ∷ 48 ∷ []) ≡ None
  -- `D 1 01`
  pub zeroed : line_of 2 (68 ∷ 32 ∷ 49 ∷ 32 ∷ 48 ∷ 49 ∷ []) ≡ None
  -- `W 0 1 5 -0`
  pub nought : line_of 2 (87 ∷ 32 ∷ 48 ∷ 32 ∷ 49 ∷ 32 ∷ 53 ∷ 32 ∷ 45 ∷ 48 ∷ []) ≡ None
  -- `C 0  1`
  pub spaces : line_of 2 (67 ∷ 32 ∷ 48 ∷ 32 ∷ 32 ∷ 49 ∷ []) ≡ None
  -- `S 0 `
  pub trailing : line_of 2 (83 ∷ 32 ∷ 48 ∷ 32 ∷ []) ≡ None
  -- `S 0` and a carriage return
  pub return : line_of 2 (83 ∷ 32 ∷ 48 ∷ 13 ∷ []) ≡ None
  -- `D 0 4294967295` and one more
  pub highest : line_of 2 (68 ∷ 32 ∷ 48 ∷ 32 ∷ 52 ∷ 50 ∷ 57 ∷ 52 ∷ 57 ∷ 54 ∷ 55 ∷ 50 ∷ 57 ∷ 53 ∷ []) ≡ Some (0, call_with 68 4_294_967_295 0 (pos 0))
  pub beyond : line_of 2 (68 ∷ 32 ∷ 48 ∷ 32 ∷ 52 ∷ 50 ∷ 57 ∷ 52 ∷ 57 ∷ 54 ∷ 55 ∷ 50 ∷ 57 ∷ 54 ∷ []) ≡ None
  -- `X 0 1`, a call of `replay`
  pub withdraw : line_of 2 (88 ∷ 32 ∷ 48 ∷ 32 ∷ 49 ∷ []) ≡ None
  -- `N 2` once more, and an empty line
  pub again : line_of 2 (78 ∷ 32 ∷ 50 ∷ []) ≡ None
  pub empty : line_of 2 [] ≡ None
