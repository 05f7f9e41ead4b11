-- What a wrong giving gets wrong, computed: few choices and few givings, since every edit computes them anew. More stand in `giving_runs`.
use Rattle.std.specs.Prelude.{ℕ, ◌≡◌, List, [], ◌∷◌, pos}
use Rattle.memory.specs.Memory.{Memory}
use Rattle.memory.specs.Window.{empty_window, keeping}
use Rattle.engine.specs.Calls.{Call, after}
use Rattle.engine.specs.Calls.Call.{begin, write, deliver, work}
use Rattle.engine.specs.Worked.{fresh, next_block, two_then_one}
use Rattle.giving.specs.Choice.{down, giver_of}
use Rattle.giving.specs.Giving.{give_step}

pub record RightChoices : Type 0 where
  -- the highest turn, of the tied the first after the returner, upward and round; the own entry is not looked at, be it higher or lower
  pub highest : giver_of 0 (9 ∷ 3 ∷ 4 ∷ 4 ∷ []) ≡ 2
  pub upward : giver_of 1 (4 ∷ 9 ∷ 3 ∷ 4 ∷ []) ≡ 3
  pub round : giver_of 2 (4 ∷ 4 ∷ 9 ∷ 3 ∷ []) ≡ 0
  pub own-zero : giver_of 3 (0 ∷ 0 ∷ 0 ∷ 0 ∷ []) ≡ 0
  pub own-down : giver_of 0 (down ∷ down ∷ 2 ∷ []) ≡ 2
  pub nobody : giver_of 2 (down ∷ down ∷ 0 ∷ []) ≡ 2

-- what a giving is seen by: its number, the tickets aborted, the calls done and the turn
abbrev pub Seen : Type 0
Seen = ℕ × List ℕ × List Call × ℕ

abbrev pub seen : Memory → List ℕ → List ℕ → Seen
seen m told lent = let g = give_step m told lent in (g.number, g.aborted, g.calls, g.memory.turn.slot)

-- replica 1 of 2, where `two_then_one` hits ticket 2 by its first writeset and ticket 1 by its second
abbrev pub returner : Memory
returner = after (fresh 2 1) (begin ∷ begin ∷ write 1 5 (pos 1) ∷ write 2 6 (pos 1) ∷ [])

-- a window with a block for slot 0 alone, and one with a block for slot 1 alone
abbrev pub first_kept : List ℕ
first_kept = keeping empty_window 0 two_then_one

abbrev pub second_kept : List ℕ
second_kept = keeping empty_window 1 (next_block 2 1 1)

pub record RightGivings : Type 0 where
  -- one slot, of two writesets
  pub gives : seen returner (1 ∷ 0 ∷ []) first_kept ≡ (0, 1 ∷ 2 ∷ [], deliver two_then_one ∷ work ∷ work ∷ [], 1)
  -- two slots, of which the window lacks one
  pub lacks-last : seen returner (2 ∷ 0 ∷ []) first_kept ≡ (31, [], [], 0)
  pub lacks-first : seen returner (2 ∷ 0 ∷ []) second_kept ≡ (31, [], [], 0)
