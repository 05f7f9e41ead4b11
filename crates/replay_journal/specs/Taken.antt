-- The notices that the program keeps at a place, three numbers each as a restart is lent them: all that were taken there since it was made, where they are 32 at most.
use Rattle.std.specs.Prelude.{ℕ, ◌+◌, ◌≡◌, Bool, true, cond, not, ◌||◌, List, [], ◌∷◌, eqb, leb, take, set, replicate, Option, Some, None}
use Rattle.replay_parse.specs.declared.Call.{Call}
use Rattle.replay_journal.specs.declared.notices.Taken.{Taken}
use Rattle.replay_journal.specs.Journals.{Journal, whole, outgrown, grown}

abbrev pub none_taken : Taken
none_taken = record { length = 0; numbers = replicate 96 0 }

-- what the program has of them: like a journal, of numbers
abbrev pub taken_of : Option Taken → Journal
taken_of (Some t) = whole (take t.length t.numbers)
taken_of None = outgrown

-- Z asks for all of them
abbrev pub has_taken : Call → Journal → Bool
has_taken c (whole numbers) = true
has_taken c outgrown = not (eqb c.letter 90)

abbrev pub numbers_lent : Journal → List ℕ
numbers_lent (whole numbers) = numbers
numbers_lent outgrown = []

-- after a call of that number: with an accepted O one Out more, with a U a Back, and none where A, M or Y made the place anew
unfoldable pub taken_after : Call → ℕ → Journal → Journal
taken_after c number j =
    cond (not (eqb number 0)) j
    (cond (eqb c.letter 65 || (eqb c.letter 77 || eqb c.letter 89)) {- A, M, Y -} (whole [])
    (cond (eqb c.letter 79) {- O -} (grown 96 (c.first ∷ (1 ∷ (c.second ∷ []))) j)
    (cond (eqb c.letter 85) {- U -} (grown 96 (c.first ∷ (0 ∷ (c.second ∷ []))) j)
    j)))

-- ---- the numbers that hold them

-- one more in the three numbers behind the last
abbrev pub with_one : Taken → (replica kind slot : ℕ) → Taken
with_one t replica kind slot = record { length = t.length + 3; numbers = set (set (set t.numbers t.length replica) (t.length + 1) kind) (t.length + 2) slot }

-- where there is room for it
abbrev pub with_taken : Taken → (replica kind slot : ℕ) → Option Taken
with_taken t replica kind slot = cond (leb (t.length + 3) 96) (Some (with_one t replica kind slot)) None

-- one more, where all before it are kept
abbrev pub with_another : Option Taken → (replica kind slot : ℕ) → Option Taken
with_another None replica kind slot = None
with_another (Some t) replica kind slot = with_taken t replica kind slot

-- what is kept of the notices after a call of that number
unfoldable pub held_after : Call → ℕ → Option Taken → Option Taken
held_after c number t =
    cond (not (eqb number 0)) t
    (cond (eqb c.letter 65 || (eqb c.letter 77 || eqb c.letter 89)) (Some none_taken)
    (cond (eqb c.letter 79) (with_another t c.first 1 c.second)
    (cond (eqb c.letter 85) (with_another t c.first 0 c.second)
    t)))

-- the notices by their rule
pub record KeepsTaken (c : Call) (number : ℕ) (t after : Option Taken) : Type 0 where
  pub taken : taken_of after ≡ taken_after c number (taken_of t)
  pub held : after ≡ held_after c number t
