-- The journal after a giving: each step that moves the turn journals the block that the window keeps, unless the journal has it, an own one, since its send.
use Rattle.std.specs.Prelude.{ℕ, zero, suc, ◌-◌, ◌/◌, ◌≡◌, List, [], ◌++◌, length, Option, Some, None}
use Rattle.memory.specs.Window.{kept_block}
use Rattle.replay_journal.specs.Journals.{Journal, whole, outgrown, grown, journal_of, journal_end, held_behind, page_behind}

-- the window's blocks of n slots, from s on
unfoldable pub blocks_from : List ℕ → (s n : ℕ) → List ℕ
blocks_from window s zero = []
blocks_from window s (suc n) = kept_block window s ++ blocks_from window (suc s) n

-- with those of the slots from its own length, in blocks, up to the turn
abbrev pub caught_up : ℕ → List ℕ → ℕ → Journal → Journal
caught_up room window turn (whole bytes) = grown room (blocks_from window (length bytes / 512) (turn - length bytes / 512)) (whole bytes)
caught_up room window turn outgrown = outgrown

-- ---- the bytes that hold it

-- so many blocks put behind, one after the other
unfoldable pub behind_all : List ℕ → (s n : ℕ) → Option ℕ → List ℕ → Option ℕ × List ℕ
behind_all window s zero h page = (h, page)
behind_all window s (suc n) h page = behind_all window (suc s) n (held_behind (kept_block window s) h page) (page_behind (kept_block window s) h page)

abbrev pub behind_turn : List ℕ → ℕ → Option ℕ → List ℕ → Option ℕ × List ℕ
behind_turn window turn (Some n) page = behind_all window (journal_end n page / 512) (turn - journal_end n page / 512) (Some n) page
behind_turn window turn None page = (None, page)

-- the journal by its rule, and no other bytes of the page changed
pub record CatchesUp (window : List ℕ) (turn : ℕ) (h : Option ℕ) (page : List ℕ) (after : Option ℕ) (left : List ℕ) : Type 0 where
  pub journal : journal_of after left ≡ caught_up (length page) window turn (journal_of h page)
  pub bytes : (after, left) ≡ behind_turn window turn h page
