-- The journal of a place, which the program keeps whole while there is room for it, 128 blocks; and what a line may ask of it.
use Rattle.std.specs.Prelude.{ℕ, ◌+◌, ◌*◌, min, ◌≡◌, Bool, true, false, cond, ◌||◌, List, ◌++◌, eqb, leb, length, take, Option, Some, None}
use Rattle.std.proofs.Math.Seq.{paste, slice}
use Rattle.replay_parse.specs.declared.Call.{Call}
use Rattle.replay_journal.specs.declared.Change.{Change}
use Rattle.replay_journal.specs.declared.Change.TheVariants.{Stays, Grows, Begins}

-- ---- the journal

-- all bytes appended; or there were more than there is room for
pub data Journal : Type 0 where
  whole : List ℕ → Journal
  outgrown : Journal

abbrev pub if_room : ℕ → List ℕ → Journal
if_room room bytes = cond (leb (length bytes) room) (whole bytes) outgrown

-- with these bytes appended
abbrev pub grown : ℕ → List ℕ → Journal → Journal
grown room bytes (whole before) = if_room room (before ++ bytes)
grown room bytes outgrown = outgrown

-- after a call that was given those bytes and left that block: of the bytes given a restart takes up so many blocks, a make none
abbrev pub changed : ℕ → List ℕ → List ℕ → Change → Journal → Journal
changed room given block Stays j = j
changed room given block Grows j = grown room block j
changed room given block (Begins count) j = if_room room (take (512 * count) given)

-- what the program has of it: the first bytes of a page
abbrev pub journal_of : Option ℕ → List ℕ → Journal
journal_of (Some n) page = whole (take n page)
journal_of None page = outgrown

-- ---- what a line asks of it

-- Z and J name a part: Z the first bytes, J a block
abbrev pub is_part : ℕ → Bool
is_part letter = eqb letter 74 || eqb letter 90

abbrev pub part_start : Call → ℕ
part_start c = cond (eqb c.letter 74) (512 * c.first) 0

abbrev pub part_end : Call → ℕ
part_end c = cond (eqb c.letter 74) (512 * c.first + 512) c.first

-- whether the journal has the part that the call names, if it names one
unfoldable pub has_part : Call → Journal → Bool
has_part c (whole bytes) = cond (is_part c.letter) (leb (part_end c) (length bytes)) true
has_part c outgrown = cond (is_part c.letter) false true

-- the bytes that the call is given: that part, else those that its line names
unfoldable pub bytes_given : Call → List ℕ → Journal → List ℕ
bytes_given c named (whole bytes) = cond (is_part c.letter) (slice (part_start c) (part_end c) bytes) named
bytes_given c named outgrown = named

-- ---- the bytes that hold it

-- `left` is `lent` with the bytes over its first, as many as there is room for; n is how many these are
pub record Lends (bytes lent left : List ℕ) (n : ℕ) : Type 0 where
  pub count : n ≡ min (length bytes) (length lent)
  pub over : left ≡ paste lent 0 bytes (min (length bytes) (length lent))

-- where a page's journal ends
abbrev pub journal_end : ℕ → List ℕ → ℕ
journal_end n page = min n (length page)

abbrev pub has_room : ℕ → List ℕ → List ℕ → Bool
has_room n page bytes = leb (journal_end n page + length bytes) (length page)

-- the bytes put behind the journal, where there is room for them, and how much is held then; else the page stays
abbrev pub held_behind : List ℕ → Option ℕ → List ℕ → Option ℕ
held_behind bytes (Some n) page = cond (has_room n page bytes) (Some (journal_end n page + length bytes)) None
held_behind bytes None page = None

abbrev pub page_behind : List ℕ → Option ℕ → List ℕ → List ℕ
page_behind bytes (Some n) page = cond (has_room n page bytes) (paste page (journal_end n page) bytes (length bytes)) page
page_behind bytes None page = page

-- so after a call
abbrev pub held_after : Change → List ℕ → List ℕ → Option ℕ → List ℕ → Option ℕ
held_after Stays given block h page = h
held_after Grows given block h page = held_behind block h page
held_after (Begins count) given block h page = held_behind (take (512 * count) given) (Some 0) page

abbrev pub page_after : Change → List ℕ → List ℕ → Option ℕ → List ℕ → List ℕ
page_after Stays given block h page = page
page_after Grows given block h page = page_behind block h page
page_after (Begins count) given block h page = page_behind (take (512 * count) given) (Some 0) page

-- the journal by its rule, and no other bytes of the page changed
pub record Appends (more : List ℕ) (h : Option ℕ) (page : List ℕ) (after : Option ℕ) (left : List ℕ) : Type 0 where
  pub journal : journal_of after left ≡ grown (length page) more (journal_of h page)
  pub held : after ≡ held_behind more h page
  pub bytes : left ≡ page_behind more h page

pub record Keeps (change : Change) (given block : List ℕ) (h : Option ℕ) (page : List ℕ) (after : Option ℕ) (left : List ℕ) : Type 0 where
  pub journal : journal_of after left ≡ changed (length page) given block change (journal_of h page)
  pub held : after ≡ held_after change given block h page
  pub bytes : left ≡ page_after change given block h page
