-- What a call at a place does: at the replica or the station there, and with the journal and the notices that are kept of it.
use Rattle.std.specs.Prelude.{ℕ, Bool, true, cond, not, ◌&&◌, ◌||◌, List, take, replicate, ◌==◌}
use Rattle.memory.specs.Memory.{numberless}
use Rattle.memory.specs.declared.Group.{Group}
use Rattle.replay_parse.specs.declared.Call.{Call}
use Rattle.call_reply.specs.Notices.{restart_lent}
use Rattle.replay_journal.specs.Journals.{Journal, journal_of, has_part, bytes_given, Keeps}
use Rattle.replay_journal.specs.Taken.{taken_of, has_taken, numbers_lent, KeepsTaken}
use Rattle.replay.specs.declared.Place.{Place}
use Rattle.replay.specs.declared.Placed.{Placed}
use Rattle.replay_replica.specs.declared.Replica.{Replica}
use Rattle.replay_replica.specs.Effects.{memory_of, Effect, effect, Plays}
use Rattle.replay_calls.specs.Letters.{is_make, size_lent, played}

-- a replica was made, and not a station
abbrev pub is_replica : Group → Bool
is_replica group = not (numberless group) && not (group.replicas == 0)

-- J, P and Z are calls at a replica alone: a station has no journal, and no classes
abbrev pub is_replicas : ℕ → Bool
is_replicas letter = letter == 74 || (letter == 80 || letter == 90)

-- A, M and Y make what is there; any other call needs what was made
abbrev pub is_there : Call → Group → Bool
is_there c group = cond (is_make c) true (cond (is_replicas c.letter) (is_replica group) (not (group.replicas == 0)))

-- whether the line is answered: the bytes that it names are known, it is a call, what it is for is there, the journal has the part that it names, and the notices are kept
unfoldable pub is_answered : Bool → Call → Group → (journal notices : Journal) → Bool
is_answered known c group j t = known && (not (c.letter == 0) && (is_there c group && (has_part c j && has_taken c t)))

-- how many bytes of places it is lent
abbrev pub size_at : Call → Replica → ℕ
size_at c replica = size_lent c replica.group

-- what it is given, of which the program has room for 65,536 bytes: a page has no more
unfoldable pub given_at : Call → List ℕ → Journal → List ℕ
given_at c named j = take 65_536 (bytes_given c named j)

-- what the call does at the replica with these bytes; Z is a restart with the N and the own number that the replica has, lent the notices
unfoldable pub played_at : Call → List ℕ → Journal → List ℕ → Replica → Effect
played_at c bytes t lent replica =
    cond (c.letter == 90)
    (effect lent (restart_lent (memory_of (size_at c replica) replica) replica.group.replicas replica.group.own (replicate 128 c.value) bytes (numbers_lent t) lent))
    (played c bytes lent (memory_of (size_at c replica) replica))

-- so where its line names those bytes
abbrev pub effect_at : Call → List ℕ → List ℕ → Place → List ℕ → Effect
effect_at c named lent place page = played_at c (given_at c named (journal_of place.held page)) (taken_of place.taken) lent place.replica

-- that effect, and the journal by its rule, with what it was given and the block that is left, and the notices by theirs; no other bytes of the page change. At a station the rules are the same, and
-- no call asks for what is kept
pub record PlaysAt (c : Call) (named lent : List ℕ) (place : Place) (page : List ℕ) (p : Placed) (left block : List ℕ) : Type 0 where
  pub plays : Plays (size_at c place.replica) place.replica p.played block (effect_at c named lent place page)
  pub keeps : Keeps (effect_at c named lent place page).change (given_at c named (journal_of place.held page)) block place.held page p.held left
  pub notices : KeepsTaken c (effect_at c named lent place page).number place.taken p.taken
