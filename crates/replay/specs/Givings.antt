-- What a giving at a place does: at the replica there, with its journal, and when a line asks for one.
use Rattle.std.specs.Prelude.{◌≡◌, ℕ, Bool, cond, ◌&&◌, ◌||◌, List, length, ◌==◌}
use Rattle.memory.specs.declared.Group.{Group}
use Rattle.memory.specs.Memory.{Memory}
use Rattle.giving.specs.Choice.{giver_of}
use Rattle.giving.specs.Giving.{give_step}
use Rattle.replay_parse.specs.declared.Call.{Call}
use Rattle.replay_journal.specs.Journals.{Journal}
use Rattle.replay_replica.specs.Effects.{places_size, memory_of, Effect, Plays}
use Rattle.replay_give.specs.Givings.{give_effect}
use Rattle.replay_give.specs.Kept.{CatchesUp}
use Rattle.replay.specs.declared.Place.{Place}
use Rattle.replay.specs.declared.Placed.{Placed}
use Rattle.replay.specs.Places.{is_replica, is_answered}

-- whether a giving is answered: its line names a place, a replica is there, as many turns are told as it has replicas in its group, and a replica is at the place of the giver, unless nobody is up
unfoldable pub is_given : Bool → (told : List ℕ) → (group lender : Group) → Bool
is_given known told group lender =
    known && (is_replica group && (length told == group.replicas && (giver_of group.own told == group.own || is_replica lender)))

-- a line that tells turns asks for a giving, any other for its call
abbrev pub is_asked : Bool → Call → (told : List ℕ) → (group lender : Group) → (journal notices : Journal) → Bool
is_asked known c told group lender j t = cond (length told == 0) (is_answered known c group j t) (is_given known told group lender)

abbrev pub giving_at : List ℕ → (told lent : List ℕ) → Place → Effect
giving_at block told lent place = give_effect block (memory_of (places_size place.replica.group.replicas) place.replica) told lent

-- the memory after it
abbrev pub left_at : (told lent : List ℕ) → Place → Memory
left_at told lent place = (give_step (memory_of (places_size place.replica.group.replicas) place.replica) told lent).memory

-- that effect, and the journal by its rule, with the window and the turn that are left; no other bytes of the page change, and the notices stay
pub record GivesAt (told lent : List ℕ) (place : Place) (page : List ℕ) (p : Placed) (left : List ℕ) : Type 0 where
  pub plays : (block : List ℕ) → Plays (places_size place.replica.group.replicas) place.replica p.played block (giving_at block told lent place)
  pub journal : CatchesUp (left_at told lent place).blocks.window (left_at told lent place).turn.slot place.held page p.held left
  pub notices : p.taken ≡ place.taken
