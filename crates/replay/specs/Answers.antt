-- What is said of a call, and which blocks are kept of those sent.
use Rattle.std.specs.Prelude.{◌≡◌, ℕ, ◌+◌, ◌≤◌, min, Bool, true, false, cond, ◌&&◌, ◌||◌, ◌⊎◌, List, [], length, take, drop, replicate, ℤ, ◌==◌, ◌≢◌, pos, Some, is_some, unwrap_or, slice_range}
use Rattle.std.proofs.Math.Seq.{paste}
use Rattle.replay_journal.specs.Journals.{journal_of, Keeps}
use Rattle.replay_journal.specs.Taken.{none_taken, taken_of, KeepsTaken}
use Rattle.replay_parse.specs.declared.Call.{Call}
use Rattle.replay_parse.specs.Lines.{call_with, call_of, place_named}
use Rattle.replay_delivery.specs.Deliveries.{kept_start, names_bytes, bytes_named}
use Rattle.replay_replica.specs.declared.Replica.{Replica}
use Rattle.replay_replica.specs.Effects.{places_size, no_replica, memory_of, Effect}
use Rattle.replay_give.specs.Kept.{CatchesUp}
use Rattle.replay_print.specs.Text.{answer_text, unknown_text, Holds}
use Rattle.replay.specs.Places.{size_at, given_at, effect_at}
use Rattle.replay.specs.Givings.{is_asked, giving_at, left_at}
use Rattle.replay.specs.declared.Place.{Place}

-- where nothing was made
abbrev pub no_place : Place
no_place = record { replica = no_replica; held = Some 0; taken = Some none_taken }

-- ---- what a line asks

-- what stands for no call, so for a giving too: no call is of letter 0, and with no digits its bytes are known, none
abbrev pub no_call : Call
no_call = call_with 0 0 0 (pos 0)

abbrev pub call_asked : List ℕ → Call
call_asked line = unwrap_or (call_of line) no_call

-- the last, where the line names none
abbrev pub place_asked : List ℕ → ℕ
place_asked line = unwrap_or (place_named line) 7

-- whether the line names a place, and bytes
abbrev pub is_known : List ℕ → ℕ → Bool
is_known line sent = is_some (place_named line) && names_bytes (call_asked line) line sent

-- what is kept where block i stands
abbrev pub block_at : ℕ → List ℕ → List ℕ
block_at i kept = slice_range kept (kept_start i) (kept_start i + 512)

-- the bytes that the line names, else none
abbrev pub bytes_asked : List ℕ → ℕ → List ℕ → List ℕ
bytes_asked line sent kept =
    let c = call_asked line in
    cond (names_bytes c line sent) (bytes_named c line (block_at c.first kept)) []

-- ---- what is said

-- of an accepted call the whole block
abbrev pub shown_if : ℕ → ℕ
shown_if number = cond (number == 0) 512 0

-- S sends a block, Y and Z give one back, J asks for one; no other call's answer shows one
abbrev pub shows_block : ℕ → Bool
shows_block letter = (letter == 74 || letter == 89) || (letter == 83 || letter == 90)

unfoldable pub block_shown : ℕ → ℕ → ℕ
block_shown letter number = cond (shows_block letter) (shown_if number) 0

-- ---- blocks sent

abbrev pub is_sent : ℕ → ℕ → Bool
is_sent letter number = letter == 83 && number == 0

-- a block that was sent, over what its bytes among those kept held
unfoldable pub kept_after : ℕ → ℕ → List ℕ → List ℕ → List ℕ
kept_after letter number block kept = cond (is_sent letter number) (paste kept 0 block (min (length block) (length kept))) kept

-- the line of the answer put, and the block kept where one was sent
pub record Says (letter number : ℕ) (numbers : List ℕ) (values : List ℤ) (block kept out : List ℕ) (n : ℕ) (sent : Bool) (kept_left out_left : List ℕ) : Type 0 where
  pub text : Holds out (answer_text number numbers values (take (block_shown letter number) block)) out_left n
  pub within : n ≤ length out_left
  pub sends : sent ≡ is_sent letter number
  pub keeps : kept_left ≡ kept_after letter number block kept

abbrev pub SaysOf : ℕ → Effect → List ℕ → List ℕ → ℕ → Bool → List ℕ → List ℕ → Type 0
SaysOf letter e kept out n sent kept_left out_left = Says letter e.number e.numbers e.values e.block kept out n sent kept_left out_left

-- ---- a line

abbrev pub effect_for : Call → List ℕ → Place → List ℕ → Effect
effect_for c named place page = effect_at c named (replicate 512 0) place page

-- the call at its place, lent a block of zeros, and its answer
pub record AnswersAt (c : Call) (named : List ℕ) (place : Place) (page kept out : List ℕ) (after : Place) (n : ℕ) (sent : Bool) (left kept_left out_left : List ℕ) : Type 0 where
  pub memory : memory_of (size_at c place.replica) after.replica ≡ (effect_for c named place page).memory
  pub rest : drop (size_at c place.replica) after.replica.places ≡ drop (size_at c place.replica) place.replica.places
  pub journal : Keeps (effect_for c named place page).change (given_at c named (journal_of place.held page)) (effect_for c named place page).block place.held page after.held left
  pub notices : KeepsTaken c (effect_for c named place page).number place.taken after.taken
  pub says : SaysOf c.letter (effect_for c named place page) kept out n sent kept_left out_left

-- the giving at its place, and its answer; G is 71
pub record GivesLine (told lent : List ℕ) (place : Place) (page kept out : List ℕ) (after : Place) (n : ℕ) (sent : Bool) (left kept_left out_left : List ℕ) : Type 0 where
  pub memory : memory_of (places_size place.replica.group.replicas) after.replica ≡ left_at told lent place
  pub rest : drop (places_size place.replica.group.replicas) after.replica.places ≡ drop (places_size place.replica.group.replicas) place.replica.places
  pub journal : CatchesUp (left_at told lent place).blocks.window (left_at told lent place).turn.slot place.held page after.held left
  pub notices : after.taken ≡ place.taken
  pub says : SaysOf 71 (giving_at (replicate 512 0) told lent place) kept out n sent kept_left out_left

-- neither: all stays, and the answer is the line of what is none
pub record Unanswered (place : Place) (page kept out : List ℕ) (after : Place) (n : ℕ) (sent : Bool) (left kept_left out_left : List ℕ) : Type 0 where
  pub stays : after ≡ place
  pub journal : left ≡ page
  pub text : Holds out unknown_text out_left n
  pub sends : sent ≡ false
  pub keeps : kept_left ≡ kept

-- what a line does that is answered: its call where it tells no turns, else a giving, which is lent the window of the one at the giver's place
abbrev pub Does : Call → (named told : List ℕ) → Replica → Place → (page kept out : List ℕ) → Place → ℕ → Bool → (left kept_left out_left : List ℕ) → Type 0
Does c named told lender place page kept out after n sent left kept_left out_left =
    ((told ≡ []) × AnswersAt c named place page kept out after n sent left kept_left out_left)
    ⊎ ((told ≢ []) × GivesLine told lender.window place page kept out after n sent left kept_left out_left)

abbrev pub is_asked_at : Bool → Call → List ℕ → Replica → Place → List ℕ → Bool
is_asked_at known c told lender place page = is_asked known c told place.replica.group lender.group (journal_of place.held page) (taken_of place.taken)

-- the one or the other
pub record Replies (known : Bool) (c : Call) (named told : List ℕ) (lender : Replica) (place : Place) (page kept out : List ℕ) (after : Place) (n : ℕ) (sent : Bool) (left kept_left out_left : List ℕ) : Type 0 where
  pub does : ((is_asked_at known c told lender place page ≡ true) × Does c named told lender place page kept out after n sent left kept_left out_left)
      ⊎ ((is_asked_at known c told lender place page ≡ false) × Unanswered place page kept out after n sent left kept_left out_left)
  pub within : n ≤ length out_left
