-- Document 02's Req 06 on runs of a group of two: one in which the block handed out was given to both replicas, so that the promise speaks of something; and three that meet the agreement's premise and
-- end with nobody able to send or work, since what "given" asks for is not so: a block was given to nobody, to its maker only before it was sent, to a replica only before its last restart.
-- With notices: one in which a replica is down and out; and three that end so: the replicas took other notices, a block was given only where it was answered 29, only where it was answered 18.
use Rattle.std.specs.Prelude.{ℕ, ◌≡◌, Bool, List, [], ◌∷◌, ◌++◌, eqb, replicate}
use Rattle.memory.specs.Memory.{Memory}
use Rattle.engine.specs.Answers.{number_of}
use Rattle.engine.specs.Calls.{step}
use Rattle.engine.specs.Calls.Call.{send, deliver, work, notice}
use Rattle.engine.specs.Worked.{zeros, next_block, out_from, back_at}
use Rattle.agreement.specs.Group.{Members, CallAt, fresh, run, Calls, Premise}
use Rattle.agreement_progress.specs.Progress.{DownOut, SameNotices, AllGiven, SlotsLeft, everyone}
use Rattle.agreement_runs.specs.Worked.{at, sending, taking, restarting, numbers}

abbrev pub slot_zero : List ℕ
slot_zero = next_block 2 0 0

abbrev pub slot_one : List ℕ
slot_one = next_block 2 1 1

-- a station is there too, with nothing given to it
abbrev pub given : List CallAt
given = sending 0 ∷ at 0 (deliver slot_zero) ∷ at 1 (deliver slot_zero) ∷ at 2 work ∷ []

abbrev pub ungiven : List CallAt
ungiven = sending 0 ∷ []

-- replica 0 is given its block before it has sent it, which is refused by 19; all else is given
abbrev pub early : List CallAt
early =
    at 0 (deliver slot_zero)
    ∷ sending 0
    ∷ at 1 (deliver slot_zero)
    ∷ at 1 work
    ∷ sending 1
    ∷ at 1 (deliver slot_one)
    ∷ at 0 (deliver slot_one)
    ∷ at 1 work
    ∷ []

-- both are given the block and replica 0 works it; replica 1 restarts before it does, and its places are empty
abbrev pub emptied : List CallAt
emptied = sending 0 ∷ at 0 (deliver slot_zero) ∷ at 1 (deliver slot_zero) ∷ at 0 work ∷ restarting 2 1 [] ∷ []

-- ---- with notices

-- replica 1 is down, and out from slot 1
abbrev pub down : List CallAt
down = at 0 (notice (out_from 1 1)) ∷ sending 0 ∷ taking 0 slot_zero

abbrev pub first_alone : ℕ → Bool
first_alone k = eqb k 0

-- it is up, and has taken that notice alone
abbrev pub unlike : List CallAt
unlike = at 1 (notice (out_from 1 1)) ∷ sending 0 ∷ taking 0 slot_zero ++ taking 1 slot_zero ++ (at 1 work ∷ [])

-- replica 1 is back at slot 1; its block comes to replica 0 before the Back does
abbrev pub out_given : List CallAt
out_given =
    at 0 (notice (out_from 1 0)) ∷ at 1 (notice (out_from 1 0)) ∷ at 1 (notice (back_at 1 1)) ∷ sending 0 ∷ taking 0 slot_zero
    ++ taking 1 slot_zero
    ++ (sending 1 ∷ taking 1 slot_one)
    ++ (at 0 (deliver slot_one) ∷ at 0 (notice (back_at 1 1)) ∷ [])

abbrev pub slot_two : List ℕ
slot_two = next_block 2 0 2

-- replica 1 is out from slot 1 and back at slot 3; slot 2's block comes to it at slot 0
abbrev pub far_given : List CallAt
far_given =
    at 0 (notice (out_from 1 1)) ∷ at 0 (notice (back_at 1 3)) ∷ at 1 (notice (out_from 1 1)) ∷ at 1 (notice (back_at 1 3)) ∷ sending 0 ∷ taking 0 slot_zero
    ++ (at 0 work ∷ sending 0 ∷ taking 0 slot_two)
    ++ (at 1 (deliver slot_two) ∷ taking 1 slot_zero)
    ++ (at 1 work ∷ [])

-- ---- what the runs end with

-- what a send and a work answer on a memory, and at replica 0 and replica 1 then
unfoldable pub tried_on : Memory → List ℕ
tried_on m = number_of (step m (send (replicate 512 0))).answer ∷ number_of (step m work).answer ∷ []

abbrev pub tried : Members → List ℕ
tried g = tried_on (g.memories 0) ++ tried_on (g.memories 1)

abbrev pub after : List CallAt → Members
after cs = run (fresh 2 zeros) cs

pub record Ending (cs : List CallAt) (numbers : List ℕ) : Type 0 where
  pub calls : Calls 2 cs
  pub premise : Premise 2 zeros cs
  pub ends : tried (after cs) ≡ numbers

pub record WorkedProgress : Type 0 where
  pub same : SameNotices 2 zeros given everyone
  pub all : AllGiven 2 zeros given everyone
  pub left : SlotsLeft 2 zeros given everyone
  pub goes : Ending given (12 ∷ 0 ∷ 11 ∷ 0 ∷ [])
  pub not-given : Ending ungiven (12 ∷ 21 ∷ 11 ∷ 21 ∷ [])
  pub given-early : Ending early (12 ∷ 21 ∷ 11 ∷ 21 ∷ [])
  pub given-before : Ending emptied (11 ∷ 21 ∷ 11 ∷ 21 ∷ [])

pub record NoticedProgress : Type 0 where
  -- replica 0 works; replica 1 does not count
  pub down_out : DownOut 2 zeros down first_alone
  pub down-same : SameNotices 2 zeros down first_alone
  pub down-all : AllGiven 2 zeros down first_alone
  pub down-left : SlotsLeft 2 zeros down first_alone
  pub down-goes : Ending down (11 ∷ 0 ∷ 11 ∷ 21 ∷ [])
  -- all is given, and the notices differ
  pub unlike-all : AllGiven 2 zeros unlike everyone
  pub unlike-ends : Ending unlike (11 ∷ 21 ∷ 11 ∷ 21 ∷ [])
  -- the answers to each call, 29 or 18 to the block that is lacking at the end
  pub out-answers : numbers (fresh 2 zeros) out_given ≡ 0 ∷ 0 ∷ 0 ∷ 0 ∷ 0 ∷ 0 ∷ 0 ∷ 0 ∷ 0 ∷ 0 ∷ 0 ∷ 29 ∷ 0 ∷ []
  pub given_out : Ending out_given (11 ∷ 21 ∷ 11 ∷ 21 ∷ [])
  pub far-answers : numbers (fresh 2 zeros) far_given ≡ 0 ∷ 0 ∷ 0 ∷ 0 ∷ 0 ∷ 0 ∷ 0 ∷ 0 ∷ 0 ∷ 0 ∷ 0 ∷ 18 ∷ 0 ∷ 0 ∷ 0 ∷ []
  pub given-far : Ending far_given (11 ∷ 21 ∷ 11 ∷ 21 ∷ [])
