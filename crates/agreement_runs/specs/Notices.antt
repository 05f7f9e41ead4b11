-- Document 02's Req 10 on runs of a group of two with a station, member 2: one with an outage, which meets the premise; and one in which a replica lacks a notice and stands above its slot, so that
-- the premise is seen to be needed.
use Rattle.std.specs.Prelude.{ℕ, ◌≡◌, List, [], ◌∷◌, ◌++◌, ℤ, pos, replicate, set}
use Rattle.block.specs.Bytes.{block_of}
use Rattle.memory.specs.Notices.{Notice}
use Rattle.engine.specs.Calls.Call.{work, notice}
use Rattle.engine.specs.History.AnyCall.{restart}
use Rattle.engine.specs.Worked.{zeros, next_block, out_from, back_at}
use Rattle.agreement.specs.Group.{Members, CallAt, fresh, run, Calls, PremiseFrom, Premise}
use Rattle.agreement.specs.Statement.{Agreement}
use Rattle.agreement_runs.specs.Worked.{at, asking, sending, taking, numbers, HeldBy, held_in, holding}

-- the block of slot s of two, with one transaction that wrote one item, ticket 1
abbrev pub committing : ℕ → ℕ → ℕ → ℤ → List ℕ
committing s sender item value =
    block_of (record { kind = 2; sender = sender; replicas = 2; slot = s; records = record { ticket = 1; entries = record { item = item; value = value } ∷ [] } ∷ [] })

abbrev pub taken : List Notice
taken = out_from 1 1 ∷ []

-- ---- a closed studio

abbrev pub slot_zero : List ℕ
slot_zero = committing 0 0 10 (pos 80)

abbrev pub slot_three : List ℕ
slot_three = committing 3 1 20 (pos 70)

-- replica 1 restarts from slot 0's block and the *next* of its own out slot, which the work that passed it appended
abbrev pub reopening : CallAt
reopening = record { at = 1; does = restart 2 1 zeros (slot_zero ++ next_block 2 1 1) taken (replicate 512 0) }

-- replica 1 is out from slot 1 and back at slot 3. Replica 0 passes slot 1, another's, and replica 1 passes it, its own, restarts, is told of the Back and sends for slot 3; station 2 takes
-- both notices in its own time. Replica 0 has taken one about itself between the two, which the others lack
abbrev pub closed_studio : List CallAt
closed_studio =
    (at 0 (notice (out_from 1 1)) ∷ at 1 (notice (out_from 1 1)) ∷ at 0 (notice (out_from 0 8)) ∷ asking 0 1 10 (pos 80))
    ++ (sending 0 ∷ taking 0 slot_zero)
    ++ (at 0 work ∷ taking 1 slot_zero)
    ++ (at 1 work ∷ reopening ∷ at 1 (notice (back_at 1 3)) ∷ at 0 (notice (back_at 1 3)) ∷ sending 0 ∷ taking 0 (next_block 2 0 2))
    ++ taking 1 (next_block 2 0 2)
    ++ asking 1 1 20 (pos 70)
    ++ (sending 1 ∷ taking 1 slot_three)
    ++ taking 0 slot_three
    ++ (at 2 (notice (out_from 1 1)) ∷ taking 2 slot_zero)
    ++ (at 2 work ∷ at 2 (notice (back_at 1 3)) ∷ taking 2 (next_block 2 0 2))
    ++ taking 2 slot_three

-- ---- a notice not taken

-- replica 1 is out from slot 0 and back at slot 1, and sends for it; replica 0 has not taken the Back, passes slot 1 as out, and sends for slot 2
abbrev pub unheard : List CallAt
unheard =
    (at 0 (notice (out_from 1 0)) ∷ at 1 (notice (out_from 1 0)) ∷ at 1 (notice (back_at 1 1)) ∷ sending 0 ∷ taking 0 (next_block 2 0 0))
    ++ taking 1 (next_block 2 0 0)
    ++ asking 1 1 5 (pos 86)
    ++ (sending 1 ∷ taking 1 (committing 1 1 5 (pos 86)))
    ++ (at 0 work ∷ asking 0 1 5 (pos 84))
    ++ (sending 0 ∷ taking 0 (committing 2 0 5 (pos 84)))

-- ---- what the runs leave

abbrev pub after : List CallAt → Members
after cs = run (fresh 2 zeros) cs

-- a member's turn, the notices it took, and what it holds
pub record Stands : Type 0 where
  pub turn : ℕ
  pub taken : List Notice
  pub held : HeldBy

abbrev pub stands : Members → ℕ → Stands
stands g k = record { turn = (g.memories k).turn.slot; taken = g.taken k; held = held_in g k }

abbrev pub standing : ℕ → List Notice → HeldBy → Stands
standing t l h = record { turn = t; taken = l; held = h }

abbrev pub closed_values : List ℤ
closed_values = set (set zeros 10 (pos 80)) 20 (pos 70)

-- every call is accepted, all that is asked of the run is met, and the theorem speaks of it: who committed as much holds the same
pub record ClosedRun : Type 0 where
  pub calls : Calls 2 closed_studio
  pub premise : Premise 2 zeros closed_studio
  pub answers : numbers (fresh 2 zeros) closed_studio ≡ replicate 38 0
  pub replica-0 : stands (after closed_studio) 0 ≡ standing 4 (out_from 1 1 ∷ out_from 0 8 ∷ back_at 1 3 ∷ []) (holding closed_values 2)
  pub replica-1 : stands (after closed_studio) 1 ≡ standing 4 (out_from 1 1 ∷ back_at 1 3 ∷ []) (holding closed_values 2)
  pub station-2 : stands (after closed_studio) 2 ≡ standing 4 (out_from 1 1 ∷ back_at 1 3 ∷ []) (holding closed_values 2)
  pub agreement : Agreement 2 zeros closed_studio
  pub agree : ((after closed_studio).memories 0).store.values ≡ ((after closed_studio).memories 2).store.values

-- each call meets the premise; the notices at the end do not, and both replicas committed one writeset and hold other values: what the agreement claims is false
pub record UnheardRun : Type 0 where
  pub calls : Calls 2 unheard
  pub each : PremiseFrom 2 zeros (fresh 2 zeros) unheard
  pub premise : Premise 2 zeros unheard → ⊥
  pub replica-0 : stands (after unheard) 0 ≡ standing 3 (out_from 1 0 ∷ []) (holding (set zeros 5 (pos 84)) 1)
  pub replica-1 : stands (after unheard) 1 ≡ standing 2 (out_from 1 0 ∷ back_at 1 1 ∷ []) (holding (set zeros 5 (pos 86)) 1)
  pub agreement : Agreement 2 zeros unheard → ⊥

pub record NoticeRuns : Type 0 where
  pub closed-runs : ClosedRun
  pub unheard-runs : UnheardRun
