-- What document 02's notices do, as small runs of the same group of three: an Out taken, its slots passed and journaled, a Back, restarts lent the notices; and what the premise bars.
use Rattle.std.specs.Prelude.{ℕ, ◌≡◌, false, true, List, [], ◌∷◌, ◌++◌, map}
use Rattle.std.proofs.Math.Option.{none, some}
use Rattle.protocol.specs.Writesets.{Message}
use Rattle.protocol.specs.Notices.{Notice, notices_about, puts_out, outage}
use Rattle.protocol.specs.Replica.Event.{refused, began, wrote, requested, reported, handed_out, accepted, passed, committed, restarted, noticed}
use Rattle.protocol.specs.Journal.{journal, next_of}
use Rattle.protocol.specs.System.{begin, write, ask, report, send, deliver, work, restart, notice, CallAt, Beginning, OneList, Lent}
use Rattle.protocol.specs.Worked.{three, start, at, events, after, writeset}

abbrev pub out_from : (k v : ℕ) → Notice
out_from k v = record { about = k; out = true; slot = v }

abbrev pub back_at : (k w : ℕ) → Notice
back_at k w = record { about = k; out = false; slot = w }

-- ---- replica 0, while replica 2 is out: its slot 2 is passed, slot 5 would be, slot 8 counts again
abbrev pub noticing : List (CallAt ℕ)
noticing = at 0 (notice (out_from 2 2) ∷ notice (out_from 2 5) ∷ notice (out_from 2 9) ∷ notice (back_at 2 2) ∷ notice (back_at 1 5) ∷ [])

abbrev pub passing : List (CallAt ℕ)
passing = at 0 (send ∷ deliver (next_of 0 0) ∷ work ∷ deliver (next_of 1 1) ∷ work
    ∷ send ∷ deliver (next_of 2 2) ∷ deliver (next_of 8 2) ∷ work ∷ deliver (next_of 2 2) ∷ report ∷ [])

abbrev pub returning : List (CallAt ℕ)
returning = at 0 (notice (back_at 2 2) ∷ notice (back_at 2 6) ∷ notice (back_at 2 8) ∷ notice (out_from 2 7) ∷ deliver (next_of 5 2) ∷ deliver (next_of 8 2) ∷ [])

-- ---- replica 1, out itself from slot 1 to 4 and again from 7: what it asked waits, and is sent in slot 4
abbrev pub closing : List (CallAt ℕ)
closing = at 1 (begin ∷ write 1 0 5 ∷ ask 1 ∷ deliver (next_of 0 0) ∷ work ∷ notice (out_from 1 1) ∷ send ∷ [])

abbrev pub closed : List (CallAt ℕ)
closed = at 1 (work ∷ deliver (next_of 2 2) ∷ work ∷ deliver (next_of 3 0) ∷ work ∷ [])

-- what replica 1 sends for slot 4
abbrev pub reopened : Message ℕ
reopened = record { slot = 4; sender = 1; writesets = writeset 1 0 5 ∷ [] }

abbrev pub reopening : List (CallAt ℕ)
reopening = at 1 (send ∷ notice (back_at 1 3) ∷ notice (out_from 0 3) ∷ notice (back_at 1 4) ∷ send ∷ notice (out_from 1 4) ∷ deliver reopened ∷ notice (out_from 1 7) ∷ work
    ∷ deliver (next_of 5 2) ∷ work ∷ deliver (next_of 6 0) ∷ notice (out_from 0 6) ∷ work ∷ work ∷ report ∷ [])

abbrev pub of_one : List Notice
of_one = out_from 1 1 ∷ back_at 1 4 ∷ out_from 1 7 ∷ []

-- the journal of replica 1 at its turn 8, out slots 1 and 7 included
abbrev pub until_eight : List (Message ℕ)
until_eight = next_of 0 0 ∷ next_of 1 1 ∷ next_of 2 2 ∷ next_of 3 0 ∷ reopened ∷ next_of 5 2 ∷ next_of 6 0 ∷ next_of 7 1 ∷ []

abbrev pub until_two : List (Message ℕ)
until_two = next_of 0 0 ∷ next_of 1 1 ∷ []

-- ---- replica 0 hands out the block of slot 0, and nobody passes the slot
abbrev pub handing : List (CallAt ℕ)
handing = at 0 (send ∷ [])

-- the one list then: replica 0 is out from slot 0
abbrev pub of_zero : ℕ → List Notice
of_zero k = notices_about k (out_from 0 0 ∷ [])

pub record NoticeRuns : Type 0 where
  -- an Out is taken once, and with a slot; a Back only of a replica that is out, behind its Out
  pub notices : events start noticing ≡ noticed (out_from 2 2) ∷ refused 28 ∷ refused 2 ∷ refused 28 ∷ refused 28 ∷ []
  -- the block of an out slot is refused, also a far one; nobody else sends there; work passes the slot without it
  pub passes : events (after noticing) passing
      ≡ handed_out (next_of 0 0) ∷ accepted (next_of 0 0) ∷ passed 0 [] ∷ accepted (next_of 1 1) ∷ passed 1 []
      ∷ refused 11 ∷ refused 29 ∷ refused 29 ∷ passed 2 [] ∷ refused 17 ∷ reported 3 0 ∷ []
  -- a *next* of replica 2 is journaled for slot 2, and no cut loses it
  pub journaled : (after (noticing ++ passing)).journals 0 ≡ journal (next_of 0 0 ∷ next_of 1 1 ∷ next_of 2 2 ∷ []) 3
  -- nothing of it is handed out
  pub handed : (after (noticing ++ passing)).messages ≡ next_of 0 0 ∷ []
  -- a Back is taken once, and no Out until the turn is there; slot 5 stays out, 8 is not
  pub returns : events (after (noticing ++ passing)) returning ≡ refused 28 ∷ noticed (back_at 2 6) ∷ refused 28 ∷ refused 28 ∷ refused 29 ∷ refused 18 ∷ []
  pub taken : (after (noticing ++ passing ++ returning)).notices 0 ≡ out_from 2 2 ∷ back_at 2 6 ∷ []
  pub outages : ((after (noticing ++ passing ++ returning)).replicas 0).blocks.outages 2 ≡ outage 2 6
  -- no send in an own out slot; the notice makes all firm that is journaled
  pub closes : events start closing ≡ began 1 ∷ wrote 1 0 5 ∷ requested 1 ∷ accepted (next_of 0 0) ∷ passed 0 [] ∷ noticed (out_from 1 1) ∷ refused 29 ∷ []
  pub firm : (after closing).journals 1 ≡ journal (next_of 0 0 ∷ []) 1
  -- the own out slot is passed and journaled
  pub shut : events (after closing) closed ≡ passed 1 [] ∷ accepted (next_of 2 2) ∷ passed 2 [] ∷ accepted (next_of 3 0) ∷ passed 0 [] ∷ []
  pub own_journaled : (after (closing ++ closed)).journals 1 ≡ journal (until_two ++ (next_of 2 2 ∷ next_of 3 0 ∷ [])) 2
  -- no notice below the turn; a Back at the turn's slot, then its block; no Out of what is sent or waits; an Out ahead
  pub reopens : events (after (closing ++ closed)) reopening
      ≡ refused 29 ∷ refused 28 ∷ refused 28 ∷ noticed (back_at 1 4) ∷ handed_out reopened ∷ refused 28 ∷ accepted reopened ∷ noticed (out_from 1 7) ∷ committed 1 1 []
      ∷ accepted (next_of 5 2) ∷ passed 2 [] ∷ accepted (next_of 6 0) ∷ refused 28 ∷ passed 0 [] ∷ passed 1 [] ∷ reported 8 1 ∷ []
  pub whole_journal : (after (closing ++ closed ++ reopening)).journals 1 ≡ journal until_eight 8
  -- by the whole list slots 1 and 7 are out, and 4 is not
  pub by_list : map (puts_out of_one 1) (0 ∷ 1 ∷ 4 ∷ 7 ∷ []) ≡ false ∷ true ∷ false ∷ true ∷ []
  -- a restart lent the notices gives back the last own block outside out slots, not the *next* of slot 7
  pub restarts : events (after (closing ++ closed ++ reopening)) (at 1 (restart until_eight of_one ∷ report ∷ []))
      ≡ restarted until_eight of_one (some reopened) ∷ reported 8 1 ∷ []
  -- also where the last outage alone leaves slot 1 in
  pub gives_none : events (after (closing ++ closed ++ reopening)) (at 1 (restart until_two of_one ∷ [])) ≡ restarted until_two of_one none ∷ []
  -- the work that passed slot 1 was ended by a cut: the restart stands above it for good, with the Out in force
  pub cut_off : events (after closing) (at 1 (restart until_two (out_from 1 1 ∷ []) ∷ deliver (next_of 4 1) ∷ [])) ≡ restarted until_two (out_from 1 1 ∷ []) none ∷ refused 29 ∷ []
  pub cut_firm : (after (closing ++ at 1 (restart until_two (out_from 1 1 ∷ []) ∷ []))).journals 1 ≡ journal until_two 2
  pub still_taken : (after (closing ++ at 1 (restart until_two (out_from 1 1 ∷ []) ∷ []))).notices 1 ≡ out_from 1 1 ∷ []
  -- ---- what the premise bars: a turn above a notice that is lacking, a notice that is not of the list, a block handed out for an out slot, other notices lent
  pub lacking : Beginning [] (out_from 1 3 ∷ []) 4 → ⊥
  pub unlisted : OneList (λ k. Unit) (λ k. []) (after noticing) → ⊥
  pub dropped : OneList (λ k. Unit) of_zero (after handing) → ⊥
  -- by that block alone: the rest of the premise holds there
  pub handed_alone : (j k : ℕ) → Beginning (notices_about k ((after handing).notices j)) (of_zero k) ((after handing).replicas j).cursor.turn
  pub other_lent : Lent three (journal [] 0) (out_from 1 3 ∷ []) (start.replicas 1) (restart [] []) → ⊥
