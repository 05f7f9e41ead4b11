-- What a wrong group gets wrong, as a small run of three replicas and a station: the disks, what the observer hears, and the premise at its edge. Every edit computes it anew.
use Rattle.std.specs.Prelude.{ℕ, ◌≡◌, List, [], ◌∷◌, ◌++◌, map, ℤ, pos, replicate, set, take, get_or}
use Rattle.block.specs.Message.{Record}
use Rattle.block.specs.Bytes.{block_of}
use Rattle.memory.specs.Notices.{Notice}
use Rattle.engine.specs.Answers.{number_of}
use Rattle.engine.specs.Calls.{Call, step}
use Rattle.engine.specs.Calls.Call.{begin, write, ask, send, deliver, work, notice}
use Rattle.engine.specs.Worked.{zeros, out_from}
use Rattle.protocol.specs.Writesets.{new_write}
use Rattle.protocol.specs.Observer.{TxnId, Placed, Handout}
use Rattle.engine.specs.History.AnyCall.{call, restart}
use Rattle.agreement.specs.Group.{Disk, disk, Members, CallAt, fresh, run, Calls, Lent, Premise}

-- item 9 is 4, all others 0
abbrev pub start : List ℤ
start = set zeros 9 (pos 4)

abbrev pub at : ℕ → List Call → List CallAt
at k cs = map (λ c. record { at = k; does = call c }) cs

abbrev pub writeset : ℕ → ℕ → ℤ → Record
writeset ticket item value = record { ticket = ticket; entries = record { item = item; value = value } ∷ [] }

abbrev pub block_with : ℕ → List Record → List ℕ
block_with s ws = block_of (record { kind = 2; sender = s; replicas = 3; slot = s; records = ws })

-- slots 0 and 1: tickets 1 and 2 of replica 0, ticket 2 of replica 1
abbrev pub block0 : List ℕ
block0 = block_with 0 (writeset 1 5 (pos 7) ∷ writeset 2 6 (pos 8) ∷ [])

abbrev pub block1 : List ℕ
block1 = block_with 1 (writeset 2 7 (pos 3) ∷ [])

abbrev pub no_block : List ℕ
no_block = replicate 512 0

-- replica 0 sends two transactions; they abort one of the two asked at replica 1, which sends the other
abbrev pub calls : List CallAt
calls = at 0 (begin ∷ write 1 5 (pos 7) ∷ ask 1 ∷ begin ∷ write 2 6 (pos 8) ∷ ask 2 ∷ send no_block ∷ [])
    ++ at 1 (begin ∷ write 1 6 (pos 9) ∷ ask 1 ∷ begin ∷ write 2 7 (pos 3) ∷ ask 2 ∷ deliver block0 ∷ work ∷ work ∷ send no_block ∷ [])

-- a restart of replica 1 from both blocks, with a torn one behind
abbrev pub torn_restart : CallAt
torn_restart = record { at = 1; does = restart 3 1 start (block0 ++ (block1 ++ take 100 block0)) [] no_block }

-- a restart of replica 1 from no journal, lent this number and these values
abbrev pub restart_with : ℕ → List ℤ → List CallAt
restart_with own values = record { at = 1; does = restart 3 own values [] [] no_block } ∷ []

-- replica 0 sends at once, a *next*
abbrev pub next_block : List ℕ
next_block = block_of (record { kind = 1; sender = 0; replicas = 3; slot = 0; records = [] })

-- the *next* of slot 1
abbrev pub next_block1 : List ℕ
next_block1 = block_of (record { kind = 1; sender = 1; replicas = 3; slot = 1; records = [] })

-- replica 1 has committed that of slot 0, and sent nothing
abbrev pub to_notice : List CallAt
to_notice = at 0 (send no_block ∷ []) ++ at 1 (deliver next_block ∷ work ∷ [])

-- a restart of replica 1 from a journal, lent those notices
abbrev pub restart_lent : List ℕ → List Notice → List CallAt
restart_lent journal l = record { at = 1; does = restart 3 1 start journal l no_block } ∷ []

-- the *next* of slot 2
abbrev pub next_block2 : List ℕ
next_block2 = block_of (record { kind = 1; sender = 2; replicas = 3; slot = 2; records = [] })

-- replica 2 takes a notice with slot 0, which station 3 has left without it
abbrev pub station_ahead : List CallAt
station_ahead = at 0 (send no_block ∷ []) ++ (at 3 (deliver next_block ∷ work ∷ []) ++ at 2 (notice (out_from 1 0) ∷ []))

-- replica 1 takes one about slot 0, whose block was handed out, and passes the slot
abbrev pub out_handed : List CallAt
out_handed = at 0 (send no_block ∷ []) ++ at 1 (notice (out_from 0 0) ∷ work ∷ [])

abbrev pub after : List CallAt → Members
after cs = run (fresh 3 start) cs

abbrev pub sent_next : Members
sent_next = after (at 0 (send no_block ∷ []))

abbrev pub txn : ℕ → ℕ → TxnId
txn k t = record { sender = k; ticket = t }

abbrev pub placed : ℕ → ℕ → ℕ → ℤ → Placed ℤ
placed k t i v = record { sender = k; ticket = t; start = 0; writes = new_write i v ∷ [] }

-- what is kept of a member: its disk, and what the observer heard it commit
pub record Kept : Type 0 where
  pub disk : Disk
  pub commits : List TxnId

abbrev pub kept : ℕ → Members → Kept
kept k g = record { disk = g.disks k; commits = (g.observed k).commits }

-- and with it what was put down
pub record KeptAll : Type 0 where
  pub of-1 : Kept
  pub handouts : List (Handout ℤ)

pub record RightGroup : Type 0 where
  -- another's block is on the disk, then the own; the aborted transaction is not put down
  pub run-kept : ◌≡◌ {A = KeptAll} (let g = after calls in record { of-1 = kept 1 g; handouts = g.handouts }) (record {
    of-1 = record { disk = disk (block0 ++ block1) 1024; commits = txn 0 1 ∷ txn 0 2 ∷ [] };
    handouts = record { slot = 0; sender = 0; writesets = placed 0 1 5 (pos 7) ∷ placed 0 2 6 (pos 8) ∷ [] } ∷ record { slot = 1; sender = 1; writesets = placed 1 2 7 (pos 3) ∷ [] } ∷ [];
  })
  -- the torn block is gone; the observer has the commits of both blocks
  pub restart-kept : kept 1 (after (torn_restart ∷ [])) ≡ record { disk = disk (block0 ++ block1) 1024; commits = txn 0 1 ∷ txn 0 2 ∷ txn 1 2 ∷ [] }
  -- a cut may leave the floor, and no less
  pub floor : sent_next.disks 0 ≡ disk next_block 512
  pub at-floor : Lent (sent_next.memories 0) (sent_next.disks 0) next_block
  pub below_floor : Lent (sent_next.memories 0) (sent_next.disks 0) (take 511 next_block) → ⊥
  -- a station has no number and the group's values
  pub station : number_of (step ((after []).memories 3) (send no_block)).answer ≡ 25
  pub station-values : get_or ((after []).memories 3).store.values 9 (pos 0) ≡ pos 4
  -- a block that nobody handed out is not delivered
  pub forged : Premise 3 start (at 1 (deliver next_block ∷ [])) → ⊥
  -- a restart that is accepted was lent its replica's number and the group's values
  pub other-number : Premise 3 start (restart_with 0 start) → ⊥
  pub other-values : Premise 3 start (restart_with 1 zeros) → ⊥
  -- a value of 33 bits is not written
  pub too_large : Calls 3 (at 0 (write 1 5 (pos 2147483648) ∷ [])) → ⊥
  -- document 02's Req 10: another's block may be lost; what is there when a notice is taken is not, nor the *next* of an out slot, passed by a work or committed by a restart
  pub no-floor : (after to_notice).disks 1 ≡ disk next_block 0
  pub notice-floor : (after (to_notice ++ at 1 (notice (out_from 1 1) ∷ []))).disks 1 ≡ disk next_block 512
  pub out-floor : (after (to_notice ++ at 1 (notice (out_from 1 1) ∷ work ∷ []))).disks 1 ≡ disk (next_block ++ next_block1) 1024
  pub restart-floor : (after (restart_lent (next_block ++ (next_block1 ++ next_block2)) (out_from 1 1 ∷ []))).disks 1 ≡ disk (next_block ++ (next_block1 ++ next_block2)) 1024
  pub floor-kept : (after (to_notice ++ (at 1 (notice (out_from 2 5) ∷ []) ++ restart_lent next_block (out_from 2 5 ∷ [])))).disks 1 ≡ disk next_block 512
  pub taken : (after (at 1 (notice (out_from 2 5) ∷ notice (out_from 2 6) ∷ notice (out_from 0 3) ∷ []))).taken 1 ≡ out_from 2 5 ∷ out_from 0 3 ∷ []
  -- a restart that is accepted was lent the notices taken
  pub other-notices : Premise 3 start (restart_lent [] (out_from 1 1 ∷ [])) → ⊥
  -- no station stands above a notice that it lacks
  pub station-ahead : Premise 3 start station_ahead → ⊥
  -- no block was handed out for an out slot
  pub out-handed : Premise 3 start out_handed → ⊥
