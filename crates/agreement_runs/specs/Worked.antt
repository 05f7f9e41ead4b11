-- Runs of a group of three: one that meets the premise, so that the theorem speaks of something; one with a forged block, so that the premise is seen to be
-- needed; one with power cuts and restarts; one with conflict classes; and one with stations.
use Rattle.std.specs.Prelude.{ℕ, ◌≡◌, List, [], ◌∷◌, ◌++◌, ℤ, pos, replicate, set, take}
use Rattle.block.specs.Bytes.{block_of}
use Rattle.engine.specs.declared.Report.{Report}
use Rattle.engine.specs.Answers.{Answer, number_of}
use Rattle.engine.specs.Answers.Answer.{refused, wrote, got}
use Rattle.engine.specs.Client.{report_of}
use Rattle.engine.specs.Calls.{Call, step}
use Rattle.engine.specs.Worked.{zeros}
use Rattle.engine.specs.Calls.Call.{begin, read, write, ask, send, deliver, work, load}
use Rattle.engine.specs.History.AnyCall.{call, restart}
use Rattle.protocol.specs.Lists.{Mem}
use Rattle.agreement.specs.Group.{Members, CallAt, fresh, did, next, run, Calls, Premise}

abbrev pub at : ℕ → Call → CallAt
at k c = record { at = k; does = call c }

-- the block of slot s, from its owner, with one transaction that wrote one item
abbrev pub block_committing : ℕ → ℕ → ℕ → ℕ → ℤ → List ℕ
block_committing s sender ticket item value =
    block_of (record { kind = 2; sender = sender; replicas = 3; slot = s; records = record { ticket = ticket; entries = record { item = item; value = value } ∷ [] } ∷ [] })

-- a transaction begun, written and asked
abbrev pub asking : ℕ → ℕ → ℕ → ℤ → List CallAt
asking k ticket item value = at k begin ∷ at k (write ticket item value) ∷ at k (ask ticket) ∷ []

abbrev pub sending : ℕ → CallAt
sending k = at k (send (replicate 512 0))

abbrev pub taking : ℕ → List ℕ → List CallAt
taking k block = at k (deliver block) ∷ at k work ∷ []

-- two stems on different letters, items 10 and 20: replica 2 gets slot 1's block before slot 0's
abbrev pub different_items : List CallAt
different_items =
    asking 0 1 10 (pos 80) ++ asking 1 1 20 (pos 70)
    ++ (sending 0 ∷ taking 0 (block_committing 0 0 1 10 (pos 80)))
    ++ taking 1 (block_committing 0 0 1 10 (pos 80))
    ++ (sending 1 ∷ taking 1 (block_committing 1 1 1 20 (pos 70)))
    ++ taking 0 (block_committing 1 1 1 20 (pos 70))
    ++ (at 2 (deliver (block_committing 1 1 1 20 (pos 70))) ∷ at 2 (deliver (block_committing 0 0 1 10 (pos 80))) ∷ at 2 work ∷ at 2 work ∷ [])

-- the n, item 5, set to 86 by replica 2 and then to 84 by replica 0: the second block comes to replica 1 before its turn
abbrev pub same_item : List CallAt
same_item =
    asking 2 1 5 (pos 86)
    ++ (sending 2 ∷ taking 2 (block_committing 2 2 1 5 (pos 86)))
    ++ taking 0 (block_committing 2 2 1 5 (pos 86))
    ++ asking 0 2 5 (pos 84)
    ++ (sending 0 ∷ taking 0 (block_committing 3 0 2 5 (pos 84)))
    ++ (at 1 (deliver (block_committing 3 0 2 5 (pos 84))) ∷ at 1 (deliver (block_committing 2 2 1 5 (pos 86))) ∷ at 1 work ∷ at 1 work ∷ [])
    ++ taking 2 (block_committing 3 0 2 5 (pos 84))

abbrev pub story : List CallAt
story = different_items ++ same_item

-- ---- and a forged block

-- replica 0 hands out 84 for the n, and replica 1 takes another well-formed block of that slot
abbrev pub forgery : List CallAt
forgery =
    asking 0 1 5 (pos 84)
    ++ (sending 0 ∷ taking 0 (block_committing 0 0 1 5 (pos 84)))
    ++ taking 1 (block_committing 0 0 1 5 (pos 86))

-- ---- and power cuts

-- of replica k of n, lent what it was made with
abbrev pub restarting : ℕ → ℕ → List ℕ → CallAt
restarting n k journal = record { at = k; does = restart n k zeros journal [] (replicate 512 0) }

abbrev pub first : List ℕ
first = block_committing 0 0 1 10 (pos 80)

-- sent for slot 1, and torn; what is sent for it in its place
abbrev pub lost : List ℕ
lost = block_committing 1 1 1 20 (pos 70)

abbrev pub second : List ℕ
second = block_committing 1 1 1 20 (pos 71)

abbrev pub torn : List ℕ
torn = first ++ take 100 lost

-- a *next*
abbrev pub third : List ℕ
third = block_of (record { kind = 1; sender = 2; replicas = 3; slot = 2; records = [] })

-- replica 0 asks, and a cut ends its send when the block is on its disk: the restart hands the block out. Replica 1 takes it and works; a cut tears the block it
-- then sends after 100 bytes, so it restarts with slot 0 alone: its transaction is gone, ticket 1 is given anew, and it sends another block for slot 1. Replica 0
-- works that block and loses power: its disk keeps slot 0, its own, and no more. A restart that is lent N = 7 is refused; then it restarts, and the block is delivered again and worked. Replica 2
-- takes both, and sends
abbrev pub outages : List CallAt
outages =
    asking 0 1 10 (pos 80)
    ++ (restarting 3 0 first ∷ asking 1 1 20 (pos 70))
    ++ taking 1 first
    ++ (restarting 3 1 torn ∷ asking 1 1 20 (pos 71))
    ++ (sending 1 ∷ taking 1 second)
    ++ taking 0 second
    ++ (restarting 7 0 first ∷ restarting 3 0 first ∷ taking 0 second)
    ++ taking 2 first
    ++ taking 2 second
    ++ (sending 2 ∷ taking 2 third)

-- ---- and conflict classes

-- slot 0: ticket 1 sets item 10, ticket 2 item 20
abbrev pub two_writesets : List ℕ
two_writesets = block_of (record {
  kind = 2;
  sender = 0;
  replicas = 3;
  slot = 0;
  records = record { ticket = 1; entries = record { item = 10; value = pos 80 } ∷ [] } ∷ record { ticket = 2; entries = record { item = 20; value = pos 70 } ∷ [] } ∷ [];
})

-- replica 1 has the n, item 5, in a class of its own, replica 2 has loaded no table; at both the first of the two writesets is applied
abbrev pub half_applied : List CallAt
half_applied =
    at 1 (load (set (replicate 128 1) 5 2)) ∷ asking 0 1 10 (pos 80) ++ asking 0 2 20 (pos 70)
    ++ (sending 0 ∷ taking 0 two_writesets)
    ++ (at 0 work ∷ at 1 begin ∷ at 2 begin ∷ taking 1 two_writesets)
    ++ taking 2 two_writesets

-- the n is set at both; the block is applied, and what replica 1 wrote is sent
abbrev pub writing : List CallAt
writing =
    (at 1 (write 1 5 (pos 84)) ∷ at 2 (write 1 5 (pos 86)) ∷ at 1 work ∷ at 2 work ∷ at 1 (ask 1) ∷ sending 1 ∷ taking 1 (block_committing 1 1 1 5 (pos 84)))
    ++ taking 0 (block_committing 1 1 1 5 (pos 84))
    ++ taking 2 (block_committing 1 1 1 5 (pos 84))

abbrev pub classes : List CallAt
classes = half_applied ++ writing

-- ---- and stations

-- a *next*
abbrev pub fourth : List ℕ
fourth = block_of (record { kind = 1; sender = 0; replicas = 3; slot = 3; records = [] })

-- slots 0 to 3 are handed out. Station 3 begins, and gets slot 1's block before slot 0's; slot 3's comes to station 4 too early. Station 3 works slot 0, begins once more, works slot 1, and
-- neither writes, whatever the ticket and the item, nor sends, whatever it lends; it asks under its first ticket. Station 4 stops behind slot 0
abbrev pub watched : List CallAt
watched = different_items ++ (sending 2 ∷ taking 0 third) ++ (sending 0 ∷ [])

abbrev pub watching : List CallAt
watching =
    at 3 begin ∷ at 3 (deliver (block_committing 1 1 1 20 (pos 70))) ∷ at 4 (deliver fourth) ∷ taking 3 (block_committing 0 0 1 10 (pos 80))
    ++ (at 3 begin ∷ at 3 work ∷ at 3 (write 1 10 (pos 81)) ∷ at 3 (write 9 128 (pos 81)) ∷ at 3 (send []) ∷ at 3 (ask 1) ∷ taking 4 (block_committing 0 0 1 10 (pos 80)))

-- ---- what the runs leave

abbrev pub after : List CallAt → Members
after cs = run (fresh 3 zeros) cs

-- what replica k holds after a run: its values and its commit count
pub record HeldBy : Type 0 where
  pub values : List ℤ
  pub commits : ℕ

abbrev pub held_in : Members → ℕ → HeldBy
held_in g k = record { values = (g.memories k).store.values; commits = (report_of (g.memories k)).commits }

abbrev pub held : List CallAt → ℕ → HeldBy
held cs k = held_in (after cs) k

abbrev pub holding : List ℤ → ℕ → HeldBy
holding values commits = record { values = values; commits = commits }

-- the numbers that a list of calls is answered with, from the group g
unfoldable pub numbers : Members → List CallAt → List ℕ
numbers g [] = []
numbers g (c ∷ cs) = number_of (did g c).answer ∷ numbers (next g c) cs

abbrev pub story_values : List ℤ
story_values = set (set (set zeros 10 (pos 80)) 20 (pos 70)) 5 (pos 84)

abbrev pub watched_values : List ℤ
watched_values = set (set zeros 10 (pos 80)) 20 (pos 70)

abbrev pub classes_values : List ℤ
classes_values = set (set (set zeros 10 (pos 80)) 20 (pos 70)) 5 (pos 84)

abbrev pub outage_values : List ℤ
outage_values = set (set zeros 10 (pos 80)) 20 (pos 71)

-- the story meets the premise; all three replicas commit its four writesets and hold the same values
pub record WorkedRun : Type 0 where
  pub calls : Calls 3 story
  pub premise : Premise 3 zeros story
  pub replica-0 : held story 0 ≡ holding story_values 4
  pub replica-1 : held story 1 ≡ holding story_values 4
  pub replica-2 : held story 2 ≡ holding story_values 4

-- with the forged block the premise does not hold, and the values differ
pub record ForgedRun : Type 0 where
  pub calls : Calls 3 forgery
  pub premise : Premise 3 zeros forgery → ⊥
  pub replica-0 : held forgery 0 ≡ holding (set zeros 5 (pos 84)) 1
  pub replica-1 : held forgery 1 ≡ holding (set zeros 5 (pos 86)) 1

-- the cuts and restarts meet the premise; all three replicas commit the two writesets whose blocks were handed out
pub record OutageRun : Type 0 where
  pub calls : Calls 3 outages
  pub premise : Premise 3 zeros outages
  pub replica-0 : held outages 0 ≡ holding outage_values 2
  pub replica-1 : held outages 1 ≡ holding outage_values 2
  pub replica-2 : held outages 2 ≡ holding outage_values 2

-- with other tables at other replicas a write is taken here and waits there; the premise is met, and all three replicas commit the three writesets
pub record ClassesRun : Type 0 where
  pub calls : Calls 3 classes
  pub premise : Premise 3 zeros classes
  pub free : (step ((after half_applied).memories 1) (write 1 5 (pos 84))).answer ≡ wrote
  pub waits : (step ((after half_applied).memories 2) (write 1 5 (pos 86))).answer ≡ refused 7
  pub replica-0 : held classes 0 ≡ holding classes_values 3
  pub replica-1 : held classes 1 ≡ holding classes_values 3
  pub replica-2 : held classes 2 ≡ holding classes_values 3

-- what replica 0 and the stations hold, and what station 3 reads, of an item applied before the begin and of one applied after it, and reports
pub record Seen : Type 0 where
  pub replica-0 : HeldBy
  pub station-3 : HeldBy
  pub station-4 : HeldBy
  pub applied-before : Answer
  pub applied-after : Answer
  pub report : Report

abbrev pub seen : Members → Seen
seen g = record {
  replica-0 = held_in g 0;
  station-3 = held_in g 3;
  station-4 = held_in g 4;
  applied-before = (step (g.memories 3) (read 2 10)).answer;
  applied-after = (step (g.memories 3) (read 2 20)).answer;
  report = report_of (g.memories 3);
}

-- the stations' calls meet the premise; slot 3's block was handed out, and station 4 answers it by 18; station 3 holds what replica 0 holds, station 4 what replica 0 held after slot 0; a read
-- gives what was there at its begin
pub record StationRun : Type 0 where
  pub calls : Calls 3 (watched ++ watching)
  pub premise : Premise 3 zeros (watched ++ watching)
  pub handed : Mem fourth (after watched).blocks
  pub answers : numbers (after watched) watching ≡ 0 ∷ 0 ∷ 18 ∷ 0 ∷ 0 ∷ 0 ∷ 0 ∷ 25 ∷ 25 ∷ 25 ∷ 0 ∷ 0 ∷ 0 ∷ []
  pub ends : seen (after (watched ++ watching)) ≡ record {
    replica-0 = holding watched_values 2;
    station-3 = holding watched_values 2;
    station-4 = holding (set zeros 10 (pos 80)) 1;
    applied-before = got (pos 80);
    applied-after = got (pos 0);
    report = record { turn = 2; commits = 2; tickets = 2; open_count = 1; committed = 0; read_only = 1; aborted = 0; withdrawn = 0 };
  }

pub record WorkedRuns : Type 0 where
  pub story-runs : WorkedRun
  pub forgery-runs : ForgedRun
  pub outage-runs : OutageRun
  pub classes-runs : ClassesRun
  pub station-runs : StationRun
