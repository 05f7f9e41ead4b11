-- What the wrong replicas of documents 01 and 02 get wrong, as what lists of calls answer at a replica or a station just made, and a restart. Few lists, each for several of them: every edit computes them anew.
-- Document 01's marked cases stand in `engine_runs`.
use Rattle.std.specs.Prelude.{ℕ, ◌≡◌, true, false, List, [], ◌∷◌, ◌++◌, map, ℤ, pos, replicate, drop, set}
use Rattle.block.specs.Bytes.{block_of}
use Rattle.memory.specs.Memory.{Memory, with_blocks}
use Rattle.memory.specs.Notices.{Notice}
use Rattle.memory.specs.Window.{empty_window, kept_block}
use Rattle.engine.specs.Answers.{Answer, Outcome, number_of}
use Rattle.engine.specs.Answers.Answer.{refused, began, got, wrote, queued, reported, sent, kept, worked, noticed, restarted}
use Rattle.engine.specs.Make.{made_memory}
use Rattle.engine.specs.Restart.{restart_step}
use Rattle.engine.specs.Station.{station_memory, station_step}
use Rattle.engine.specs.Calls.{Call, step, after}
use Rattle.engine.specs.Calls.Call.{begin, read, write, ask, report, send, deliver, work, load, notice}

-- what each call of a list answers, one after the other
unfoldable pub answers : Memory → List Call → List Answer
answers m [] = []
answers m (c ∷ cs) = (step m c).answer ∷ answers (step m c).memory cs

abbrev pub numbers : Memory → List Call → List ℕ
numbers m cs = map number_of (answers m cs)

abbrev pub zeros : List ℤ
zeros = replicate 128 (pos 0)

-- a replica of a group of n, all values 0
abbrev pub fresh : ℕ → ℕ → Memory
fresh n own = made_memory n own zeros

-- a *next* of slot s in a group of n, from its owner
abbrev pub next_block : ℕ → ℕ → ℕ → List ℕ
next_block n owner s = block_of (record { kind = 1; sender = owner; replicas = n; slot = s; records = [] })

-- a *tocommit* of replica 0 of 2, for slot 0: ticket 2 writes 8 to item 6, then ticket 1 writes 7 to item 5
abbrev pub two_then_one : List ℕ
two_then_one = block_of (record {
  kind = 2;
  sender = 0;
  replicas = 2;
  slot = 0;
  records = record { ticket = 2; entries = record { item = 6; value = pos 8 } ∷ [] } ∷ record { ticket = 1; entries = record { item = 5; value = pos 7 } ∷ [] } ∷ [];
})

-- items 6 and 8 in class 2, item 9 in class 3, all others in class 1
abbrev pub three_classes : List ℕ
three_classes = set (set (set (replicate 128 1) 6 2) 8 2) 9 3

-- a *tocommit* of replica 0 of 3, for slot 0: tickets 1, 2 and 3 write items 5, 6 and 7
abbrev pub three_writesets : List ℕ
three_writesets = block_of (record {
  kind = 2;
  sender = 0;
  replicas = 3;
  slot = 0;
  records = record { ticket = 1; entries = record { item = 5; value = pos 50 } ∷ [] }
      ∷ record { ticket = 2; entries = record { item = 6; value = pos 60 } ∷ [] }
      ∷ record { ticket = 3; entries = record { item = 7; value = pos 70 } ∷ [] }
      ∷ [];
})

-- replica 0 of 2 with `two_then_one` at its turn, which it never sent: an altered state
abbrev pub never_sent : Memory
never_sent = with_blocks (fresh 2 0) (record { places = two_then_one ++ replicate 512 0; outbox = replicate 512 0; window = empty_window })

-- the calls by which replica 1 of 3, with those classes and an item of class 1 held by ticket 2, comes to that block
abbrev pub to_three : List Call
to_three = load three_classes ∷ begin ∷ begin ∷ write 2 40 (pos 1) ∷ deliver three_writesets ∷ []

-- a *tocommit* of replica 1 of 2, for slot 1: ticket 1 writes 50 to item 5
abbrev pub from_other : List ℕ
from_other = block_of (record {
  kind = 2;
  sender = 1;
  replicas = 2;
  slot = 1;
  records = record { ticket = 1; entries = record { item = 5; value = pos 50 } ∷ [] } ∷ [];
})

-- the calls by which item 5 at replica 0 of 2 is newer than ticket 1's snapshot and held by ticket 2
abbrev pub to_stale_and_held : List Call
to_stale_and_held =
    begin
    ∷ send (replicate 512 0)
    ∷ deliver (next_block 2 0 0)
    ∷ work
    ∷ deliver from_other
    ∷ work
    ∷ begin
    ∷ write 2 5 (pos 7)
    ∷ []

-- two of three transactions asked in the order 2, 1 and sent; then the third meets a lock of the first, writes another item and asks
abbrev pub send_two : List Call
send_two =
    begin
    ∷ begin
    ∷ begin
    ∷ write 1 5 (pos 7)
    ∷ write 2 6 (pos 8)
    ∷ ask 2
    ∷ ask 1
    ∷ send (replicate 512 0)
    ∷ write 3 5 (pos 9)
    ∷ write 3 9 (pos 9)
    ∷ ask 3
    ∷ send (replicate 512 0)
    ∷ []

-- replica 0 of 2 restarts from its own block and the *next* behind it
abbrev pub restart_of_two : Outcome
restart_of_two = restart_step (fresh 2 0) 2 0 zeros (two_then_one ++ next_block 2 1 1) [] (replicate 512 0)

abbrev pub out_from : ℕ → ℕ → Notice
out_from k v = record { about = k; out = true; slot = v }

abbrev pub back_at : ℕ → ℕ → Notice
back_at k w = record { about = k; out = false; slot = w }

-- replica 1 of 2 is out from slot 1 on and passes it; at turn 3 it comes back
abbrev pub closed_and_back : List Call
closed_and_back =
    notice (out_from 1 1)
    ∷ notice (out_from 1 3)
    ∷ notice (back_at 1 1)
    ∷ notice (out_from 2 1)
    ∷ notice (out_from 0 100_000_000)
    ∷ deliver (next_block 2 0 0)
    ∷ work
    ∷ send (replicate 512 0)
    ∷ work
    ∷ deliver (next_block 2 1 1)
    ∷ deliver (next_block 2 1 5)
    ∷ deliver (next_block 2 0 2)
    ∷ work
    ∷ notice (back_at 1 2)
    ∷ notice (back_at 1 3)
    ∷ send (replicate 512 0)
    ∷ notice (out_from 1 3)
    ∷ notice (out_from 1 4)
    ∷ []

-- replica 1 of 2 restarts from four *nexts*, with those notices
abbrev pub restart_noticed : List Notice → Outcome
restart_noticed notices =
    restart_step (fresh 2 1) 2 1 zeros (next_block 2 0 0 ++ (next_block 2 1 1 ++ (next_block 2 0 2 ++ next_block 2 1 3))) notices (replicate 512 0)

-- what a window has for slots 0 to 3
abbrev pub first_four : Memory → List (List ℕ)
first_four m = map (kept_block m.blocks.window) (0 ∷ 1 ∷ 2 ∷ 3 ∷ [])

pub record RightAnswers : Type 0 where
  -- another's block: the asked transaction that wrote an item of its second writeset is aborted by that one, another is not, and meets 9 at the item
  pub remote : drop 4 (answers (fresh 2 1) (begin ∷ write 1 5 (pos 9) ∷ ask 1 ∷ begin ∷ deliver two_then_one ∷ work ∷ work ∷ write 2 5 (pos 9) ∷ write 2 5 (pos 9) ∷ send (replicate 512 0) ∷ []))
      ≡ kept
      ∷ worked (record { sender = 0; ticket = 2; moved = false; aborted = []; append = [] })
      ∷ worked (record { sender = 0; ticket = 1; moved = true; aborted = 1 ∷ []; append = two_then_one })
      ∷ refused 9
      ∷ refused 3
      ∷ sent (next_block 2 1 1)
      ∷ []
  -- sent in the order asked, locked until committed, one block for a slot; another block of that slot is not the one sent; committed one by one, and read by a fourth
  pub own : drop 7 (answers (fresh 2 0) (send_two ++ (deliver (next_block 2 0 0) ∷ deliver two_then_one ∷ work ∷ work ∷ begin ∷ read 4 5 ∷ read 4 6 ∷ [])))
      ≡ sent two_then_one
      ∷ refused 8
      ∷ wrote
      ∷ queued
      ∷ refused 12
      ∷ refused 19
      ∷ kept
      ∷ worked (record { sender = 0; ticket = 2; moved = false; aborted = []; append = [] })
      ∷ worked (record { sender = 0; ticket = 1; moved = true; aborted = []; append = [] })
      ∷ began 4
      ∷ got (pos 7)
      ∷ got (pos 8)
      ∷ []
  -- document 02's Req 08: on that state both writesets are committed, and ticket 1, open as active, and 2, open as asked, stay so: no ending is counted
  pub altered : drop 2 (answers never_sent (begin ∷ begin ∷ write 2 9 (pos 1) ∷ ask 2 ∷ work ∷ work ∷ read 1 5 ∷ begin ∷ read 3 5 ∷ ask 2 ∷ report ∷ []))
      ≡ wrote
      ∷ queued
      ∷ worked (record { sender = 0; ticket = 2; moved = false; aborted = []; append = [] })
      ∷ worked (record { sender = 0; ticket = 1; moved = true; aborted = []; append = [] })
      ∷ got (pos 0)
      ∷ began 3
      ∷ got (pos 7)
      ∷ refused 4
      ∷ reported (record { turn = 1; commits = 2; tickets = 3; open_count = 3; committed = 0; read_only = 0; aborted = 0; withdrawn = 0 })
      ∷ []
  -- a block that comes early waits for its turn
  pub early : numbers (fresh 3 0) (deliver (next_block 3 2 2) ∷ work ∷ []) ≡ 0 ∷ 21 ∷ []
  -- document 02's Req 02: class 3 is free while items 6 and 7 are to come, class 2 once 6 is applied; an item held waits too; a load waits for the block
  pub classes : drop 5 (numbers (fresh 3 1) (to_three
      ++ (work ∷ write 1 9 (pos 1) ∷ write 1 8 (pos 1) ∷ write 2 40 (pos 2) ∷ load three_classes
      ∷ work ∷ write 1 8 (pos 1) ∷ write 2 40 (pos 2) ∷ write 1 6 (pos 1)
      ∷ work ∷ write 2 40 (pos 2) ∷ load three_classes ∷ load (replicate 128 9) ∷ load [] ∷ [])))
      ≡ 0 ∷ 0 ∷ 7 ∷ 7 ∷ 23 ∷ 0 ∷ 0 ∷ 7 ∷ 9 ∷ 0 ∷ 0 ∷ 0 ∷ 2 ∷ 1 ∷ []
  -- document 02's Req 07: 9 before 8, and the transaction is ended
  pub stale-first : drop 8 (numbers (fresh 2 0) (to_stale_and_held ++ (write 1 5 (pos 8) ∷ write 1 5 (pos 8) ∷ []))) ≡ 9 ∷ 3 ∷ []
  -- document 02's Req 05: a station is made in a group of 2 to 6; a write of no item and a send lent no bytes give 25, and it takes replica 0's block
  pub station : map (λ (n : ℕ). number_of (station_step (fresh 6 0) n zeros).answer) (1 ∷ 6 ∷ 7 ∷ []) ≡ 2 ∷ 0 ∷ 2 ∷ []
  pub station-calls : numbers (station_memory 2 zeros) (write 1 128 (pos 1) ∷ send [] ∷ deliver (next_block 2 0 0) ∷ work ∷ []) ≡ 25 ∷ 25 ∷ 0 ∷ 0 ∷ []
  -- document 02's Req 01: both slots are read, and the tickets go on behind the highest in the own block
  pub restart : restart_of_two.answer ∷ answers restart_of_two.memory (begin ∷ report ∷ [])
      ≡ restarted 2 two_then_one
      ∷ began 3
      ∷ reported (record { turn = 2; commits = 2; tickets = 3; open_count = 1; committed = 2; read_only = 0; aborted = 0; withdrawn = 0 })
      ∷ []
  -- document 02's Req 10: no block is awaited for an out slot, and its *next* is journaled, the replica's own too; 29 is after 17 and before 18
  pub notices : answers (fresh 2 1) closed_and_back
      ≡ noticed
      ∷ refused 28
      ∷ refused 28
      ∷ refused 2
      ∷ refused 2
      ∷ kept
      ∷ worked (record { sender = 0; ticket = 0; moved = true; aborted = []; append = next_block 2 0 0 })
      ∷ refused 29
      ∷ worked (record { sender = 1; ticket = 0; moved = true; aborted = []; append = next_block 2 1 1 })
      ∷ refused 17
      ∷ refused 29
      ∷ kept
      ∷ worked (record { sender = 0; ticket = 0; moved = true; aborted = []; append = next_block 2 0 2 })
      ∷ refused 28
      ∷ noticed
      ∷ sent (next_block 2 1 3)
      ∷ refused 28
      ∷ noticed
      ∷ []
  -- a restart gives back the last own block outside out slots, by all notices: slot 1 is out by the first outage alone; the last one is in force
  pub restart-noticed : map (λ (l : List Notice). (restart_noticed l).answer) ((out_from 1 3 ∷ []) ∷ (out_from 1 1 ∷ back_at 1 2 ∷ out_from 1 2 ∷ back_at 1 7 ∷ []) ∷ [])
      ≡ restarted 4 (next_block 2 1 1)
      ∷ restarted 4 (replicate 512 0)
      ∷ []
  -- 11 is before 29
  pub restart-in-force : numbers (restart_noticed (out_from 0 4 ∷ [])).memory (send (replicate 512 0) ∷ work ∷ work ∷ []) ≡ 11 ∷ 0 ∷ 21 ∷ []
  -- document 02's Req 11: the window has the blocks of the slots that the turn has left, an own one, another's, and the *next* of an own slot passed as out; a restart refills it
  pub window : first_four (after (fresh 2 0) (to_stale_and_held ++ (notice (out_from 0 2) ∷ work ∷ [])))
      ≡ next_block 2 0 0 ∷ from_other ∷ next_block 2 0 2 ∷ replicate 512 0 ∷ []
  pub restart-window : first_four restart_of_two.memory ≡ two_then_one ∷ next_block 2 1 1 ∷ replicate 512 0 ∷ replicate 512 0 ∷ []
