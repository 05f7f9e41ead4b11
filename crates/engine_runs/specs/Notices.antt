-- Document 02's Req 10, worked: what lists of calls with notices answer at a replica or a station just made, and what a restart gives back.
use Rattle.std.specs.Prelude.{ℕ, ◌≡◌, true, false, List, [], ◌∷◌, ◌++◌, pos, replicate, drop}
use Rattle.block.specs.Bytes.{block_of}
use Rattle.memory.specs.Notices.{Notice}
use Rattle.engine.specs.Answers.{Answer}
use Rattle.engine.specs.Answers.Answer.{refused, sent, kept, worked, noticed, reported, restarted}
use Rattle.engine.specs.Restart.{restart_step}
use Rattle.engine.specs.Station.{station_memory}
use Rattle.engine.specs.Calls.{Call}
use Rattle.engine.specs.Calls.Call.{begin, write, ask, report, send, deliver, work, notice}
use Rattle.engine.specs.Worked.{answers, numbers, zeros, fresh, next_block, two_then_one, out_from, back_at}

abbrev pub out : ℕ → ℕ → Call
out k v = notice (out_from k v)

abbrev pub back : ℕ → ℕ → Call
back k w = notice (back_at k w)

abbrev pub sends : Call
sends = send (replicate 512 0)

-- the *next* of slot s comes
abbrev pub next : ℕ → ℕ → ℕ → Call
next n owner s = deliver (next_block n owner s)

-- replica 0 of 3: replica 2 is out from slot 2, and back at 6
abbrev pub out_and_back : List Call
out_and_back =
    out 2 2 ∷ out 2 5 ∷ out 3 5 ∷ out 2 100_000_000 ∷ back 2 2 ∷ back 1 5
    ∷ sends ∷ next 3 0 0 ∷ work ∷ next 3 1 1 ∷ work
    ∷ next 3 2 2 ∷ next 3 2 5 ∷ next 3 2 8 ∷ work ∷ next 3 2 2
    ∷ back 2 6 ∷ back 2 9 ∷ out 2 9
    ∷ sends ∷ next 3 0 3 ∷ work ∷ next 3 1 4 ∷ work ∷ work ∷ work
    ∷ out 2 6 ∷ back 2 7 ∷ work ∷ out 1 5 ∷ []

-- a *tocommit* of replica 1 of 2, for slot 3: ticket 1 writes 40 to item 5
abbrev pub sent_late : List ℕ
sent_late = block_of (record { kind = 2; sender = 1; replicas = 2; slot = 3; records = record { ticket = 1; entries = record { item = 5; value = pos 40 } ∷ [] } ∷ [] })

-- replica 1 of 2, out of itself at slot 1 with a change asked, which it sends for slot 3; then out again from 4
abbrev pub out_of_itself : List Call
out_of_itself =
    next 2 0 0 ∷ work ∷ begin ∷ write 1 5 (pos 40) ∷ ask 1
    ∷ out 1 1 ∷ sends ∷ work ∷ sends ∷ back 1 2 ∷ next 2 0 2 ∷ work ∷ sends ∷ sends ∷ out 1 3 ∷ deliver sent_late ∷ work
    ∷ out 1 4 ∷ next 2 0 4 ∷ work ∷ work ∷ report ∷ []

-- replica 1 of 2, out of itself twice with no own block between
abbrev pub out_twice : List Call
out_twice = next 2 0 0 ∷ work ∷ out 1 1 ∷ work ∷ back 1 2 ∷ out 1 2 ∷ next 2 0 2 ∷ work ∷ back 1 7 ∷ work ∷ []

-- what its restart answers from the journal that it is left with
abbrev pub gives_back : List Notice → Answer
gives_back l =
    (restart_step (fresh 2 1) 2 1 zeros (next_block 2 0 0 ++ (next_block 2 1 1 ++ (next_block 2 0 2 ++ next_block 2 1 3))) l (replicate 512 0)).answer

-- the *next* of slot s, and the turn moves
abbrev pub passes : ℕ → ℕ → Answer
passes owner s = worked (record { sender = owner; ticket = 0; moved = true; aborted = []; append = next_block 2 owner s })

pub record WorkedNotices : Type 0 where
  pub out-and-back : numbers (fresh 3 0) out_and_back
      ≡ 0 ∷ 28 ∷ 2 ∷ 2 ∷ 28 ∷ 28 ∷ 0 ∷ 0 ∷ 0 ∷ 0 ∷ 0 ∷ 29 ∷ 29 ∷ 29 ∷ 0 ∷ 17 ∷ 0 ∷ 28 ∷ 28 ∷ 0 ∷ 0 ∷ 0 ∷ 0 ∷ 0 ∷ 0 ∷ 21 ∷ 0 ∷ 0 ∷ 21 ∷ 28 ∷ []
  pub out-of-itself : drop 5 (answers (fresh 2 1) out_of_itself)
      ≡ noticed ∷ refused 29 ∷ passes 1 1 ∷ refused 11 ∷ noticed ∷ kept ∷ passes 0 2 ∷ sent sent_late ∷ refused 12 ∷ refused 28 ∷ kept
      ∷ worked (record { sender = 1; ticket = 1; moved = true; aborted = []; append = [] })
      ∷ noticed ∷ kept ∷ passes 0 4 ∷ passes 1 5
      ∷ reported (record { turn = 6; commits = 1; tickets = 1; open_count = 0; committed = 1; read_only = 0; aborted = 0; withdrawn = 0 }) ∷ []
  pub twice : answers (fresh 2 1) out_twice
      ≡ kept ∷ passes 0 0 ∷ noticed ∷ passes 1 1 ∷ noticed ∷ noticed ∷ kept ∷ passes 0 2 ∷ noticed ∷ passes 1 3 ∷ []
  -- by all notices no own block is outside out slots; by the last outage alone slot 1's would be
  pub given : gives_back (out_from 1 1 ∷ back_at 1 2 ∷ out_from 1 2 ∷ back_at 1 7 ∷ []) ≡ restarted 4 (replicate 512 0)
  pub by_last : gives_back (out_from 1 2 ∷ back_at 1 7 ∷ []) ≡ restarted 4 (next_block 2 1 1)
  -- a block placed early shuts a notice out
  pub placed : numbers (fresh 2 1) (next 2 0 0 ∷ work ∷ next 2 0 2 ∷ out 0 1 ∷ out 0 3 ∷ back 0 3 ∷ back 0 4 ∷ []) ≡ 0 ∷ 0 ∷ 0 ∷ 28 ∷ 0 ∷ 28 ∷ 0 ∷ []
  -- so does one that is half applied, from its slot on: one of its two writesets is committed
  pub half-applied : answers (fresh 2 1) (deliver two_then_one ∷ work ∷ out 0 0 ∷ out 0 1 ∷ [])
      ≡ kept ∷ worked (record { sender = 0; ticket = 2; moved = false; aborted = []; append = [] }) ∷ refused 28 ∷ noticed ∷ []
  -- a station passes and journals the out slot too, and takes the block of the next one once it has the Back
  pub station : answers (station_memory 2 zeros) (out 1 1 ∷ next 2 0 0 ∷ work ∷ work ∷ next 2 1 3 ∷ back 1 2 ∷ next 2 1 3 ∷ [])
      ≡ noticed ∷ kept ∷ passes 0 0 ∷ passes 1 1 ∷ refused 29 ∷ noticed ∷ kept ∷ []
