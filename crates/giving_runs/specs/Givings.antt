-- Givings between the replicas of small groups, each with the calls that lead there: what is answered, the calls done, and the turn.
use Rattle.std.specs.Prelude.{ℕ, ◌≡◌, List, [], ◌∷◌, map, ℤ, pos, replicate}
use Rattle.block.specs.Message.{Record}
use Rattle.block.specs.Bytes.{block_of}
use Rattle.memory.specs.Memory.{Memory}
use Rattle.memory.specs.Window.{empty_window, kept_block}
use Rattle.engine.specs.declared.Report.{Report}
use Rattle.engine.specs.Client.{report_of}
use Rattle.engine.specs.Station.{station_memory}
use Rattle.engine.specs.Calls.{Call, after}
use Rattle.engine.specs.Calls.Call.{begin, write, ask, send, deliver, work, notice}
use Rattle.engine.specs.Worked.{zeros, fresh, next_block, out_from}
use Rattle.giving.specs.Choice.{down, giver_of}
use Rattle.giving.specs.Giving.{giver_refusal, give_refusal, give_step}
use Rattle.giving.specs.Worked.{seen}

-- a writeset of one item
abbrev pub sets : ℕ → ℕ → ℤ → Record
sets ticket item value = record { ticket = ticket; entries = record { item = item; value = value } ∷ [] }

-- a *tocommit* of replica 0 of n, for slot 0
abbrev pub first_block : ℕ → List Record → List ℕ
first_block n records = block_of (record { kind = 2; sender = 0; replicas = n; slot = 0; records = records })

abbrev pub sends : Call
sends = send (replicate 512 0)

-- replica 2 is out from slot 2 on
abbrev pub out : Call
out = notice (out_from 2 2)

-- ---- replica 2 of 3 comes back, and is out: two slots with a block, and an out slot

abbrev pub two : List ℕ
two = first_block 3 (sets 1 5 (pos 50) ∷ sets 2 6 (pos 60) ∷ [])

abbrev pub giver : Memory
giver = after (fresh 3 0)
    (out ∷ begin ∷ begin ∷ write 1 5 (pos 50) ∷ write 2 6 (pos 60) ∷ ask 1 ∷ ask 2 ∷ sends ∷ deliver two ∷ work ∷ work ∷ deliver (next_block 3 1 1) ∷ work ∷ work ∷ [])

-- ticket 2, asked, has written the item of the first writeset, ticket 1 that of the second
abbrev pub returner : Memory
returner = after (fresh 3 2) (out ∷ begin ∷ begin ∷ write 2 5 (pos 1) ∷ write 1 6 (pos 1) ∷ ask 2 ∷ [])

abbrev pub returned : Memory
returned = (give_step returner (3 ∷ 2 ∷ down ∷ []) giver.blocks.window).memory

-- replica 1, which has sent its block for slot 1
abbrev pub other : Memory
other = after (fresh 3 1) (out ∷ deliver two ∷ work ∷ work ∷ sends ∷ [])

-- replica 2 at slot 1
abbrev pub moved : Memory
moved = after (fresh 3 2) (deliver (next_block 3 0 0) ∷ work ∷ [])

abbrev pub reported : Report
reported = record { turn = 3; commits = 2; tickets = 2; open_count = 0; committed = 0; read_only = 0; aborted = 2; withdrawn = 0 }

pub record WorkedGiving : Type 0 where
  pub given : seen returner (3 ∷ 2 ∷ down ∷ []) giver.blocks.window
      ≡ (0, 1 ∷ 2 ∷ [], deliver two ∷ work ∷ work ∷ deliver (next_block 3 1 1) ∷ work ∷ work ∷ [], 3)
  pub report : report_of returned ≡ reported
  -- its window has grown by all three, the out slot's *next* too
  pub window : map (kept_block returned.blocks.window) (0 ∷ 1 ∷ 2 ∷ []) ≡ two ∷ next_block 3 1 1 ∷ next_block 3 2 2 ∷ []
  -- level, and ahead: the window is not looked at
  pub level : seen (fresh 3 2) (0 ∷ 0 ∷ 9 ∷ []) empty_window ≡ (0, [], [], 0)
  pub ahead : seen moved (down ∷ 0 ∷ 9 ∷ []) empty_window ≡ (0, [], [], 1)
  -- nobody else is up; the giver's turn is told one too high
  pub nobody : seen moved (down ∷ down ∷ 0 ∷ []) giver.blocks.window ≡ (30, [], [], 1)
  pub lacking : seen moved (4 ∷ 2 ∷ 0 ∷ []) giver.blocks.window ≡ (31, [], [], 1)
  -- an own block comes back from the window
  pub own : seen other (3 ∷ 0 ∷ down ∷ []) giver.blocks.window ≡ (0, [], deliver (next_block 3 1 1) ∷ work ∷ work ∷ [], 3)

-- ---- the same without the notice at replica 2: an own block that it never sent

abbrev pub one : List ℕ
one = first_block 3 (sets 1 5 (pos 50) ∷ [])

abbrev pub noticed : Memory
noticed = after (fresh 3 0) (out ∷ begin ∷ write 1 5 (pos 50) ∷ ask 1 ∷ sends ∷ deliver one ∷ work ∷ deliver (next_block 3 1 1) ∷ work ∷ work ∷ [])

abbrev pub unnoticed : Memory
unnoticed = after (fresh 3 2) (begin ∷ write 1 5 (pos 1) ∷ [])

pub record WorkedRefusal : Type 0 where
  -- what went before stands
  pub given : seen unnoticed (3 ∷ down ∷ 0 ∷ []) noticed.blocks.window
      ≡ (19, 1 ∷ [], deliver one ∷ work ∷ deliver (next_block 3 1 1) ∷ work ∷ deliver (next_block 3 2 2) ∷ [], 2)

-- ---- in place already, half applied

abbrev pub both : List ℕ
both = first_block 2 (sets 1 5 (pos 50) ∷ sets 2 6 (pos 60) ∷ [])

abbrev pub ended : Memory
ended = after (fresh 2 0) (begin ∷ begin ∷ write 1 5 (pos 50) ∷ write 2 6 (pos 60) ∷ ask 1 ∷ ask 2 ∷ sends ∷ deliver both ∷ work ∷ work ∷ [])

abbrev pub half : Memory
half = after (fresh 2 1) (deliver both ∷ work ∷ begin ∷ [])

pub record WorkedPlace : Type 0 where
  pub given : seen half (1 ∷ down ∷ []) ended.blocks.window ≡ (0, [], work ∷ [], 1)
  -- turns of another number, a window of another length, a station
  pub turns : seen half (1 ∷ down ∷ 1 ∷ []) ended.blocks.window ≡ (1, [], [], 0)
  pub window : seen half (1 ∷ down ∷ []) [] ≡ (1, [], [], 0)
  pub station : give_refusal (station_memory 2 zeros) [] [] ∷ giver_refusal (station_memory 2 zeros) [] ∷ [] ≡ 25 ∷ 25 ∷ []
  -- the choice alone
  pub choice : giver_refusal half (1 ∷ down ∷ 1 ∷ []) ∷ giver_refusal half (down ∷ 1 ∷ []) ∷ giver_refusal half (1 ∷ down ∷ []) ∷ [] ≡ 1 ∷ 30 ∷ 0 ∷ []

-- ---- ties go to the first after the returner

pub record WorkedTies : Type 0 where
  pub at_one : giver_of 1 (0 ∷ 0 ∷ 0 ∷ 0 ∷ []) ≡ 2
  pub at-three : giver_of 3 (0 ∷ 0 ∷ 0 ∷ 0 ∷ []) ≡ 0
  pub last-down : giver_of 2 (0 ∷ 0 ∷ 0 ∷ down ∷ []) ≡ 0
  pub at-two : giver_of 2 (0 ∷ 0 ∷ 0 ∷ 0 ∷ []) ≡ 3
  pub at_zero : giver_of 0 (9 ∷ 0 ∷ 0 ∷ 0 ∷ []) ≡ 1
