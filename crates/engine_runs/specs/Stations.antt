-- Document 02's Req 05, worked: what a station of a group of two answers.
use Rattle.std.specs.Prelude.{ℕ, ◌≡◌, true, false, List, [], ◌∷◌, pos, replicate}
use Rattle.block.specs.Bytes.{block_of}
use Rattle.memory.specs.Memory.{Memory}
use Rattle.engine.specs.Answers.{number_of}
use Rattle.engine.specs.Answers.Answer.{refused, began, got, read_only, withdrew, reported, kept, worked}
use Rattle.engine.specs.Calls.{Call, after}
use Rattle.engine.specs.Calls.Call.{begin, read, write, ask, withdraw, report, send, deliver, work}
use Rattle.engine.specs.Station.{station_memory, station_step}
use Rattle.engine.specs.Worked.{answers, zeros, fresh, next_block}

-- on the parts of a group of n
abbrev pub make_number : ℕ → ℕ
make_number n = number_of (station_step (fresh n 0) n zeros).answer

-- all values 5
abbrev pub station : Memory
station = station_memory 2 (replicate 128 (pos 5))

-- a *tocommit* of replica 1, for slot 1: ticket 1 sets item 5, ticket 2 item 6
abbrev pub two_writesets : List ℕ
two_writesets = block_of (record {
  kind = 2;
  sender = 1;
  replicas = 2;
  slot = 1;
  records = record { ticket = 1; entries = record { item = 5; value = pos 50 } ∷ [] } ∷ record { ticket = 2; entries = record { item = 6; value = pos 60 } ∷ [] } ∷ [];
})

-- neither a write nor a send, also of a ticket that is not open, an item out of range and a block of another length; then slot 0, and one of slot 1's two writesets
abbrev pub first_calls : List Call
first_calls =
    begin ∷ write 1 5 (pos 40) ∷ write 9 128 (pos 40) ∷ send (replicate 512 0) ∷ send []
    ∷ deliver (next_block 2 0 0) ∷ work ∷ deliver two_writesets ∷ deliver (next_block 2 1 3) ∷ work ∷ []

abbrev pub later_calls : List Call
later_calls = begin ∷ read 1 5 ∷ read 2 5 ∷ work ∷ ask 1 ∷ withdraw 2 ∷ report ∷ []

pub record WorkedStation : Type 0 where
  pub size-1 : make_number 1 ≡ 2
  pub size-7 : make_number 7 ≡ 2
  pub size-2 : make_number 2 ≡ 0
  pub size-6 : make_number 6 ≡ 0
  -- every sender is another: the block of slot 0 is taken, and its turn moves
  pub first : answers station first_calls
      ≡ began 1 ∷ refused 25 ∷ refused 25 ∷ refused 25 ∷ refused 25
      ∷ kept ∷ worked (record { sender = 0; ticket = 0; moved = true; aborted = []; append = next_block 2 0 0 })
      ∷ kept ∷ refused 18 ∷ worked (record { sender = 1; ticket = 1; moved = false; aborted = []; append = [] }) ∷ []
  -- and the applying mark goes on
  pub applying : (after station first_calls).turn.applying ≡ 1
  pub later : answers (after station first_calls) later_calls
      ≡ began 2 ∷ got (pos 5) ∷ got (pos 50) ∷ worked (record { sender = 1; ticket = 2; moved = true; aborted = []; append = two_writesets }) ∷ read_only ∷ withdrew
      ∷ reported (record { turn = 2; commits = 2; tickets = 2; open_count = 0; committed = 0; read_only = 1; aborted = 0; withdrawn = 1 }) ∷ []
