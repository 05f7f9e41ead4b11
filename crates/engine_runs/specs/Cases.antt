-- Document 01's marked cases, each as what a list of calls answers at a replica just made.
use Rattle.std.specs.Prelude.{ℕ, ◌≡◌, true, List, [], ◌∷◌, ◌++◌, pos, negsuc, replicate, drop}
use Rattle.block.specs.Bytes.{block_of}
use Rattle.block.specs.Worked.{WorkedBlocks, example_commit}
use Rattle.engine.specs.Answers.{number_of}
use Rattle.engine.specs.Answers.Answer.{got, queued, sent, kept, worked}
use Rattle.engine.specs.Make.{make_step}
use Rattle.engine.specs.Calls.{Call}
use Rattle.engine.specs.Calls.Call.{begin, read, write, ask, withdraw, send, deliver, work}
use Rattle.engine.specs.Worked.{answers, numbers, zeros, fresh, next_block}

abbrev pub make_number : ℕ → ℕ
make_number n = number_of (make_step (fresh n 0) n 0 zeros).answer

-- the calls by which replica 0 of 2 passes its own slot 0 with a *next*
abbrev pub first_turn : List Call
first_turn = send (replicate 512 0) ∷ deliver (next_block 2 0 0) ∷ work ∷ []

-- eight items written by ticket 1
abbrev pub write_eight : List Call
write_eight =
    write 1 0 (pos 1)
    ∷ write 1 1 (pos 1)
    ∷ write 1 2 (pos 1)
    ∷ write 1 3 (pos 1)
    ∷ write 1 4 (pos 1)
    ∷ write 1 5 (pos 1)
    ∷ write 1 6 (pos 1)
    ∷ write 1 7 (pos 1)
    ∷ []

-- a *tocommit* of replica 0 of 2, for slot 0: ticket 1 writes the least value to item 0 and the greatest to item 127
abbrev pub limits_block : List ℕ
limits_block = block_of (record {
  kind = 2;
  sender = 0;
  replicas = 2;
  slot = 0;
  records = record { ticket = 1; entries = record { item = 0; value = negsuc 2_147_483_647 } ∷ record { item = 127; value = pos 2_147_483_647 } ∷ [] } ∷ [];
})

pub record WorkedCases : Type 0 where
  pub blocks : WorkedBlocks
  pub size-1 : make_number 1 ≡ 2
  pub size-7 : make_number 7 ≡ 2
  pub size-2 : make_number 2 ≡ 0
  pub size-6 : make_number 6 ≡ 0
  pub items : numbers (fresh 2 0) (begin ∷ write 1 127 (pos 1) ∷ write 1 128 (pos 1) ∷ []) ≡ 0 ∷ 0 ∷ 2 ∷ []
  pub ninth : numbers (fresh 2 0) (begin ∷ (write_eight ++ (write 1 8 (pos 1) ∷ write 1 7 (pos 2) ∷ []))) ≡ replicate 9 0 ++ (10 ∷ 0 ∷ [])
  pub seventh : numbers (fresh 2 0) (replicate 7 begin ++ (withdraw 3 ∷ begin ∷ [])) ≡ replicate 6 0 ++ (5 ∷ 0 ∷ 0 ∷ [])
  pub ahead : numbers (fresh 3 0) (deliver (next_block 3 2 2) ∷ deliver (next_block 3 0 3) ∷ []) ≡ 0 ∷ 18 ∷ []
  pub twice : numbers (fresh 2 1) (deliver (next_block 2 0 0) ∷ deliver (next_block 2 0 0) ∷ work ∷ deliver (next_block 2 0 0) ∷ []) ≡ 0 ∷ 20 ∷ 0 ∷ 17 ∷ []
  pub own-early : numbers (fresh 2 0) (deliver (next_block 2 0 0) ∷ []) ≡ 19 ∷ []
  pub aborted : drop 6 (answers (fresh 2 0) (first_turn ++ (begin ∷ write 1 5 (pos 9) ∷ ask 1 ∷ deliver (block_of example_commit) ∷ work ∷ send (replicate 512 0) ∷ [])))
      ≡ kept ∷ worked (record { sender = 1; ticket = 1; moved = true; aborted = 1 ∷ []; append = block_of example_commit }) ∷ sent (next_block 2 0 2) ∷ []
  pub stale : numbers (fresh 2 0) (first_turn ++ (begin ∷ deliver (block_of example_commit) ∷ work ∷ write 1 5 (pos 9) ∷ write 1 5 (pos 9) ∷ []))
      ≡ replicate 6 0 ++ (9 ∷ 3 ∷ [])
  -- −2,147,483,648 and 2,147,483,647 come back unchanged: read where they were written, sent, and read at the other replica once committed
  pub limits : drop 3 (answers (fresh 2 0) (begin ∷ write 1 0 (negsuc 2_147_483_647) ∷ write 1 127 (pos 2_147_483_647) ∷ read 1 0 ∷ read 1 127 ∷ ask 1 ∷ send (replicate 512 0) ∷ []))
      ≡ got (negsuc 2_147_483_647) ∷ got (pos 2_147_483_647) ∷ queued ∷ sent limits_block ∷ []
  pub limits-sent : drop 3 (answers (fresh 2 1) (deliver limits_block ∷ work ∷ begin ∷ read 1 0 ∷ read 1 127 ∷ [])) ≡ got (negsuc 2_147_483_647) ∷ got (pos 2_147_483_647) ∷ []
