-- Document 02's Req 01 worked on small journals: a crate of its own, since computing them takes longer than the engine's proofs.
use Rattle.std.specs.Prelude.{ℕ, ◌≡◌, List, [], ◌∷◌, ◌++◌, ℤ, pos, replicate, take}
use Rattle.block.specs.Message.{Record}
use Rattle.block.specs.Bytes.{block_of}
use Rattle.engine.specs.Answers.{number_of, Outcome}
use Rattle.engine.specs.Answers.Answer.{restarted}
use Rattle.engine.specs.Client.{report_of}
use Rattle.engine.specs.Restart.{restart_step}
use Rattle.engine.specs.Worked.{zeros, fresh, next_block}

-- ---- small journals: a replica of a group of two, all values 0

abbrev pub restart_of : ℕ → ℕ → List ℕ → Outcome
restart_of n own journal = restart_step (fresh n own) n own zeros journal [] (replicate 512 0)

abbrev pub no_block : List ℕ
no_block = replicate 512 0

-- one write
abbrev pub writeset : ℕ → ℕ → ℤ → Record
writeset ticket item value = record { ticket = ticket; entries = record { item = item; value = value } ∷ [] }

abbrev pub commit_block : ℕ → ℕ → List Record → List ℕ
commit_block owner s ws = block_of (record { kind = 2; sender = owner; replicas = 2; slot = s; records = ws })

-- tickets 3 and 9 in slot 0, 5 in slot 2
abbrev pub long_journal : List ℕ
long_journal = commit_block 0 0 (writeset 3 1 (pos 1) ∷ writeset 9 2 (pos 2) ∷ []) ++ (next_block 2 1 1 ++ commit_block 0 2 (writeset 5 3 (pos 3) ∷ []))

abbrev pub last_block : List ℕ
last_block = commit_block 0 2 (writeset 5 3 (pos 3) ∷ [])

pub record WorkedRestarts : Type 0 where
  pub empty : (restart_of 2 0 []).answer ≡ restarted 0 no_block
  -- the highest ticket is not in the last own block: 9 given, 3 of them committed, all others aborted
  pub long : (restart_of 2 0 long_journal).answer ≡ restarted 3 last_block
  pub report : report_of (restart_of 2 0 long_journal).memory ≡ record { turn = 3; commits = 3; tickets = 9; open_count = 0; committed = 3; read_only = 0; aborted = 6; withdrawn = 0 }
  -- another's tickets give nothing
  pub others : report_of (restart_of 2 1 long_journal).memory ≡ record { turn = 3; commits = 3; tickets = 0; open_count = 0; committed = 0; read_only = 0; aborted = 0; withdrawn = 0 }
  -- a torn block
  pub torn : (restart_of 2 0 (next_block 2 0 0 ++ take 511 (next_block 2 1 1))).answer ≡ restarted 1 (next_block 2 0 0)
  -- not the next slot
  pub gap : (restart_of 2 0 (next_block 2 0 0 ++ (next_block 2 0 2 ++ next_block 2 1 1))).answer ≡ restarted 1 (next_block 2 0 0)
  -- another N
  pub group : (restart_of 2 0 (next_block 3 0 0)).answer ≡ restarted 0 no_block
  -- no own block
  pub none-own : (restart_of 2 1 (next_block 2 0 0)).answer ≡ restarted 1 no_block
  pub size-7 : number_of (restart_of 7 0 []).answer ≡ 2
  pub own-2 : number_of (restart_of 2 2 []).answer ≡ 2
  pub short : number_of (restart_step (fresh 2 0) 2 0 zeros [] [] (replicate 511 0)).answer ≡ 1
