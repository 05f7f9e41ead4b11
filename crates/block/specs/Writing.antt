-- What the writers answer and leave in the bytes lent to them.
use Rattle.std.specs.Prelude.{ℕ, Bool, cond, List, [], ◌∷◌, ◌++◌, eqb, ℤ, length, take, Result, Ok, Err, ⊤}
use Rattle.block.specs.declared.Entry.{Entry}
use Rattle.block.specs.declared.BlockFault.{BlockFault}
use Rattle.block.specs.Answers.{fault_number}
use Rattle.block.specs.Check.{check_bytes}
use Rattle.block.specs.Message.{Record}

-- the number answered, and the lent bytes after the call
pub record Written : Type 0 where
  pub number : ℕ
  pub bytes : List ℕ

abbrev pub all_written : List ℕ → Written
all_written l = record { number = 0; bytes = l }

-- what a writer answers, as a number, and leaves
abbrev pub written : Result ⊤ BlockFault → List ℕ → Written
written (Ok done) l = all_written l
written (Err f) l = record { number = fault_number f; bytes = l }

-- the new bytes where the lengths are right, else 1 and the bytes as they were
abbrev pub write_where : Bool → List ℕ → List ℕ → Written
write_where right new old = cond right (all_written new) (record { number = 1; bytes = old })

-- an entry for each item and the value beside it
unfoldable pub entries_from : List ℕ → List ℤ → List Entry
entries_from [] vs = []
entries_from (i ∷ is) [] = []
entries_from (i ∷ is) (v ∷ vs) = record { item = i; value = v } ∷ entries_from is vs

abbrev pub record_from : ℕ → List ℕ → List ℤ → Record
record_from t is vs = record { ticket = t; entries = entries_from is vs }

-- a block with its check
unfoldable pub checked_step : List ℕ → Written
checked_step block = write_where (eqb (length block) 512) (take 504 block ++ check_bytes block) block
