-- A row with another stage, or another number of written items, and a lent table as six rows.
use Rattle.std.specs.Prelude.{ℕ, cond, List, eqb, length, replicate}
use Rattle.memory.specs.declared.Txn.{Txn}
use Rattle.memory.specs.Rows.{closed}

-- a row with another stage
abbrev pub with_stage : Txn → ℕ → Txn
with_stage t s = record { ticket = t.ticket; stage = s; snapshot = t.snapshot; writes = t.writes }

-- a row with another number of written items
abbrev pub with_writes : Txn → ℕ → Txn
with_writes t n = record { ticket = t.ticket; stage = t.stage; snapshot = t.snapshot; writes = n }

-- a table's rows where they are six, else free ones
unfoldable pub loaded : List Txn → List Txn
loaded table = cond (eqb (length table) 6) table (replicate 6 closed)
