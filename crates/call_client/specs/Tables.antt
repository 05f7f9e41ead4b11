-- Every row and record are those of some table: so the contracts at a row, which speak of the tables with that record there, leave no row and no record out.
use Rattle.std.specs.Prelude.{ℕ, suc, ◌≡◌, replicate}
use Rattle.memory.specs.declared.Txn.{Txn}
use Rattle.memory.specs.Rows.{row_at}

pub record Tables : Type 0 where
  pub some : (at : ℕ) (t : Txn) → t ≡ row_at (replicate (suc at) t) at
