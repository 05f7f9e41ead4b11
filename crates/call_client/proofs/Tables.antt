-- A table with the record in each row. Assumes nothing.
use Prim.Native.Nat.{suc}
use mathlib.Core.Path.{sym}
use native.Mathlib.Omega.{arith}
use lib.ListN.{get_or-replicate}
use Rattle.memory.specs.Rows.{closed}
use Rattle.call_client.specs.Tables.{Tables}

pub tables : Tables
tables = record { some = λ at t. sym (get_or-replicate (suc at) at t closed (omega arith)) }
