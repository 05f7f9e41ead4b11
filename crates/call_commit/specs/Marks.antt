-- The marks of the rows that a writeset aborts.
use Rattle.std.specs.Prelude.{ℕ, suc, Bool, List, [], ◌∷◌}
use Rattle.block.specs.declared.Entry.{Entry}
use Rattle.memory.specs.declared.Txn.{Txn}
use Rattle.engine.specs.Moves.{is_hit}

-- one mark for each row, counted from r: true where the entries hit it
unfoldable pub hit_marks : List Entry → List ℕ → ℕ → List Txn → List Bool
hit_marks es items r [] = []
hit_marks es items r (t ∷ ts) = is_hit es items r t ∷ hit_marks es items (suc r) ts
