-- Rows by the marks of those ended: no mark, one mark more, and the marks of those hit. Assumes nothing.
use Prim.Native.Nat.{ℕ, zero, suc, ◌<◌}
use mathlib.Core.Path.{◌≡◌, refl}
use mathlib.Core.Bool.{Bool, true, false}
use mathlib.Core.List.{List, [], ◌∷◌}
use native.Mathlib.Nat.{not-suc-le-zero, le_of_suc-le-suc}
use lib.ListN.{length, set, replicate}
use Rattle.block.specs.declared.Entry.{Entry}
use Rattle.memory.specs.declared.Txn.{Txn}
use Rattle.memory.specs.Rows.{closed, end_rows}
use Rattle.engine.specs.Moves.{after_aborts}
use Rattle.call_commit.specs.Marks.{hit_marks}

pub end_none : (n : ℕ) (rows : List Txn) → end_rows (replicate n false) rows ≡ rows
unfolding end_rows
end_none zero rows = refl
end_none (suc n) [] = refl
end_none (suc n) (t ∷ rows) = rw (end_none n rows)

pub end_mark : (marks : List Bool) (rows : List Txn) (k : ℕ) → k < length marks → end_rows (set marks k true) rows ≡ set (end_rows marks rows) k closed
unfolding end_rows
end_mark [] rows k h = absurd (not-suc-le-zero h)
end_mark (e ∷ marks) [] zero h = refl
end_mark (e ∷ marks) [] (suc k) h = refl
end_mark (e ∷ marks) (t ∷ rows) zero h = refl
end_mark (e ∷ marks) (t ∷ rows) (suc k) h = rw (end_mark marks rows k (le_of_suc-le-suc h))

pub end_hit : (es : List Entry) (items : List ℕ) (r : ℕ) (table : List Txn) → end_rows (hit_marks es items r table) table ≡ after_aborts es items r table
unfolding end_rows hit_marks after_aborts
end_hit es items r [] = refl
end_hit es items r (t ∷ table) = rw (end_hit es items (suc r) table)
