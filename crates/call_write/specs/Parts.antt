-- A write in two parts: at the row of an active transaction, and of a new item.
use Rattle.std.specs.Prelude.{ℕ, ◌+◌, ◌*◌, ◌-◌, cond, List, ℤ, set}
use Rattle.memory.specs.declared.Txn.{Txn}
use Rattle.memory.specs.Memory.{Memory}
use Rattle.memory.specs.Rows.{row_at, write_count, items_of, count_below, insert_at}
use Rattle.engine.specs.Answers.{Outcome, outcome}
use Rattle.engine.specs.Answers.Answer.{refused}
use Rattle.engine.specs.Client.{row_in, own_index, is_own, held_by_other, is_stale, is_full, rewrite_at, stale_at, insert_write}

-- table, items and values after a new item
pub record Inserted : Type 0 where
  pub table : List Txn
  pub items : List ℕ
  pub writes : List ℤ

abbrev pub inserted : List Txn → List ℕ → List ℤ → Inserted
inserted t i w = record { table = t; items = i; writes = w }

unfoldable pub insert_in : List Txn → List ℕ → List ℤ → ℕ → ℕ → ℤ → Inserted
insert_in table items writes r item value =
    let t = row_at table r in
    let n = write_count t in
    let p = count_below item (items_of r t items) 0 in
    inserted (set table r (record { ticket = t.ticket; stage = t.stage; snapshot = t.snapshot; writes = n + 1 }))
    (insert_at (8 * r + p) (n - p) item items)
    (insert_at (8 * r + p) (n - p) value writes)

-- the write of an active transaction, of row r, that need not wait
unfoldable pub write_active : Memory → ℕ → ℕ → ℤ → Outcome
write_active m r item value =
    cond (is_own m r item) (rewrite_at m r (own_index m r item) value)
    (cond (is_stale m r item) (stale_at m r)
    (cond (held_by_other m r item) (outcome (refused 8) m)
    (cond (is_full m r) (outcome (refused 10) m) (insert_write m r (row_in m r) item value))))
