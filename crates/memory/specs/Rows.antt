-- The rows of the table and the writes of each.
use Rattle.std.specs.Prelude.{ℕ, suc, ◌+◌, ◌*◌, min, Bool, true, false, cond, not, List, [], ◌∷◌, ◌++◌, eqb, ltb, length, get_or, take, drop, Option, Some, None}
use Rattle.std.proofs.Math.Seq.{slice}
use Rattle.memory.specs.declared.Txn.{Txn}

-- a free row
abbrev pub closed : Txn
closed = record { ticket = 0; stage = 0; snapshot = 0; writes = 0 }

abbrev pub is_open : Txn → Bool
is_open t = not (eqb t.ticket 0)

unfoldable pub open_count : List Txn → ℕ
open_count [] = 0
open_count (t ∷ ts) = cond (is_open t) (suc (open_count ts)) (open_count ts)

-- the first row with the ticket, counted from i; one past the last where there is none
unfoldable pub row_from : ℕ → ℕ → List Txn → ℕ
row_from ticket i [] = i
row_from ticket i (t ∷ ts) = cond (eqb t.ticket ticket) i (row_from ticket (suc i) ts)

-- the open row with the ticket, 6 where there is none
unfoldable pub row_of : ℕ → List Txn → ℕ
row_of ticket table = cond (eqb ticket 0) 6 (row_from ticket 0 table)

-- the row that a begin takes: the first free one, 6 where there is none
unfoldable pub free_row : List Txn → ℕ
free_row table = row_from 0 0 table

abbrev pub row_at : List Txn → ℕ → Txn
row_at table r = get_or table r closed

-- the rows with those that are marked ended free
unfoldable pub end_rows : List Bool → List Txn → List Txn
end_rows [] rows = rows
end_rows (e ∷ es) [] = []
end_rows (e ∷ es) (t ∷ ts) = cond e closed t ∷ end_rows es ts

-- how many writes a row has: a row that claims more than 8 has 8
abbrev pub write_count : Txn → ℕ
write_count t = min t.writes 8

-- row r's items
abbrev pub items_of : ℕ → Txn → List ℕ → List ℕ
items_of r t items = slice (8 * r) (8 * r + write_count t) items

-- where x first stands in a list, counted from i; one past the last where it does not
unfoldable pub index_from : ℕ → List ℕ → ℕ → ℕ
index_from x [] i = i
index_from x (y ∷ ys) i = cond (eqb y x) i (index_from x ys (suc i))

abbrev pub index_of : ℕ → List ℕ → ℕ
index_of x l = index_from x l 0

unfoldable pub has : ℕ → List ℕ → Bool
has x [] = false
has x (y ∷ ys) = cond (eqb y x) true (has x ys)

-- the first open row but `me`, counted from i, that has written the item: document 01's *holder* of its lock
unfoldable pub holder_from : List ℕ → ℕ → ℕ → ℕ → List Txn → Option ℕ
holder_from items me item i [] = None
holder_from items me item i (t ∷ ts) =
    cond (eqb i me) (holder_from items me item (suc i) ts)
    (cond (eqb t.ticket 0) (holder_from items me item (suc i) ts)
    (cond (has item (items_of i t items)) (Some i) (holder_from items me item (suc i) ts)))

abbrev pub holder_of : List Txn → List ℕ → ℕ → ℕ → Option ℕ
holder_of table items me item = holder_from items me item 0 table

abbrev pub is_held : Option ℕ → Bool
is_held (Some r) = true
is_held None = false

-- how many of a list's first elements are below x
unfoldable pub count_below : ℕ → List ℕ → ℕ → ℕ
count_below x [] i = i
count_below x (y ∷ ys) i = cond (ltb y x) (count_below x ys (suc i)) i

-- x in front, the others moved up by one, the last one out; of no elements, none
abbrev pub shift_in : {A : Type 0} → A → List A → List A
shift_in x l = take (length l) (x ∷ l)

-- x at the index, the n elements from there on moved up by one
abbrev pub insert_at : {A : Type 0} → ℕ → ℕ → A → List A → List A
insert_at at n x l = take at l ++ (x ∷ (slice at (at + n) l ++ drop (at + n + 1) l))
