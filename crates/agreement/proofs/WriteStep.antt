-- A write does what the model's write does. Assumes nothing.
use Prim.Native.Nat.{ℕ, ◌+◌, ◌*◌, ◌-◌, ◌≤◌, ◌<◌}
use mathlib.Core.Path.{◌≡◌, refl, sym, ap, ◌∙◌}
use mathlib.Core.Logic.{◌⊎◌, inl, inr}
use mathlib.Core.Bool.{Bool, true, false, cond, not, ◌&&◌}
use mathlib.Core.Option.{some}
use mathlib.Core.List.{List, [], ◌∷◌, map}
use native.Mathlib.Nat.{zero-add}
use native.Mathlib.Omega.{arith}
use lib.Dec.{eqb, ltb}
use lib.IntN.{ℤ, pos}
use lib.ListN.{length, get_or, set, length-set}
use lib.Seq.{slice, length-slice, set-get_or, get_or-set_other}
use borrow.Author.Tests.{eqb-true, eqb-false, eq-eqb, ne_eqb, ltb-true, ltb-false, leb-false, lt-leb, not-true, not-false}
use Rattle.block.specs.Answers.{refuse, first_of}
use Rattle.block.proofs.ListLaws.{get_or-slice}
use Rattle.memory.specs.declared.Txn.{Txn}
use Rattle.memory.specs.Memory.{Transactions, Memory, with_aborted, with_table, with_txns}
use Rattle.memory.specs.Rows.{closed, row_at, write_count, items_of, index_of, count_below, insert_at}
use Rattle.engine.specs.Answers.{Answer, outcome}
use Rattle.engine.specs.Answers.Answer.{wrote, refused}
use Rattle.engine.specs.Client.{row_no, row_in, own_index, is_own, held_by_other, is_stale, is_full, write_refusal, rewrite_at, insert_write, stale_at}
use Rattle.engine.specs.Moves.{waiting}
use Rattle.engine.specs.Shape.{Shape}
use Rattle.engine.specs.Calls.{step}
use Rattle.engine.specs.Calls.Call.{write}
use Rattle.engine.specs.History.AnyCall.{call}
use Rattle.engine.proofs.Tests.{bool_by, less_by, passes}
use Rattle.engine.proofs.HasLaws.{index_none}
use Rattle.engine.proofs.PartLaws.{below}
use Rattle.engine.proofs.RowLaws.{FoundRow, row-found, none_else}
use Rattle.engine.proofs.Steps.{write-by}
use Rattle.protocol.specs.Lists.{any_of}
use Rattle.protocol.specs.Writesets.{has, put}
use Rattle.protocol.specs.Replica.{Setup, Transaction, Store, transactions, Event}
use Rattle.protocol.specs.Client.{ClientOutcome, answered, find_txn, without, with_write, write_found, write_step}
use Rattle.protocol.proofs.ListLaws.{any-true, and_true}
use Rattle.agreement.specs.Group.{heard}
use Rattle.agreement.proofs.View.{setup, txn_of, open_txns, store_of, view, Sound, Owed}
use Rattle.agreement.proofs.ClientStep.{refused-owes, client-owes}
use Rattle.agreement.proofs.RowView.{open_row, ticket-of, find-row}
use Rattle.agreement.proofs.RowChange.{SameMembers, row-closed, Changed, row-changed}
use Rattle.agreement.proofs.PutLaws.{writes_of, length_writes, has_writes, index_has, index_is, inserted, put_again, put-new, slice-same, slice_set, slice-insert, slice-beside}

-- ---- the model's answers, from its tests

module _ (S : Setup ℤ) (b : Store ℤ) (k : Rattle.protocol.specs.Replica.Transactions ℤ) (t i : ℕ) (v : ℤ) (u : Transaction ℤ)
    (low : i < S.items) (found : find_txn t k.txns ≡ some u) (active : u.stage ≡ 0) where
  abbrev written : ClientOutcome ℤ
  written = answered (transactions k.tickets (map (with_write t i v) k.txns) k.queue) (Event.wrote t i v)

  model-again : has i u.writes ≡ true → write_step S b k t i v ≡ written
  unfolding write_step write_found
  model-again h = rw (lt-leb S.items i low, found, eq-eqb u.stage 0 active, h)

  module _ (none : has i u.writes ≡ false) where
    model-stale : ltb u.snapshot (b.stamps i) ≡ true
        → write_step S b k t i v ≡ answered (transactions k.tickets (without t k.txns) k.queue) (Event.refused 9)
    unfolding write_step write_found
    model-stale h = rw (lt-leb S.items i low, found, eq-eqb u.stage 0 active, none, h)

    model-new : ltb u.snapshot (b.stamps i) ≡ false → any_of (λ o. not (eqb o.ticket t) && has i o.writes) k.txns ≡ false → length u.writes < 8 → write_step S b k t i v ≡ written
    unfolding write_step write_found
    model-new h free w = rw (lt-leb S.items i low, found, eq-eqb u.stage 0 active, none, h, free, lt-leb 8 (length u.writes) w)

-- ---- the engine's tests

-- the last three refusals, where the item is not the transaction's own
abbrev last_three : Bool → Bool → Bool → Bool → ℕ
last_three own stale held full = first_of (cond own [] (refuse 9 stale ∷ refuse 8 held ∷ refuse 10 full ∷ []))

last-nine : (own stale held full : Bool) → last_three own stale held full ≡ 9 → (own ≡ false) × (stale ≡ true)
unfolding first_of
last-nine true s h f e = absurd (omega arith)
last-nine false true h f e = (refl, refl)
last-nine false false true f e = absurd (omega arith)
last-nine false false false true e = absurd (omega arith)
last-nine false false false false e = absurd (omega arith)

last_none : (stale held full : Bool) → last_three false stale held full ≡ 0 → (stale ≡ false) × (held ≡ false) × (full ≡ false)
unfolding first_of
last_none true h f e = absurd (omega arith)
last_none false true f e = absurd (omega arith)
last_none false false true e = absurd (omega arith)
last_none false false false e = (refl, refl, refl)

-- the tests before them are passed
record Reached (m : Memory) (t i n : ℕ) : Type 0 where
  item : i < 128
  row : row_no m t < 6
  active : (row_in m (row_no m t)).stage ≡ 0
  rest : last_three (is_own m (row_no m t) i) (is_stale m (row_no m t) i) (held_by_other m (row_no m t) i) (is_full m (row_no m t)) ≡ n

reached : (m : Memory) (t i n : ℕ) → ((j : ℕ) → j < 7 → j + 1 ≡ n → ⊥) → write_refusal m (row_no m t) i ≡ n → Reached m t i n
unfolding write_refusal
reached m t i n far e =
    let a = passes _ _ (ne_eqb 1 n (far 0 (omega arith))) e in
    let b = passes _ _ (ne_eqb 2 n (far 1 (omega arith))) a.1 in
    let c = passes _ _ (ne_eqb 3 n (far 2 (omega arith))) b.1 in
    let d = passes _ _ (ne_eqb 4 n (far 3 (omega arith))) c.1 in
    let f = passes _ _ (ne_eqb 7 n (far 6 (omega arith))) d.1 in
    record {
      item = leb-false 128 i b.0;
      row = leb-false 6 (row_no m t) c.0;
      active = eqb-true (row_in m (row_no m t)).stage 0 (not-false _ d.0);
      rest = f.1;
    }

-- ---- from the model's answer to what is owed

-- the aborted count is all that changes beside the transactions
owes-by : (n : ℕ) (start : List ℤ) (m : Memory) (t i : ℕ) (v : ℤ) (a : Answer) (y : Transactions) (ended : ℕ) (l : List (Transaction ℤ)) (e : Event ℤ)
    → write_step (setup n start) (store_of m) (view m).transactions t i v ≡ answered (transactions m.counts.tickets l (waiting m.txns.queue)) e
    → heard (call (write t i v)) a ≡ e → y.queue ≡ m.txns.queue → SameMembers l (open_txns y)
    → Owed n start m (write t i v) (outcome a (with_txns m (with_aborted m.counts ended) y))
unfolding Rattle.protocol.specs.System.step
owes-by n start m t i v a y ended l e h s q g =
    client-owes n start m (write t i v) (answered (transactions m.counts.tickets l (waiting m.txns.queue)) e) (outcome a (with_txns m (with_aborted m.counts ended) y))
    (with_aborted m.counts ended) y (rw h) s refl (record { done = refl; commits = refl; tickets = refl; queue = ap waiting q; txns = g })

-- ---- the row in the view

-- row k, its items and its values
abbrev row : Memory → ℕ → Txn
row m k = row_at m.txns.table k

abbrev items : Memory → ℕ → List ℕ
items m k = items_of k (row m k) m.txns.items

abbrev values : Memory → ℕ → List ℤ
values m k = slice (8 * k) (8 * k + write_count (row m k)) m.txns.writes

module _ {over : ℕ} (m : Memory) (S : Shape over m) where
  abbrev x : Transactions
  x = m.txns

  module _ (k : ℕ) (h : k < 6) where
    items-long : length (items_of k (row_at m.txns.table k) m.txns.items) ≡ write_count (row_at m.txns.table k)
    items-long = length-slice (8 * k) (8 * k + write_count (row m k)) m.txns.items (omega (arith, S.lengths.items)) ∙ omega arith

    values-long : length (slice (8 * k) (8 * k + write_count (row_at m.txns.table k)) m.txns.writes) ≡ write_count (row_at m.txns.table k)
    values-long = length-slice (8 * k) (8 * k + write_count (row m k)) m.txns.writes (omega (arith, S.lengths.writes)) ∙ omega arith

    beside_long : length (items m k) ≡ length (values m k)
    beside_long = items-long ∙ sym values-long

    length-row : length (txn_of x k (row m k)).writes ≡ write_count (row m k)
    unfolding txn_of
    length-row = length_writes (items m k) (values m k) beside_long ∙ items-long

    has-row : (i : ℕ) → has i (txn_of x k (row m k)).writes ≡ Rattle.memory.specs.Rows.has i (items m k)
    unfolding txn_of
    has-row i = has_writes i (items m k) (values m k) beside_long

    has-found : (i : ℕ) → has i (txn_of x k (row m k)).writes ≡ ltb (index_of i (items m k)) (write_count (row m k))
    has-found i = has-row i ∙ sym (index_has i (items m k) 0) ∙ rw (zero-add, items-long)

  -- no other open transaction has the item
  unheld : (t i : ℕ) → row_no m t < 6 → held_by_other m (row_no m t) i ≡ false → any_of (λ o. not (eqb o.ticket t) && has i o.writes) (open_txns x) ≡ false
  unheld t i h e = bool_by (any_of (λ o. not (eqb o.ticket t) && has i o.writes) (open_txns x)) other (λ q. q)
    where
      other : any_of (λ o. not (eqb o.ticket t) && has i o.writes) (open_txns x) ≡ true
          → any_of (λ o. not (eqb o.ticket t) && has i o.writes) (open_txns x) ≡ false
      other q =
          let a = any-true (λ o. not (eqb o.ticket t) && has i o.writes) (open_txns x) q in
          let p = and_true (not (eqb a.0.ticket t)) (has i a.0.writes) a.1.1 in
          let f = open_row x a.0 a.1.0 in
          absurd (none_else m.txns.table m.txns.items (row_no m t) i e f.row f.within
          (λ s. eqb-false a.0.ticket t (not-true _ p.0)
          (ap (λ (w : Transaction ℤ). w.ticket) f.is ∙ ticket-of x f.row (row m f.row) ∙ ap (λ (j : ℕ). (row m j).ticket) s
          ∙ (row-found t m.txns.table S.lengths.table h).is))
          f.live (sym (has-row f.row (omega (arith, f.within, S.lengths.table)) i) ∙ ap (λ (w : Transaction ℤ). has i w.writes) (sym f.is) ∙ p.1))

-- ---- the row with one more write

with_other : (t i : ℕ) (v : ℤ) (u : Transaction ℤ) → (u.ticket ≡ t → ⊥) → with_write t i v u ≡ u
with_other t i v u d = rw (ne_eqb u.ticket t d)

module _ {over : ℕ} (m : Memory) (S : Shape over m) (t i : ℕ) (v : ℤ) (h : row_no m t < 6) where
  abbrev r : ℕ
  r = row_no m t

  found : FoundRow t m.txns.table
  found = row-found t m.txns.table S.lengths.table h

  all : write_count (row_at m.txns.table (row_no m t)) ≡ (row_at m.txns.table (row_no m t)).writes
  all = omega (arith, (S.rows r h).few)

  item-at : (j : ℕ) → j < write_count (row m r) → get_or (items m r) j 0 ≡ get_or m.txns.items (8 * r + j) 0
  item-at j u = get_or-slice m.txns.items 0 (8 * r) (8 * r + write_count (row m r)) j (8 * r + j) refl (omega arith)

  -- row r of y is row r of x with the write put in, where its items and values are
  put_in : (y : Transactions) (s : Txn) → s.ticket ≡ (row m r).ticket → s.stage ≡ (row m r).stage → s.snapshot ≡ (row m r).snapshot → y.snapshots ≡ m.txns.snapshots
      → put i v (writes_of (items m r) (values m r)) ≡ writes_of (items_of r s y.items) (slice (8 * r) (8 * r + write_count s) y.writes)
      → with_write t i v (txn_of m.txns r (row m r)) ≡ txn_of y r s
  unfolding txn_of
  put_in y s a b c d e = rw (eq-eqb (row m r).ticket t found.is, a, b, c, d, e)

  -- another row of y is that of x, where its items and values are
  stays : (y : Transactions) (k : ℕ) → y.snapshots ≡ m.txns.snapshots → items_of k (row m k) y.items ≡ items m k
      → slice (8 * k) (8 * k + write_count (row m k)) y.writes ≡ values m k → txn_of y k (row m k) ≡ txn_of m.txns k (row m k)
  unfolding txn_of
  stays y k a b c = rw (a, b, c)

  -- ---- an item written again

  module _ (own : own_index m (row_no m t) i < write_count (row_in m (row_no m t))) where
    abbrev k : ℕ
    k = own_index m (row_no m t) i

    abbrev rewritten : Transactions
    rewritten = record {
      table = m.txns.table;
      queue = m.txns.queue;
      items = m.txns.items;
      writes = set m.txns.writes (8 * r + k) v;
      snapshots = m.txns.snapshots;
    }

    inside : own_index m (row_no m t) i < length (items_of (row_no m t) (row_in m (row_no m t)) m.txns.items)
    inside = omega (arith, own, items-long m S r h)

    is-own : get_or (items m r) k 0 ≡ i
    is-own = index_is i (items m r) inside

    put-own : put i v (writes_of (items m r) (values m r)) ≡ writes_of (items m r) (slice (8 * r) (8 * r + write_count (row m r)) (set m.txns.writes (8 * r + k) v))
    put-own =
        put_again i v (items m r) (values m r) k (beside_long m S r h) inside is-own
        (λ j u. rw (← is-own, item-at j (omega arith), item-at k own) ((S.rows r h).rising j k u (omega (arith, all))))
        ∙ ap (writes_of (items m r)) (sym (slice_set (8 * r) (write_count (row m r)) k m.txns.writes v own))

    again : Changed m S r h rewritten (row m r) (with_write t i v)
    again = record {
      table = sym (set-get_or m.txns.table r _);
      live = found.live;
      ticket = refl;
      here = put_in rewritten (row m r) refl refl refl refl put-own;
      beside = λ j u d. stays rewritten j refl refl
          (slice-same (pos 0) (8 * j) (write_count (row m j)) (set m.txns.writes (8 * r + k) v) m.txns.writes
          (omega (arith, length-set m.txns.writes (8 * r + k) v, S.lengths.writes)) (omega (arith, S.lengths.writes))
          (λ z w. get_or-set_other m.txns.writes (8 * r + k) (8 * j + z) v (pos 0) (λ e. omega (arith, d, own))));
      others = λ u d. with_other t i v u (λ z. d (z ∙ sym found.is));
    }

  -- ---- a new item

  module _ (none : write_count (row_in m (row_no m t)) ≤ own_index m (row_no m t) i) (room : write_count (row_in m (row_no m t)) < 8) where
    abbrev n : ℕ
    n = write_count (row m r)

    abbrev p : ℕ
    p = count_below i (items m r) 0

    abbrev longer : Txn
    longer = record { ticket = (row m r).ticket; stage = (row m r).stage; snapshot = (row m r).snapshot; writes = n + 1 }

    abbrev grown : Transactions
    grown = record {
      table = set m.txns.table r longer;
      queue = m.txns.queue;
      items = insert_at (8 * r + p) (n - p) i m.txns.items;
      writes = insert_at (8 * r + p) (n - p) v m.txns.writes;
      snapshots = m.txns.snapshots;
    }

    fits : count_below i (items_of (row_no m t) (row_in m (row_no m t)) m.txns.items) 0 ≤ write_count (row_in m (row_no m t))
    fits = omega (arith, (below i (items m r)).fits, items-long m S r h)

    counted : write_count longer ≡ n + 1
    counted = omega arith

    put-among : put i v (writes_of (items m r) (values m r)) ≡ writes_of (inserted p i (items m r)) (inserted p v (values m r))
    put-among =
        let b = below i (items m r) in
        put-new i v (items m r) (values m r) p (beside_long m S r h) b.fits b.under
        (λ u. omega (arith, b.over u, index_none i (items m r) (omega (arith, items-long m S r h)) p u))

    put-grown : put i v (writes_of (items m r) (values m r))
        ≡ writes_of (items_of r longer grown.items) (slice (8 * r) (8 * r + write_count longer) grown.writes)
    put-grown = rw counted
        (put-among
        ∙ ap (λ (l : List ℕ). writes_of l (inserted p v (values m r))) (sym (slice-insert (8 * r) n p i m.txns.items fits (omega (arith, S.lengths.items))))
        ∙ ap (writes_of (slice (8 * r) (8 * r + (n + 1)) grown.items)) (sym (slice-insert (8 * r) n p v m.txns.writes fits (omega (arith, S.lengths.writes)))))

    -- another row's part lies before or behind
    beside : (j : ℕ) → (j ≡ r → ⊥) → (8 * j + write_count (row m j) ≤ 8 * r + p) ⊎ (8 * r + p + (n - p) < 8 * j)
    beside j d = less_by j r (λ u. inl (omega arith)) (λ u. inr (omega (arith, d, fits)))

    new : Changed m S r h grown longer (with_write t i v)
    new = record {
      table = refl;
      live = found.live;
      ticket = refl;
      here = put_in grown longer refl refl refl refl put-grown;
      beside = λ j u d. stays grown j refl
          (slice-beside 0 (8 * j) (write_count (row m j)) (8 * r + p) (n - p) i m.txns.items
          (omega (arith, fits, S.lengths.items)) (omega (arith, S.lengths.items)) (beside j d))
          (slice-beside (pos 0) (8 * j) (write_count (row m j)) (8 * r + p) (n - p) v m.txns.writes
          (omega (arith, fits, S.lengths.writes)) (omega (arith, S.lengths.writes)) (beside j d));
      others = λ u d. with_other t i v u (λ z. d (z ∙ sym found.is));
    }

-- ---- what a write owes

module _ (n : ℕ) (start : List ℤ) {over : ℕ} (m : Memory) (S : Shape over m) (t i : ℕ) (v : ℤ) where
  abbrev own : ℕ
  own = row_no m t

  stale-owes : write_refusal m (row_no m t) i ≡ 9 → Owed n start m (write t i v) (stale_at m (row_no m t))
  unfolding txn_of heard stale_at
  stale-owes e =
      let q = reached m t i 9 (λ j u. omega arith) e in
      let p = last-nine _ _ _ _ q.rest in
      let f = row-found t m.txns.table S.lengths.table q.row in
      owes-by n start m t i v (refused 9) (with_table m.txns (set m.txns.table own closed)) _ (without t (open_txns m.txns)) (Event.refused 9)
      (model-stale (setup n start) (store_of m) (view m).transactions t i v (txn_of m.txns own (row m own)) q.item (find-row m S t q.row) q.active
      (has-found m S own q.row i ∙ p.0) p.1)
      refl refl (row-closed m S own q.row f.live t f.is)

  again-owes : write_refusal m (row_no m t) i ≡ 0 → is_own m (row_no m t) i ≡ true → Owed n start m (write t i v) (rewrite_at m (row_no m t) (own_index m (row_no m t) i) v)
  unfolding txn_of heard rewrite_at
  again-owes e o =
      let q = reached m t i 0 (λ j u. omega arith) e in
      let w = ltb-true (own_index m (row_no m t) i) (write_count (row_in m (row_no m t))) o in
      owes-by n start m t i v wrote (rewritten m S t i v q.row w) m.counts.aborted (map (with_write t i v) (open_txns m.txns)) (Event.wrote t i v)
      (model-again (setup n start) (store_of m) (view m).transactions t i v (txn_of m.txns own (row m own)) q.item (find-row m S t q.row) q.active
      (has-found m S own q.row i ∙ o))
      refl refl (row-changed m S own q.row (rewritten m S t i v q.row w) (row m own) (with_write t i v) (again m S t i v q.row w))

  new-owes : write_refusal m (row_no m t) i ≡ 0 → is_own m (row_no m t) i ≡ false → Owed n start m (write t i v) (insert_write m (row_no m t) (row_in m (row_no m t)) i v)
  unfolding txn_of heard insert_write
  new-owes e o =
      let q = reached m t i 0 (λ j u. omega arith) e in
      let p = last_none (is_stale m (row_no m t) i) (held_by_other m (row_no m t) i) (is_full m (row_no m t)) (rw o at q.rest) in
      let a = ltb-false (own_index m (row_no m t) i) (write_count (row_in m (row_no m t))) o in
      let b : write_count (row_in m (row_no m t)) < 8 = omega (arith, eqb-false (write_count (row_in m (row_no m t))) 8 p.2) in
      owes-by n start m t i v wrote (grown m S t i v q.row a b) m.counts.aborted (map (with_write t i v) (open_txns m.txns)) (Event.wrote t i v)
      (model-new (setup n start) (store_of m) (view m).transactions t i v (txn_of m.txns own (row m own)) q.item (find-row m S t q.row) q.active
      (has-found m S own q.row i ∙ o) p.0 (unheld m S t i q.row p.1) (rw (length-row m S own q.row) b))
      refl refl (row-changed m S own q.row (grown m S t i v q.row a b) (longer m S t i v q.row a b) (with_write t i v) (new m S t i v q.row a b))

pub write_owes : (n : ℕ) (start : List ℤ) (m : Memory) → Sound n m → (t i : ℕ) (v : ℤ) → Owed n start m (write t i v) (step m (write t i v))
write_owes n start m s t i v =
    write-by (Owed n start m (write t i v)) m t i v (stale-owes n start m s.shape t i v) (again-owes n start m s.shape t i v) (new-owes n start m s.shape t i v)
    (λ j k e. refused-owes n start m (write t i v) j k)
