-- One row of the table put in place of another that is active or free: what the new row must meet for the shape to be kept. Assumes nothing.
use Prim.Native.Nat.{ℕ, ◌+◌, ◌≤◌, ◌<◌}
use mathlib.Core.Path.{◌≡◌, sym, ap, ◌∙◌}
use mathlib.Core.Bool.{true}
use mathlib.Core.List.{List}
use native.Mathlib.Omega.{arith}
use lib.IntN.{ℤ}
use lib.ListN.{length, get_or, set, length-set}
use lib.Seq.{get_or-set_same}
use borrow.Author.Tests.{ne_eqb}
use Rattle.memory.specs.declared.Txn.{Txn}
use Rattle.block.specs.Message.{max_ticket}
use Rattle.memory.specs.Memory.{Memory}
use Rattle.memory.specs.Rows.{closed, open_count, row_of, row_at, has}
use Rattle.engine.specs.Moves.{waiting}
use Rattle.engine.specs.Shape.{Lengths, Ranges, QueueShape, Shape}
use Rattle.engine.proofs.Tests.{same_by}
use Rattle.engine.proofs.RowLaws.{others, row-found, row-of-set}
use Rattle.engine.proofs.Shaping.{RowFits, item_at, fits_of, row-of_fits, fits_more, Alone, alone, single_of}

-- what a client's call may change beside one row
pub record Parts : Type 0 where
  pub tickets : ℕ
  pub read_only : ℕ
  pub aborted : ℕ
  pub withdrawn : ℕ
  pub queue : List ℕ
  pub items : List ℕ
  pub writes : List ℤ
  pub snapshots : List ℤ

abbrev pub changed : Memory → ℕ → Txn → Parts → Memory
changed m r t p = record {
  group = m.group;
  turn = m.turn;
  counts = record {
    commits = m.counts.commits;
    done = m.counts.done;
    tickets = p.tickets;
    committed = m.counts.committed;
    read_only = p.read_only;
    aborted = p.aborted;
    withdrawn = p.withdrawn;
  };
  txns = record { table = set m.txns.table r t; queue = p.queue; items = p.items; writes = p.writes; snapshots = p.snapshots };
  store = m.store;
  blocks = m.blocks;
}

-- another row's ticket is not t's
abbrev pub Apart : Memory → ℕ → Txn → Type 0
Apart m r t = (j : ℕ) → j < 6 → (j ≡ r → ⊥) → (t.ticket ≡ 0 → ⊥) → t.ticket ≡ (row_at m.txns.table j).ticket → ⊥

-- the counts and the snapshots as they are
abbrev pub parts_with : Memory → List ℕ → List ℕ → List ℤ → Parts
parts_with m queue items writes = record {
  tickets = m.counts.tickets;
  read_only = m.counts.read_only;
  aborted = m.counts.aborted;
  withdrawn = m.counts.withdrawn;
  queue = queue;
  items = items;
  writes = writes;
  snapshots = m.txns.snapshots;
}

pub record Change (over : ℕ) (m : Memory) (r : ℕ) (t : Txn) (p : Parts) : Type 0 where
  pub queue : length p.queue ≡ 6
  pub items : length p.items ≡ 48
  pub writes : length p.writes ≡ 48
  pub snapshots : length p.snapshots ≡ 768
  pub more : m.counts.tickets ≤ p.tickets
  pub most : p.tickets ≤ max_ticket
  pub endings : p.tickets + over ≡ open_count (set m.txns.table r t) + m.counts.committed + p.read_only + p.aborted + p.withdrawn
  pub fits : RowFits t p.tickets m.counts.commits (item_at p.items r)
  -- the other rows' items stay
  pub others : (i : ℕ) → i < 6 → (i ≡ r → ⊥) → (j : ℕ) → j < 8 → item_at p.items i j ≡ item_at m.txns.items i j
  -- and none of them is t's
  pub alone : (i : ℕ) → i < 6 → (i ≡ r → ⊥) → (a b : ℕ) → a < t.writes → b < (row_at m.txns.table i).writes → item_at p.items r a ≡ item_at m.txns.items i b → ⊥

module _ {over : ℕ} (m : Memory) (s : Shape over m) (r : ℕ) (h : r < 6) (t : Txn) where
  pub at_row : row_at (set m.txns.table r t) r ≡ t
  at_row = get_or-set_same m.txns.table r t closed (omega (arith, s.lengths.table))

  at_other : (i : ℕ) → (i ≡ r → ⊥) → row_at (set m.txns.table r t) i ≡ row_at m.txns.table i
  at_other i d = others m.txns.table r t i d

  -- a row that keeps its ticket
  pub apart-own : t.ticket ≡ (row_at m.txns.table r).ticket → Apart m r t
  apart-own q j u d o e = s.distinct r j h u (λ z. d (sym z)) (λ z. o (q ∙ z)) (sym q ∙ e)

  -- P of each row
  pub each_row : (P : ℕ → Txn → Type 0) → P r t → ((i : ℕ) → i < 6 → (i ≡ r → ⊥) → P i (row_at m.txns.table i))
      → (i : ℕ) → i < 6 → P i (row_at (set m.txns.table r t) i)
  each_row P f g i u = same_by i r (λ e. rw (e, at_row) f) (λ e. rw (at_other i e) (g i u e))

  -- P of each two rows
  each-pair : (P : ℕ → Txn → ℕ → Txn → Type 0)
      → ((i : ℕ) → i < 6 → (i ≡ r → ⊥) → P r t i (row_at m.txns.table i))
      → ((i : ℕ) → i < 6 → (i ≡ r → ⊥) → P i (row_at m.txns.table i) r t)
      → ((i j : ℕ) → i < 6 → j < 6 → (i ≡ r → ⊥) → (j ≡ r → ⊥) → (i ≡ j → ⊥) → P i (row_at m.txns.table i) j (row_at m.txns.table j))
      → (i j : ℕ) → i < 6 → j < 6 → (i ≡ j → ⊥) → P i (row_at (set m.txns.table r t) i) j (row_at (set m.txns.table r t) j)
  each-pair P f g k i j u v d =
      same_by i r (λ e. rw (e, at_row, at_other j (λ q. d (e ∙ sym q))) (f j v (λ q. d (e ∙ sym q))))
      (λ e. rw (at_other i e) (same_by j r (λ q. rw (q, at_row) (g i u e)) (λ q. rw (at_other j q) (k i j u v e q d))))

  module _ (active : (row_at m.txns.table r).stage ≡ 0) (apart : Apart m r t) where
    -- an asked row is another one, and is found as before
    pub still-asked : (q : ℕ) → (row_of q m.txns.table < 6) × ((row_at m.txns.table (row_of q m.txns.table)).stage ≡ 1)
        → (row_of q (set m.txns.table r t) < 6) × ((row_at (set m.txns.table r t) (row_of q (set m.txns.table r t))).stage ≡ 1)
    still-asked q a =
        let u = a.0 in
        let f = row-found q m.txns.table s.lengths.table u in
        let d : row_of q m.txns.table ≡ r → ⊥ = (λ e. let z : ◌≡◌ {A = ℕ} 0 1 = sym active ∙ ap (λ (i : ℕ). (row_at m.txns.table i).stage) (sym e) ∙ a.1 in omega arith) in
        let new : t.ticket ≡ q → ⊥ = (λ e. apart (row_of q m.txns.table) u d (λ z. f.some (sym e ∙ z)) (e ∙ sym f.is)) in
        let old : (row_at m.txns.table r).ticket ≡ q → ⊥ = (λ e. s.distinct (row_of q m.txns.table) r u h d f.live (f.is ∙ sym e)) in
        let found : row_of q (set m.txns.table r t) ≡ row_of q m.txns.table
        = row-of-set q m.txns.table r t (ne_eqb t.ticket q new ∙ sym (ne_eqb (row_at m.txns.table r).ticket q old)) in
        rw (found, at_other (row_of q m.txns.table) d) a

    -- the same rows wait where t is not asked
    pub queue-same : t.stage ≡ 0 → (p : Parts) → p.queue ≡ m.txns.queue → QueueShape (changed m r t p)
    queue-same new p e = rw e (record {
      zeros = s.queue.zeros;
      asked = λ k u. still-asked (get_or m.txns.queue k 0) (s.queue.asked k u);
      queued = each_row (λ (i : ℕ) (a : Txn). a.stage ≡ 1 → has a.ticket (waiting m.txns.queue) ≡ true)
          (λ z. absurd (let w : ⊥ = omega arith in w)) (λ i u d. s.queue.queued i u);
      once = s.queue.once;
    })

    module _ (p : Parts) (c : Change over m r t p) where
      lengths-changed : Lengths (changed m r t p)
      lengths-changed = record {
        table = length-set m.txns.table r t ∙ s.lengths.table;
        queue = c.queue;
        items = c.items;
        writes = c.writes;
        snapshots = c.snapshots;
        values = s.lengths.values;
        stamps = s.lengths.stamps;
        classes = s.lengths.classes;
        places = s.lengths.places;
        outbox = s.lengths.outbox;
        window = s.lengths.window;
        from = s.lengths.from;
        until = s.lengths.until;
      }

      ranges-changed : Ranges over (changed m r t p)
      ranges-changed = record {
        least = s.ranges.least;
        most = s.ranges.most;
        own = s.ranges.own;
        slot = s.ranges.slot;
        tickets = c.most;
        commits = s.ranges.commits;
        repeats = s.ranges.repeats;
        endings = c.endings;
      }

      fits-changed : (i : ℕ) → i < 6 → RowFits (row_at (set m.txns.table r t) i) p.tickets m.counts.commits (item_at p.items i)
      fits-changed = each_row (λ (i : ℕ) (a : Txn). RowFits a p.tickets m.counts.commits (item_at p.items i)) c.fits
          (λ i u d. fits_more (row_at m.txns.table i) m.counts.tickets p.tickets m.counts.commits m.counts.commits (item_at m.txns.items i) (item_at p.items i)
          (fits_of m i (s.rows i u)) c.more (omega arith) (c.others i u d))

      old-alone : Alone m.txns.table m.txns.items
      old-alone = alone m.txns.table m.txns.items s.lengths.items (λ i u. (s.rows i u).few) s.single

      alone-changed : Alone (set m.txns.table r t) p.items
      alone-changed = each-pair (λ (i : ℕ) (a : Txn) (j : ℕ) (b : Txn). (x y : ℕ) → x < a.writes → y < b.writes → item_at p.items i x ≡ item_at p.items j y → ⊥)
          (λ i u d x y v w e. c.alone i u d x y v w (e ∙ c.others i u d y (omega (arith, (s.rows i u).few))))
          (λ i u d x y v w e. c.alone i u d y x w v (sym e ∙ c.others i u d x (omega (arith, (s.rows i u).few))))
          (λ i j u v a b d x y u' v' e.
          old-alone i j u v d x y u' v'
          (sym (c.others i u a x (omega (arith, (s.rows i u).few))) ∙ e ∙ c.others j v b y (omega (arith, (s.rows j v).few))))

      pub shape-changed : QueueShape (changed m r t p) → Shape over (changed m r t p)
      shape-changed q = record {
        lengths = lengths-changed;
        ranges = ranges-changed;
        rows = λ i u. row-of_fits (changed m r t p) i (fits-changed i u);
        distinct = each-pair (λ (i : ℕ) (a : Txn) (j : ℕ) (b : Txn). (a.ticket ≡ 0 → ⊥) → a.ticket ≡ b.ticket → ⊥)
            apart
            (λ i u d some e. apart i u d (λ z. some (e ∙ z)) (sym e))
            (λ i j u v a b. s.distinct i j u v);
        queue = q;
        places = record { waits = s.places.waits; clear = s.places.clear; done = s.places.done; applying = s.places.applying };
        single = single_of (set m.txns.table r t) p.items c.items (λ i u. (fits-changed i u).few) alone-changed;
      }
