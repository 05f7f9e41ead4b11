-- The parts of the shape: a row by itself, the same rows beside other places, the counts, and one holder for each item by index. Assumes nothing.
use Prim.Native.Nat.{ℕ, suc, ◌+◌, ◌*◌, ◌≤◌, ◌<◌}
use mathlib.Core.Path.{◌≡◌, refl, sym, ◌∙◌}
use mathlib.Core.Bool.{true}
use mathlib.Core.List.{List}
use native.Mathlib.Omega.{arith}
use lib.IntN.{ℤ}
use lib.ListN.{length, get_or}
use Rattle.memory.specs.declared.Group.{Group}
use Rattle.memory.specs.declared.Turn.{Turn}
use Rattle.memory.specs.declared.Txn.{Txn}
use Rattle.memory.specs.Memory.{Memory, span, slot_limit, window_bytes, bump, with_group, with_done, with_classes}
use Rattle.memory.specs.Notices.{is_out}
use Rattle.memory.specs.Rows.{closed, row_at, write_count, items_of, has}
use Rattle.memory.specs.Turns.{is_empty}
use Rattle.engine.specs.Shape.{RowShape, PlaceShape, Shape}
use Rattle.engine.proofs.Tests.{bump_is}
use Rattle.engine.proofs.HasLaws.{has_part, part-has}
use Rattle.engine.proofs.NoticeLaws.{GroupKept}

-- ---- a row by itself

-- what a row meets: its items are those of a function
pub record RowFits (row : Txn) (tickets commits : ℕ) (item : ℕ → ℕ) : Type 0 where
  pub free : row.ticket ≡ 0 → row ≡ closed
  pub given : row.ticket ≤ tickets
  pub stage : row.stage ≤ 2
  pub since : row.snapshot ≤ commits
  pub few : row.writes ≤ 8
  pub some : 0 < row.stage → 0 < row.writes
  pub rising : (j k : ℕ) → j < k → k < row.writes → item j < item k
  pub items : (j : ℕ) → j < row.writes → item j < 128

-- row r's j-th item
abbrev pub item_at : List ℕ → ℕ → ℕ → ℕ
item_at items r j = get_or items (8 * r + j) 0

pub fits_of : (m : Memory) (r : ℕ) → RowShape m r → RowFits (row_at m.txns.table r) m.counts.tickets m.counts.commits (item_at m.txns.items r)
fits_of m r s = record {
  free = s.free;
  given = s.given;
  stage = s.stage;
  since = s.since;
  few = s.few;
  some = s.some;
  rising = s.rising;
  items = s.items;
}

pub row-of_fits : (m : Memory) (r : ℕ) → RowFits (row_at m.txns.table r) m.counts.tickets m.counts.commits (item_at m.txns.items r) → RowShape m r
row-of_fits m r s = record {
  free = s.free;
  given = s.given;
  stage = s.stage;
  since = s.since;
  few = s.few;
  some = s.some;
  rising = s.rising;
  items = s.items;
}

-- with more tickets given and more commits, and the same items
pub fits_more : (row : Txn) (n k c d : ℕ) (f g : ℕ → ℕ) → RowFits row n c f → n ≤ k → c ≤ d → ((j : ℕ) → j < 8 → g j ≡ f j) → RowFits row k d g
fits_more row n k c d f g s h l e = record {
  free = s.free;
  given = omega (arith, s.given);
  stage = s.stage;
  since = omega (arith, s.since);
  few = s.few;
  some = s.some;
  rising = λ i j u v. rw (e i (omega (arith, s.few)), e j (omega (arith, s.few))) (s.rising i j u v);
  items = λ j u. rw (e j (omega (arith, s.few))) (s.items j u);
}

-- a row that has written nothing
pub fits_empty : (row : Txn) (n c : ℕ) (f : ℕ → ℕ) → row.stage ≡ 0 → row.writes ≡ 0 → (row.ticket ≡ 0 → row ≡ closed)
    → row.ticket ≤ n → row.snapshot ≤ c → RowFits row n c f
fits_empty row n c f active none free given since = record {
  free = free;
  given = given;
  stage = omega arith;
  since = since;
  few = omega arith;
  some = λ h. absurd (let z : ⊥ = omega arith in z);
  rising = λ i j u v. absurd (let z : ⊥ = omega arith in z);
  items = λ j u. absurd (let z : ⊥ = omega arith in z);
}

pub fits_closed : (n c : ℕ) (f : ℕ → ℕ) → RowFits closed n c f
fits_closed n c f = fits_empty closed n c f refl refl (λ e. refl) (omega arith) (omega arith)

-- ---- the same rows

-- the turn, the writesets done, places and window, and the values written alone are others
abbrev pub besides : Memory → Turn → ℕ → List ℕ → List ℕ → List ℤ → Memory
besides m t d places window writes = record {
  group = m.group;
  turn = t;
  counts = with_done m.counts d;
  txns = record { table = m.txns.table; queue = m.txns.queue; items = m.txns.items; writes = writes; snapshots = m.txns.snapshots };
  store = m.store;
  blocks = record { places = places; outbox = m.blocks.outbox; window = window };
}

pub shape_besides : {over : ℕ} (m : Memory) → Shape over m → (t : Turn) (d : ℕ) (places window : List ℕ) (writes : List ℤ)
    → length places ≡ 512 * m.group.replicas → length window ≡ window_bytes → length writes ≡ 48 → t.slot ≤ slot_limit → m.counts.commits ≤ 6 * t.slot + d
    → PlaceShape (besides m t d places window writes) → Shape over (besides m t d places window writes)
shape_besides m s t d places window writes p v w slot commits waits = record {
  lengths = record {
    table = s.lengths.table;
    queue = s.lengths.queue;
    items = s.lengths.items;
    writes = w;
    snapshots = s.lengths.snapshots;
    values = s.lengths.values;
    stamps = s.lengths.stamps;
    classes = s.lengths.classes;
    places = p;
    outbox = s.lengths.outbox;
    window = v;
    from = s.lengths.from;
    until = s.lengths.until;
  };
  ranges = record {
    least = s.ranges.least;
    most = s.ranges.most;
    own = s.ranges.own;
    slot = slot;
    tickets = s.ranges.tickets;
    commits = commits;
    repeats = s.ranges.repeats;
    endings = s.ranges.endings;
  };
  rows = λ r h. row-of_fits (besides m t d places window writes) r (fits_of m r (s.rows r h));
  distinct = s.distinct;
  queue = record { zeros = s.queue.zeros; asked = s.queue.asked; queued = s.queue.queued; once = s.queue.once };
  places = waits;
  single = s.single;
}

-- another table of 128 classes
pub shape_loaded : {over : ℕ} (m : Memory) → Shape over m → (classes : List ℕ) → length classes ≡ 128 → Shape over (with_classes m classes)
shape_loaded m s classes long = record {
  lengths = record {
    table = s.lengths.table;
    queue = s.lengths.queue;
    items = s.lengths.items;
    writes = s.lengths.writes;
    snapshots = s.lengths.snapshots;
    values = s.lengths.values;
    stamps = s.lengths.stamps;
    classes = long;
    places = s.lengths.places;
    outbox = s.lengths.outbox;
    window = s.lengths.window;
    from = s.lengths.from;
    until = s.lengths.until;
  };
  ranges = record {
    least = s.ranges.least;
    most = s.ranges.most;
    own = s.ranges.own;
    slot = s.ranges.slot;
    tickets = s.ranges.tickets;
    commits = s.ranges.commits;
    repeats = s.ranges.repeats;
    endings = s.ranges.endings;
  };
  rows = λ r h. row-of_fits (with_classes m classes) r (fits_of m r (s.rows r h));
  distinct = s.distinct;
  queue = record { zeros = s.queue.zeros; asked = s.queue.asked; queued = s.queue.queued; once = s.queue.once };
  places = record { waits = s.places.waits; clear = s.places.clear; done = s.places.done; applying = s.places.applying };
  single = s.single;
}

-- other outages, in none of whose slots a block waits
pub shape_grouped : {over : ℕ} (m : Memory) → Shape over m → (g : Group) → GroupKept m.group g
    → ((s : ℕ) → m.turn.slot ≤ s → s < m.turn.slot + span g → is_out g s ≡ true → is_empty (span g) s m.blocks.places ≡ true) → Shape over (with_group m g)
shape_grouped m s g k clear = record {
  lengths = record {
    table = s.lengths.table;
    queue = s.lengths.queue;
    items = s.lengths.items;
    writes = s.lengths.writes;
    snapshots = s.lengths.snapshots;
    values = s.lengths.values;
    stamps = s.lengths.stamps;
    classes = s.lengths.classes;
    places = rw k.replicas s.lengths.places;
    outbox = s.lengths.outbox;
    window = s.lengths.window;
    from = k.from ∙ s.lengths.from;
    until = k.until ∙ s.lengths.until;
  };
  ranges = record {
    least = rw k.replicas s.ranges.least;
    most = rw k.replicas s.ranges.most;
    own = rw (k.replicas, k.own) s.ranges.own;
    slot = s.ranges.slot;
    tickets = s.ranges.tickets;
    commits = s.ranges.commits;
    repeats = s.ranges.repeats;
    endings = s.ranges.endings;
  };
  rows = λ r h. row-of_fits (with_group m g) r (fits_of m r (s.rows r h));
  distinct = s.distinct;
  queue = record { zeros = s.queue.zeros; asked = s.queue.asked; queued = s.queue.queued; once = s.queue.once };
  places = record { waits = rw k.replicas s.places.waits; clear = clear; done = rw k.replicas s.places.done; applying = s.places.applying };
  single = s.single;
}

-- ---- each count that may go up by one is below its type's limit

pub record Bumps (m : Memory) : Type 0 where
  pub slot : bump m.turn.slot ≡ suc m.turn.slot
  pub committed : bump m.counts.committed ≡ suc m.counts.committed
  pub read_only : bump m.counts.read_only ≡ suc m.counts.read_only
  pub aborted : bump m.counts.aborted ≡ suc m.counts.aborted
  pub withdrawn : bump m.counts.withdrawn ≡ suc m.counts.withdrawn

pub bumps : {over : ℕ} (m : Memory) → Shape over m → Bumps m
bumps m s =
    let e = s.ranges.endings in
    let t = s.ranges.tickets in
    let q = s.ranges.slot in
    let r = s.ranges.repeats in
    record {
      slot = bump_is m.turn.slot (omega arith);
      committed = bump_is m.counts.committed (omega arith);
      read_only = bump_is m.counts.read_only (omega arith);
      aborted = bump_is m.counts.aborted (omega arith);
      withdrawn = bump_is m.counts.withdrawn (omega arith);
    }

-- ---- one holder for each item, by index

abbrev pub Single : List Txn → List ℕ → Type 0
Single table items = (i j : ℕ) → i < 6 → j < 6 → (i ≡ j → ⊥) → (x : ℕ) → has x (items_of i (row_at table i) items) ≡ true
    → has x (items_of j (row_at table j) items) ≡ true → ⊥

-- an item of each of two rows
abbrev pub Alone : List Txn → List ℕ → Type 0
Alone table items = (i j : ℕ) → i < 6 → j < 6 → (i ≡ j → ⊥) → (a b : ℕ) → a < (row_at table i).writes → b < (row_at table j).writes
    → item_at items i a ≡ item_at items j b → ⊥

module _ (table : List Txn) (items : List ℕ) (long : length items ≡ 48) (few : (r : ℕ) → r < 6 → (row_at table r).writes ≤ 8) where
  item-has : (r a : ℕ) → r < 6 → a < (row_at table r).writes → has (item_at items r a) (items_of r (row_at table r) items) ≡ true
  item-has r a h u = part-has (item_at items r a) items (write_count (row_at table r)) (8 * r) a (omega arith) (omega (arith, few r h)) refl

  pub alone : Single table items → Alone table items
  alone s i j h u d a b v w e = s i j h u d (item_at items i a) (item-has i a h v) (rw e (item-has j b u w))

  pub single_of : Alone table items → Single table items
  single_of s i j h u d x p q =
      let a = has_part x items (write_count (row_at table i)) (8 * i) (omega arith) p in
      let b = has_part x items (write_count (row_at table j)) (8 * j) (omega arith) q in
      s i j h u d a.place b.place (omega (arith, a.within)) (omega (arith, b.within)) (a.is ∙ sym b.is)
