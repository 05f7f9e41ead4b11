-- A begin keeps the shape. Assumes nothing.
use Prim.Native.Nat.{ℕ, ◌+◌, ◌*◌, ◌<◌}
use mathlib.Core.Path.{◌≡◌, refl, ap, ◌∙◌}
use native.Mathlib.Omega.{arith}
use lib.ListN.{set}
use lib.Seq.{paste, length-paste}
use Rattle.memory.specs.declared.Txn.{Txn}
use Rattle.block.specs.Message.{max_ticket}
use Rattle.memory.specs.Memory.{Memory}
use Rattle.memory.specs.Rows.{open_count, free_row, row_at}
use Rattle.engine.specs.Client.{free_no, begin_at}
use Rattle.engine.specs.Shape.{Shape}
use Rattle.engine.proofs.RowLaws.{free_found, open_set, open_is, free_is}
use Rattle.engine.proofs.Passed.{BeginPassed}
use Rattle.engine.proofs.Shaping.{fits_empty}
use Rattle.engine.proofs.ShapeRow.{Parts, Apart, Change, queue-same, shape-changed}

module _ {over : ℕ} (m : Memory) (s : Shape over m) (r : ℕ) (h : r < 6) (is_free : (row_at m.txns.table r).ticket ≡ 0) (spare : m.counts.tickets < max_ticket) where
  abbrev row : Txn
  row = record { ticket = m.counts.tickets + 1; stage = 0; snapshot = m.counts.commits; writes = 0 }

  abbrev parts : Parts
  parts = record {
    tickets = m.counts.tickets + 1;
    read_only = m.counts.read_only;
    aborted = m.counts.aborted;
    withdrawn = m.counts.withdrawn;
    queue = m.txns.queue;
    items = m.txns.items;
    writes = m.txns.writes;
    snapshots = paste m.txns.snapshots (128 * r) m.store.values 128;
  }

  -- every ticket given is an older one
  apart : Apart m r row
  apart j u d some e = omega (arith, (s.rows j u).given)

  active : (row_at m.txns.table r).stage ≡ 0
  active = ap (λ (t : Txn). t.stage) ((s.rows r h).free is_free)

  one_more : open_count (set m.txns.table r row) ≡ open_count m.txns.table + 1
  one_more = omega (arith, open_set m.txns.table r row (omega (arith, s.lengths.table)), free_is (row_at m.txns.table r) is_free, open_is row (omega arith))

  change : Change over m r row parts
  change = record {
    queue = s.lengths.queue;
    items = s.lengths.items;
    writes = s.lengths.writes;
    snapshots = length-paste m.txns.snapshots (128 * r) m.store.values 128 (omega (arith, s.lengths.snapshots)) (omega (arith, s.lengths.values)) ∙ s.lengths.snapshots;
    more = omega arith;
    most = omega arith;
    endings = omega (arith, s.ranges.endings, one_more);
    fits = fits_empty row (m.counts.tickets + 1) m.counts.commits _ refl refl (λ e. absurd (let z : ⊥ = omega arith in z)) (omega arith) (omega arith);
    others = λ i u d j v. refl;
    alone = λ i u d x y v. absurd (let z : ⊥ = omega arith in z);
  }

  shape-begun : Shape over (begin_at m r).memory
  unfolding begin_at
  shape-begun = shape-changed m s r h row active apart parts change (queue-same m s r h row active apart refl parts refl)

pub shape_begin : {over : ℕ} (m : Memory) → Shape over m → BeginPassed m → Shape over (begin_at m (free_no m)).memory
shape_begin m s p = shape-begun m s (free_row m.txns.table) p.row (free_found m.txns.table s.lengths.table p.row) p.tickets
