-- An active row closed keeps the shape: a withdraw, a write refused by 9, an ask of a read_only transaction. Assumes nothing.
use Prim.Native.Nat.{ℕ, ◌+◌, ◌<◌}
use mathlib.Core.Path.{◌≡◌, refl}
use native.Mathlib.Omega.{arith}
use Rattle.memory.specs.Memory.{Memory, bump}
use Rattle.memory.specs.Rows.{closed, row_at}
use Rattle.engine.specs.Client.{stale_at, read_only_at, withdraw_at}
use Rattle.engine.specs.Shape.{Shape}
use Rattle.engine.proofs.RowLaws.{open_close}
use Rattle.engine.proofs.Shaping.{item_at, fits_closed, bumps}
use Rattle.engine.proofs.ShapeRow.{Parts, changed, Apart, Change, queue-same, shape-changed}

module _ {over : ℕ} (m : Memory) (s : Shape over m) (r : ℕ) (h : r < 6) (active : (row_at m.txns.table r).stage ≡ 0) (is_open : (row_at m.txns.table r).ticket ≡ 0 → ⊥) where
  abbrev parts : ℕ → ℕ → ℕ → Parts
  parts o a w = record {
    tickets = m.counts.tickets;
    read_only = o;
    aborted = a;
    withdrawn = w;
    queue = m.txns.queue;
    items = m.txns.items;
    writes = m.txns.writes;
    snapshots = m.txns.snapshots;
  }

  -- one less is open, and one more has ended
  shape-closed : (o a w : ℕ) → o + a + w ≡ m.counts.read_only + m.counts.aborted + m.counts.withdrawn + 1 → Shape over (changed m r closed (parts o a w))
  shape-closed o a w e = shape-changed m s r h closed active apart (parts o a w) change (queue-same m s r h closed active apart refl (parts o a w) refl)
    where
      apart : Apart m r closed
      apart j u d some = absurd (some refl)

      change : Change over m r closed (parts o a w)
      change = record {
        queue = s.lengths.queue;
        items = s.lengths.items;
        writes = s.lengths.writes;
        snapshots = s.lengths.snapshots;
        more = omega arith;
        most = s.ranges.tickets;
        endings = omega (arith, s.ranges.endings, open_close m.txns.table r (omega (arith, s.lengths.table)) is_open);
        fits = fits_closed m.counts.tickets m.counts.commits (item_at m.txns.items r);
        others = λ i u d j v. refl;
        alone = λ i u d x y v. absurd (let z : ⊥ = omega arith in z);
      }

  pub shape-stale : Shape over (stale_at m r).memory
  unfolding stale_at
  shape-stale = shape-closed m.counts.read_only (bump m.counts.aborted) m.counts.withdrawn
      (omega (arith, (bumps m s).aborted))

  pub shape-read-only : Shape over (read_only_at m r).memory
  unfolding read_only_at
  shape-read-only = shape-closed (bump m.counts.read_only) m.counts.aborted m.counts.withdrawn
      (omega (arith, (bumps m s).read_only))

  pub shape-withdrawn : Shape over (withdraw_at m r).memory
  unfolding withdraw_at
  shape-withdrawn = shape-closed m.counts.read_only m.counts.aborted (bump m.counts.withdrawn)
      (omega (arith, (bumps m s).withdrawn))
