-- A memory some of whose rows are closed: the rows, the tickets and the queue keep their shape. Assumes nothing.
use Prim.Native.Nat.{ℕ, ◌-◌, ◌≤◌, ◌<◌}
use mathlib.Core.Path.{◌≡◌, refl, sym, ap, ◌∙◌}
use mathlib.Core.Bool.{Bool, true, false, cond}
use mathlib.Core.List.{List, ◌++◌}
use native.Mathlib.Omega.{arith}
use lib.ListN.{length, get_or, replicate}
use Rattle.memory.specs.declared.Txn.{Txn}
use Rattle.memory.specs.Memory.{Memory}
use Rattle.memory.specs.Rows.{closed, row_of, row_at, items_of, has}
use Rattle.engine.specs.Moves.{waiting}
use Rattle.engine.specs.Shape.{RowShape, QueueShape, Shape}
use Rattle.engine.proofs.Tests.{cond_by, bool_by, clash}
use Rattle.engine.proofs.RowLaws.{row-found, row_is, no_items}
use Rattle.engine.proofs.Shaping.{RowFits, item_at, fits_of, row-of_fits, fits_more, fits_closed}

-- n is m with the hit rows closed
pub record Closing (m n : Memory) (hit : ℕ → Bool) : Type 0 where
  pub six : length n.txns.table ≡ 6
  pub row : (r : ℕ) → r < 6 → row_at n.txns.table r ≡ cond (hit r) closed (row_at m.txns.table r)
  pub items : n.txns.items ≡ m.txns.items
  pub tickets : n.counts.tickets ≡ m.counts.tickets
  pub later : m.counts.commits ≤ n.counts.commits

module _ {over : ℕ} (m n : Memory) (S : Shape over m) (hit : ℕ → Bool) (c : Closing m n hit) where
  shut : (r : ℕ) → r < 6 → hit r ≡ true → row_at n.txns.table r ≡ closed
  shut r h e = c.row r h ∙ rw e

  stays : (r : ℕ) → r < 6 → hit r ≡ false → row_at n.txns.table r ≡ row_at m.txns.table r
  stays r h e = c.row r h ∙ rw e

  pub closing-rows : (r : ℕ) → r < 6 → RowShape n r
  closing-rows r h =
      row-of_fits n r
      (rw (c.row r h)
      (cond_by (λ (t : Txn). RowFits t n.counts.tickets n.counts.commits (item_at n.txns.items r)) (hit r) (λ e. fits_closed _ _ _)
      (λ e. fits_more (row_at m.txns.table r) _ _ _ _ (item_at m.txns.items r) (item_at n.txns.items r) (fits_of m r (S.rows r h))
      (omega (arith, c.tickets)) c.later (λ j u. ap (λ (l : List ℕ). item_at l r j) c.items))))

  pub closing-distinct : (i j : ℕ) → i < 6 → j < 6 → (i ≡ j → ⊥) → ((row_at n.txns.table i).ticket ≡ 0 → ⊥)
      → (row_at n.txns.table i).ticket ≡ (row_at n.txns.table j).ticket → ⊥
  closing-distinct i j h l d =
      bool_by (hit i) (λ e. rw (shut i h e) (λ z q. z refl))
      (λ e. bool_by (hit j) (λ f. rw (stays i h e, shut j l f) (λ z q. z q)) (λ f. rw (stays i h e, stays j l f) (S.distinct i j h l d)))

  pub closing-single : (i j : ℕ) → i < 6 → j < 6 → (i ≡ j → ⊥) → (x : ℕ) → has x (items_of i (row_at n.txns.table i) n.txns.items) ≡ true
      → has x (items_of j (row_at n.txns.table j) n.txns.items) ≡ true → ⊥
  closing-single i j h l d x =
      bool_by (hit i) (λ e. rw (shut i h e) (λ p q. clash p (no_items x i n.txns.items)))
      (λ e. bool_by (hit j) (λ f. rw (shut j l f) (λ p q. clash q (no_items x j n.txns.items)))
      (λ f. rw (stays i h e, stays j l f, c.items) (S.single i j h l d x)))

  -- ---- the queue: each of its tickets stood in the queue before and its row is not hit, and no other row's ticket has left it
  pub record Queueing : Type 0 where
    pub zeros : n.txns.queue ≡ waiting n.txns.queue ++ replicate (6 - length (waiting n.txns.queue)) 0
    pub from : (k : ℕ) → k < length (waiting n.txns.queue)
        → (j : ℕ) × (j < length (waiting m.txns.queue)) × (get_or m.txns.queue j 0 ≡ get_or n.txns.queue k 0)
        × (hit (row_of (get_or m.txns.queue j 0) m.txns.table) ≡ false)
    pub to : (r : ℕ) → r < 6 → hit r ≡ false → (row_at m.txns.table r).stage ≡ 1
        → has (row_at m.txns.table r).ticket (waiting m.txns.queue) ≡ true → has (row_at m.txns.table r).ticket (waiting n.txns.queue) ≡ true
    pub once : (j k : ℕ) → j < k → k < length (waiting n.txns.queue) → get_or n.txns.queue j 0 ≡ get_or n.txns.queue k 0 → ⊥

  pub closing-queue : Queueing → QueueShape n
  closing-queue q = record { zeros = q.zeros; asked = asked; queued = queued; once = q.once }
    where
      same : (t : ℕ) → row_of t m.txns.table < 6 → hit (row_of t m.txns.table) ≡ false → row_of t n.txns.table ≡ row_of t m.txns.table
      same t h e =
          let f = row-found t m.txns.table S.lengths.table h in
          let r = row_of t m.txns.table in
          let s = stays r h e in
          let own : (row_at n.txns.table r).ticket ≡ t = ap (λ (x : Txn). x.ticket) s ∙ f.is in
          row_is t n.txns.table c.six f.some r h own (λ j l d p. closing-distinct r j h l d (λ z. f.some (sym own ∙ z)) (own ∙ sym p))

      at : (t : ℕ) → (row_of t m.txns.table < 6) × ((row_at m.txns.table (row_of t m.txns.table)).stage ≡ 1) → hit (row_of t m.txns.table) ≡ false
          → (row_of t n.txns.table < 6) × ((row_at n.txns.table (row_of t n.txns.table)).stage ≡ 1)
      at t a e = rw (same t a.0 e, stays (row_of t m.txns.table) a.0 e) a

      asked : (k : ℕ) → k < length (waiting n.txns.queue) → (row_of (get_or n.txns.queue k 0) n.txns.table < 6)
          × ((row_at n.txns.table (row_of (get_or n.txns.queue k 0) n.txns.table)).stage ≡ 1)
      asked k h =
          let f = q.from k h in
          rw f.2 at (at (get_or m.txns.queue f.0 0) (S.queue.asked f.0 f.1) f.3)

      queued : (r : ℕ) → r < 6 → (row_at n.txns.table r).stage ≡ 1 → has (row_at n.txns.table r).ticket (waiting n.txns.queue) ≡ true
      queued r h =
          bool_by (hit r) (λ e. rw (shut r h e) (λ p. absurd (omega arith)))
          (λ e. rw (stays r h e) (λ p. q.to r h e p (S.queue.queued r h p)))
