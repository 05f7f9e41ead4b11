-- What becomes of the row of a ticket that was given: a row that has the ticket after a call had it before. Assumes nothing.
use Prim.Native.Nat.{ℕ, ◌-◌, ◌≤◌, ◌<◌}
use mathlib.Core.Path.{◌≡◌, refl, sym, ap, ◌∙◌}
use mathlib.Core.Logic.{◌⊎◌, inl, inr}
use mathlib.Core.List.{List}
use native.Mathlib.Omega.{arith}
use lib.ListN.{length, set, length-set, get_or-eq_default}
use lib.Seq.{get_or-set_same}
use borrow.Author.Tests.{eq-eqb, ne_eqb}
use Rattle.memory.specs.declared.Group.{Group}
use Rattle.memory.specs.declared.Txn.{Txn}
use Rattle.memory.specs.Memory.{Memory}
use Rattle.memory.specs.Rows.{closed, free_row, row_at}
use Rattle.engine.specs.Answers.{Outcome}
use Rattle.engine.specs.Client.{row_no, row_in, begin_at, rewrite_at, insert_write, stale_at, read_only_at, queue_at, withdraw_at, report_step}
use Rattle.engine.specs.Moves.{send_now, deliver_now}
use Rattle.engine.specs.Calls.{Call, step}
use Rattle.engine.specs.Calls.Call.{begin, read, write, ask, withdraw, report, send, deliver, work, load, notice}
use Rattle.engine.specs.Shape.{Shape}
use Rattle.engine.proofs.Tests.{same_by, less_by}
use Rattle.engine.proofs.RowLaws.{others, sent-row}
use Rattle.engine.proofs.Steps.{begin-by, read_by, write-by, ask-by, withdraw-by, send_by, deliver-by, load-by, notice-by}
use Rattle.engine.proofs.Passed.{begin_passed, write_passed, ask_passed}
use Rattle.engine.proofs.Frames.{frames}

-- ---- a row that has a ticket given earlier had it before the call

-- row r, from m to n
pub record Came (m n : Memory) (r : ℕ) : Type 0 where
  pub had : (row_at m.txns.table r).ticket ≡ (row_at n.txns.table r).ticket
  pub asked : ((row_at m.txns.table r).stage ≡ 0 → ⊥) → (row_at n.txns.table r).stage ≡ 0 → ⊥
  pub sent : (row_at m.txns.table r).stage ≡ 2 → (row_at n.txns.table r).stage ≡ 2

came_same : (m n : Memory) (r : ℕ) → row_at n.txns.table r ≡ row_at m.txns.table r → Came m n r
came_same m n r e = record {
  had = ap (λ (t : Txn). t.ticket) (sym e);
  asked = rw e (λ h. h);
  sent = rw e (λ h. h);
}

-- from m to n, with what became of the rows that have the ticket
pub record Traced (ticket : ℕ) (m n : Memory) : Type 0 where
  pub replicas : n.group.replicas ≡ m.group.replicas
  pub own : n.group.own ≡ m.group.own
  pub tickets : m.counts.tickets ≤ n.counts.tickets
  pub rows : (r : ℕ) → r < 6 → (row_at n.txns.table r).ticket ≡ ticket → Came m n r

shut-ticket : (l : List Txn) (r : ℕ) → (row_at (set l r closed) r).ticket ≡ 0
shut-ticket l r =
    less_by r (length l) (λ u. rw (get_or-set_same l r closed closed u))
    (λ u. let out : row_at (set l r closed) r ≡ closed = get_or-eq_default (set l r closed) closed (rw (length-set l r closed) u) in rw out)

module _ {over : ℕ} (m : Memory) (S : Shape over m) (ticket : ℕ) (some : ticket ≡ 0 → ⊥) (old : ticket ≤ m.counts.tickets) where
  nothing : Traced ticket m m
  nothing = record { replicas = refl; own = refl; tickets = omega arith; rows = λ r h e. came_same m m r refl }

  -- row i is put in place of another
  one-row : (n : Memory) (i : ℕ) (t : Txn) → n.txns.table ≡ set m.txns.table i t
      → ((row_at n.txns.table i).ticket ≡ ticket → Came m n i) → (r : ℕ) → r < 6 → (row_at n.txns.table r).ticket ≡ ticket → Came m n r
  one-row n i t e f r h q =
      same_by r i (λ z. rw z (f (rw z at q))) (λ d. came_same m n r (ap (λ (l : List Txn). row_at l r) e ∙ others m.txns.table i t r d))

  -- it is closed
  row-shut : (n : Memory) (i : ℕ) → n.txns.table ≡ set m.txns.table i closed → (r : ℕ) → r < 6 → (row_at n.txns.table r).ticket ≡ ticket → Came m n r
  row-shut n i e =
      one-row n i closed e (λ q. absurd (some (sym q ∙ ap (λ (l : List Txn). (row_at l i).ticket) e ∙ shut-ticket m.txns.table i)))

  there : (i : ℕ) (t : Txn) → i < 6 → row_at (set m.txns.table i t) i ≡ t
  there i t h = get_or-set_same m.txns.table i t closed (omega (arith, S.lengths.table))

  pub traced : (c : Call) → Traced ticket m (step m c).memory
  unfolding begin_at rewrite_at insert_write stale_at read_only_at queue_at withdraw_at send_now deliver_now
  traced begin = begin-by (λ (o : Outcome). Traced ticket m o.memory) m
      (λ e. let i = free_row m.txns.table in
      record {
        replicas = refl;
        own = refl;
        tickets = omega arith;
        rows = one-row (begin_at m i).memory i _ refl (λ q.
            let t : _ ≡ ticket = rw (there i _ (begin_passed m e).row) at q in absurd (omega (arith, old, t)));
      })
      (λ e. nothing)
  traced (read t i) = read_by (λ (o : Outcome). Traced ticket m o.memory) m t i (λ e. nothing) (λ e. nothing)
  traced (write t i v) = write-by (λ (o : Outcome). Traced ticket m o.memory) m t i v
      (λ e. record { replicas = refl; own = refl; tickets = omega arith; rows = row-shut (stale_at m (row_no m t)).memory (row_no m t) refl })
      (λ e o. record { replicas = refl; own = refl; tickets = omega arith; rows = λ r h q. came_same m _ r refl })
      (λ e o. let p = (write_passed m t i e).own in
      record {
        replicas = refl;
        own = refl;
        tickets = omega arith;
        rows = one-row (insert_write m (row_no m t) (row_in m (row_no m t)) i v).memory (row_no m t) _ refl (λ q.
            let w = there (row_no m t) _ p.row in
            record { had = sym (ap (λ (x : Txn). x.ticket) w); asked = λ h. absurd (h p.active); sent = λ h. absurd (omega (arith, p.active)) });
      })
      (λ k e d. nothing)
  traced (ask t) = ask-by (λ (o : Outcome). Traced ticket m o.memory) m t
      (λ e. record { replicas = refl; own = refl; tickets = omega arith; rows = row-shut (read_only_at m (row_no m t)).memory (row_no m t) refl })
      (λ e d. let p = ask_passed m t e in
      record {
        replicas = refl;
        own = refl;
        tickets = omega arith;
        rows = one-row (queue_at m (row_no m t) (row_in m (row_no m t))).memory (row_no m t) _ refl (λ q.
            let w = there (row_no m t) _ p.row in
            record { had = sym (ap (λ (x : Txn). x.ticket) w); asked = λ h. absurd (h p.active); sent = λ h. absurd (omega (arith, p.active)) });
      })
      (λ e. nothing)
  traced (withdraw t) = withdraw-by (λ (o : Outcome). Traced ticket m o.memory) m t
      (λ e. record { replicas = refl; own = refl; tickets = omega arith; rows = row-shut (withdraw_at m (row_no m t)).memory (row_no m t) refl })
      (λ e. nothing)
  traced report = unfold step report_step in nothing
  traced (send b) = send_by (λ (o : Outcome). Traced ticket m o.memory) m b
      (λ e. record {
        replicas = refl;
        own = refl;
        tickets = omega arith;
        rows = λ r h q. let w = sent-row m.txns.table r in
            record {
              had = sym (ap (λ (x : Txn). x.ticket) w);
              asked = λ a z. same_by (row_at m.txns.table r).stage 1
                  (λ y. let x : ◌≡◌ {A = ℕ} 2 0 = rw (w, eq-eqb (row_at m.txns.table r).stage 1 y) at z in omega arith)
                  (λ y. a (rw (w, ne_eqb (row_at m.txns.table r).stage 1 y) at z));
              sent = λ h. rw (w, ne_eqb (row_at m.txns.table r).stage 1 (λ y. omega arith)) h;
            };
      })
      (λ k e d. nothing)
  traced (deliver b) = deliver-by (λ (o : Outcome). Traced ticket m o.memory) m b
      (λ e. record { replicas = refl; own = refl; tickets = omega arith; rows = λ r h q. came_same m _ r refl }) (λ e. nothing)
  traced work = let f = frames.works m in record {
    replicas = ap (λ (g : Group). g.replicas) f.group;
    own = ap (λ (g : Group). g.own) f.group;
    tickets = omega (arith, f.tickets);
    rows = λ r h q. left r q (f.rows r);
  }
    where
      left : (r : ℕ) → (row_at (step m work).memory.txns.table r).ticket ≡ ticket
          → (row_at (step m work).memory.txns.table r ≡ row_at m.txns.table r) ⊎ (row_at (step m work).memory.txns.table r ≡ closed) → Came m (step m work).memory r
      left r q (inl e) = came_same m (step m work).memory r e
      left r q (inr e) = absurd (some (sym q ∙ ap (λ (x : Txn). x.ticket) e))
  traced (load l) = load-by (λ (o : Outcome). Traced ticket m o.memory) m l
      (λ e. record { replicas = refl; own = refl; tickets = omega arith; rows = λ r h q. came_same m _ r refl }) (λ e. nothing)
  traced (notice a) = notice-by (λ (o : Outcome). Traced ticket m o.memory) m a
      (λ e. record { replicas = refl; own = refl; tickets = omega arith; rows = λ r h q. came_same m _ r refl }) (λ e. nothing)
