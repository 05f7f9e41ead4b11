-- An ask does what the model does. Assumes nothing.
use Prim.Native.Nat.{ℕ}
use mathlib.Core.Path.{◌≡◌, refl, sym, ap, ◌∙◌}
use mathlib.Core.Bool.{true, false}
use mathlib.Core.Option.{some}
use mathlib.Core.List.{List, [], ◌∷◌, ◌++◌, map}
use lib.Dec.{eqb}
use lib.IntN.{ℤ}
use lib.ListN.{set}
use borrow.Author.Tests.{eqb-true, eqb-false, eq-eqb, ne_eqb}
use Rattle.memory.specs.declared.Txn.{Txn}
use Rattle.memory.specs.Memory.{Memory, bump, with_read_only, with_table}
use Rattle.memory.specs.Rows.{closed, write_count, index_of}
use Rattle.engine.specs.Client.{row_no, row_in, ask_refusal, read_only_at, queue_at}
use Rattle.engine.specs.Moves.{waiting}
use Rattle.engine.specs.Calls.{step}
use Rattle.engine.specs.Calls.Call.{ask}
use Rattle.engine.proofs.Tests.{cond_by, unless-by, not_first}
use Rattle.engine.proofs.Passed.{RowPassed, ask_passed}
use Rattle.engine.proofs.RowLaws.{FoundRow, row-found}
use Rattle.engine.proofs.ShapeAsk.{queued-last}
use Rattle.protocol.specs.Replica.{Transaction, Transactions, transactions, requested}
use Rattle.protocol.specs.Client.{find_txn, with_stage, ClientOutcome, answered, is_empty, ask_step}
use Rattle.agreement.specs.Group.{heard}
use Rattle.agreement.proofs.View.{txn_of, open_txns, view, Sound, Owed}
use Rattle.agreement.proofs.RowView.{find-row}
use Rattle.agreement.proofs.RowChange.{SameMembers, row-closed, row-changed}
use Rattle.agreement.proofs.RowWrites.{no_writes, some-writes}
use Rattle.agreement.proofs.ClientStep.{ended, refused-owes, client-owes}

-- ---- the model

abbrev joined : Transactions ℤ → ℕ → ClientOutcome ℤ
joined k t = answered (transactions k.tickets (map (with_stage t 1) k.txns) (k.queue ++ (t ∷ []))) (requested t)

module _ (k : Transactions ℤ) (t : ℕ) (u : Transaction ℤ) (f : find_txn t k.txns ≡ some u) (s : u.stage ≡ 0) where
  model-ends : is_empty u.writes ≡ true → ask_step k t ≡ ended k t (requested t)
  unfolding ask_step
  model-ends e = rw (f, eq-eqb u.stage 0 s, e)

  model-joins : is_empty u.writes ≡ false → ask_step k t ≡ joined k t
  unfolding ask_step
  model-joins e = rw (f, eq-eqb u.stage 0 s, e)

-- ---- the engine

module _ (n : ℕ) (start : List ℤ) (m : Memory) (s : Sound n m) (t : ℕ) where
  module _ (p : RowPassed m t) where
    abbrev r : ℕ
    r = row_no m t

    found : FoundRow t m.txns.table
    found = row-found t m.txns.table s.shape.lengths.table p.row

    ended-owes : write_count (row_in m (row_no m t)) ≡ 0 → Owed n start m (ask t) (read_only_at m r)
    unfolding read_only_at heard Rattle.protocol.specs.System.step txn_of is_empty
    ended-owes e =
        client-owes n start m (ask t) (ended (view m).transactions t (requested t)) (read_only_at m r)
        (with_read_only m.counts (bump m.counts.read_only)) (with_table m.txns (set m.txns.table r closed))
        (rw (model-ends (view m).transactions t _ (find-row m s.shape t p.row) p.active (ap is_empty (no_writes r (row_in m (row_no m t)) m.txns.items m.txns.writes e))))
        refl refl
        (record {
          done = refl;
          commits = refl;
          tickets = refl;
          queue = refl;
          txns = row-closed m s.shape r p.row found.live t found.is;
        })

    abbrev row : Txn
    row = record { ticket = (row_in m (row_no m t)).ticket; stage = 1; snapshot = (row_in m (row_no m t)).snapshot; writes = (row_in m (row_no m t)).writes }

    abbrev y : Rattle.memory.specs.Memory.Transactions
    y = record {
      table = set m.txns.table r row;
      queue = set m.txns.queue (index_of 0 m.txns.queue) (row_in m (row_no m t)).ticket;
      items = m.txns.items;
      writes = m.txns.writes;
      snapshots = m.txns.snapshots;
    }

    members : SameMembers (map (with_stage t 1) (open_txns m.txns)) (open_txns y)
    unfolding txn_of
    members =
        row-changed m s.shape r p.row y row (with_stage t 1)
        (record {
          table = refl;
          live = found.live;
          ticket = refl;
          here = rw (eq-eqb (row_in m (row_no m t)).ticket t found.is);
          beside = λ k h d. refl;
          others = λ u d. rw (ne_eqb u.ticket t (λ e. d (e ∙ sym found.is)));
        })

    joined-owes : (write_count (row_in m (row_no m t)) ≡ 0 → ⊥) → Owed n start m (ask t) (queue_at m r (row_in m (row_no m t)))
    unfolding queue_at heard Rattle.protocol.specs.System.step txn_of
    joined-owes z =
        client-owes n start m (ask t) (joined (view m).transactions t) (queue_at m r (row_in m (row_no m t))) m.counts y
        (rw (model-joins (view m).transactions t _ (find-row m s.shape t p.row) p.active
        (some-writes r (row_in m (row_no m t)) m.txns.items m.txns.writes p.row s.shape.lengths.items s.shape.lengths.writes z)))
        refl refl
        (record {
          done = refl;
          commits = refl;
          tickets = refl;
          queue = queued-last m s.shape r p.row p.active found.live ∙ ap (λ (x : ℕ). waiting m.txns.queue ++ (x ∷ [])) found.is;
          txns = members;
        })

  pub ask-owes : Owed n start m (ask t) (step m (ask t))
  unfolding step Rattle.engine.specs.Client.ask_row ask_refusal
  ask-owes =
      let w = write_count (row_in m (row_no m t)) in
      unless-by (Owed n start m (ask t)) (ask_refusal m (row_no m t)) m
      (λ e. let p = ask_passed m t e in
      cond_by (Owed n start m (ask t)) (eqb w 0) (λ z. ended-owes p (eqb-true w 0 z)) (λ z. joined-owes p (eqb-false w 0 z)))
      (λ e. refused-owes n start m (ask t) (ask_refusal m (row_no m t)) (not_first 9 _ refl))
