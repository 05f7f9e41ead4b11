-- A work does what the model's does: it passes an out slot or a *next*, commits the replica's own writeset, or another's. Assumes nothing.
use Prim.Native.Nat.{ℕ, suc, ◌+◌, ◌%◌, ◌<◌}
use mathlib.Core.Path.{◌≡◌, refl, sym, ap, ◌∙◌, subst}
use mathlib.Core.Bool.{Bool, true, false, cond, not}
use mathlib.Core.Option.{some}
use mathlib.Core.List.{List, [], map}
use native.Mathlib.Omega.{arith}
use lib.Dec.{eqb, ltb, leb}
use lib.IntN.{ℤ}
use lib.ListN.{length, get_or}
use borrow.Author.Tests.{eqb-true, eqb-false, eq-eqb, ne_eqb, ltb-true, le-leb, lt-leb}
use Rattle.block.specs.Message.{owner_of, Record}
use Rattle.block.specs.Answers.{block_refusal}
use Rattle.block.proofs.BoolLaws.{both}
use Rattle.memory.specs.declared.Turn.{Turn}
use Rattle.memory.specs.declared.Txn.{Txn}
use Rattle.memory.specs.Memory.{Memory, bump}
use Rattle.memory.specs.Rows.{row_of, row_at}
use Rattle.memory.specs.Turns.{is_on, mark_applying}
use Rattle.engine.specs.Answers.{WorkDone, Outcome}
use Rattle.engine.specs.Answers.Answer.{worked}
use Rattle.engine.specs.Moves.{out_at_turn, waiting, block_at_turn, writeset_at, hit_tickets, work_refusal, turn_blocks, pass_next, is_last, commit_writeset, pass_out}
use Rattle.engine.specs.Calls.Call.{work}
use Rattle.engine.specs.Shape.{Shape}
use Rattle.engine.specs.Sent.{SentShape}
use Rattle.engine.specs.History.AnyCall.{call}
use Rattle.engine.proofs.Tests.{same_by, not_first}
use Rattle.engine.proofs.Steps.{work-by}
use Rattle.engine.proofs.RowLaws.{row-found}
use Rattle.engine.proofs.HitLaws.{no_zero}
use Rattle.engine.proofs.QueueLaws.{length-waiting, front-is}
use Rattle.engine.proofs.BlockFacts.{taken_block}
use Rattle.engine.proofs.Shaping.{bumps}
use Rattle.engine.proofs.ShapeTurn.{Working, working}
use Rattle.engine.proofs.ShapeWriteset.{committed, ends-own}
use Rattle.engine.proofs.SentWork.{own-sent}
use Rattle.protocol.specs.Lists.{keep, any_of}
use Rattle.protocol.specs.Writesets.{Writeset, Message, no_writeset}
use Rattle.protocol.specs.Replica.{Setup, Transaction, transactions, Replica, replica, passed, outcome}
use Rattle.protocol.specs.Client.{find_txn, without}
use Rattle.protocol.specs.Moves as model
use Rattle.protocol.specs.Moves.{out_here, advance, cursor_after, store_after, after_aborts, after_end, conflicts, aborted_by, is_sent, clear_turn, blocks_after, commit_step, work_step}
use Rattle.protocol.specs.System.{step}
use Rattle.protocol.specs.Machine.{Alike}
use Rattle.agreement.specs.Group.{write_of, writeset_from, message_in, heard}
use Rattle.agreement.proofs.View.{out-same, setup, place_at, open_txns, cursor_of, store_of, blocks_of, view, Sound, Owed, follows, txn_of}
use Rattle.agreement.proofs.ClientStep.{refused-owes}
use Rattle.agreement.proofs.RowView.{find-row}
use Rattle.agreement.proofs.RowChange.{SameMembers, row-closed}
use Rattle.agreement.proofs.PlaceView.{place-taken, place-emptied}
use Rattle.agreement.proofs.BlockView.{writeset-seen, writeset-fits, count-seen, sender_seen, values-after, stamps_after}
use Rattle.agreement.proofs.AbortLaws.{queue_kept, rows_beside, Staged, rows-spared, tickets-hit}

-- ---- the model's work, where the message is found

module _ (S : Setup ℤ) (r : Replica ℤ) (a : Message ℤ) (found : r.blocks.places (S.place r.cursor.turn) ≡ some a) (live : out_here S r r.cursor.turn ≡ false) where
  model-next : length a.writesets ≡ 0
      → work_step S r ≡ outcome (replica r.own (advance r.cursor) r.store r.transactions (clear_turn S r.cursor r.blocks)) (passed a.sender [])
  unfolding work_step
  model-next z = rw (live, found, eq-eqb (length a.writesets) 0 z)

  module _ (some : length a.writesets ≡ 0 → ⊥) (w : Writeset ℤ) (is : get_or a.writesets r.cursor.done no_writeset ≡ w) where
    abbrev total : ℕ
    total = length a.writesets

    model-own : a.sender ≡ r.own → is_sent (find_txn w.ticket r.transactions.txns) ≡ true
        → work_step S r ≡ outcome (replica r.own (cursor_after total r.cursor) (store_after w.writes r.store) (after_end w.ticket r.transactions)
        (blocks_after S total r.cursor r.blocks)) (Rattle.protocol.specs.Replica.Event.committed a.sender w.ticket [])
    unfolding work_step commit_step
    model-own e s = rw (live, found, ne_eqb total 0 some, is, eq-eqb a.sender r.own e, s)

    model-other : (a.sender ≡ r.own → ⊥)
        → work_step S r ≡ outcome (replica r.own (cursor_after total r.cursor) (store_after w.writes r.store) (after_aborts w.writes r.transactions)
        (blocks_after S total r.cursor r.blocks)) (Rattle.protocol.specs.Replica.Event.committed a.sender w.ticket (aborted_by w.writes r.transactions.txns))
    unfolding work_step commit_step
    model-other d = rw (live, found, ne_eqb total 0 some, is, ne_eqb a.sender r.own d)

-- ---- one fact each

heard-committed : (n : ℕ) (s : WorkDone) → (s.ticket ≡ 0 → ⊥) → heard (call work) (worked s) ≡ Rattle.protocol.specs.Replica.Event.committed s.sender s.ticket s.aborted
unfolding heard
heard-committed n s d = rw (ne_eqb s.ticket 0 d)

last-same : (total done : ℕ) → done < total → eqb (suc done) total ≡ leb total (done + 1)
last-same total done h =
    same_by (suc done) total (λ e. rw (eq-eqb (suc done) total e, le-leb total (done + 1) (omega arith)))
    (λ d. rw (ne_eqb (suc done) total d, lt-leb total (done + 1) (omega (arith, d))))

abbrev turn_after : Turn → Bool → Bool → Turn
turn_after t mine last = cond last (Rattle.memory.specs.Turns.advance t) (cond mine t (mark_applying t))

cursor_same : (t : Turn) (done total : ℕ) (mine last : Bool) → bump t.slot ≡ suc t.slot → eqb (suc done) total ≡ last
    → cursor_after total (record { turn = t.slot; sent = is_on t.sent; done = done })
    ≡ record { turn = (turn_after t mine last).slot; sent = is_on (turn_after t mine last).sent; done = cond last 0 (done + 1) }
unfolding cursor_after
cursor_same t done total true true u e = rw (e, u)
cursor_same t done total false true u e = rw (e, u)
cursor_same t done total true false u e = let z : done + 1 ≡ suc done = omega arith in rw (e, z)
cursor_same t done total false false u e = let z : done + 1 ≡ suc done = omega arith in rw (e, z)

-- what the model does at a call is what the outcome shows
owed_by : (n : ℕ) (start : List ℤ) (m : Memory) (o : Outcome) (q : Rattle.protocol.specs.Replica.Outcome ℤ) → work_step (setup n start) (view m) ≡ q
    → heard (call work) o.answer ≡ q.event → Alike (setup n start) q.replica (view o.memory) → Owed n start m work o
unfolding step
owed_by n start m o q e a b = follows (rw e a) (rw e b)

-- ---- the block at the turn

module _ (start : List ℤ) {over : ℕ} (m : Memory) (S : Shape over m) (Q : SentShape m) (k : Working m) (live : out_at_turn m ≡ false) where
  abbrev n : ℕ
  n = m.group.replicas

  abbrev b : List ℕ
  b = block_at_turn m

  pos : 0 < n
  pos = omega (arith, S.ranges.least)

  taken : block_refusal b ≡ 0
  taken = (S.places.waits m.turn.slot (omega arith) (omega (arith, S.ranges.least)) k.waits).0

  found : place_at m.blocks.places (m.turn.slot % n) ≡ some (message_in b)
  found = place-taken n m.turn.slot m.blocks.places k.waits

  here : out_here (setup n start) (view m) m.turn.slot ≡ false
  here = out-same n start m refl m.turn.slot ∙ live

  next-owes : get_or b 0 0 ≡ 1 → Owed n start m work (pass_next m)
  unfolding pass_next heard
  next-owes h =
      owed_by n start m (pass_next m) _ (model-next (setup n start) (view m) (message_in b) found here (count-seen b ∙ (taken_block b taken).next h))
      (ap (λ (i : ℕ). passed i []) (sym (sender_seen b)))
      (record {
        own = refl;
        cursor = rw (bumps m S).slot;
        commits = refl;
        values = refl;
        stamps = λ i. refl;
        tickets = refl;
        queue = refl;
        there = λ u q. q;
        back = λ u q. q;
        places = place-emptied n m.turn.slot m.blocks.places pos S.lengths.places;
        outages = λ t. refl;
      })

  -- ---- a writeset

  module _ (some : get_or b 0 0 ≡ 1 → ⊥) where
    abbrev w : Record
    w = writeset_at b m.counts.done

    abbrev count : ℕ
    count = length (message_in b).writesets

    more : m.counts.done < get_or b 3 0
    more = k.more some

    last-is : eqb (suc m.counts.done) count ≡ is_last m
    last-is = ap (λ (t : ℕ). eqb (suc m.counts.done) t) (count-seen b) ∙ last-same (get_or b 3 0) m.counts.done more

    any-writeset : count ≡ 0 → ⊥
    any-writeset z = let h = more in let e = count-seen b in omega arith

    places_same : (last : Bool) → eqb (suc m.counts.done) count ≡ last → (p : ℕ)
        → place_at (cond last (turn_blocks m) m.blocks).places p ≡ (blocks_after (setup n start) count (cursor_of m) (blocks_of m)).places p
    unfolding blocks_after
    places_same true e p = rw e (place-emptied n m.turn.slot m.blocks.places pos S.lengths.places p)
    places_same false e p = rw e

    outages-same : (last : Bool) → eqb (suc m.counts.done) count ≡ last → (t : ℕ)
        → (blocks_of m).outages (owner_of n t) ≡ (blocks_after (setup n start) count (cursor_of m) (blocks_of m)).outages (owner_of n t)
    unfolding blocks_after
    outages-same true e t = rw e
    outages-same false e t = rw e

    -- all but the transactions
    commit-alike : (mine : Bool) (txns : List (Transaction ℤ)) (queue : List ℕ) → SameMembers txns (open_txns (committed m mine mine (is_last m) w).txns)
        → waiting (committed m mine mine (is_last m) w).txns.queue ≡ queue
        → Alike (setup n start) (replica m.group.own (cursor_after count (cursor_of m)) (store_after (map write_of w.entries) (store_of m))
        (transactions m.counts.tickets txns queue) (blocks_after (setup n start) count (cursor_of m) (blocks_of m))) (view (committed m mine mine (is_last m) w))
    commit-alike mine txns queue same left = record {
      own = refl;
      cursor = sym (cursor_same m.turn m.counts.done count mine (is_last m) (bumps m S).slot last-is);
      commits = k.commits;
      values = values-after w.entries m.store.values;
      stamps = λ i. rw k.commits
          (stamps_after (suc m.counts.commits) 0 w.entries m.store.stamps (λ j. get_or m.store.stamps j 0)
          (writeset-fits b taken m.counts.done more) S.lengths.stamps (λ j. refl) i);
      tickets = refl;
      queue = left;
      there = same.there;
      back = same.back;
      places = places_same (is_last m) last-is;
      outages = outages-same (eqb (suc m.counts.done) count) refl;
    }

    ticket : w.ticket ≡ 0 → ⊥
    ticket z = let h = k.ticket some in omega arith

    abbrev table : List Txn
    table = m.txns.table

    abbrev row : ℕ
    row = row_of w.ticket table

    -- the replica's own: its row is open as sent
    own-owes : get_or b 1 0 ≡ m.group.own → Owed n start m work (commit_writeset m true w)
    unfolding commit_writeset
    own-owes e =
        let its = own-sent m S Q k.waits some e in
        let s = both (ltb row 6) (eqb (row_at table row).stage 2) its in
        let r = ltb-true row 6 s.left in
        let f = row-found w.ticket table S.lengths.table r in
        let open-sent : is_sent (find_txn w.ticket (open_txns m.txns)) ≡ true = rw (find-row m S w.ticket r) (unfold txn_of in s.right) in
        rw (ends-own table w.ticket ∙ its)
        (owed_by n start m (record { answer = (commit_writeset m true w).answer; memory = committed m true true (is_last m) w }) _
        (model-own (setup n start) (view m) (message_in b) found here any-writeset (writeset_from w) (writeset-seen b taken m.counts.done more) (sender_seen b ∙ e) open-sent)
        (heard-committed n _ ticket ∙ ap (λ (i : ℕ). Rattle.protocol.specs.Replica.Event.committed i w.ticket []) (sym (sender_seen b)))
        (commit-alike true (without w.ticket (open_txns m.txns)) (waiting m.txns.queue) (row-closed m S row r f.live w.ticket f.is) refl))

    abbrev gone : List ℕ
    gone = hit_tickets w.entries m.txns.items 0 table

    staged : Staged 0 table
    staged = record {
      few = omega (arith, S.lengths.table);
      stage = λ r h. (S.rows r (omega (arith, S.lengths.table))).stage;
    }

    hit : aborted_by (map write_of w.entries) (open_txns m.txns) ≡ gone
    hit = tickets-hit m.txns w.entries S.lengths.items S.lengths.writes 0 table staged

    members : SameMembers (keep (λ u. not (conflicts (map write_of w.entries) u)) (open_txns m.txns)) (open_txns (committed m false false (is_last m) w).txns)
    members =
        let e = rows_beside m.txns (committed m false false (is_last m) w).txns.table (committed m false false (is_last m) w).txns.queue 0 (committed m false false (is_last m) w).txns.table
        ∙ rows-spared m.txns w.entries S.lengths.items S.lengths.writes 0 table staged in
        rw e (record { there = λ u q. q; back = λ u q. q })

    queue : waiting (committed m false false (is_last m) w).txns.queue ≡ keep (λ t. not (any_of (λ x. eqb x t) (aborted_by (map write_of w.entries) (open_txns m.txns)))) (waiting m.txns.queue)
    queue =
        rw hit
        (front-is gone m.txns.queue _ (no_zero w.entries m.txns.items 0 table) S.lengths.queue
        (let a = length-waiting m.txns.queue in omega (arith, S.lengths.queue)) S.queue.zeros S.queue.once refl
        ∙ sym (queue_kept gone (waiting m.txns.queue)))

    -- another's: the transactions that it hits are aborted
    other-owes : (get_or b 1 0 ≡ m.group.own → ⊥) → Owed n start m work (commit_writeset m false w)
    unfolding commit_writeset
    other-owes d =
        owed_by n start m (commit_writeset m false w) _
        (model-other (setup n start) (view m) (message_in b) found here any-writeset (writeset_from w) (writeset-seen b taken m.counts.done more) (λ e. d (sym (sender_seen b) ∙ e)))
        (heard-committed n _ ticket
        ∙ ap (λ (i : ℕ). Rattle.protocol.specs.Replica.Event.committed i w.ticket gone) (sym (sender_seen b))
        ∙ ap (Rattle.protocol.specs.Replica.Event.committed (message_in b).sender w.ticket) (sym hit))
        (commit-alike false _ _ members queue)

    by_sender : (mine : Bool) → eqb (get_or b 1 0) m.group.own ≡ mine → Owed n start m work (commit_writeset m mine w)
    by_sender true e = own-owes (eqb-true (get_or b 1 0) m.group.own e)
    by_sender false e = other-owes (eqb-false (get_or b 1 0) m.group.own e)

-- ---- an out slot

out-owes : (start : List ℤ) {over : ℕ} (m : Memory) → Shape over m → out_at_turn m ≡ true → Owed m.group.replicas start m work (pass_out m)
unfolding pass_out heard work_step
out-owes start m S u =
    owed_by m.group.replicas start m (pass_out m) _ passes refl
    (record {
      own = refl;
      cursor = rw (bumps m S).slot;
      commits = refl;
      values = refl;
      stamps = λ i. refl;
      tickets = refl;
      queue = refl;
      there = λ t h. h;
      back = λ t h. h;
      places = λ p. refl;
      outages = λ t. refl;
    })
  where
    passes : work_step (setup m.group.replicas start) (view m) ≡ model.pass_out (setup m.group.replicas start) (view m)
    passes = rw (out-same m.group.replicas start m refl m.turn.slot ∙ u)

never-nine : (m : Memory) → work_refusal m ≡ 9 → ⊥
unfolding work_refusal
never-nine m = not_first 9 _ refl

owes_here : (start : List ℤ) {over : ℕ} (m : Memory) → Shape over m → SentShape m → Owed m.group.replicas start m work (Rattle.engine.specs.Calls.step m work)
unfolding heard
owes_here start m S Q =
    work-by (Owed m.group.replicas start m work) m (λ z u. out-owes start m S u)
    (λ a h. next-owes start m S Q (working m S a) a.live h) (λ a h. by_sender start m S Q (working m S a) a.live h _ refl)
    (λ z. refused-owes m.group.replicas start m work (work_refusal m) (never-nine m))

pub work_owes : (n : ℕ) (start : List ℤ) (m : Memory) → Sound n m → Owed n start m work (Rattle.engine.specs.Calls.step m work)
work_owes n start m s = subst (λ (k : ℕ). Owed k start m work (Rattle.engine.specs.Calls.step m work)) s.size (owes_here start m s.shape s.sent)
