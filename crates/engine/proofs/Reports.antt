-- Report's numbers are those counted from the answers. Assumes nothing.
use Prim.Native.Nat.{ℕ, suc, ◌+◌, ◌-◌, ◌/◌, ◌≤◌, min}
use mathlib.Core.Path.{◌≡◌, refl, sym, ap, ◌∙◌}
use mathlib.Core.Bool.{Bool, true, false, cond}
use mathlib.Core.List.{List, [], ◌∷◌}
use native.Mathlib.Nat.{add-zero, zero-add}
use native.Mathlib.Numerals.{add-one}
use native.Mathlib.Omega.{arith}
use lib.Dec.{eqb}
use lib.IntN.{ℤ}
use lib.ListN.{length, get_or}
use borrow.Author.Tests.{ne_eqb}
use Rattle.block.specs.declared.Entry.{Entry}
use Rattle.block.specs.Message.{Record}
use Rattle.memory.specs.declared.Turn.{Turn}
use Rattle.memory.specs.Memory.{Memory, group_of, bump}
use Rattle.memory.specs.Notices.{Notice}
use Rattle.memory.specs.Rows.{open_count}
use Rattle.memory.specs.Turns.{advance, mark_applying}
use Rattle.engine.specs.Answers.{Outcome, outcome}
use Rattle.engine.specs.Answers.Answer.{refused}
use Rattle.engine.specs.Make.{made_memory}
use Rattle.engine.specs.Client.{row_no, begin_at, rewrite_at, insert_write, stale_at, read_only_at, queue_at, withdraw_at, report_of, report_step}
use Rattle.engine.specs.Moves.{send_now, deliver_now, block_at_turn, writeset_at, hit_tickets, ends_own, is_last, pass_next, commit_writeset, pass_out}
use Rattle.engine.specs.Calls.{Call, step, refusal_of, after}
use Rattle.engine.specs.Calls.Call.{begin, read, write, ask, withdraw, report, send, deliver, work, load, notice}
use Rattle.engine.specs.Restart.{blocks_in, start_replay, repeated, restarted_memory}
use Rattle.engine.specs.Shape.{Shape}
use Rattle.engine.specs.Sent.{SentShape}
use Rattle.engine.specs.Frames.{is_write}
use Rattle.engine.specs.History.{Tally, no_calls, counted, tally, writeset_count, restart_tally, report_from, Reports}
use Rattle.engine.proofs.Tests.{clash}
use Rattle.engine.proofs.Steps.{begin-by, read_by, write-by, ask-by, withdraw-by, send_by, deliver-by, work-by, notice-by, load-by}
use Rattle.engine.proofs.Refusals.{refusals}
use Rattle.engine.proofs.HitLaws.{aborts-open}
use Rattle.engine.proofs.NoticeLaws.{notices_kept}
use Rattle.engine.proofs.Shaping.{Bumps, bumps}
use Rattle.engine.proofs.ShapeTurn.{Working, working}
use Rattle.engine.proofs.RestartLaws.{reads_good, reads_few, count-few, blocks_counted}
use Rattle.engine.proofs.ShapeRestart.{shape_restarted}
use Rattle.engine.proofs.Shapes.{shape_after, shapes}
use Rattle.engine.proofs.SentWork.{own-ends}
use Rattle.engine.proofs.Sent.{sent-shapes}

-- the numbers that a memory keeps
unfoldable pub kept : Memory → Tally
kept m = record {
  turn = m.turn.slot;
  commits = m.counts.commits;
  tickets = m.counts.tickets;
  committed = m.counts.committed;
  read_onlies = m.counts.read_only;
  aborted = m.counts.aborted;
  withdrawn = m.counts.withdrawn;
}

-- the numbers that the outcome keeps are those from before with its answer counted, and the replica's number stays
pub record Counted (m : Memory) (o : Outcome) : Type 0 where
  pub numbers : kept o.memory ≡ counted m.group.own (kept m) o.answer
  pub own : o.memory.group.own ≡ m.group.own

-- ---- each thing that a call may do

refused-counted : (m : Memory) (n : ℕ) → (n ≡ 9 → ⊥) → Counted m (outcome (refused n) m)
unfolding kept counted
refused-counted m n h = record { numbers = rw (ne_eqb n 9 h); own = refl }

begin_counted : (m : Memory) (r : ℕ) → Counted m (begin_at m r)
unfolding kept counted begin_at
begin_counted m r = record { numbers = rw (add-one m.counts.tickets); own = refl }

stale-counted : (m : Memory) (r : ℕ) → Bumps m → Counted m (stale_at m r)
unfolding kept counted stale_at
stale-counted m r b = record { numbers = rw b.aborted; own = refl }

read-only-counted : (m : Memory) (r : ℕ) → Bumps m → Counted m (read_only_at m r)
unfolding kept counted read_only_at
read-only-counted m r b = record { numbers = rw b.read_only; own = refl }

withdraw_counted : (m : Memory) (r : ℕ) → Bumps m → Counted m (withdraw_at m r)
unfolding kept counted withdraw_at
withdraw_counted m r b = record { numbers = rw b.withdrawn; own = refl }

pass_counted : (m : Memory) → Bumps m → Counted m (pass_next m)
unfolding kept counted pass_next
pass_counted m b = record { numbers = rw (b.slot, add-zero m.counts.aborted); own = refl }

out-counted : (m : Memory) → Bumps m → Counted m (pass_out m)
unfolding kept counted pass_out
out-counted m b = record { numbers = rw (b.slot, add-zero m.counts.aborted); own = refl }

-- ---- a writeset committed

slot_after : (t : Turn) (last mine : Bool) → bump t.slot ≡ suc t.slot
    → (cond last (advance t) (cond mine t (mark_applying t))).slot ≡ cond last (suc t.slot) t.slot
slot_after t true mine h = h
slot_after t false true h = refl
slot_after t false false h = refl

-- at most the open ones are aborted
few_gone : {over : ℕ} (m : Memory) → Shape over m → (mine : Bool) (es : List Entry)
    → let n = m.counts.aborted + length (cond mine [] (hit_tickets es m.txns.items 0 m.txns.table)) in min n 4_294_967_295 ≡ n
few_gone m s true es = omega (arith, s.ranges.endings, s.ranges.repeats, s.ranges.tickets)
few_gone m s false es = omega (arith, s.ranges.endings, s.ranges.repeats, s.ranges.tickets, aborts-open es m.txns.items 0 m.txns.table)

-- the replica's own ends its transaction
commit_counted : {over : ℕ} (m : Memory) → Shape over m → Working m → (w : Record) → 1 ≤ w.ticket →
    let mine = eqb (get_or (block_at_turn m) 1 0) m.group.own in
    ends_own mine m.txns.table w.ticket ≡ mine → Counted m (commit_writeset m mine w)
unfolding kept counted commit_writeset
commit_counted m s k w h ends =
    let mine = eqb (get_or (block_at_turn m) 1 0) m.group.own in
    record {
      numbers = rw (
        ends,
        ne_eqb w.ticket 0 (λ e. omega arith),
        k.commits,
        (bumps m s).committed,
        slot_after m.turn (is_last m) mine (bumps m s).slot,
        few_gone m s mine w.entries,
      );
      own = refl;
    }

-- ---- a call

-- the refusals of all calls but write
not_nine : (m : Memory) (c : Call) → is_write c ≡ false → refusal_of m c ≡ 9 → ⊥
not_nine m c h e = clash (refusals.nine m c e) h

pub step-counted : {over : ℕ} (m : Memory) → Shape over m → SentShape m → (c : Call) → Counted m (step m c)
unfolding refusal_of
step-counted m s Q begin = begin-by (Counted m) m (λ e. begin_counted m _) (λ e. refused-counted m _ (not_nine m begin refl))
step-counted m s Q (read t i) =
    read_by (Counted m) m t i
    (λ e. unfold kept counted in record { numbers = refl; own = refl })
    (λ e. refused-counted m _ (not_nine m (read t i) refl))
step-counted m s Q (write t i v) =
    write-by (Counted m) m t i v
    (λ e. stale-counted m (row_no m t) (bumps m s))
    (λ e o. unfold kept counted rewrite_at in record { numbers = refl; own = refl })
    (λ e o. unfold kept counted insert_write in record { numbers = refl; own = refl })
    (λ n k e. refused-counted m n k)
step-counted m s Q (ask t) =
    ask-by (Counted m) m t
    (λ e. read-only-counted m (row_no m t) (bumps m s))
    (λ e n. unfold kept counted queue_at in record { numbers = refl; own = refl })
    (λ e. refused-counted m _ (not_nine m (ask t) refl))
step-counted m s Q (withdraw t) =
    withdraw-by (Counted m) m t
    (λ e. withdraw_counted m (row_no m t) (bumps m s))
    (λ e. refused-counted m _ (not_nine m (withdraw t) refl))
step-counted m s Q report = unfold kept counted step report_step in record { numbers = refl; own = refl }
step-counted m s Q (send b) =
    send_by (Counted m) m b
    (λ e. unfold kept counted send_now in record { numbers = refl; own = refl })
    (λ n k e. refused-counted m n k)
step-counted m s Q (deliver b) =
    deliver-by (Counted m) m b
    (λ e. unfold kept counted deliver_now in record { numbers = refl; own = refl })
    (λ e. refused-counted m _ (not_nine m (deliver b) refl))
step-counted m s Q work =
    work-by (Counted m) m
    (λ e u. out-counted m (bumps m s))
    (λ e k. pass_counted m (bumps m s))
    (λ e k. let w = working m s e in commit_counted m s w (writeset_at (block_at_turn m) m.counts.done) (w.ticket k) (own-ends m s Q w.waits k))
    (λ e. refused-counted m _ (not_nine m work refl))
step-counted m s Q (load l) =
    load-by (Counted m) m l
    (λ e. unfold kept counted in record { numbers = refl; own = refl })
    (λ e. refused-counted m _ (not_nine m (load l) refl))
step-counted m s Q (notice a) =
    notice-by (Counted m) m a
    (λ e. unfold kept counted in record { numbers = refl; own = refl })
    (λ e. refused-counted m _ (not_nine m (notice a) refl))

-- ---- a list of calls

pub report_from_lem : {over : ℕ} (m : Memory) → Shape over m → report_of m ≡ report_from over (kept m)
unfolding report_of kept
report_from_lem {over} m s =
    let e = s.ranges.endings in
    let a = m.counts.committed + m.counts.read_only + m.counts.aborted + m.counts.withdrawn in
    let active : open_count m.txns.table ≡ m.counts.tickets + over - a = omega arith in
    rw active

pub made_own : (n own : ℕ) (values : List ℤ) → (made_memory n own values).group.own ≡ own
unfolding made_memory
made_own n own values = refl

pub made_kept : (n own : ℕ) (values : List ℤ) → kept (made_memory n own values) ≡ no_calls
unfolding made_memory kept
made_kept n own values = refl

pub tally-kept : (own : ℕ) {over : ℕ} (m : Memory) → Shape over m → SentShape m → m.group.own ≡ own → (cs : List Call) → kept (after m cs) ≡ tally own (kept m) m cs
unfolding after tally
tally-kept own m s Q e [] = refl
tally-kept own m s Q e (c ∷ cs) =
    let k = step-counted m s Q c in
    tally-kept own (step m c).memory (shapes.each m s c) (sent-shapes.each m s Q c) (k.own ∙ e) cs
    ∙ ap (λ (t : Tally). tally own t (step m c).memory cs) (k.numbers ∙ ap (λ (n : ℕ). counted n (kept m) (step m c).answer) e)

pub restarted_own : (n own : ℕ) (values : List ℤ) (notices : List Notice) (bs : List (List ℕ)) → (restarted_memory n own values notices bs).group.own ≡ own
unfolding restarted_memory
restarted_own n own values notices bs = (notices_kept (group_of n own) notices).own

pub restarted_kept : (n own : ℕ) (values : List ℤ) (journal : List ℕ) (notices : List Notice)
    → kept (restarted_memory n own values notices (blocks_in n journal)) ≡ restart_tally own (blocks_in n journal)
unfolding restarted_memory kept
restarted_kept n own values journal notices =
    let bs = blocks_in n journal in
    let c = count-few n bs (reads_good n 0 _ journal) in
    let f = reads_few n 0 (length journal / 512) journal (omega arith) in
    rw (blocks_counted bs (start_replay values) (omega arith), zero-add (writeset_count bs))

pub reports : Reports
reports = record {
  report = λ n own values g cs.
      let m = made_memory n own values in
      report_from_lem (after m cs) (shape_after m (shapes.made n own values g) cs)
      ∙ ap (report_from 0) (tally-kept own m (shapes.made n own values g) (sent-shapes.made n own values) (made_own n own values) cs
      ∙ ap (λ (t : Tally). tally own t m cs) (made_kept n own values));
  sum = λ n own values g cs. unfold report_of in sym (add-zero _) ∙ (shape_after (made_memory n own values) (shapes.made n own values g) cs).ranges.endings;
  restarted = λ n own values g journal notices cs.
      let bs = blocks_in n journal in
      let m = restarted_memory n own values notices bs in
      let s = shape_restarted n own values g journal notices in
      report_from_lem (after m cs) (shape_after m s cs)
      ∙ ap (report_from (repeated own bs)) (tally-kept own m s (sent-shapes.restarted n own values journal notices) (restarted_own n own values notices bs) cs
      ∙ ap (λ (t : Tally). tally own t m cs) (restarted_kept n own values journal notices));
}
