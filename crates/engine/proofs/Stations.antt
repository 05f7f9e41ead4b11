-- What holds of a station: it only reads, and every sender is another. Assumes nothing.
use Prim.Native.Nat.{ℕ, zero, suc, ◌+◌, ◌*◌, ◌<◌, min}
use mathlib.Core.Path.{◌≡◌, refl, sym, ap, ◌∙◌, subst}
use mathlib.Core.Bool.{Bool, true, false, cond, not, ◌&&◌, ◌||◌}
use mathlib.Core.List.{List, [], ◌∷◌}
use native.Mathlib.Omega.{arith}
use lib.Dec.{eqb, leb}
use lib.IntN.{ℤ}
use lib.ListN.{length, get_or, set, replicate}
use lib.Seq.{slice_empty}
use borrow.Author.Tests.{eqb-true, eq-eqb, ne_eqb, not-false, lt-leb}
use Rattle.block.specs.declared.Entry.{Entry}
use Rattle.block.specs.Answers.{Refusal, refuse, first_of, header_of}
use Rattle.block.specs.Message.{Record, within}
use Rattle.block.specs.Form.{message_of, well_formed}
use Rattle.block.proofs.BoolLaws.{is_within}
use Rattle.block.proofs.MessageLaws.{message_facts, sender_small}
use Rattle.block.proofs.AnswerLaws.{is_taken, is_formed}
use Rattle.memory.specs.declared.Turn.{Turn}
use Rattle.memory.specs.declared.Txn.{Txn}
use Rattle.memory.specs.Memory.{Memory, bump, no_number, is_station, with_group, with_classes}
use Rattle.memory.specs.Notices.{Notice, with_notice}
use Rattle.memory.specs.Rows.{closed, is_open, row_of, row_at, items_of, has}
use Rattle.memory.specs.Turns.{is_on}
use Rattle.engine.specs.Answers.{Answer, WorkDone, number_of, Outcome}
use Rattle.engine.specs.Answers.Answer.{refused, made, began, got, wrote, queued, read_only, withdrew, reported, sent, kept, worked, loaded, noticed, restarted}
use Rattle.engine.specs.Make.{Setting, made_memory, parts_fit, size_out, make_refusal}
use Rattle.engine.specs.Classes.{load_refusal}
use Rattle.engine.specs.Client.{row_no, no_row, not_active, begin_refusal, begin_at, read_refusal, write_refusal, ask_refusal, read_only_at, withdraw_refusal, withdraw_at, report_of, report_step}
use Rattle.engine.specs.Moves.{waiting, send_refusal, deliver_refusal, deliver_now, block_at_turn, writeset_at, shares, is_hit, after_aborts, hit_tickets, ends_own, nothing_waits, work_refusal, is_last, pass_next, commit_writeset, pass_out}
use Rattle.engine.specs.Notices.{notice_refusal}
use Rattle.engine.specs.Calls.{Call, step, refusal_of, after}
use Rattle.engine.specs.Calls.Call.{begin, read, write, ask, withdraw, report, send, deliver, work, load, notice}
use Rattle.engine.specs.Shape.{Shape}
use Rattle.engine.specs.History.{Tally, no_calls, tally, report_from}
use Rattle.engine.specs.Station.{station_memory, station_refusal, station_step, OnlyReads, Stations}
use Rattle.engine.proofs.Tests.{cond_by, bool_by, clash, not_first, passes, unless-by}
use Rattle.engine.proofs.Steps.{Awaited, writes_refused, sends-refused, begin-by, read_by, ask-by, withdraw-by, deliver-by, work-by, load-by, notice-by}
use Rattle.engine.proofs.ShapeMade.{shape_station}
use Rattle.engine.proofs.ShapeTurn.{working}
use Rattle.engine.proofs.ShapeWriteset.{ends-other}
use Rattle.engine.proofs.Shapes.{shapes, shape_after}
use Rattle.engine.proofs.Refusals.{at-replica, refusals}
use Rattle.engine.proofs.Sent.{sent-shapes}
use Rattle.engine.proofs.Reports.{report_from_lem, made_own, made_kept, tally-kept}

-- ---- every sender is another

-- a block's sender is below 6
pub sender_below : (b : List ℕ) → well_formed b ≡ true → (header_of b).sender < 6
unfolding message_of header_of
sender_below b h = sender_small (message_of b) (message_facts (message_of b) (is_formed b h).fields)

other-by : (m : Memory) (s : ℕ) → is_station m ≡ true → s < 6 → eqb s m.group.own ≡ false
other-by m s h l = ne_eqb s m.group.own (λ e. let a = eqb-true m.group.own 255 h in omega arith)

-- a refusal that does not hold is passed over
skip : (r : Refusal) (rs : List Refusal) {k : ℕ} → r.holds ≡ false → first_of (r ∷ rs) ≡ k → first_of rs ≡ k
unfolding first_of
skip r rs {k} f = cond_by (λ (n : ℕ). n ≡ k → first_of rs ≡ k) r.holds (λ e. clash e f) (λ e z. z)

-- 19 is not among what is answered
deliver_other : (m : Memory) → is_station m ≡ true → (b : List ℕ) → deliver_refusal m b ≡ 19 → ⊥
unfolding deliver_refusal
deliver_other m h b e =
    let p = passes _ _ refl e in
    let q = passes _ _ refl p.1 in
    let r = passes _ _ refl q.1 in
    let s = passes _ _ refl r.1 in
    let t = passes _ _ refl s.1 in
    let l = passes _ _ refl t.1 in
    let u = passes _ _ refl l.1 in
    let o = other-by m (header_of b).sender h (sender_below b (not-false _ r.0)) in
    not_first 19 _ refl (skip _ _ (rw o refl) u.1)

-- nor is what waits at the turn its own
waits_other : {over : ℕ} (m : Memory) → Shape over m → is_station m ≡ true → nothing_waits m ≡ false → eqb (get_or (block_at_turn m) 1 0) m.group.own ≡ false
waits_other m S h e =
    let w = S.places.waits m.turn.slot (omega arith) (omega (arith, S.ranges.least)) e in
    other-by m (get_or (block_at_turn m) 1 0) h (unfold header_of in sender_below (block_at_turn m) (is_taken (block_at_turn m) w.0).forms)

work_other : {over : ℕ} (m : Memory) → Shape over m → is_station m ≡ true → Awaited m → eqb (get_or (block_at_turn m) 1 0) m.group.own ≡ false
work_other m S h e = waits_other m S h (working m S e).waits

and_false : (b : Bool) → b && false ≡ false
and_false true = refl
and_false false = refl

never-own : (m : Memory) → is_station m ≡ true → (c : Call) → refusal_of m c ≡ 19 → ⊥
unfolding refusal_of begin_refusal read_refusal ask_refusal withdraw_refusal work_refusal load_refusal notice_refusal
never-own m h begin e = not_first 19 _ refl e
never-own m h (read t i) e = not_first 19 _ refl e
never-own m h (write t i v) e = clash h (at-replica (is_station m) 19 (λ z. omega arith) (write_refusal m (row_no m t) i) e).0
never-own m h (ask t) e = not_first 19 _ refl e
never-own m h (withdraw t) e = not_first 19 _ refl e
never-own m h report e = omega arith
never-own m h (send b) e = clash h (at-replica (is_station m) 19 (λ z. omega arith) (send_refusal m b) e).0
never-own m h (deliver b) e = deliver_other m h b e
never-own m h work e = not_first 19 _ refl e
never-own m h (load l) e = not_first 19 _ refl e
never-own m h (notice a) e = not_first 19 _ refl e

-- ---- rows that wrote nothing

abbrev Idle : Txn → Type 0
Idle t = (t.stage ≡ 0) × (t.writes ≡ 0)

abbrev AllIdle : List Txn → Type 0
AllIdle l = (r : ℕ) → Idle (row_at l r)

idle-set : (l : List Txn) (k : ℕ) (t : Txn) → AllIdle l → Idle t → AllIdle (set l k t)
idle-set [] k t h e r = h r
idle-set (x ∷ xs) zero t h e zero = e
idle-set (x ∷ xs) zero t h e (suc r) = h (suc r)
idle-set (x ∷ xs) (suc k) t h e zero = h 0
idle-set (x ∷ xs) (suc k) t h e (suc r) = idle-set xs k t (λ j. h (suc j)) e r

idle_aborts : (es : List Entry) (items : List ℕ) (i : ℕ) (l : List Txn) → AllIdle l → AllIdle (after_aborts es items i l)
unfolding after_aborts
idle_aborts es items i [] h r = h r
idle_aborts es items i (t ∷ ts) h zero = cond_by Idle (is_hit es items i t) (λ e. (refl, refl)) (λ e. h 0)
idle_aborts es items i (t ∷ ts) h (suc r) = idle_aborts es items (suc i) ts (λ j. h (suc j)) r

shares_none : (es : List Entry) → shares [] es ≡ false
unfolding shares has
shares_none [] = refl
shares_none (e ∷ es) = shares_none es

no_items : (i : ℕ) (t : Txn) (items : List ℕ) → t.writes ≡ 0 → items_of i t items ≡ []
no_items i t items e = let z : 8 * i + min t.writes 8 ≡ 8 * i = omega arith in rw z (slice_empty (8 * i) items)

not_hit : (es : List Entry) (items : List ℕ) (i : ℕ) (t : Txn) → t.writes ≡ 0 → is_hit es items i t ≡ false
not_hit es items i t e =
    let none : shares (items_of i t items) es ≡ false = rw (no_items i t items e) (shares_none es) in
    rw (none, and_false) (and_false (is_open t))

nobody-hit : (es : List Entry) (items : List ℕ) (i : ℕ) (l : List Txn) → AllIdle l → hit_tickets es items i l ≡ []
unfolding hit_tickets
nobody-hit es items i [] h = refl
nobody-hit es items i (t ∷ ts) h = rw (not_hit es items i t (h 0).1) (nobody-hit es items (suc i) ts (λ j. h (suc j)))

-- nothing is queued where no row is asked
none_queued : {over : ℕ} (m : Memory) → Shape over m → AllIdle m.txns.table → waiting m.txns.queue ≡ []
none_queued m S h = go (waiting m.txns.queue) refl
  where
    go : (l : List ℕ) → waiting m.txns.queue ≡ l → waiting m.txns.queue ≡ []
    go [] e = e
    go (x ∷ l) e = absurd (let a = (S.queue.asked 0 (rw e (omega arith))).1 in let b = (h (row_of (get_or m.txns.queue 0 0) m.txns.table)).0 in let w : ⊥ = omega arith in w)

-- ---- each call

idle : (m : Memory) → OnlyReads m → AllIdle m.txns.table
idle m R r = (R.active r, R.unwritten r)

made_reads : (n : ℕ) (values : List ℤ) → OnlyReads (station_memory n values)
unfolding made_memory
made_reads n values = record {
  station = refl;
  active = λ r. (rows r).0;
  unwritten = λ r. (rows r).1;
  unsent = refl;
  committed = refl;
  aborted = refl;
}
  where
    rows : AllIdle (replicate 6 closed)
    rows zero = (refl, refl)
    rows (suc zero) = (refl, refl)
    rows (suc (suc zero)) = (refl, refl)
    rows (suc (suc (suc zero))) = (refl, refl)
    rows (suc (suc (suc (suc zero)))) = (refl, refl)
    rows (suc (suc (suc (suc (suc zero))))) = (refl, refl)
    rows (suc (suc (suc (suc (suc (suc r)))))) = (refl, refl)

module _ (m : Memory) (R : OnlyReads m) where
  abbrev Reads : Outcome → Type 0
  Reads o = OnlyReads o.memory

  begin-reads : (r : ℕ) → Reads (begin_at m r)
  unfolding begin_at
  begin-reads r =
      let rows = idle-set m.txns.table r (record { ticket = m.counts.tickets + 1; stage = 0; snapshot = m.counts.commits; writes = 0 }) (idle m R) (refl, refl) in
      record { station = R.station; active = λ i. (rows i).0; unwritten = λ i. (rows i).1; unsent = R.unsent; committed = R.committed; aborted = R.aborted }

  read-only-reads : (r : ℕ) → Reads (read_only_at m r)
  unfolding read_only_at
  read-only-reads r =
      let rows = idle-set m.txns.table r closed (idle m R) (refl, refl) in
      record { station = R.station; active = λ i. (rows i).0; unwritten = λ i. (rows i).1; unsent = R.unsent; committed = R.committed; aborted = R.aborted }

  withdraw-reads : (r : ℕ) → Reads (withdraw_at m r)
  unfolding withdraw_at
  withdraw-reads r =
      let rows = idle-set m.txns.table r closed (idle m R) (refl, refl) in
      record { station = R.station; active = λ i. (rows i).0; unwritten = λ i. (rows i).1; unsent = R.unsent; committed = R.committed; aborted = R.aborted }

  deliver-reads : (b : List ℕ) → Reads (deliver_now m b)
  unfolding deliver_now
  deliver-reads b = record { station = R.station; active = R.active; unwritten = R.unwritten; unsent = R.unsent; committed = R.committed; aborted = R.aborted }

  next-reads : Reads (pass_next m)
  unfolding pass_next
  next-reads = record { station = R.station; active = R.active; unwritten = R.unwritten; unsent = refl; committed = R.committed; aborted = R.aborted }

  out_reads : Reads (pass_out m)
  unfolding pass_out
  out_reads = record { station = R.station; active = R.active; unwritten = R.unwritten; unsent = refl; committed = R.committed; aborted = R.aborted }

  commit-reads : (w : Record) → Reads (commit_writeset m false w)
  unfolding commit_writeset
  commit-reads w =
      let rows = idle_aborts w.entries m.txns.items 0 m.txns.table (idle m R) in
      record {
        station = R.station;
        active = λ i. (rows i).0;
        unwritten = λ i. (rows i).1;
        unsent = cond_by (λ (t : Turn). is_on t.sent ≡ false) (is_last m) (λ e. refl) (λ e. R.unsent);
        committed = cond_by (λ (c : ℕ). c ≡ 0) (ends_own false m.txns.table w.ticket) {x = bump m.counts.committed}
            (λ e. clash e (ends-other m.txns.table w.ticket))
            (λ e. R.committed);
        aborted = rw (nobody-hit w.entries m.txns.items 0 m.txns.table (idle m R), R.aborted) refl;
      }

  load-reads : (l : List ℕ) → OnlyReads (with_classes m l)
  load-reads l = record { station = R.station; active = R.active; unwritten = R.unwritten; unsent = R.unsent; committed = R.committed; aborted = R.aborted }

  notice-reads : (a : Notice) → OnlyReads (with_group m (with_notice m.group a))
  notice-reads a = record { station = R.station; active = R.active; unwritten = R.unwritten; unsent = R.unsent; committed = R.committed; aborted = R.aborted }

reads_each : {over : ℕ} (m : Memory) → Shape over m → OnlyReads m → (c : Call) → OnlyReads (step m c).memory
reads_each m S R begin = begin-by (Reads m R) m (λ e. begin-reads m R _) (λ e. R)
reads_each m S R (read t i) = read_by (Reads m R) m t i (λ e. R) (λ e. R)
reads_each m S R (write t i v) = rw (writes_refused m R.station t i v) R
reads_each m S R (ask t) = ask-by (Reads m R) m t (λ e. read-only-reads m R _) (λ e n. absurd (let w = R.unwritten (row_no m t) in n (omega arith))) (λ e. R)
reads_each m S R (withdraw t) = withdraw-by (Reads m R) m t (λ e. withdraw-reads m R _) (λ e. R)
reads_each m S R report = unfold step report_step in R
reads_each m S R (send b) = rw (sends-refused m R.station b) R
reads_each m S R (deliver b) = deliver-by (Reads m R) m b (λ e. deliver-reads m R b) (λ e. R)
reads_each m S R work =
    work-by (Reads m R) m (λ e u. out_reads m R) (λ e k. next-reads m R)
    (λ e k. subst (λ (mine : Bool). OnlyReads (commit_writeset m mine (writeset_at (block_at_turn m) m.counts.done)).memory) (sym (work_other m S R.station e)) (commit-reads m R _)) (λ e. R)
reads_each m S R (load l) = load-by (Reads m R) m l (λ e. load-reads m R l) (λ e. R)
reads_each m S R (notice a) = notice-by (Reads m R) m a (λ e. notice-reads m R a) (λ e. R)

reads_after : {over : ℕ} (m : Memory) → Shape over m → OnlyReads m → (cs : List Call) → OnlyReads (after m cs)
unfolding after
reads_after m S R [] = R
reads_after m S R (c ∷ cs) = reads_after (step m c).memory (shapes.each m S c) (reads_each m S R c) cs

-- ---- what is answered

abbrev aborted_in : Answer → List ℕ
aborted_in (refused n) = []
aborted_in made = []
aborted_in (began t) = []
aborted_in (got v) = []
aborted_in wrote = []
aborted_in queued = []
aborted_in read_only = []
aborted_in withdrew = []
aborted_in (reported r) = []
aborted_in (sent b) = []
aborted_in kept = []
aborted_in (worked s) = s.aborted
aborted_in loaded = []
aborted_in noticed = []
aborted_in (restarted c b) = []

module _ {over : ℕ} (m : Memory) (S : Shape over m) (R : OnlyReads m) where
  stage-zero : (t : ℕ) → not_active m (row_no m t) ≡ false
  stage-zero t = rw (R.active (row_no m t)) refl

  not-four : (c : Call) → refusal_of m c ≡ 4 → ⊥
  unfolding refusal_of begin_refusal read_refusal ask_refusal withdraw_refusal deliver_refusal work_refusal load_refusal notice_refusal
  not-four begin e = not_first 4 _ refl e
  not-four (read t i) e =
      let a = passes _ _ refl e in
      let b = passes _ _ refl a.1 in
      let c = passes _ _ refl b.1 in
      not_first 4 _ refl (skip _ _ (stage-zero t) c.1)
  not-four (write t i v) e = clash R.station (at-replica (is_station m) 4 (λ z. omega arith) (write_refusal m (row_no m t) i) e).0
  not-four (ask t) e =
      let a = passes _ _ refl e in
      let b = passes _ _ refl a.1 in
      not_first 4 _ refl (skip _ _ (stage-zero t) b.1)
  not-four (withdraw t) e =
      let a = passes _ _ refl e in
      not_first 4 _ refl (skip _ _ (stage-zero t) a.1)
  not-four report e = omega arith
  not-four (send b) e = clash R.station (at-replica (is_station m) 4 (λ z. omega arith) (send_refusal m b) e).0
  not-four (deliver b) e = not_first 4 _ refl e
  not-four work e = not_first 4 _ refl e
  not-four (load l) e = not_first 4 _ refl e
  not-four (notice a) e = not_first 4 _ refl e

  ask-number-is : (t : ℕ) → ask_refusal m (row_no m t) ≡ cond (no_row (row_no m t)) 3 0
  unfolding ask_refusal first_of
  ask-number-is t = rw (eq-eqb (length m.txns.queue) 6 S.lengths.queue, stage-zero t) refl

  -- an ask of an open transaction is read-only
  asked : (t : ℕ) → (step m (ask t)).answer ≡ cond (no_row (row_no m t)) (refused 3) read_only
  unfolding read_only_at
  asked t =
      bool_by (no_row (row_no m t))
      (λ o. rw o (ask-by (λ (x : Outcome). x.answer ≡ refused 3) m t (λ e. absurd (no_zero (rw o at (ask-number-is t)) e)) (λ e n. absurd (no_zero (rw o at (ask-number-is t)) e)) (λ z. ap refused (rw o at (ask-number-is t)))))
      (λ o. rw o (ask-by (λ (x : Outcome). x.answer ≡ read_only) m t (λ e. refl) (λ e n. absurd (let w = R.unwritten (row_no m t) in n (omega arith))) (λ z. absurd (z (rw o at (ask-number-is t))))))
    where
      no_zero : ask_refusal m (row_no m t) ≡ 3 → ask_refusal m (row_no m t) ≡ 0 → ⊥
      no_zero a b = omega arith

  aborts-none : (s : WorkDone) → (step m work).answer ≡ worked s → s.aborted ≡ []
  aborts-none s = work-by (λ (o : Outcome). o.answer ≡ worked s → s.aborted ≡ []) m
      (λ e u q. unfold pass_out in sym (ap aborted_in q))
      (λ e k q. unfold pass_next in sym (ap aborted_in q))
      (λ e k q. sym (ap aborted_in q) ∙ rw (work_other m S R.station e) (unfold commit_writeset in nobody-hit _ m.txns.items 0 m.txns.table (idle m R)))
      (λ e q. absurd (let z : ◌≡◌ {A = ℕ} 0 1 = cc in let w : ⊥ = omega arith in w))

-- ---- the whole

module _ (n : ℕ) (values : List ℤ) (setting : Setting n values) (cs : List Call) where
  abbrev m : Memory
  m = station_memory n values

  at_first : Shape 0 (station_memory n values)
  at_first = shape_station n values setting

  shaped : Shape 0 (after (station_memory n values) cs)
  shaped = shape_after m at_first cs

  reading : OnlyReads (after (station_memory n values) cs)
  reading = reads_after m at_first (made_reads n values) cs

  reported-is : report_of (after (station_memory n values) cs) ≡ report_from 0 (tally no_number no_calls (station_memory n values) cs)
  reported-is =
      report_from_lem (after m cs) shaped
      ∙ ap (report_from 0) (tally-kept no_number m at_first (sent-shapes.made n no_number values) (made_own n no_number values) cs ∙ ap (λ (t : Tally). tally no_number t m cs) (made_kept n no_number values))

  summed : let r = report_of (after (station_memory n values) cs) in r.tickets ≡ r.open_count + r.read_only + r.withdrawn
  unfolding report_of
  summed = let e = shaped.ranges.endings in let a = reading.committed in let b = reading.aborted in omega arith

  by_number : (c : Call) (k : ℕ) → (refusal_of (after (station_memory n values) cs) c ≡ k → ⊥) → (step (after (station_memory n values) cs) c).answer ≡ refused k → ⊥
  by_number c k f e = f (sym (refusals.number (after m cs) c) ∙ ap number_of e)

-- number 0 is below any N from 2 on
no_number_lem : (n : ℕ) → not (within 2 6 n) ≡ size_out n 0
no_number_lem n = go (within 2 6 n) refl
  where
    go : (b : Bool) → within 2 6 n ≡ b → not b ≡ not b || leb n 0
    go true e = sym (lt-leb n 0 (let w = (is_within 2 6 n e).above in omega arith))
    go false e = refl

refusals-same : (m : Memory) (n : ℕ) (values : List ℤ) → station_refusal m n values ≡ make_refusal m n 0 values
unfolding station_refusal make_refusal
refusals-same k n values = ap (λ (b : Bool). first_of (refuse 1 (not (eqb (length values) 128 && parts_fit k n)) ∷ refuse 2 b ∷ [])) (no_number_lem n)

pub stations : Stations
stations = record {
  make-refusal = refusals-same;
  make_number = λ m n values. unfold station_step in unless-by (λ (o : Outcome). number_of o.answer ≡ station_refusal m n values) (station_refusal m n values) m (λ e. sym e) (λ e. refl);
  make_unchanged = λ m n values h. unfold station_step in unless-by (λ (o : Outcome). o.memory ≡ m) (station_refusal m n values) m (λ e. absurd (h e)) (λ e. refl);
  makes = λ m n values h. unfold station_step in rw (eq-eqb (station_refusal m n values) 0 h) refl;
  writes = writes_refused;
  sends = sends-refused;
  never-19 = λ m h c e. never-own m h c (sym (refusals.number m c) ∙ ap number_of e);
  shape = shaped;
  only-reads = reading;
  queue = λ n values g cs. none_queued _ (shaped n values g cs) (idle _ (reading n values g cs));
  report = reported-is;
  sum = summed;
  others = λ n values g cs. waits_other (after (station_memory n values) cs) (shaped n values g cs) (reading n values g cs).station;
  asks = λ n values g cs. asked _ (shaped n values g cs) (reading n values g cs);
  never-4 = λ n values g cs c. by_number n values g cs c 4 (not-four _ (shaped n values g cs) (reading n values g cs) c);
  aborts = λ n values g cs. aborts-none _ (shaped n values g cs) (reading n values g cs);
}
