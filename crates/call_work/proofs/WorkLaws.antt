-- What a work answers: its refusal, or what it does where it is not refused. Assumes nothing.
use Prim.Native.Nat.{ℕ, ◌+◌, ◌*◌, ◌≤◌, ◌<◌}
use mathlib.Core.Path.{◌≡◌, refl, sym, ap, ◌∙◌}
use mathlib.Core.Bool.{Bool, true, false, cond, not, ◌&&◌}
use mathlib.Core.List.{List, []}
use native.Mathlib.Nat.{add-zero}
use native.Mathlib.Omega.{arith}
use borrow.Author.Tests.{eq-eqb, ne_eqb, eqb-true, eqb-false, not-false}
use lib.Dec.{eqb, leb}
use lib.IntN.{ℤ}
use lib.ListN.{length, get_or, set, replicate, get_or-eq_default}
use lib.Seq.{slice, set_out, length-slice}
use Rattle.block.specs.Message.{Record}
use Rattle.block.proofs.BoolLaws.{both}
use Rattle.block.proofs.ListLaws.{get_or-slice}
use Rattle.memory.specs.declared.Counts.{Counts}
use Rattle.memory.specs.declared.Group.{Group}
use Rattle.memory.specs.declared.Turn.{Turn}
use Rattle.memory.specs.declared.Txn.{Txn}
use Rattle.memory.specs.Memory.{Memory, window_bytes, queue_lent, items_lent, values_lent, stamps_lent, places_lent, window_lent, with_done, with_turn}
use Rattle.memory.specs.Rows.{closed, row_of, end_rows}
use Rattle.memory.specs.Turns.{advance, place_start}
use Rattle.memory.specs.Window.{keeping}
use Rattle.engine.proofs.Passed.{work_passed}
use Rattle.engine.proofs.PlaceLaws.{place-fits}
use Rattle.engine.proofs.ShapeWriteset.{committed}
use Rattle.engine.proofs.Tests.{less_by, passes}
use Rattle.engine.specs.Answers.{Outcome, outcome}
use Rattle.engine.specs.Answers.Outcome.{memory}
use Rattle.engine.specs.Answers.Answer.{refused, worked}
use Rattle.engine.specs.Moves.{work_lent, out_at_turn, work_refusal, block_at_turn, writeset_at, applied, stamped, hit_tickets, ends_own, is_last, appending, pass_next, commit_writeset, pass_out, pass_block, work_step}
use Rattle.call_commit.proofs.EndLaws.{end_none, end_mark, end_hit}
use Rattle.call_reply.specs.declared.faults.Fault.{Fault}
use Rattle.call_reply.specs.Faults.{fault_number}
use Rattle.call_reply.specs.Parts.{work_parts}
use Rattle.call_reply.proofs.FaultLaws.{fault_some}
use Rattle.call_reply.specs.Replies.{work_reply, Gives}
use Rattle.call_ending.specs.declared.Ended.{Ended}
use Rattle.call_ending.specs.Writesets.{no_marks, ended_of, queue_left}
use Rattle.call_work.specs.Works.{ended_marks}

-- what an outcome gives, the same outcome by another name gives
pub same_gives : {R : Type 0} (of : Outcome → R) {p o : Outcome} → p ≡ o → {r : R} {left : Memory} → Gives of p r left → Gives of o r left
same_gives of e g = (g.0 ∙ ap of e, g.1 ∙ ap memory e)

-- ---- lengths

-- a place with a first byte is one of the N; of no replica there is no byte
pub place-within : (n slot : ℕ) (places : List ℕ) → length places ≡ 512 * n → (at : ℕ) → at ≡ place_start n slot → (k : ℕ) → k ≡ get_or places at 0 → (k ≡ 0 → ⊥)
    → at + 512 ≤ length places
place-within n slot places long at start k kind full =
    less_by 0 n (λ h. let f = place-fits n slot h in omega arith)
    (λ h. absurd (full (kind ∙ get_or-eq_default places 0 (let z : length places ≡ 0 = omega arith in omega arith))))

-- byte i of the block at a place
at_place : (places : List ℕ) (at i : ℕ) → i < 512 → get_or (slice at (at + 512) places) i 0 ≡ get_or places (at + i) 0
at_place places at i h = get_or-slice places 0 at (at + 512) i (at + i) refl (omega arith)

first_byte : (places : List ℕ) (at : ℕ) → get_or (slice at (at + 512) places) 0 0 ≡ get_or places at 0
first_byte places at = at_place places at 0 (omega arith) ∙ rw (add-zero at)

-- the last of six tests that all hold
sixth : (a b c d e f : Bool) → a && (b && (c && (d && (e && f)))) ≡ true → f ≡ true
sixth a b c d e f h =
    let k = (both a (b && (c && (d && (e && f)))) h).right in
    let l = (both b (c && (d && (e && f))) k).right in
    (both e f (both d (e && f) (both c (d && (e && f)) l).right).right).right

-- ---- the answers

module _ (m : Memory) where
  pub work-refused : (f : Fault) → fault_number f ≡ work_refusal m → outcome (refused (fault_number f)) m ≡ work_step m
  unfolding work_step
  work-refused f e = rw (← e, ne_eqb (fault_number f) 0 (fault_some f))

  pub marks-refused : (f : Fault) → fault_number f ≡ work_refusal m → no_marks ≡ ended_marks m
  unfolding ended_marks
  marks-refused f e = rw (← e, ne_eqb (fault_number f) 0 (fault_some f))

  module _ (none : 0 ≡ work_refusal m) where
    pub work_out_lem : out_at_turn m ≡ true → pass_out m ≡ work_step m
    unfolding work_step
    work_out_lem h = rw (← none, h)

    pub marks-out : out_at_turn m ≡ true → no_marks ≡ ended_marks m
    unfolding ended_marks
    marks-out h = rw (← none, h)

    -- the window has its length
    pub window-long : length m.blocks.window ≡ window_bytes
    unfolding work_refusal
    window-long =
        let l : work_lent m ≡ true = not-false _ (passes _ _ refl (sym none)).0 in
        eqb-true _ window_bytes (sixth (places_lent m) (items_lent m) (queue_lent m) (values_lent m) (stamps_lent m) (window_lent m) l)

    module _ (live : out_at_turn m ≡ false) (at : ℕ) (start : at ≡ place_start m.group.replicas m.turn.slot) where
      -- the block at the turn lies in the places
      pub work_room : at + 512 ≤ length m.blocks.places
      unfolding work_refusal
      work_room =
          let l = both _ _ (not-false _ (passes _ _ refl (sym none)).0) in
          place-within m.group.replicas m.turn.slot m.blocks.places (eqb-true _ _ l.left) at start (get_or m.blocks.places at 0) refl
          (λ e. eqb-false (get_or m.blocks.places (place_start m.group.replicas m.turn.slot) 0) 0
          (work_passed m (record { passed = sym none; live = live })) (rw (← start) e))

      pub work-next : get_or m.blocks.places at 0 ≡ 1 → pass_next m ≡ work_step m
      unfolding work_step pass_block
      work-next h = rw (← none, live, ← start, first_byte m.blocks.places at, eq-eqb (get_or m.blocks.places at 0) 1 h)

      pub work-writeset : (get_or m.blocks.places at 0 ≡ 1 → ⊥)
          → commit_writeset m (eqb (get_or (block_at_turn m) 1 0) m.group.own) (writeset_at (block_at_turn m) m.counts.done) ≡ work_step m
      unfolding work_step pass_block
      work-writeset h = rw (← none, live, ← start, first_byte m.blocks.places at, ne_eqb (get_or m.blocks.places at 0) 1 h)

      pub marks-next : get_or m.blocks.places at 0 ≡ 1 → no_marks ≡ ended_marks m
      unfolding ended_marks
      marks-next h = rw (← none, live, ← start, first_byte m.blocks.places at, eq-eqb (get_or m.blocks.places at 0) 1 h)

      pub marks-writeset : (get_or m.blocks.places at 0 ≡ 1 → ⊥) →
          let block = slice at (at + 512) m.blocks.places in
          (e : Ended) → e ≡ ended_of (eqb (get_or block 1 0) m.group.own) (writeset_at block m.counts.done) m.turn m.counts m.txns.table m.txns.items
          → e.marks ≡ ended_marks m
      unfolding ended_marks ended_of
      marks-writeset h e ee = rw (ee, ← none, live, ← start, first_byte m.blocks.places at, ne_eqb (get_or m.blocks.places at 0) 1 h)

-- ---- what is handed out

-- another's block b, where the turn leaves it
append-said : (b : List ℕ) → length b ≡ 512 → (moved mine : Bool) → (moved && not mine) ≡ not (eqb (length (cond moved (cond mine [] b) [])) 0)
append-said b full true true = refl
append-said b full true false = rw full
append-said b full false mine = refl

block_long : (places : List ℕ) (at start : ℕ) → at ≡ start → at + 512 ≤ length places → length (slice start (start + 512) places) ≡ 512
block_long places at start e h = length-slice start (start + 512) places (omega arith) ∙ omega arith

-- a *next*: t is the turn after it, w what the window becomes
pub next-passed : (m : Memory) (at : ℕ) → at ≡ place_start m.group.replicas m.turn.slot → at + 512 ≤ length m.blocks.places
    → (t : Turn) → t ≡ advance m.turn → (w : List ℕ) → w ≡ keeping m.blocks.window m.turn.slot (slice at (at + 512) m.blocks.places)
    → Gives work_reply (pass_next m)
    (record {
      number = 0;
      sender = get_or m.blocks.places (at + 1) 0;
      moved = true;
      count = 0;
      ticket = 0;
      aborted = replicate 6 0;
      append = not (eqb (get_or m.blocks.places (at + 1) 0) m.group.own);
    })
    (with_turn m t (with_done m.counts 0) (record { places = set m.blocks.places at 0; outbox = m.blocks.outbox; window = w }))
unfolding pass_next
next-passed m at start room t e w ew =
    let places = m.blocks.places in
    let full = block_long places at (place_start m.group.replicas m.turn.slot) start room in
    let mine = eqb (get_or (block_at_turn m) 1 0) m.group.own in
    rw (e, ew, ← at_place places at 1 (omega arith), start)
    (rw (append-said (block_at_turn m) full true mine), refl)

-- ---- a writeset

-- the row of a ticket, marked and ended where it is to end; one past the last is none
own_rows : (ends : Bool) (rows : List Txn) (k : ℕ) → length rows ≡ 6 → end_rows (cond ends (set no_marks k true) no_marks) rows ≡ cond ends (set rows k closed) rows
own_rows false rows k six = end_none 6 rows
own_rows true rows k six =
    less_by k 6
    (λ h. end_mark no_marks rows k h ∙ rw (end_none 6 rows))
    (λ h. rw (set_out no_marks k true h, end_none 6 rows) (sym (set_out rows k closed (omega arith))))

module _ (m : Memory) (group : Group) (turn : Turn) (counts : Counts) (rows : List Txn) (queue items : List ℕ) (values : List ℤ) (stamps places window : List ℕ) (six : length rows ≡ 6) where
  abbrev before : Memory
  before = work_parts m group turn counts rows queue items values stamps places window

  -- what is answered and left, by the writeset's end e and its place in the block
  abbrev Left : Outcome → Ended → Bool → ℕ → Bool → List ℕ → List ℤ → List ℕ → Turn → Counts → List ℕ → List ℕ → Type 0
  Left o e last sender append q v s t c p k =
      Gives work_reply o
      (record { number = 0; sender = sender; moved = last; count = e.count; ticket = e.ticket; aborted = e.aborted; append = append })
      (work_parts m group t c (end_rows e.marks rows) q items v s p k)

  by_cases : (mine last : Bool) (w : Record) (append : Bool) → append ≡ not (eqb (length (appending before last)) 0) →
      let e = ended_of mine w turn counts rows items in
      let sender = get_or (block_at_turn before) 1 0 in
      Left
      (outcome (worked (record { sender = sender; ticket = w.ticket; moved = last; aborted = cond mine [] (hit_tickets w.entries items 0 rows); append = appending before last }))
      (committed before mine (ends_own mine rows w.ticket) last w))
      e last sender append (queue_left mine w rows items queue) (applied w.entries values) (stamped e.counts.commits w.entries stamps)
      (cond last (advance e.turn) e.turn) (with_done e.counts (cond last 0 (e.counts.done + 1)))
      (cond last (set places (place_start group.replicas turn.slot) 0) places)
      (cond last (keeping window e.turn.slot (block_at_turn before)) window)
  unfolding ended_of
  by_cases true true w append ea = (rw ea, rw (own_rows (ends_own true rows w.ticket) rows (row_of w.ticket rows) six))
  by_cases true false w append ea = (rw ea, rw (own_rows (ends_own true rows w.ticket) rows (row_of w.ticket rows) six))
  by_cases false true w append ea = (rw ea, rw (end_hit w.entries items 0 rows))
  by_cases false false w append ea = (rw ea, rw (end_hit w.entries items 0 rows))

  -- e, q, v, s, p, k: the writeset's end, and what queue, values, stamps, places and window became
  pub writeset-committed : (at : ℕ) → at ≡ place_start group.replicas turn.slot → at + 512 ≤ length places →
      let block = slice at (at + 512) places in
      let mine = eqb (get_or block 1 0) group.own in
      let w = writeset_at block counts.done in
      (e : Ended) → e ≡ ended_of mine w turn counts rows items
      → (q : List ℕ) (v : List ℤ) (s : List ℕ) → q ≡ queue_left mine w rows items queue → v ≡ applied w.entries values → s ≡ stamped e.counts.commits w.entries stamps
      → let last = leb (get_or places (at + 3) 0) (e.counts.done + 1) in
      (p : List ℕ) → p ≡ cond last (set places at 0) places
      → (k : List ℕ) → k ≡ cond last (keeping window e.turn.slot block) window
      → Left (commit_writeset before (eqb (get_or (block_at_turn before) 1 0) group.own) (writeset_at (block_at_turn before) counts.done))
      e last (get_or places (at + 1) 0) (last && not (eqb (get_or places (at + 1) 0) group.own)) q v s (cond last (advance e.turn) e.turn) (with_done e.counts (cond last 0 (e.counts.done + 1))) p k
  unfolding commit_writeset ended_of
  writeset-committed at start room e ee q v s eq ev e_s p ep k ek =
      let second = at_place places at 1 (omega arith) in
      let fourth = at_place places at 3 (omega arith) in
      let full = block_long places at (place_start group.replicas turn.slot) start room in
      let mine = eqb (get_or (block_at_turn before) 1 0) group.own in
      rw (eq, ev, e_s, ep, ek, ee, ← second, ← fourth, start)
      (by_cases mine (is_last before) (writeset_at (block_at_turn before) counts.done) _ (append-said (block_at_turn before) full (is_last before) mine))
