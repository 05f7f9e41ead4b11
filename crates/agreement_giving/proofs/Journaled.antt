-- What each call keeps of a replica's journal and places: every block of the journal is one handed out, byte for byte, or the *next* of a slot that the notices taken put out, and every block that
-- waits in a place is one handed out. Assumes nothing.
use Prim.Native.Nat.{ℕ, suc, ◌+◌, ◌*◌, ◌≤◌, ◌<◌}
use mathlib.Core.Path.{◌≡◌, refl, sym, ap, ◌∙◌, subst}
use mathlib.Core.Bool.{Bool, true, false, cond, not}
use mathlib.Core.Logic.{◌⊎◌, inl, inr}
use mathlib.Core.Option.{Option, none, some}
use mathlib.Core.List.Memᴰ
use mathlib.Core.List.{List, [], ◌∷◌, ◌++◌, append-nil}
use native.Mathlib.Omega.{arith}
use lib.Dec.{eqb}
use lib.ListN.{length, get_or}
use borrow.Author.Tests.{eq-eqb}
use Rattle.block.specs.Message.{Message, owner_of}
use Rattle.block.specs.Bytes.{block_of}
use Rattle.block.specs.Form.{message_of}
use Rattle.block.specs.Answers.{block_refusal, header_of}
use Rattle.block.proofs.AnswerLaws.{is_taken}
use Rattle.block.proofs.BoolLaws.{not_so}
use Rattle.block.proofs.Theorems.{theorems}
use Rattle.memory.specs.Memory.{Memory, bump, slot_limit}
use Rattle.memory.specs.Notices.{Notice, puts_out}
use Rattle.memory.specs.Turns.{mark_applying, advance, block_in, is_empty}
use Rattle.engine.specs.Answers.{Answer, Outcome}
use Rattle.engine.specs.Answers.Answer.{kept}
use Rattle.engine.specs.Client.{begin_at, read_only_at, queue_at, rewrite_at, insert_write, stale_at, withdraw_at, report_step}
use Rattle.engine.specs.Moves.{message_for, out_at_turn, sent_already, send_refusal, send_now, deliver_now, block_at_turn, next_at_turn, turn_blocks, is_last, pass_next, commit_writeset, pass_out}
use Rattle.engine.specs.Notices.{notice_refusal}
use Rattle.engine.specs.Calls.{Call, step}
use Rattle.engine.specs.Calls.Call.{begin, read, write, ask, withdraw, report, send, deliver, work, load, notice}
use Rattle.engine.specs.Restart.{is_from}
use Rattle.engine.specs.History.AnyCall.{call, restart}
use Rattle.engine.proofs.Tests.{bool_by, same_by, less_by, clash}
use Rattle.engine.proofs.Steps.{begin-by, read_by, write-by, ask-by, withdraw-by, send_by, deliver-by, work-by, load-by, notice-by}
use Rattle.engine.proofs.Passed.{send_passed, DeliverPassed, deliver_passed, notice_passed}
use Rattle.engine.proofs.PlaceLaws.{empty_same}
use Rattle.engine.proofs.NoticeLaws.{in_outage}
use Rattle.engine.proofs.NoticeClaims.{next-sendable}
use Rattle.engine.proofs.Shaping.{bumps}
use Rattle.engine.proofs.ShapeDeliver as delivered
use Rattle.engine.proofs.ShapeTurn.{Working, working, beside, again, out-again}
use Rattle.protocol.specs.Lists.{opt, Mem}
use Rattle.agreement.specs.Group.{journal_after, handed_out_in, taken_after, blocks_after}
use Rattle.agreement.specs.Journals.{blocks_at}
use Rattle.agreement.proofs.View.{Sound}
use Rattle.agreement.proofs.Sendable.{sendable}
use Rattle.agreement.proofs.JournalLength.{mark}
use Rattle.agreement_progress.proofs.NoticeLists.{puts_first}
use Rattle.giving.proofs.Rings.{block_no}
use Rattle.agreement_giving.proofs.JournalBlocks.{block_before, block_at}

-- ---- more is handed out, never less

pub blocks_more : (B : List (List ℕ)) (a : Answer) (b : List ℕ) → Mem b B → Mem b (blocks_after B a)
blocks_more B a b m = go (handed_out_in a)
  where
    go : (o : Option (List ℕ)) → Mem b (opt o B (λ (x : List ℕ). B ++ (x ∷ [])))
    go none = m
    go (some x) = Memᴰ.append_left (x ∷ []) m

-- ---- a replica: its places and its journal

abbrev pub PlacesHanded : ℕ → ℕ → List ℕ → List (List ℕ) → Type 0
PlacesHanded n t places B = (s : ℕ) → t ≤ s → s < t + n → is_empty n s places ≡ false → Mem (block_in n s places) B

-- the *next* of slot s, in a group of n
abbrev pub next_of : ℕ → ℕ → Message
next_of n s = record { kind = 1; sender = owner_of n s; replicas = n; slot = s; records = [] }

-- slot i is one that the notices T put out, and b is its *next*
abbrev pub OutBlock : ℕ → List Notice → ℕ → List ℕ → Type 0
OutBlock n T i b = (b ≡ block_of (next_of n i)) × (puts_out false T (owner_of n i) i ≡ true)

-- B: the blocks handed out, T: the notices taken
abbrev pub JournalHanded : ℕ → ℕ → List ℕ → List Notice → List (List ℕ) → Type 0
JournalHanded n count l T B = (i : ℕ) → i < count → Mem (block_no l i) B ⊎ OutBlock n T i (block_no l i)

-- replica own's, of a slot that is not out: given back by a restart where it is the last
abbrev pub GivesBack : ℕ → List Notice → List ℕ → Type 0
GivesBack own T b = (is_from own b ≡ true) × (puts_out false T own (header_of b).slot ≡ false)

-- it is for the turn's slot, m's own, for which m has not sent
abbrev pub Unsent : Memory → List ℕ → Type 0
Unsent m b = (sent_already m ≡ false) × (owner_of m.group.replicas m.turn.slot ≡ m.group.own) × ((header_of b).slot ≡ m.turn.slot)

module _ (n : ℕ) (m : Memory) (s : Sound n m) (l : List ℕ) (H : length l ≡ 512 * blocks_at m.turn) (B : List (List ℕ)) (T : List Notice)
    (out : m.turn.slot < slot_limit → out_at_turn m ≡ puts_out false T (owner_of n m.turn.slot) m.turn.slot)
    (places : PlacesHanded m.group.replicas m.turn.slot m.blocks.places B) (journal : JournalHanded n (blocks_at m.turn) l T B) where
  abbrev b : List ℕ
  b = block_at_turn m

  abbrev t : ℕ
  t = m.turn.slot

  -- after the call; and where a cut ends it, so that nothing is handed out and no notice is taken: a block that was not handed out is the last, and one that a restart gives back
  pub record Journaled (c : Call) (o : Outcome) : Type 0 where
    pub all : JournalHanded n (blocks_at o.memory.turn) (journal_after l (call c) o.answer) (taken_after T (call c) o.answer) (blocks_after B o.answer)
    pub either : (i : ℕ) → i < blocks_at o.memory.turn → let x = block_no (journal_after l (call c) o.answer) i in
        (Mem x B ⊎ OutBlock n T i x) ⊎ ((suc i ≡ blocks_at o.memory.turn) × GivesBack m.group.own T x × Unsent m x)

  -- the journal as it was, or with blocks of this kind alone
  old : (c : Call) (o : Outcome) → taken_after T (call c) o.answer ≡ T → blocks_after B o.answer ≡ B
      → JournalHanded n (blocks_at o.memory.turn) (journal_after l (call c) o.answer) T B → Journaled c o
  old c o f g j = record { all = rw (f, g) j; either = λ i h. inl (j i h) }

  -- one block more behind those of the slots below the turn
  added : (x : List ℕ) (C : List (List ℕ)) → sent_already m ≡ false → length x ≡ 512 → ((y : List ℕ) → Mem y B → Mem y C) → Mem x C ⊎ OutBlock n T t x → JournalHanded n (suc m.turn.slot) (l ++ x) T C
  added x C off long more new i h =
      let c : blocks_at m.turn ≡ t = rw off (omega arith) in
      let z : length l ≡ 512 * t = H ∙ ap (λ (y : ℕ). 512 * y) c in
      less_by i t
      (λ v. rw (block_before l x i (omega arith)) (wider i (block_no l i) (journal i (omega arith))))
      (λ v. let y : i ≡ t = omega arith in rw (y, block_at l x t z long) new)
    where
      wider : (i : ℕ) (y : List ℕ) → Mem y B ⊎ OutBlock n T i y → Mem y C ⊎ OutBlock n T i y
      wider i y (inl q) = inl (more y q)
      wider i y (inr q) = inr q

  module _ (k : Working m) where
    waits : (block_refusal b ≡ 0) × ((header_of b).slot ≡ m.turn.slot) × ((header_of b).replicas ≡ m.group.replicas)
    waits = s.shape.places.waits m.turn.slot (omega arith) (omega (arith, s.shape.ranges.least)) k.waits

    -- the turn leaves its slot, or not
    left : (mine last : Bool) → sent_already m ≡ mine → JournalHanded n (blocks_at (cond last (advance m.turn) (cond mine m.turn (mark_applying m.turn)))) (l ++ cond last (cond mine [] b) []) T B
    left true true e = rw (append-nil l) (λ i h. let u = (bumps m s.shape).slot in let c : blocks_at m.turn ≡ suc t = rw e (omega arith) in journal i (omega arith))
    left false true e = λ i h. let u = (bumps m s.shape).slot in
        added b B e (is_taken b waits.0).long (λ y q. q) (inl (places t (omega arith) (omega (arith, s.shape.ranges.least)) k.waits)) i (omega arith)
    left true false e = rw (append-nil l) journal
    left false false e = rw (append-nil l) journal

  -- an out slot
  out-journaled : out_at_turn m ≡ true → JournalHanded n (blocks_at (advance m.turn)) (l ++ block_of (next_at_turn m)) T B
  out-journaled u i h =
      let v = (bumps m s.shape).slot in
      let off = not_so (sent_already m) (λ y. clash u (s.sent.awaited y)) in
      let r = theorems.round_trip (next_at_turn m) (next-sendable m s.shape u) in
      added (block_of (next_at_turn m)) B off r.long (λ y q. q)
      (inr (ap (λ (x : ℕ). block_of (next_of x t)) s.size, sym (out (in_outage m.group t u).slot) ∙ u)) i (omega arith)

  send-journaled : (x : List ℕ) → send_refusal m x ≡ 0 → Journaled (send x) (send_now m)
  unfolding send_now message_for header_of message_of
  send-journaled x e = record {
    all = λ i h. added y (B ++ (y ∷ [])) p.unsent r.long (λ z q. Memᴰ.append_left (y ∷ []) q) (inl (Memᴰ.append_right B (Memᴰ.head refl))) i (omega arith);
    either = λ i h. less_by i t (λ v. inl (was i v)) (λ v. let z : i ≡ t = omega arith in inr (omega arith, rw (z, is-new) (from, live), rw (z, is-new) (p.unsent, p.owner, ap (λ (d : Message). d.slot) r.message)));
  }
    where
      y : List ℕ
      y = block_of (message_for m)

      p : Rattle.engine.proofs.Passed.SendPassed m
      p = send_passed m x e

      r : Rattle.block.specs.Theorems.RoundTrip (message_for m)
      r = theorems.round_trip (message_for m) (sendable n m s x e)

      c : blocks_at m.turn ≡ t
      c = rw p.unsent (let z : m.turn.slot + 0 ≡ m.turn.slot = omega arith in z)

      long : length l ≡ 512 * t
      long = H ∙ ap (λ (i : ℕ). 512 * i) c

      was : (i : ℕ) → i < t → Mem (block_no (l ++ block_of (message_for m)) i) B ⊎ OutBlock n T i (block_no (l ++ block_of (message_for m)) i)
      was i v = let w = long in let q = c in rw (block_before l (block_of (message_for m)) i (omega arith)) (journal i (omega arith))

      is-new : block_no (l ++ block_of (message_for m)) t ≡ block_of (message_for m)
      is-new = block_at l (block_of (message_for m)) t long r.long

      from : is_from m.group.own (block_of (message_for m)) ≡ true
      from = eq-eqb _ m.group.own (ap (λ (d : Message). d.sender) r.message)

      live : puts_out false T m.group.own (header_of (block_of (message_for m))).slot ≡ false
      live = ap (puts_out false T m.group.own) (ap (λ (d : Message). d.slot) r.message)
          ∙ subst (λ (k : ℕ). puts_out false T k t ≡ false) (ap (λ (k : ℕ). owner_of k t) (sym s.size) ∙ p.owner) (sym (out p.slot) ∙ p.live)

  -- a notice that is taken is of a slot above those of the journal, or puts the turn's slot not out
  notice-journaled : (a : Notice) → notice_refusal m a ≡ 0 → JournalHanded n (blocks_at m.turn) l (T ++ (a ∷ [])) B
  notice-journaled a e i h = go (journal i h)
    where
      ahead : i < t → (c : Notice) → Mem c (a ∷ []) → i < c.slot
      ahead v c q = this (Memᴰ.cases_cons q)
        where
          this : (c ≡ a) ⊎ Mem c [] → i < c.slot
          this (inl z) = rw z (let p = (notice_passed m a e).turn in omega arith)
          this (inr z) = absurd (Memᴰ.not-nil z)

      -- the own block of the turn's slot was sent, which is not out
      below : puts_out false T (owner_of n i) i ≡ true → i < t
      below q = less_by i t (λ v. v) (λ v. bool_by (sent_already m)
          (λ on. let x = rw on at h in let z : i ≡ t = omega arith in let p = notice_passed m a e in let d = p.turn in let f = p.range in
          clash (rw z at q) (sym (out (omega arith)) ∙ s.sent.awaited on))
          (λ off. absurd (let x = rw off at h in let z : ⊥ = omega arith in z)))

      go : Mem (block_no l i) B ⊎ OutBlock n T i (block_no l i) → Mem (block_no l i) B ⊎ OutBlock n (T ++ (a ∷ [])) i (block_no l i)
      go (inl q) = inl q
      go (inr q) = inr (q.0, puts_first (owner_of n i) i T (a ∷ []) (ahead (below q.1)) ∙ q.1)

  pub journaled : (c : Call) → Journaled c (step m c)
  unfolding begin_at stale_at rewrite_at insert_write read_only_at queue_at withdraw_at deliver_now pass_next commit_writeset pass_out
  journaled begin = begin-by (Journaled begin) m (λ e. old begin _ refl refl journal) (λ e. old begin _ refl refl journal)
  journaled (read t i) = read_by (Journaled (read t i)) m t i (λ e. old (read t i) _ refl refl journal) (λ e. old (read t i) _ refl refl journal)
  journaled (write t i v) = write-by (Journaled (write t i v)) m t i v
      (λ e. old (write t i v) _ refl refl journal) (λ e o. old (write t i v) _ refl refl journal) (λ e o. old (write t i v) _ refl refl journal) (λ r e q. old (write t i v) _ refl refl journal)
  journaled (ask t) = ask-by (Journaled (ask t)) m t (λ e. old (ask t) _ refl refl journal) (λ e o. old (ask t) _ refl refl journal) (λ e. old (ask t) _ refl refl journal)
  journaled (withdraw t) = withdraw-by (Journaled (withdraw t)) m t (λ e. old (withdraw t) _ refl refl journal) (λ e. old (withdraw t) _ refl refl journal)
  journaled report = unfold step report_step in old report _ refl refl journal
  journaled (send x) = send_by (Journaled (send x)) m x (send-journaled x) (λ r e q. old (send x) _ refl refl journal)
  journaled (deliver x) = deliver-by (Journaled (deliver x)) m x (λ e. old (deliver x) _ refl refl journal) (λ e. old (deliver x) _ refl refl journal)
  journaled work = work-by (Journaled work) m
      (λ e u. old work (pass_out m) refl refl (out-journaled u))
      (λ e k. let q = working m s.shape e in old work (pass_next m) refl refl (left q (eqb (get_or b 1 0) m.group.own) true (mark n m s l H q)))
      (λ e k. let q = working m s.shape e in old work _ refl refl (left q (eqb (get_or b 1 0) m.group.own) (is_last m) (mark n m s l H q)))
      (λ e. old work _ refl refl journal)
  journaled (load x) = load-by (Journaled (load x)) m x (λ e. old (load x) _ refl refl journal) (λ e. old (load x) _ refl refl journal)
  journaled (notice a) = notice-by (Journaled (notice a)) m a (λ e. record { all = notice-journaled a e; either = λ i h. inl (journal i h) }) (λ e. old (notice a) _ refl refl journal)

  -- ---- the places

  abbrev PlacedBy : Outcome → Type 0
  PlacedBy o = PlacesHanded o.memory.group.replicas o.memory.turn.slot o.memory.blocks.places (blocks_after B o.answer)

  deliver-placed : (x : List ℕ) → DeliverPassed m x → Mem x B → PlacedBy (deliver_now m x)
  unfolding deliver_now
  deliver-placed x k h i p q e = same_by i (header_of x).slot
      (λ z. rw (z, delivered.same m x s.shape k) h)
      (λ d. let y = delivered.beside m x s.shape k i p q d in rw y (places i p q (sym (empty_same m.group.replicas i _ m.blocks.places y) ∙ e)))

  -- the turn went up: the place that it left is empty, and the others are as they were
  up-placed : (new : List ℕ) → is_empty m.group.replicas (m.turn.slot + m.group.replicas) new ≡ true
      → ((i : ℕ) → suc m.turn.slot ≤ i → i < m.turn.slot + m.group.replicas → block_in m.group.replicas i new ≡ block_in m.group.replicas i m.blocks.places)
      → PlacesHanded m.group.replicas (bump m.turn.slot) new B
  up-placed new empty same i p q e =
      let u = (bumps m s.shape).slot in
      same_by i (t + m.group.replicas)
      (λ z. clash empty (rw z at e))
      (λ d. let h : i < t + m.group.replicas = omega (arith, d) in
      let y = same i (omega arith) h in
      rw y (places i (omega arith) h (sym (empty_same m.group.replicas i new m.blocks.places y) ∙ e)))

  turn-placed : Working m → PlacesHanded m.group.replicas (bump m.turn.slot) (turn_blocks m).places B
  turn-placed w = up-placed (turn_blocks m).places (again m s.shape w) (beside m s.shape w)

  work-placed : (mine last : Bool) → Working m
      → PlacesHanded m.group.replicas (cond last (advance m.turn) (cond mine m.turn (mark_applying m.turn))).slot (cond last (turn_blocks m) m.blocks).places B
  work-placed mine true w = turn-placed w
  work-placed true false w = places
  work-placed false false w = places

  pub placed : (c : Call) → ((x : List ℕ) → c ≡ deliver x → (step m (deliver x)).answer ≡ kept → Mem x B) → PlacedBy (step m c)
  unfolding begin_at stale_at rewrite_at insert_write read_only_at queue_at withdraw_at send_now pass_next commit_writeset pass_out
  placed begin f = begin-by PlacedBy m (λ e. places) (λ e. places)
  placed (read t i) f = read_by PlacedBy m t i (λ e. places) (λ e. places)
  placed (write t i v) f = write-by PlacedBy m t i v (λ e. places) (λ e o. places) (λ e o. places) (λ r e q. places)
  placed (ask t) f = ask-by PlacedBy m t (λ e. places) (λ e o. places) (λ e. places)
  placed (withdraw t) f = withdraw-by PlacedBy m t (λ e. places) (λ e. places)
  placed report f = unfold step report_step in places
  placed (send x) f = send_by PlacedBy m x (λ e i p q z. Memᴰ.append_left _ (places i p q z)) (λ r e q. places)
  placed (deliver x) f = deliver-by (λ (o : Outcome). (o.answer ≡ kept → Mem x B) → PlacedBy o) m x
      (λ e g. deliver-placed x (deliver_passed m x e) (g (kept-answer x))) (λ e g. places) (f x refl)
    where
      kept-answer : (x : List ℕ) → (deliver_now m x).answer ≡ kept
      kept-answer x = unfold deliver_now in refl
  placed work f = work-by PlacedBy m
      (λ e u. up-placed m.blocks.places (out-again m s.shape u) (λ i p q. refl))
      (λ e k. turn-placed (working m s.shape e))
      (λ e k. work-placed (eqb (get_or b 1 0) m.group.own) (is_last m) (working m s.shape e)) (λ e. places)
  placed (load x) f = load-by PlacedBy m x (λ e. places) (λ e. places)
  placed (notice a) f = notice-by PlacedBy m a (λ e. places) (λ e. places)
