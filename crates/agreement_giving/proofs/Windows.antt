-- A replica's window has the last 64 blocks of its journal, with no premise: every call keeps it. Assumes nothing.
use Prim.Native.Nat.{ℕ, suc, ◌+◌, ◌*◌, ◌<◌}
use mathlib.Core.Path.{◌≡◌, refl, sym, ap, ◌∙◌}
use mathlib.Core.Bool.{Bool, true, false, cond}
use mathlib.Core.List.Memᴰ
use mathlib.Core.List.{List, [], ◌∷◌, ◌++◌, append-nil}
use native.Mathlib.Omega.{arith}
use lib.Dec.{eqb}
use lib.IntN.{ℤ}
use lib.ListN.{length, get_or, take}
use borrow.Author.Tests.{eq-eqb, ne_eqb, lt-ltb}
use Rattle.block.specs.Message.{Message, signed32}
use Rattle.block.specs.Bytes.{block_of}
use Rattle.block.specs.Form.{message_of}
use Rattle.block.specs.Answers.{block_refusal, header_of}
use Rattle.block.specs.Theorems.{RoundTrip}
use Rattle.block.proofs.AnswerLaws.{is_taken}
use Rattle.block.proofs.BoolLaws.{not_so}
use Rattle.block.proofs.ListLaws.{slice-take}
use Rattle.block.proofs.Theorems.{theorems}
use Rattle.memory.specs.declared.Turn.{Turn}
use Rattle.memory.specs.Memory.{Memory, bump}
use Rattle.memory.specs.Notices.{Notice}
use Rattle.memory.specs.Turns.{is_on, mark_applying, mark_sent, advance}
use Rattle.memory.specs.Window.{keeping}
use Rattle.engine.specs.Answers.{Outcome}
use Rattle.engine.specs.Make.{Setting, made_memory}
use Rattle.engine.specs.Client.{begin_at, read_only_at, queue_at, rewrite_at, insert_write, stale_at, withdraw_at, report_step}
use Rattle.engine.specs.Moves.{message_for, out_at_turn, sent_already, send_refusal, send_now, deliver_now, block_at_turn, turn_blocks, is_last, pass_next, commit_writeset, next_at_turn, pass_out}
use Rattle.engine.specs.Calls.{Call, step}
use Rattle.engine.specs.Calls.Call.{begin, read, write, ask, withdraw, report, send, deliver, work, load, notice}
use Rattle.engine.specs.Restart.{blocks_in, restarted_memory, restart_step}
use Rattle.engine.specs.History.{AnyCall, any_step}
use Rattle.engine.specs.History.AnyCall.{call, restart}
use Rattle.engine.proofs.Tests.{same_by, less_by, clash}
use Rattle.engine.proofs.Steps.{begin-by, read_by, write-by, ask-by, withdraw-by, send_by, deliver-by, work-by, load-by, notice-by, restart-by}
use Rattle.engine.proofs.Passed.{send_passed}
use Rattle.engine.proofs.NoticeClaims.{next-sendable}
use Rattle.engine.proofs.Shaping.{bumps}
use Rattle.engine.proofs.ShapeTurn.{Working, working}
use Rattle.engine.proofs.SentWork.{is-outbox}
use Rattle.engine.proofs.RestartLaws.{good_taken, good_replicas}
use Rattle.agreement.specs.Group.{arguments_of, journal_after, Members, CallAt, fresh, next, run, Calls}
use Rattle.agreement.specs.Journals.{blocks_at}
use Rattle.agreement.proofs.View.{Sound}
use Rattle.agreement.proofs.Sendable.{sendable}
use Rattle.agreement.proofs.Soundness.{sound_made}
use Rattle.agreement.proofs.RestartStep.{same_size}
use Rattle.agreement.proofs.JournalLength.{mark, FilledAt, filled_next}
use Rattle.giving.proofs.Rings.{Ring, ring_none, ring_same, ring_next, ring_refilled, ring-holds, ring-only, lacks-none, lacks-one, block_no}
use Rattle.agreement_giving.specs.Windows.{LastBlocks, WindowTheorem}
use Rattle.agreement_giving.proofs.JournalBlocks.{block_before, block_at, read_at}

-- good, of a group of n, for slot s
pub record GoodAt (n s : ℕ) (b : List ℕ) : Type 0 where
  pub taken : block_refusal b ≡ 0
  pub slot : (header_of b).slot ≡ s
  pub replicas : (header_of b).replicas ≡ n

-- turn, block sent last, journal and window of a replica in a group of n
pub record Keeps (n : ℕ) (t : Turn) (outbox l w : List ℕ) : Type 0 where
  pub ring : Ring t.slot (block_no l) w
  pub good : (s : ℕ) → s < blocks_at t → GoodAt n s (block_no l s)
  pub last : is_on t.sent ≡ true → block_no l t.slot ≡ outbox

-- a block that is written and read back
written : (n s : ℕ) (d : Message) → RoundTrip d → d.slot ≡ s → d.replicas ≡ n → GoodAt n s (block_of d)
unfolding message_of header_of
written n s d r e f = record { taken = r.taken; slot = ap (λ (x : Message). x.slot) r.message ∙ e; replicas = ap (λ (x : Message). x.replicas) r.message ∙ f }

-- ---- the calls

module _ (n : ℕ) (m : Memory) (s : Sound n m) (l : List ℕ) (H : length l ≡ 512 * blocks_at m.turn) (K : Keeps n m.turn m.blocks.outbox l m.blocks.window) where
  abbrev KeptBy : Call → Outcome → Type 0
  KeptBy c o = Keeps n o.memory.turn o.memory.blocks.outbox (journal_after l (call c) o.answer) o.memory.blocks.window

  abbrev b : List ℕ
  b = block_at_turn m

  abbrev t : ℕ
  t = m.turn.slot

  abbrev w : List ℕ
  w = m.blocks.window

  up : bump m.turn.slot ≡ suc m.turn.slot
  up = (bumps m s.shape).slot

  -- a block of the turn's slot is appended: the blocks before it, and the block
  module _ (x : List ℕ) (off : sent_already m ≡ false) (G : GoodAt n m.turn.slot x) where
    count : blocks_at m.turn ≡ t
    count = rw off (let z : m.turn.slot + 0 ≡ m.turn.slot = omega arith in z)

    filled : length l ≡ 512 * t
    filled = H ∙ ap (λ (i : ℕ). 512 * i) count

    long : length x ≡ 512
    long = (is_taken x G.taken).long

    new : block_no (l ++ x) t ≡ x
    new = block_at l x t filled long

    old : (i : ℕ) → i < t → block_no l i ≡ block_no (l ++ x) i
    old i h = let z = filled in sym (block_before l x i (omega arith))

    all-good : (i : ℕ) → i < suc t → GoodAt n i (block_no (l ++ x) i)
    all-good i h = less_by i t
        (λ v. let c = count in rw (← old i v) (K.good i (omega arith)))
        (λ v. let y : i ≡ t = omega arith in rw (y, new) G)

    -- the turn leaves its slot with it
    appended : Keeps n (advance m.turn) m.blocks.outbox (l ++ x) (keeping w t x)
    appended = record {
      ring = rw up (ring_next t (block_no (l ++ x)) w x long (sym new) (ring_same t (block_no l) (block_no (l ++ x)) w old K.ring));
      good = λ i h. let u = up in all-good i (omega arith);
      last = λ q. clash {b = false} q refl;
    }

    -- or it is sent
    sent-new : Keeps n (mark_sent m.turn) x (l ++ x) w
    sent-new = record { ring = ring_same t (block_no l) (block_no (l ++ x)) w old K.ring; good = λ i h. all-good i (omega arith); last = λ q. new }

  module _ (k : Working m) where
    waits : (block_refusal b ≡ 0) × ((header_of b).slot ≡ m.turn.slot) × ((header_of b).replicas ≡ m.group.replicas)
    waits = s.shape.places.waits m.turn.slot (omega arith) (omega (arith, s.shape.ranges.least)) k.waits

    -- the own block that was sent is in the journal
    own-left : sent_already m ≡ true → Keeps n (advance m.turn) m.blocks.outbox l (keeping w t b)
    own-left on =
        let e : b ≡ block_no l t = (is-outbox m s.shape s.sent k.waits (s.sent.turn on)).1 ∙ sym (K.last on) in
        let c : blocks_at m.turn ≡ suc t = rw on (omega arith) in
        record {
          ring = rw up (ring_next t (block_no l) w b (is_taken b waits.0).long e K.ring);
          good = λ i h. let u = up in K.good i (omega arith);
          last = λ q. clash {b = false} q refl;
        }

    left : (mine last : Bool) → sent_already m ≡ mine
        → Keeps n (cond last (advance m.turn) (cond mine m.turn (mark_applying m.turn))) (cond last (turn_blocks m) m.blocks).outbox (l ++ cond last (cond mine [] b) [])
        (cond last (turn_blocks m) m.blocks).window
    left true true e = rw (append-nil l) (own-left e)
    left false true e = appended b e (record { taken = waits.0; slot = waits.1; replicas = waits.2 ∙ s.size })
    left true false e = rw (append-nil l) K
    left false false e = rw (append-nil l) (record { ring = K.ring; good = K.good; last = K.last })

  -- the *next* of an out slot, for which nothing was sent
  out-left : out_at_turn m ≡ true → Keeps n (advance m.turn) m.blocks.outbox (l ++ block_of (next_at_turn m)) (keeping w t (block_of (next_at_turn m)))
  out-left u = appended (block_of (next_at_turn m)) (not_so (sent_already m) (λ y. clash u (s.sent.awaited y)))
      (written n t (next_at_turn m) (theorems.round_trip (next_at_turn m) (next-sendable m s.shape u)) refl s.size)

  send-kept : (x : List ℕ) → send_refusal m x ≡ 0 → Keeps n (mark_sent m.turn) (block_of (message_for m)) (l ++ block_of (message_for m)) w
  unfolding message_for
  send-kept x e = sent-new (block_of (message_for m)) (send_passed m x e).unsent (written n t (message_for m) (theorems.round_trip (message_for m) (sendable n m s x e)) refl s.size)

  call_kept : (c : Call) → KeptBy c (step m c)
  unfolding begin_at stale_at rewrite_at insert_write read_only_at queue_at withdraw_at send_now deliver_now pass_next commit_writeset pass_out
  call_kept begin = begin-by (KeptBy begin) m (λ e. K) (λ e. K)
  call_kept (read t i) = read_by (KeptBy (read t i)) m t i (λ e. K) (λ e. K)
  call_kept (write t i v) = write-by (KeptBy (write t i v)) m t i v (λ e. K) (λ e o. K) (λ e o. K) (λ r e q. K)
  call_kept (ask t) = ask-by (KeptBy (ask t)) m t (λ e. K) (λ e o. K) (λ e. K)
  call_kept (withdraw t) = withdraw-by (KeptBy (withdraw t)) m t (λ e. K) (λ e. K)
  call_kept report = unfold step report_step in K
  call_kept (send x) = send_by (KeptBy (send x)) m x (send-kept x) (λ r e q. K)
  call_kept (deliver x) = deliver-by (KeptBy (deliver x)) m x (λ e. K) (λ e. K)
  call_kept work = work-by (KeptBy work) m (λ e u. out-left u)
      (λ e k. let q = working m s.shape e in left q (eqb (get_or b 1 0) m.group.own) true (mark n m s l H q))
      (λ e k. let q = working m s.shape e in left q (eqb (get_or b 1 0) m.group.own) (is_last m) (mark n m s l H q)) (λ e. K)
  call_kept (load x) = load-by (KeptBy (load x)) m x (λ e. K) (λ e. K)
  call_kept (notice a) = notice-by (KeptBy (notice a)) m a (λ e. K) (λ e. K)

  -- ---- a restart: every block that it reads is in the journal, and its window is filled with them

  restart-kept : (size own : ℕ) (values : List ℤ) (j : List ℕ) (a : List Notice) (x : List ℕ)
      → let o = restart_step m size own values j a x in Keeps n o.memory.turn o.memory.blocks.outbox (journal_after l (restart size own values j a x) o.answer) o.memory.blocks.window
  unfolding restarted_memory
  restart-kept size own values j a x =
      restart-by (λ (o : Outcome). Keeps n o.memory.turn o.memory.blocks.outbox (journal_after l (restart size own values j a x) o.answer) o.memory.blocks.window) m size own values j a x
      (λ e. record {
        ring = ring_refilled (blocks_in size j) (block_no (take (512 * length (blocks_in size j)) j))
            (λ i h. let r = read_at size j i h in ((is_taken _ (good_taken size _ r.1)).long, r.0 ∙ sym (same i h)));
        good = λ i h. let u : i < length (blocks_in size j) = omega arith in
            let r = read_at size j i u in
            rw (same i u, ← r.0) (record { taken = good_taken size _ r.1; slot = r.2; replicas = good_replicas size _ r.1 ∙ same_size n m s size own values x e });
        last = λ q. clash {b = false} q refl;
      })
      (λ e. K)
    where
      same : (i : ℕ) → i < length (blocks_in size j) → block_no (take (512 * length (blocks_in size j)) j) i ≡ block_no j i
      same i h = slice-take (512 * i) (512 * i + 512) (512 * length (blocks_in size j)) j (omega arith)

  any-kept : (c : AnyCall) → let o = any_step m c in Keeps n o.memory.turn o.memory.blocks.outbox (journal_after l c o.answer) o.memory.blocks.window
  any-kept (call c) = call_kept c
  any-kept (restart size own values j a x) = restart-kept size own values j a x

-- ---- a run

module _ (n : ℕ) where
  -- a replica of a group of n, and its journal
  pub record KeptAt (m : Memory) (l : List ℕ) : Type 0 where
    pub filled : FilledAt n m l
    pub keeps : Keeps n m.turn m.blocks.outbox l m.blocks.window

  abbrev pub AllKept : Members → Type 0
  AllKept g = (k : ℕ) → k < n → KeptAt (g.memories k) (g.disks k).journal

  kept_next : (m : Memory) (l : List ℕ) → KeptAt m l → (c : AnyCall) → signed32 (arguments_of c).value ≡ true → KeptAt (any_step m c).memory (journal_after l c (any_step m c).answer)
  kept_next m l K c v = record { filled = filled_next n m l K.filled c v; keeps = any-kept n m K.filled.sound l K.filled.filled K.keeps c }

  group-next : (g : Members) (c : CallAt) → AllKept g → signed32 (arguments_of c.does).value ≡ true → AllKept (next g c)
  group-next g c F v k below = same_by k c.at
      (λ e. rw (e, eq-eqb c.at c.at refl) (kept_next (g.memories c.at) (g.disks c.at).journal (F c.at (rw e at below)) c.does v))
      (λ d. rw (ne_eqb k c.at d) (F k below))

  kept_run : (cs : List CallAt) → Calls n cs → (g : Members) → AllKept g → AllKept (run g cs)
  unfolding run
  kept_run [] f g F = F
  kept_run (c ∷ cs) f g F = kept_run cs (λ d q. f d (Memᴰ.tail q)) (next g c) (group-next g c F (f c (Memᴰ.head refl)).1)

  module _ (start : List ℤ) (setting : Setting n start) where
    fresh_kept : AllKept (fresh n start)
    unfolding made_memory
    fresh_kept k h = rw (lt-ltb k n h) (record {
      filled = record { sound = sound_made n k start (record { group = setting; below = h }); filled = refl };
      keeps = record { ring = ring_none (block_no []); good = λ s u. absurd (let z : ⊥ = omega arith in z); last = λ q. clash {b = false} q refl };
    })

    pub kept-after : (cs : List CallAt) → Calls n cs → AllKept (run (fresh n start) cs)
    kept-after cs f = kept_run cs f (fresh n start) fresh_kept

-- ---- the theorem

pub last_blocks : (n : ℕ) (t : Turn) (outbox l w : List ℕ) → Keeps n t outbox l w → LastBlocks t.slot l w
last_blocks n t outbox l w K = record {
  long = K.ring.long;
  blocks = K.ring.blocks;
  holds-these = ring-holds t.slot (block_no l) w K.ring good;
  holds-only = ring-only t.slot (block_no l) w K.ring good;
  lacks-none = lacks-none t.slot (block_no l) w K.ring good;
  lacks-one = lacks-one t.slot (block_no l) w K.ring good;
}
  where
    good : (s : ℕ) → s < t.slot → (block_refusal (block_no l s) ≡ 0) × ((header_of (block_no l s)).slot ≡ s)
    good s h = let g = K.good s (omega arith) in (g.taken, g.slot)

pub windows : WindowTheorem
windows n start setting cs f k h = last_blocks n _ _ _ _ (kept-after n start setting cs f k h).keeps
