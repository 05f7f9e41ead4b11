-- A replica's disk as the model's journal: its bytes are good blocks that say the journal's messages; what each call appends; what a cut leaves. Assumes nothing.
use Prim.Native.Nat.{ℕ, zero, suc, ◌+◌, ◌*◌, ◌/◌, ◌%◌, ◌≤◌}
use mathlib.Core.Path.{◌≡◌, refl, sym, ap, ◌∙◌, subst}
use mathlib.Core.Logic.{◌⊎◌, inl, inr}
use mathlib.Core.Bool.{Bool, true, false, cond}
use mathlib.Core.Option.{Option, none, some}
use mathlib.Core.List.Memᴰ
use mathlib.Core.List.{List, [], ◌∷◌, ◌++◌, append_assoc, append-nil, map}
use native.Mathlib.Nat.{lt-mul-div-succ}
use native.Mathlib.Omega.{arith}
use lib.Dec.{eqb}
use lib.IntN.{ℤ}
use lib.ListN.{length, get_or, take, drop}
use lib.Seq.{take-add}
use borrow.Author.Tests.{eq-eqb, ne_eqb}
use Rattle.block.specs.Message.{owner_of}
use Rattle.block.specs.Bytes.{block_of}
use Rattle.block.specs.Form.{message_of}
use Rattle.block.specs.Answers.{block_refusal, header_of, record_at}
use Rattle.block.proofs.BoolLaws.{joined}
use Rattle.block.proofs.AnswerLaws.{is_taken}
use Rattle.block.proofs.Theorems.{theorems}
use Rattle.memory.specs.Memory.{Memory}
use Rattle.memory.specs.Notices.{Notice}
use Rattle.memory.specs.Turns.{advance, mark_applying}
use Rattle.engine.specs.Answers.{Answer, WorkDone, Outcome}
use Rattle.engine.specs.Answers.Answer.{refused, made, began, got, wrote, queued, read_only, withdrew, reported, sent, kept, worked, loaded, noticed, restarted}
use Rattle.engine.specs.Client.{begin_at, read_only_at, queue_at, rewrite_at, insert_write, stale_at, withdraw_at, report_step}
use Rattle.engine.specs.Moves.{out_at_turn, message_for, send_refusal, send_now, deliver_now, block_at_turn, writeset_at, is_last, pass_next, commit_writeset, next_at_turn, pass_out}
use Rattle.engine.specs.Calls.{Call, step}
use Rattle.engine.specs.Calls.Call.{begin, read, write, ask, withdraw, report, send, deliver, work, load, notice}
use Rattle.engine.specs.Restart.{is_good, blocks_in, first_blocks, restart_step}
use Rattle.engine.specs.History.AnyCall.{call, restart}
use Rattle.engine.proofs.Tests.{cond_by}
use Rattle.engine.proofs.Steps.{begin-by, read_by, write-by, ask-by, withdraw-by, send_by, deliver-by, work-by, load-by, notice-by, restart-by}
use Rattle.engine.proofs.Shaping.{bumps}
use Rattle.engine.proofs.NoticeClaims.{next-sendable}
use Rattle.engine.proofs.ShapeTurn.{Working, working}
use Rattle.engine.proofs.RestartLaws.{AllGood, good_none, good_cons, good_taken, reads_good, reads_first}
use Rattle.protocol.specs.Writesets.{Message}
use Rattle.protocol.specs.Moves.{out_here}
use Rattle.protocol.specs.Replica.{Event}
use Rattle.protocol.specs.Journal as model
use Rattle.protocol.specs.Journal.{Journal, journal, append, Cut, next_of, appended}
use Rattle.protocol.specs.Blocks.{all_bytes, read_blocks}
use Rattle.protocol.proofs.BlockLaws.{cut-of-bytes}
use Rattle.protocol.proofs.SequenceLaws.{map-append}
use Rattle.agreement.specs.Group.{message_in, heard, disk, journal_after, Lent}
use Rattle.agreement.proofs.View.{out-same, setup, place_at, view, Sound}
use Rattle.agreement.proofs.PlaceView.{place-taken}
use Rattle.agreement.proofs.Sendable.{sendable}
use Rattle.agreement.proofs.RestartView.{read_enough}
use Rattle.agreement.proofs.RestartAnswers.{NoRestart, no_restart}
use Rattle.agreement.proofs.RestartStep.{lent_messages}

-- ---- blocks joined

all_bytes_append : (a b : List (List ℕ)) → all_bytes (a ++ b) ≡ all_bytes a ++ all_bytes b
unfolding all_bytes
all_bytes_append [] b = refl
all_bytes_append (x ∷ a) b = rw (all_bytes_append a b) (sym (append_assoc x (all_bytes a) (all_bytes b)))

pub all_bytes_first : (c : ℕ) (bytes : List ℕ) → all_bytes (first_blocks c bytes) ≡ take (512 * c) bytes
unfolding all_bytes first_blocks
all_bytes_first zero bytes = refl
all_bytes_first (suc c) bytes =
    ap (λ (l : List ℕ). take 512 bytes ++ l) (all_bytes_first c (drop 512 bytes))
    ∙ sym (take-add 512 (512 * c) bytes)
    ∙ ap (λ (k : ℕ). take k bytes) (let e : 512 + 512 * c ≡ 512 * suc c = omega arith in e)

good_append : (n : ℕ) (a b : List (List ℕ)) → AllGood n a → AllGood n b → AllGood n (a ++ b)
good_append n a b f g c q = go (Memᴰ.append_cases a q)
  where
    go : Rattle.protocol.specs.Lists.Mem c a ⊎ Rattle.protocol.specs.Lists.Mem c b → is_good n c ≡ true
    go (inl h) = f c h
    go (inr h) = g c h

pub is_good_lem : (n : ℕ) (b : List ℕ) → block_refusal b ≡ 0 → (header_of b).replicas ≡ n → is_good n b ≡ true
unfolding is_good
is_good_lem n b e f = joined (eq-eqb _ 0 e) (eq-eqb _ n f)

-- ---- the disk

-- the bytes are of good blocks with these messages
pub record OnDisk (n : ℕ) (bytes : List ℕ) (messages : List (Message ℤ)) : Type 0 where
  pub blocks : List (List ℕ)
  pub joined : all_bytes blocks ≡ bytes
  pub good : AllGood n blocks
  pub says : map message_in blocks ≡ messages

pub no_block : (n : ℕ) → OnDisk n [] []
unfolding all_bytes
no_block n = record { blocks = []; joined = refl; good = good_none n; says = refl }

one_block : (n : ℕ) (b : List ℕ) → is_good n b ≡ true → OnDisk n b (message_in b ∷ [])
unfolding all_bytes
one_block n b g = record { blocks = b ∷ []; joined = append-nil b; good = good_cons n b [] g (good_none n); says = refl }

-- ---- what a call appends

-- the bytes: a send's block; another's, where the turn leaves its slot; the *next* of an out slot
abbrev appended_in : Answer → List ℕ
appended_in (refused n) = []
appended_in made = []
appended_in (began t) = []
appended_in (got v) = []
appended_in wrote = []
appended_in queued = []
appended_in read_only = []
appended_in withdrew = []
appended_in (reported r) = []
appended_in (sent b) = b
appended_in kept = []
appended_in (worked s) = s.append
appended_in loaded = []
appended_in noticed = []
appended_in (restarted c b) = []

abbrev AppendedBlocks : ℕ → List ℕ → Option (Message ℤ) → Type 0
AppendedBlocks n bytes more = OnDisk n bytes (append [] more)

-- the turn leaves the slot of b, from `slot` to `turn`
left_block : (n : ℕ) (b : List ℕ) → is_good n b ≡ true → (mine last : Bool) (slot turn : ℕ) → turn ≡ cond last (suc slot) slot
    → AppendedBlocks n (cond last (cond mine [] b) []) (cond mine none (cond (eqb turn slot) none (some (message_in b))))
left_block n b g true true slot turn e = no_block n
left_block n b g true false slot turn e = no_block n
left_block n b g false true slot turn e = rw (ne_eqb turn slot (λ q. let w : ⊥ = omega arith in w)) (one_block n b g)
left_block n b g false false slot turn e = rw (eq-eqb turn slot e) (no_block n)

module _ (n : ℕ) (start : List ℤ) (m : Memory) (s : Sound n m) where
  abbrev Appends : Call → Outcome → Type 0
  Appends c o = AppendedBlocks n (appended_in o.answer) (appended (setup n start) (view m) o.memory.turn.slot (heard (call c) o.answer))

  abbrev b : List ℕ
  b = block_at_turn m

  out-here : out_here (setup n start) (view m) m.turn.slot ≡ out_at_turn m
  out-here = out-same n start m s.size m.turn.slot

  -- an out slot is passed
  module _ (u : out_at_turn m ≡ true) where
    next-good : is_good n (block_of (next_at_turn m)) ≡ true
    unfolding header_of message_of
    next-good =
        let r = theorems.round_trip (next_at_turn m) (next-sendable m s.shape u) in
        is_good_lem n (block_of (next_at_turn m)) r.taken (ap (λ (x : Rattle.block.specs.Message.Message). x.replicas) r.message ∙ s.size)

    next-says : message_in (block_of (next_at_turn m)) ≡ next_of m.turn.slot (owner_of m.group.replicas m.turn.slot)
    unfolding message_in
    next-says = rw (theorems.round_trip (next_at_turn m) (next-sendable m s.shape u)).message refl

    out-appends : Appends work (pass_out m)
    unfolding pass_out heard appended
    out-appends =
        rw (out-here ∙ u, (bumps m s.shape).slot, ne_eqb (suc m.turn.slot) m.turn.slot (λ d. omega arith))
        (subst (λ (x : Message ℤ). OnDisk n (block_of (next_at_turn m)) (x ∷ [])) next-says (one_block n (block_of (next_at_turn m)) next-good))

  module _ (k : Working m) (live : out_at_turn m ≡ false) where
    waits : (block_refusal b ≡ 0) × ((header_of b).slot ≡ m.turn.slot) × ((header_of b).replicas ≡ m.group.replicas)
    waits = s.shape.places.waits m.turn.slot (omega arith) (omega (arith, s.shape.ranges.least)) k.waits

    turn-good : is_good n b ≡ true
    turn-good = is_good_lem n b waits.0 (waits.2 ∙ s.size)

    found : place_at m.blocks.places (m.turn.slot % n) ≡ some (message_in b)
    found = subst (λ (r : ℕ). place_at m.blocks.places (m.turn.slot % r) ≡ some (message_in b)) s.size (place-taken m.group.replicas m.turn.slot m.blocks.places k.waits)

    next-appends : Appends work (pass_next m)
    unfolding pass_next heard appended
    next-appends = rw (out-here ∙ live, found) (left_block n b turn-good (eqb (get_or b 1 0) m.group.own) true m.turn.slot _ (bumps m s.shape).slot)

    slot_after : (last mine : Bool) → (cond last (advance m.turn) (cond mine m.turn (mark_applying m.turn))).slot ≡ cond last (suc m.turn.slot) m.turn.slot
    slot_after true mine = (bumps m s.shape).slot
    slot_after false true = refl
    slot_after false false = refl

    writeset-appends : 1 ≤ (record_at b m.counts.done).ticket → Appends work (commit_writeset m (eqb (get_or b 1 0) m.group.own) (writeset_at b m.counts.done))
    unfolding commit_writeset heard appended
    writeset-appends h =
        rw (ne_eqb (record_at b m.counts.done).ticket 0 (λ e. let w : ⊥ = omega arith in w), found)
        (left_block n b turn-good (eqb (get_or b 1 0) m.group.own) (is_last m) m.turn.slot _ (slot_after (is_last m) (eqb (get_or b 1 0) m.group.own)))

  sent-good : (l : List ℕ) → send_refusal m l ≡ 0 → is_good n (block_of (message_for m)) ≡ true
  unfolding header_of message_of message_for
  sent-good l e =
      let r = theorems.round_trip (message_for m) (sendable n m s l e) in
      is_good_lem n (block_of (message_for m)) r.taken (ap (λ (x : Rattle.block.specs.Message.Message). x.replicas) r.message ∙ s.size)

  pub appends : (c : Call) → Appends c (step m c)
  unfolding heard appended begin_at stale_at rewrite_at insert_write read_only_at queue_at withdraw_at send_now deliver_now
  appends begin = begin-by (Appends begin) m (λ e. no_block n) (λ e. no_block n)
  appends (read t i) = read_by (Appends (read t i)) m t i (λ e. no_block n) (λ e. no_block n)
  appends (write t i v) = write-by (Appends (write t i v)) m t i v (λ e. no_block n) (λ e o. no_block n) (λ e o. no_block n) (λ k e q. no_block n)
  appends (ask t) = ask-by (Appends (ask t)) m t (λ e. no_block n) (λ e o. no_block n) (λ e. no_block n)
  appends (withdraw t) = withdraw-by (Appends (withdraw t)) m t (λ e. no_block n) (λ e. no_block n)
  appends report = unfold step report_step in no_block n
  appends (send l) = send_by (Appends (send l)) m l (λ e. one_block n (block_of (message_for m)) (sent-good l e)) (λ k e q. no_block n)
  appends (deliver l) = deliver-by (Appends (deliver l)) m l (λ e. no_block n) (λ e. no_block n)
  appends work =
      work-by (Appends work) m
      (λ e u. out-appends u)
      (λ a k. next-appends (working m s.shape a) a.live)
      (λ a k. let w = working m s.shape a in writeset-appends w a.live (w.ticket k))
      (λ e. no_block n)
  appends (load l) = load-by (Appends (load l)) m l (λ e. no_block n) (λ e. no_block n)
  appends (notice a) = notice-by (Appends (notice a)) m a (λ e. no_block n) (λ e. no_block n)

-- ---- the disk after a call

append-one : (l : List (Message ℤ)) (more : Option (Message ℤ)) → append l more ≡ l ++ append [] more
append-one l none = sym (append-nil l)
append-one l (some m) = refl

module _ (n : ℕ) (l : List ℕ) (J : Journal ℤ) (H : OnDisk n l J.kept) where
  grows : (bytes : List ℕ) (more : Option (Message ℤ)) → AppendedBlocks n bytes more → OnDisk n (l ++ bytes) (append J.kept more)
  grows bytes more A = record {
    blocks = H.blocks ++ A.blocks;
    joined = all_bytes_append H.blocks A.blocks ∙ ap (λ (x : List ℕ). x ++ all_bytes A.blocks) H.joined ∙ ap (λ (x : List ℕ). l ++ x) A.joined;
    good = good_append n H.blocks A.blocks H.good A.good;
    says = map-append message_in H.blocks A.blocks ∙ ap (λ (x : List (Message ℤ)). x ++ map message_in A.blocks) H.says
        ∙ ap (λ (x : List (Message ℤ)). J.kept ++ x) A.says ∙ sym (append-one J.kept more);
  }

  stays : (more : Option (Message ℤ)) → AppendedBlocks n [] more → OnDisk n l (append J.kept more)
  stays more A = subst (λ (x : List ℕ). OnDisk n x (append J.kept more)) (append-nil l) (grows [] more A)

  worked-journal : (more : Option (Message ℤ)) (out : Bool) (c : Call) (w : WorkDone) → (model.journal_after J more out (heard (call c) (worked w))).kept ≡ append J.kept more
  unfolding heard model.journal_after
  worked-journal more out c w = cond_by (λ (e : Event ℤ). (model.journal_after J more out e).kept ≡ append J.kept more) (eqb w.ticket 0) (λ q. refl) (λ q. refl)

  -- by what is answered; `more` is what the model appends
  disk-by : (c : Call) (a : Answer) (more : Option (Message ℤ)) (out : Bool) → AppendedBlocks n (appended_in a) more → NoRestart a
      → OnDisk n (journal_after l (call c) a) (model.journal_after J more out (heard (call c) a)).kept × OnDisk n (journal_after l (call c) a) (append J.kept more)
  unfolding heard model.journal_after
  disk-by c (refused k) more out A q = (stays more A, stays more A)
  disk-by c made more out A q = (stays more A, stays more A)
  disk-by c (began t) more out A q = (stays more A, stays more A)
  disk-by c (got v) more out A q = (stays more A, stays more A)
  disk-by c wrote more out A q = (stays more A, stays more A)
  disk-by c queued more out A q = (stays more A, stays more A)
  disk-by c read_only more out A q = (stays more A, stays more A)
  disk-by c withdrew more out A q = (stays more A, stays more A)
  disk-by c (reported r) more out A q = (stays more A, stays more A)
  disk-by c (sent b) more out A q = (grows b more A, grows b more A)
  disk-by c kept more out A q = (stays more A, stays more A)
  disk-by c (worked w) more out A q = (rw (worked-journal more out c w) (grows w.append more A), grows w.append more A)
  disk-by c loaded more out A q = (stays more A, stays more A)
  disk-by c noticed more out A q = (stays more A, stays more A)
  disk-by c (restarted k b) more out A q = absurd q

  -- what the model appends in a call
  abbrev more_in : List ℤ → Memory → Call → Option (Message ℤ)
  more_in start m c = appended (setup n start) (view m) (step m c).memory.turn.slot (heard (call c) (step m c).answer)

  pub disk-call : (start : List ℤ) (m : Memory) → Sound n m → (c : Call) (out : Bool)
      → OnDisk n (journal_after l (call c) (step m c).answer) (model.journal_after J (more_in start m c) out (heard (call c) (step m c).answer)).kept
  disk-call start m s c out = (disk-by c (step m c).answer (more_in start m c) out (appends n start m s c) (no_restart m c)).0

  -- an accepted one with the group's N
  pub disk-restart : (start : List ℤ) (m : Memory) (size own : ℕ) (values : List ℤ) (bytes : List ℕ) (notices : List Notice) (b : List ℕ) (out : Bool)
      → let o = restart_step m size own values bytes notices b in let c = restart size own values bytes notices b in ((x : ℕ) (y : List ℕ) → o.answer ≡ restarted x y → size ≡ n)
      → OnDisk n (journal_after l c o.answer) (model.journal_after J (appended (setup n start) (view m) o.memory.turn.slot (heard c o.answer)) out (heard c o.answer)).kept
  unfolding heard model.journal_after appended
  disk-restart start m size own values bytes notices b out =
      let first = reads_first size 0 (length bytes / 512) bytes in
      restart-by (λ (o : Outcome). ((x : ℕ) (y : List ℕ) → o.answer ≡ restarted x y → size ≡ n) → OnDisk n (journal_after l (restart size own values bytes notices b) o.answer)
      (model.journal_after J (appended (setup n start) (view m) o.memory.turn.slot (heard (restart size own values bytes notices b) o.answer)) out
      (heard (restart size own values bytes notices b) o.answer)).kept) m size own values bytes notices b
      (λ e f. record {
        blocks = blocks_in size bytes;
        joined = ap all_bytes (sym first) ∙ all_bytes_first (length (blocks_in size bytes)) bytes;
        good = subst (λ (i : ℕ). AllGood i (blocks_in size bytes)) (f _ _ refl) (reads_good size 0 (length bytes / 512) bytes);
        says = refl;
      })
      (λ e f. H)

  -- ---- what a cut leaves

  pub lent_cut : (start : List ℤ) (m : Memory) → Sound n m → (floor : ℕ) → 512 * J.safe ≤ floor → (bytes : List ℕ) (L : Lent m (disk l floor) bytes)
      → Cut J (more_in start m L.ended) (lent_messages n bytes)
  lent_cut start m s floor low bytes L =
      subst (Cut J more) (sym same)
      (cut-of-bytes 512 (omega arith) (is_good n) message_in J more most G.blocks (omega arith) (λ x q. ((is_taken x (good_taken n x (G.good x q))).long, G.good x q)) G.says L.count
      (rw (← part) (let h = L.enough in omega arith)))
    where
      more : Option (Message ℤ)
      more = more_in start m L.ended

      G : OnDisk n (journal_after l (call L.ended) (step m L.ended).answer) (append J.kept more)
      G = (disk-by L.ended (step m L.ended).answer more false (appends n start m s L.ended) (no_restart m L.ended)).1

      part : bytes ≡ take L.count (all_bytes G.blocks)
      part = L.part ∙ ap (take L.count) (sym G.joined)

      most : ℕ
      most = length G.blocks + length bytes

      same : lent_messages n bytes ≡ map message_in (read_blocks 512 (is_good n) most (take L.count (all_bytes G.blocks)))
      same =
          ap (map message_in)
          (read_enough (is_good n) (length bytes / 512) most bytes (let h = lt-mul-div-succ (length bytes) {b = 512} (omega arith) in omega arith) (omega arith)
          ∙ ap (read_blocks 512 (is_good n) most) part)
