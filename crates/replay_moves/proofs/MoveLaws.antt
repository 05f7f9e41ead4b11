-- What the calls that make a replica, restart it and move its turn show, by the reply that each gives. Assumes nothing.
use Prim.Native.Nat.{ℕ, suc, ◌+◌, ◌-◌, ◌%◌, ◌≤◌}
use mathlib.Core.Path.{◌≡◌, refl, ap}
use mathlib.Core.Bool.{Bool, true, false, cond, not}
use mathlib.Core.List.{List, [], ◌∷◌}
use native.Mathlib.Omega.{arith}
use borrow.Author.Tests.{eq-eqb, eqb-false}
use lib.Dec.{eqb}
use lib.IntN.{ℤ}
use lib.ListN.{length, get_or, take, replicate}
use lib.Seq.{take-append_seam}
use Rattle.memory.specs.Memory.{Memory, numberless}
use Rattle.memory.specs.Notices.{Notice}
use Rattle.memory.specs.Window.{kept_block}
use Rattle.engine.specs.Answers.{WorkDone, Answer, Outcome, outcome}
use Rattle.engine.specs.Answers.Answer.{refused, made, began, got, wrote, queued, read_only, withdrew, reported, sent, kept, worked, loaded, noticed, restarted}
use Rattle.engine.specs.Make.{make_refusal, make_step}
use Rattle.engine.specs.Calls.{step}
use Rattle.engine.specs.Calls.Call.{send}
use Rattle.engine.specs.Moves.{deliver_refusal, deliver_now, deliver_step, send_refusal, send_now, send_step, block_at_turn, out_at_turn, work_refusal, writeset_at, pass_out, pass_block, pass_next, commit_writeset, work_step}
use Rattle.engine.specs.Notices.{notice_refusal, notice_step}
use Rattle.engine.specs.Restart.{restart_refusal, restart_step}
use Rattle.engine.proofs.Restarts.{restarts}
use Rattle.engine.proofs.Tests.{bool_by}
use Rattle.engine.proofs.Window.{window_claims}
use Rattle.call_reply.specs.declared.RestartReply.{RestartReply}
use Rattle.call_reply.specs.declared.WorkReply.{WorkReply}
use Rattle.call_reply.specs.Notices.{notices_in, restart_lent}
use Rattle.call_reply.specs.Replies.{step_in, count_in, number, six_of, work_reply, restart_reply, Gives, block_left, GivesWith, GivesBlock}
use Rattle.replay_journal.specs.declared.Change.{Change}
use Rattle.replay_journal.specs.declared.Change.TheVariants.{Stays, Grows, Begins}
use Rattle.replay_replica.specs.declared.Played.{Played}
use Rattle.replay_replica.specs.declared.Replica.{Replica}
use Rattle.replay_replica.specs.Effects.{memory_of, over, Effect, effect, Plays}
use Rattle.replay_replica.proofs.EffectLaws.{Bare, bare-refused, by_number, unless-by, plays-bare, station-refuses, replica-does, six-few}

-- ---- restart

module _ (m : Memory) (n own : ℕ) (values : List ℤ) (journal notices lent zeros : List ℕ) where
  restart-shows : (o : Outcome) → Type 0
  restart-shows o = record {
    number = number o;
    numbers = take (cond (eqb (number o) 0) 1 0) (count_in o.answer ∷ zeros);
    values = [];
    block = block_left o.answer lent;
    memory = o.memory;
    change = cond (eqb (number o) 0) (Begins (count_in o.answer)) Stays;
  } ≡ effect lent o

  pub restart-effect : {r : RestartReply} {left : Memory} {block : List ℕ} → GivesWith restart_reply (restart_lent m n own values journal notices lent) lent r left block
      → record {
        number = r.number;
        numbers = take (cond (eqb r.number 0) 1 0) (r.count ∷ zeros);
        values = [];
        block = block;
        memory = left;
        change = cond (eqb r.number 0) (Begins r.count) Stays;
      } ≡ effect lent (restart_lent m n own values journal notices lent)
  unfolding restart_lent restart_step restart-shows
  restart-effect g =
      rw (g.0.0, g.0.1, g.1)
      (by_number restart-shows (eqb (length notices % 3) 0) (λ e. unless-by restart-shows (restart_refusal m n own values lent) m _ refl (λ f. rw f)) (λ e. refl))

-- lent no numbers, it is lent no notices
pub lent_none : (m : Memory) (n own : ℕ) (values : List ℤ) (journal block : List ℕ) → restart_lent m n own values journal [] block ≡ restart_step m n own values journal [] block
unfolding restart_lent notices_in
lent_none m n own values journal block = refl

-- ---- make: a restart from no journal, lent no notices, with no block given back

bare_made : Outcome → List ℕ → Effect
bare_made o lent = record { number = number o; numbers = []; values = []; block = lent; memory = o.memory; change = cond (eqb (number o) 0) (Begins 0) Stays }

-- by whether the refusal is 0
made_shows : (b : Bool) (refusal count : ℕ) (block lent : List ℕ) (m left : Memory) → eqb refusal 0 ≡ b
    → bare_made (cond b (outcome (restarted count block) left) (outcome (refused refusal) m)) lent
    ≡ effect lent (cond b (outcome made left) (outcome (refused refusal) m))
unfolding bare_made
made_shows true refusal count block lent m left e = refl
made_shows false refusal count block lent m left e = rw e

module _ (m : Memory) (n own : ℕ) (values : List ℤ) (block : List ℕ) (long : length block ≡ 512) where
  same-refusal : restart_refusal m n own values block ≡ make_refusal m n own values
  unfolding restart_refusal make_refusal
  same-refusal = rw (eq-eqb (length block) 512 long)

  make-effect : (lent : List ℕ) → bare_made (restart_step m n own values [] [] block) lent ≡ effect lent (make_step m n own values)
  unfolding restart_step make_step
  make-effect lent = rw (same-refusal, restarts.empty n own values) (made_shows (eqb (make_refusal m n own values) 0) _ _ _ lent m _ refl)

module _ (size : ℕ) (replica : Replica) (n own : ℕ) (values : List ℤ) (block : List ℕ) {p q : Played} {left : List ℕ} where
  pub plays-make : length block ≡ 512 → Plays size replica p left (effect block (restart_step (memory_of size replica) n own values [] [] block))
      → q ≡ record {
        replica = p.replica;
        number = p.number;
        count = 0;
        numbers = q.numbers;
        shown = 0;
        values = q.values;
        change = cond (eqb p.number 0) (Begins 0) Stays;
      }
      → (lent : List ℕ) → Plays size replica q lent (effect lent (make_step (memory_of size replica) n own values))
  unfolding bare_made
  plays-make long h is lent =
      plays-bare is
      (rw (ap (λ (e : Effect). e.number) h.is, ap (λ (e : Effect). e.memory) h.is) (make-effect (memory_of size replica) n own values block long lent))
      h.rest

-- ---- send: its block is in the bytes lent

module _ (m : Memory) (lent : List ℕ) where
  send-shows : (o : Outcome) → Type 0
  send-shows o = record {
    number = number o;
    numbers = [];
    values = [];
    block = block_left o.answer lent;
    memory = o.memory;
    change = cond (eqb (number o) 0) Grows Stays;
  } ≡ effect lent o

  pub send-effect : {r : ℕ} {left : Memory} {block : List ℕ} → GivesBlock (send_step m lent) lent r left block
      → record { number = r; numbers = []; values = []; block = block; memory = left; change = cond (eqb r 0) Grows Stays } ≡ effect lent (send_step m lent)
  unfolding send_step send_now send-shows
  send-effect g = rw (g.0.0, g.0.1, g.1) (unless-by send-shows (send_refusal m lent) m _ refl (λ e. rw e))

-- a station refuses it
module _ (size : ℕ) (replica : Replica) {p : Played} (lent : List ℕ) where
  pub send-refused : numberless replica.group ≡ true
      → p ≡ record { replica = replica; number = 25; count = 0; numbers = p.numbers; shown = 0; values = p.values; change = Stays }
      → Plays size replica p lent (effect lent (step (memory_of size replica) (send lent)))
  unfolding step
  send-refused e is = station-refuses size replica lent (send_step (memory_of size replica) lent) e is

  pub send-does : {left : List ℕ} → numberless replica.group ≡ false → Plays size replica p left (effect lent (send_step (memory_of size replica) lent))
      → Plays size replica p left (effect lent (step (memory_of size replica) (send lent)))
  unfolding step
  send-does e h = replica-does size replica lent (send_step (memory_of size replica) lent) e h

-- ---- deliver, and a notice

module _ (lent : List ℕ) where
  pub bare-deliver : (m : Memory) (bytes : List ℕ) → Bare lent (deliver_step m bytes)
  unfolding deliver_step deliver_now
  bare-deliver m bytes = unless-by (Bare lent) (deliver_refusal m bytes) m _ (record { numbers = refl; values = refl; block = refl; change = refl }) (λ e. bare-refused lent _ m)

  pub bare-notice : (m : Memory) (a : Notice) → Bare lent (notice_step m a)
  unfolding notice_step
  bare-notice m a = unless-by (Bare lent) (notice_refusal m a) m _ (record { numbers = refl; values = refl; block = refl; change = refl }) (λ e. bare-refused lent _ m)

-- ---- work

either_way : {A : Type 0} (b : Bool) (x y : A) → cond (not b) x y ≡ cond b y x
either_way true x y = refl
either_way false x y = refl

-- only a work has a block for the journal
appends_worked : (a : Answer) → ((step_in a).append ≡ [] → ⊥) → a ≡ worked (step_in a)
appends_worked (worked s) h = refl
appends_worked (refused n) h = absurd (h refl)
appends_worked made h = absurd (h refl)
appends_worked (began t) h = absurd (h refl)
appends_worked (got v) h = absurd (h refl)
appends_worked wrote h = absurd (h refl)
appends_worked queued h = absurd (h refl)
appends_worked read_only h = absurd (h refl)
appends_worked withdrew h = absurd (h refl)
appends_worked (reported r) h = absurd (h refl)
appends_worked (sent b) h = absurd (h refl)
appends_worked kept h = absurd (h refl)
appends_worked loaded h = absurd (h refl)
appends_worked noticed h = absurd (h refl)
appends_worked (restarted c b) h = absurd (h refl)

module _ (m : Memory) (lent : List ℕ) where
  work-shows : (o : Outcome) → Type 0
  work-shows o =
      let s = step_in o.answer in
      record {
        number = number o;
        numbers = take (cond (eqb (number o) 0) (4 + length s.aborted) 0) (s.sender ∷ (s.ticket ∷ (cond s.moved 1 0 ∷ (length s.aborted ∷ six_of s.aborted))));
        values = [];
        block = cond (not (eqb (length s.append) 0)) (over lent s.append) lent;
        memory = o.memory;
        change = cond (not (eqb (length s.append) 0)) Grows Stays;
      } ≡ effect lent o

  worked-shows : (s : WorkDone) (left : Memory) → work-shows (outcome (worked s) left)
  unfolding work-shows
  worked-shows s left =
      let l = s.aborted in
      let e : 4 + length l ≡ suc (suc (suc (suc (length l)))) = omega arith in
      rw (
        e,
        take-append_seam l (replicate (6 - length l) 0),
        either_way {A = Change} (eqb (length s.append) 0) Grows Stays,
        either_way {A = List ℕ} (eqb (length s.append) 0) (over lent s.append) lent,
      )

  step-shows : work-shows (work_step m)
  unfolding work_step pass_out pass_block pass_next commit_writeset work-shows
  step-shows =
      let out = pass_out m in
      let next = pass_next m in
      let commit = commit_writeset m (eqb (get_or (block_at_turn m) 1 0) m.group.own) (writeset_at (block_at_turn m) m.counts.done) in
      unless-by work-shows (work_refusal m) m _
      (by_number work-shows (out_at_turn m) (λ e. worked-shows (step_in out.answer) out.memory)
      (λ e. by_number work-shows (eqb (get_or (block_at_turn m) 0 0) 1) (λ f. worked-shows (step_in next.answer) next.memory) (λ f. worked-shows (step_in commit.answer) commit.memory)))
      (λ e. rw e)

  -- the window has it
  kept-shows : let s = step_in (work_step m).answer in
      cond (not (eqb (length s.append) 0)) (over lent (kept_block (work_step m).memory.blocks.window m.turn.slot)) lent
      ≡ cond (not (eqb (length s.append) 0)) (over lent s.append) lent
  unfolding step
  kept-shows =
      let s = step_in (work_step m).answer in
      bool_by (eqb (length s.append) 0)
      (λ e. rw e)
      (λ e. let some : s.append ≡ [] → ⊥ = λ h. eqb-false (length s.append) 0 e (ap (λ (l : List ℕ). length l) h) in
      rw (window_claims.appends m s (appends_worked (work_step m).answer some) some))

  pub work-effect : {r : WorkReply} {left : Memory} {block : List ℕ} → Gives work_reply (work_step m) r left
      → block ≡ cond r.append (over lent (kept_block left.blocks.window m.turn.slot)) lent
      → record {
        number = r.number;
        numbers = take (cond (eqb r.number 0) (4 + r.count) 0) (r.sender ∷ (r.ticket ∷ (cond r.moved 1 0 ∷ (r.count ∷ r.aborted))));
        values = [];
        block = block;
        memory = left;
        change = cond r.append Grows Stays;
      } ≡ effect lent (work_step m)
  unfolding work-shows
  work-effect g b = rw (b, g.0, g.1, kept-shows) step-shows

-- six tickets at most
pub work_few : (o : Outcome) {r : WorkReply} {left : Memory} → Gives work_reply o r left → length r.aborted ≡ 6 → r.count ≤ 6
work_few o g h = rw g.0 (six-few (step_in o.answer).aborted (rw g.0 at h))
