-- What a client's calls show, by the reply that each gives. Assumes nothing.
use Prim.Native.Nat.{ℕ}
use mathlib.Core.Path.{◌≡◌, refl}
use mathlib.Core.Bool.{true, false, cond}
use mathlib.Core.List.{List, [], ◌∷◌}
use lib.Dec.{eqb}
use lib.IntN.{ℤ}
use lib.ListN.{take, replicate}
use Rattle.memory.specs.Memory.{Memory, numberless}
use Rattle.memory.specs.Rows.{write_count}
use Rattle.engine.specs.Answers.{Outcome}
use Rattle.engine.specs.Classes.{load_refusal, load_step}
use Rattle.engine.specs.Client.{row_in, is_own, begin_row, begin_refusal, begin_at, read_row, read_refusal, write_row, write_refusal, stale_at, rewrite_at, insert_write, ask_row, ask_refusal, read_only_at, queue_at, withdraw_row, withdraw_refusal, withdraw_at, report_step, write_step}
use Rattle.engine.specs.Calls.{step}
use Rattle.engine.specs.Calls.Call.{write}
use Rattle.call_reply.specs.declared.BeginReply.{BeginReply}
use Rattle.call_reply.specs.declared.ReadReply.{ReadReply}
use Rattle.call_reply.specs.declared.AskReply.{AskReply}
use Rattle.call_reply.specs.declared.ReportReply.{ReportReply}
use Rattle.call_reply.specs.Replies.{ticket_in, value_in, is_read_only, number, begin_reply, read_reply, ask_reply, report_reply, Gives}
use Rattle.replay_journal.specs.declared.Change.TheVariants.{Stays}
use Rattle.replay_replica.specs.declared.Played.{Played}
use Rattle.replay_replica.specs.declared.Replica.{Replica}
use Rattle.replay_replica.specs.Effects.{memory_of, effect, Plays}
use Rattle.replay_replica.proofs.EffectLaws.{Bare, bare-refused, by_number, unless-by, station-refuses, replica-does}

-- ---- calls that give a number alone

module _ (lent : List ℕ) where
  pub bare-write : (m : Memory) (at item : ℕ) (value : ℤ) → Bare lent (write_row m at item value)
  unfolding write_row stale_at rewrite_at insert_write
  bare-write m at item value =
      by_number (Bare lent) (eqb (write_refusal m at item) 9)
      (λ e. record { numbers = refl; values = refl; block = refl; change = refl })
      (λ e. unless-by (Bare lent) (write_refusal m at item) m _
      (by_number (Bare lent) (is_own m at item) (λ e. record { numbers = refl; values = refl; block = refl; change = refl }) (λ e. record { numbers = refl; values = refl; block = refl; change = refl }))
      (λ e. bare-refused lent _ m))

  pub bare-withdraw : (m : Memory) (at : ℕ) → Bare lent (withdraw_row m at)
  unfolding withdraw_row withdraw_at
  bare-withdraw m at = unless-by (Bare lent) (withdraw_refusal m at) m _ (record { numbers = refl; values = refl; block = refl; change = refl }) (λ e. bare-refused lent _ m)

  pub bare-load : (m : Memory) (classes : List ℕ) → Bare lent (load_step m classes)
  unfolding load_step
  bare-load m classes = unless-by (Bare lent) (load_refusal m classes) m _ (record { numbers = refl; values = refl; block = refl; change = refl }) (λ e. bare-refused lent _ m)

-- ---- calls that give numbers or a value where they are accepted

module _ (m : Memory) (lent : List ℕ) (zeros : List ℕ) where
  begin-shows : (o : Outcome) → Type 0
  begin-shows o = record {
    number = number o;
    numbers = take (cond (eqb (number o) 0) 1 0) (ticket_in o.answer ∷ zeros);
    values = [];
    block = lent;
    memory = o.memory;
    change = Stays;
  } ≡ effect lent o

  pub begin-effect : (at : ℕ) {r : BeginReply} {left : Memory} → Gives begin_reply (begin_row m at) r left
      → record { number = r.number; numbers = take (cond (eqb r.number 0) 1 0) (r.ticket ∷ zeros); values = []; block = lent; memory = left; change = Stays } ≡ effect lent (begin_row m at)
  unfolding begin_row begin_at begin-shows
  begin-effect at g = rw (g.0, g.1) (unless-by begin-shows (begin_refusal m at) m (begin_at m at) refl (λ e. rw e))

  ask-shows : (o : Outcome) → Type 0
  ask-shows o = record {
    number = number o;
    numbers = take (cond (eqb (number o) 0) 1 0) (cond (is_read_only o.answer) 1 0 ∷ zeros);
    values = [];
    block = lent;
    memory = o.memory;
    change = Stays;
  } ≡ effect lent o

  pub ask-effect : (at : ℕ) {r : AskReply} {left : Memory} → Gives ask_reply (ask_row m at) r left
      → record { number = r.number; numbers = take (cond (eqb r.number 0) 1 0) (cond r.read_only 1 0 ∷ zeros); values = []; block = lent; memory = left; change = Stays }
      ≡ effect lent (ask_row m at)
  unfolding ask_row read_only_at queue_at ask-shows
  ask-effect at g =
      rw (g.0, g.1)
      (unless-by ask-shows (ask_refusal m at) m _ (by_number ask-shows (eqb (write_count (row_in m at)) 0) (λ e. refl) (λ e. refl)) (λ e. rw e))

  pub report-effect : {r : ReportReply} {left : Memory} → Gives report_reply (report_step m) r left
      → record { number = r.number; numbers = take (cond (eqb r.number 0) 8 0) (r.report.turn ∷ (r.report.commits ∷ (r.report.tickets ∷ (r.report.open_count ∷ (r.report.committed ∷ (r.report.read_only ∷ (r.report.aborted ∷ (r.report.withdrawn ∷ zeros)))))))); values = []; block = lent; memory = left; change = Stays }
      ≡ effect lent (report_step m)
  unfolding report_step
  report-effect g = rw (g.0, g.1)

module _ (m : Memory) (lent : List ℕ) where
  read-shows : (o : Outcome) → Type 0
  read-shows o = record {
    number = number o;
    numbers = [];
    values = take (cond (eqb (number o) 0) 1 0) (replicate 128 (value_in o.answer));
    block = lent;
    memory = o.memory;
    change = Stays;
  } ≡ effect lent o

  pub read-effect : (at item : ℕ) {r : ReadReply} {left : Memory} → Gives read_reply (read_row m at item) r left
      → record { number = r.number; numbers = []; values = take (cond (eqb r.number 0) 1 0) (replicate 128 r.value); block = lent; memory = left; change = Stays }
      ≡ effect lent (read_row m at item)
  unfolding read_row read-shows
  read-effect at item g = rw (g.0, g.1) (unless-by read-shows (read_refusal m at item) m _ refl (λ e. rw e))

-- ---- a write, which a station refuses

module _ (size : ℕ) (replica : Replica) {p : Played} (lent : List ℕ) (ticket item : ℕ) (value : ℤ) where
  pub write-refused : numberless replica.group ≡ true
      → p ≡ record { replica = replica; number = 25; count = 0; numbers = p.numbers; shown = 0; values = p.values; change = Stays }
      → Plays size replica p lent (effect lent (step (memory_of size replica) (write ticket item value)))
  unfolding step
  write-refused e is = station-refuses size replica lent (write_step (memory_of size replica) ticket item value) e is

  pub write-does : numberless replica.group ≡ false → Plays size replica p lent (effect lent (write_step (memory_of size replica) ticket item value))
      → Plays size replica p lent (effect lent (step (memory_of size replica) (write ticket item value)))
  unfolding step
  write-does e h = replica-does size replica lent (write_step (memory_of size replica) ticket item value) e h
