-- What a call leaves is what is defined for its letter. Assumes nothing.
use Prim.Native.Nat.{ℕ}
use mathlib.Core.Path.{◌≡◌}
use mathlib.Core.Bool.{true, false}
use mathlib.Core.List.{List, []}
use mathlib.Core.Logic.{◌⊎◌, inl, inr}
use borrow.Author.Tests.{ne_eqb}
use lib.ListN.{replicate}
use Rattle.memory.specs.Memory.{Memory}
use Rattle.engine.specs.Answers.{Outcome}
use Rattle.engine.specs.Calls.{step}
use Rattle.engine.specs.Calls.Call.{write, send}
use Rattle.engine.specs.Make.{make_step}
use Rattle.engine.specs.Classes.{load_step}
use Rattle.engine.specs.Client.{begin_step, read_step, ask_step, withdraw_step, report_step}
use Rattle.engine.specs.Moves.{deliver_step, work_step}
use Rattle.engine.specs.Notices.{notice_step}
use Rattle.engine.specs.Restart.{restart_step}
use Rattle.engine.specs.Station.{station_step}
use Rattle.replay_parse.specs.declared.Call.{Call}
use Rattle.replay_replica.specs.declared.Played.{Played}
use Rattle.replay_replica.specs.declared.Replica.{Replica}
use Rattle.replay_replica.specs.Effects.{places_size, memory_of, effect, Plays}
use Rattle.replay_calls.specs.Letters.{size_lent, look, show, played}

module _ (c : Call) (replica : Replica) (p : Played) (bytes lent : List ℕ) where
  -- the contract of `run`
  abbrev Runs : List ℕ → Type 0
  Runs left = Plays (size_lent c replica.group) replica p left (played c bytes lent (memory_of (size_lent c replica.group) replica))

  -- a step that does not look at the places
  abbrev Client : (Memory → Outcome) → Type 0
  Client does = (size : ℕ) (block : List ℕ) → Plays size replica p block (effect block (does (memory_of size replica)))

  pub run-make : c.letter ≡ 77
      → ((block : List ℕ) → Plays (places_size c.first) replica p block (effect block (make_step (memory_of (places_size c.first) replica) c.first c.second (replicate 128 c.value))))
      → Runs lent
  unfolding played
  run-make e h = rw e (h lent)

  pub run-begin : c.letter ≡ 66 → Client (λ (m : Memory). begin_step m) → Runs lent
  unfolding played step
  run-begin e h = rw e (h (places_size replica.group.replicas) lent)

  pub run-read : c.letter ≡ 82 → Client (λ (m : Memory). read_step m c.first c.second) → Runs lent
  unfolding played step
  run-read e h = rw e (h (places_size replica.group.replicas) lent)

  pub run-ask : c.letter ≡ 67 → Client (λ (m : Memory). ask_step m c.first) → Runs lent
  unfolding played step
  run-ask e h = rw e (h (places_size replica.group.replicas) lent)

  pub run-withdraw : c.letter ≡ 88 → Client (λ (m : Memory). withdraw_step m c.first) → Runs lent
  unfolding played step
  run-withdraw e h = rw e (h (places_size replica.group.replicas) lent)

  pub run-report : c.letter ≡ 81 → Client (λ (m : Memory). report_step m) → Runs lent
  unfolding played step
  run-report e h = rw e (h (places_size replica.group.replicas) lent)

  pub run-send : (left : List ℕ) → c.letter ≡ 83 → ((size : ℕ) → Plays size replica p left (effect lent (step (memory_of size replica) (send lent)))) → Runs left
  unfolding played step
  run-send left e h = rw e (h (places_size replica.group.replicas))

  -- a step at the replica's own places
  abbrev AtPlaces : (Memory → Outcome) → Type 0
  AtPlaces does =
      (block : List ℕ) → Plays (places_size replica.group.replicas) replica p block (effect block (does (memory_of (places_size replica.group.replicas) replica)))

  pub run-write : c.letter ≡ 87 → AtPlaces (λ (m : Memory). step m (write c.first c.second c.value)) → Runs lent
  unfolding played step
  run-write e h = rw e (h lent)

  pub run-deliver : (c.letter ≡ 68) ⊎ ((c.letter ≡ 70) ⊎ (c.letter ≡ 72)) → AtPlaces (λ (m : Memory). deliver_step m bytes) → Runs lent
  unfolding played step
  run-deliver (inl e) h = rw e (h lent)
  run-deliver (inr (inl e)) h = rw e (h lent)
  run-deliver (inr (inr e)) h = rw e (h lent)

  pub run-work : (left : List ℕ) → c.letter ≡ 75
      → Plays (places_size replica.group.replicas) replica p left (effect lent (work_step (memory_of (places_size replica.group.replicas) replica)))
      → Runs left
  unfolding played step
  run-work left e h = rw e h

  pub run-restart : (left : List ℕ) → c.letter ≡ 89
      → Plays (places_size c.first) replica p left
      (effect lent (restart_step (memory_of (places_size c.first) replica) c.first c.second (replicate 128 c.value) bytes [] lent))
      → Runs left
  unfolding played
  run-restart left e h = rw e h

  pub run-load : c.letter ≡ 80 → Client (λ (m : Memory). load_step m bytes) → Runs lent
  unfolding played step
  run-load e h = rw e (h (places_size replica.group.replicas) lent)

  pub run-show : (left : List ℕ) → c.letter ≡ 74 → ((size : ℕ) → Plays size replica p left (show bytes lent (memory_of size replica))) → Runs left
  unfolding played
  run-show left e h = rw e (h (places_size replica.group.replicas))

  pub run-station : c.letter ≡ 65
      → ((block : List ℕ) → Plays (places_size c.first) replica p block (effect block (station_step (memory_of (places_size c.first) replica) c.first (replicate 128 c.value))))
      → Runs lent
  unfolding played
  run-station e h = rw e (h lent)

  pub run_out : c.letter ≡ 79 → AtPlaces (λ (m : Memory). notice_step m (record { about = c.first; out = true; slot = c.second })) → Runs lent
  unfolding played step
  run_out e h = rw e (h lent)

  pub run-back : c.letter ≡ 85 → AtPlaces (λ (m : Memory). notice_step m (record { about = c.first; out = false; slot = c.second })) → Runs lent
  unfolding played step
  run-back e h = rw e (h lent)

  -- any other letter
  pub run_look : (c.letter ≡ 77 → ⊥) → (c.letter ≡ 66 → ⊥) → (c.letter ≡ 82 → ⊥) → (c.letter ≡ 87 → ⊥) → (c.letter ≡ 67 → ⊥) → (c.letter ≡ 88 → ⊥)
      → (c.letter ≡ 81 → ⊥) → (c.letter ≡ 83 → ⊥) → ((c.letter ≡ 68) ⊎ ((c.letter ≡ 70) ⊎ (c.letter ≡ 72)) → ⊥) → (c.letter ≡ 75 → ⊥)
      → (c.letter ≡ 89 → ⊥) → (c.letter ≡ 80 → ⊥) → (c.letter ≡ 74 → ⊥) → (c.letter ≡ 65 → ⊥) → (c.letter ≡ 79 → ⊥) → (c.letter ≡ 85 → ⊥)
      → ((size : ℕ) (block : List ℕ) → Plays size replica p block (look block (memory_of size replica)))
      → Runs lent
  unfolding played
  run_look a b d e f g i j k l n q o s t u h =
      rw (
        ne_eqb c.letter 77 a,
        ne_eqb c.letter 89 n,
        ne_eqb c.letter 66 b,
        ne_eqb c.letter 82 d,
        ne_eqb c.letter 87 e,
        ne_eqb c.letter 67 f,
        ne_eqb c.letter 88 g,
        ne_eqb c.letter 81 i,
        ne_eqb c.letter 83 j,
        ne_eqb c.letter 68 (λ x. k (inl x)),
        ne_eqb c.letter 70 (λ x. k (inr (inl x))),
        ne_eqb c.letter 72 (λ x. k (inr (inr x))),
        ne_eqb c.letter 75 l,
        ne_eqb c.letter 80 q,
        ne_eqb c.letter 74 o,
        ne_eqb c.letter 65 s,
        ne_eqb c.letter 79 t,
        ne_eqb c.letter 85 u,
      )
      (h (places_size replica.group.replicas) lent)
