-- What the calls that differ at a station show. Assumes nothing.
use Prim.Native.Nat.{ℕ}
use mathlib.Core.Path.{◌≡◌, refl, sym, ap, ◌∙◌}
use mathlib.Core.Bool.{Bool, true, false, cond}
use mathlib.Core.List.{List, []}
use native.Mathlib.Omega.{arith}
use borrow.Author.Tests.{eq-eqb}
use lib.Dec.{eqb}
use lib.IntN.{ℤ}
use Rattle.memory.specs.Memory.{Memory, no_number, group_of}
use Rattle.engine.specs.Answers.{number_of, outcome}
use Rattle.engine.specs.Answers.Answer.{refused, made}
use Rattle.engine.specs.Make.{made_memory, make_refusal, make_step}
use Rattle.engine.specs.Station.{station_step}
use Rattle.engine.proofs.Stations.{stations}
use Rattle.replay_journal.specs.declared.Change.TheVariants.{Begins}
use Rattle.replay_replica.specs.declared.Played.{Played}
use Rattle.replay_replica.specs.declared.Replica.{Replica}
use Rattle.replay_replica.specs.Effects.{memory_of, Effect, effect, Plays}
use Rattle.replay_moves.specs.Makes.{with_group}
use Rattle.replay_replica.proofs.EffectLaws.{plays-bare}

-- ---- its make: a replica's with number 0, and then without it

abbrev unnumbered : Memory → Memory
unnumbered m = record { group = group_of m.group.replicas no_number; turn = m.turn; counts = m.counts; txns = m.txns; store = m.store; blocks = m.blocks }

-- by whether the refusal is 0
kept_either : (b : Bool) (k : ℕ) (m x y : Memory) → (number_of (cond b (outcome made x) (outcome (refused k) m)).answer ≡ 0 → ⊥)
    → cond b (outcome made x) (outcome (refused k) m) ≡ cond b (outcome made y) (outcome (refused k) m)
kept_either true k m x y h = absurd (h refl)
kept_either false k m x y h = refl

made_either : (b : Bool) (k : ℕ) (m x : Memory) (lent : List ℕ) → eqb k 0 ≡ b → number_of (cond b (outcome made x) (outcome (refused k) m)).answer ≡ 0
    → record { number = 0; numbers = []; values = []; block = lent; memory = unnumbered (cond b (outcome made x) (outcome (refused k) m)).memory; change = Begins 0 }
    ≡ effect lent (cond b (outcome made (unnumbered x)) (outcome (refused k) m))
made_either true k m x lent e h = refl
made_either false k m x lent e h =
    let z : ◌≡◌ {A = ℕ} 0 1 = cc (eq-eqb k 0 h) in
    absurd (omega arith)

module _ (m : Memory) (n : ℕ) (values : List ℤ) where
  kept_same : (number_of (make_step m n 0 values).answer ≡ 0 → ⊥) → make_step m n 0 values ≡ station_step m n values
  unfolding make_step station_step
  kept_same h = rw (stations.make-refusal m n values) (kept_either (eqb (make_refusal m n 0 values) 0) _ m _ _ h)

  made-same : (lent : List ℕ) → number_of (make_step m n 0 values).answer ≡ 0
      → record { number = 0; numbers = []; values = []; block = lent; memory = unnumbered (make_step m n 0 values).memory; change = Begins 0 } ≡ effect lent (station_step m n values)
  unfolding make_step station_step made_memory
  made-same lent h = rw (stations.make-refusal m n values) (made_either (eqb (make_refusal m n 0 values) 0) _ m (made_memory n 0 values) lent refl h)

module _ (size : ℕ) (replica : Replica) (n : ℕ) (values : List ℤ) {p : Played}
    (h : (lent : List ℕ) → Plays size replica p lent (effect lent (make_step (memory_of size replica) n 0 values))) where
  pub station-kept : (p.number ≡ 0 → ⊥) → (lent : List ℕ) → Plays size replica p lent (effect lent (station_step (memory_of size replica) n values))
  station-kept z lent = rw (kept_same (memory_of size replica) n values (λ e. z (ap (λ (x : Effect). x.number) (h lent).is ∙ e))) at (h lent)

  pub station-made : {q : Played} → p.number ≡ 0
      → q ≡ record {
        replica = with_group p.replica (group_of p.replica.group.replicas no_number);
        number = 0;
        count = 0;
        numbers = q.numbers;
        shown = 0;
        values = q.values;
        change = Begins 0;
      }
      → (lent : List ℕ) → Plays size replica q lent (effect lent (station_step (memory_of size replica) n values))
  station-made z is lent =
      plays-bare is
      (ap (λ (x : Effect). record { number = 0; numbers = []; values = []; block = lent; memory = unnumbered x.memory; change = Begins 0 }) (h lent).is
      ∙ made-same (memory_of size replica) n values lent (sym (ap (λ (x : Effect). x.number) (h lent).is) ∙ z))
      (h lent).rest
