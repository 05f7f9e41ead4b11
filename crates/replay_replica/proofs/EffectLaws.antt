-- What a call's outcome shows, by the reply that the call gives. Assumes nothing.
use Prim.Native.Nat.{ℕ, ◌-◌, ◌≤◌}
use mathlib.Core.Path.{◌≡◌, refl, ap, ◌∙◌}
use mathlib.Core.Bool.{Bool, true, false, cond}
use mathlib.Core.List.{List, [], ◌∷◌, ◌++◌}
use native.Mathlib.Omega.{arith}
use lib.Dec.{eqb}
use lib.IntN.{ℤ}
use lib.ListN.{length, get_or, take, drop, replicate, length-append, length-replicate}
use Rattle.memory.specs.Memory.{Memory, numberless}
use Rattle.engine.specs.Answers.{Outcome, outcome, unless, unless_station}
use Rattle.engine.specs.Answers.Answer.{refused}
use Rattle.call_reply.specs.Replies.{number, six_of, Gives}
use Rattle.replay_replica.specs.declared.Played.{Played}
use Rattle.replay_replica.specs.declared.Replica.{Replica}
use Rattle.replay_journal.specs.declared.Change.{Change}
use Rattle.replay_journal.specs.declared.Change.TheVariants.{Stays}
use Rattle.replay_replica.specs.Effects.{memory_of, numbers_of, values_of, change_of, block_given, Effect, effect, effect_of, Plays}

-- ---- refused or done

module _ (P : Outcome → Type 0) where
  pub by_number : (b : Bool) {o p : Outcome} → (b ≡ true → P o) → (b ≡ false → P p) → P (cond b o p)
  by_number true f g = f refl
  by_number false f g = g refl

  -- what holds of the outcome and of a refusal
  pub unless-by : (n : ℕ) (m : Memory) (o : Outcome) → P o → (eqb n 0 ≡ false → P (outcome (refused n) m)) → P (unless n m o)
  unless-by n m o f g = by_number (eqb n 0) (λ e. f) g

-- ---- results

module _ {size : ℕ} {block : List ℕ} {replica after : Replica} {p : Played} {n : ℕ} {e : Effect} where
  pub plays-numbers : {count : ℕ} {numbers : List ℕ} {change : Change}
      → p ≡ record { replica = after; number = n; count = count; numbers = numbers; shown = 0; values = p.values; change = change }
      → record { number = n; numbers = take count numbers; values = []; block = block; memory = memory_of size after; change = change } ≡ e
      → drop size after.places ≡ drop size replica.places
      → count ≤ 10
      → Plays size replica p block e
  plays-numbers is h k l = record {
    is = ap (λ (q : Played). effect_of size q block) is ∙ h;
    rest = ap (λ (q : Played). drop size q.replica.places) is ∙ k;
    count = rw is l;
    shown = rw is (omega arith);
  }

  pub plays-values : {shown : ℕ} {values : List ℤ}
      → p ≡ record { replica = after; number = n; count = 0; numbers = p.numbers; shown = shown; values = values; change = Stays }
      → record { number = n; numbers = []; values = take shown values; block = block; memory = memory_of size after; change = Stays } ≡ e
      → drop size after.places ≡ drop size replica.places
      → shown ≤ 128
      → Plays size replica p block e
  plays-values is h k l = record {
    is = ap (λ (q : Played). effect_of size q block) is ∙ h;
    rest = ap (λ (q : Played). drop size q.replica.places) is ∙ k;
    count = rw is (omega arith);
    shown = rw is l;
  }

  pub plays-bare : {change : Change} → p ≡ record { replica = after; number = n; count = 0; numbers = p.numbers; shown = 0; values = p.values; change = change }
      → record { number = n; numbers = []; values = []; block = block; memory = memory_of size after; change = change } ≡ e
      → drop size after.places ≡ drop size replica.places
      → Plays size replica p block e
  plays-bare is h k = record {
    is = ap (λ (q : Played). effect_of size q block) is ∙ h;
    rest = ap (λ (q : Played). drop size q.replica.places) is ∙ k;
    count = rw is (omega arith);
    shown = rw is (omega arith);
  }

-- one number in front
pub numbered : {p : Played} {replica : Replica} {n count k first : ℕ} {zeros : List ℕ} {change : Change}
    → p ≡ record { replica = replica; number = n; count = count; numbers = first ∷ zeros; shown = 0; values = p.values; change = change }
    → count ≡ k
    → p ≡ record { replica = replica; number = n; count = k; numbers = first ∷ drop 1 p.numbers; shown = 0; values = p.values; change = change }
numbered {p} {zeros} e h =
    let z : drop 1 p.numbers ≡ zeros = ap (λ (q : Played). drop 1 q.numbers) e in
    rw (z, ← h) e

pub one-few : (b : Bool) → cond b 1 0 ≤ 10
one-few true = omega arith
one-few false = omega arith

-- six numbers, one by one, with others behind
pub six_is : (l rest : List ℕ) → length l ≡ 6 → get_or l 0 0 ∷ (get_or l 1 0 ∷ (get_or l 2 0 ∷ (get_or l 3 0 ∷ (get_or l 4 0 ∷ (get_or l 5 0 ∷ rest))))) ≡ l ++ rest
six_is [] rest h = absurd (omega (arith, h))
six_is (a ∷ []) rest h = absurd (omega (arith, h))
six_is (a ∷ (b ∷ [])) rest h = absurd (omega (arith, h))
six_is (a ∷ (b ∷ (c ∷ []))) rest h = absurd (omega (arith, h))
six_is (a ∷ (b ∷ (c ∷ (d ∷ [])))) rest h = absurd (omega (arith, h))
six_is (a ∷ (b ∷ (c ∷ (d ∷ (e ∷ []))))) rest h = absurd (omega (arith, h))
six_is (a ∷ (b ∷ (c ∷ (d ∷ (e ∷ (f ∷ [])))))) rest h = refl
six_is (a ∷ (b ∷ (c ∷ (d ∷ (e ∷ (f ∷ (g ∷ l))))))) rest h = absurd (omega (arith, h))

-- six tickets at most, of six numbers with zeros behind
pub six-few : (l : List ℕ) → length (six_of l) ≡ 6 → length l ≤ 6
six-few l h = omega (arith, h, length-append l (replicate (6 - length l) 0), length-replicate {A = ℕ} (6 - length l) 0)

-- ---- calls that give a number alone

module _ (lent : List ℕ) where
  -- an outcome with nothing behind its number
  pub record Bare (o : Outcome) : Type 0 where
    pub numbers : numbers_of o.answer ≡ []
    pub values : values_of o.answer ≡ []
    pub block : block_given o.answer lent ≡ lent
    pub change : change_of o.answer ≡ Stays

  pub bare-refused : (n : ℕ) (m : Memory) → Bare (outcome (refused n) m)
  bare-refused n m = record { numbers = refl; values = refl; block = refl; change = refl }

  pub bare-effect : {o : Outcome} {r : ℕ} {left : Memory} → Bare o → Gives number o r left
      → record { number = r; numbers = []; values = []; block = lent; memory = left; change = Stays } ≡ effect lent o
  bare-effect b g = rw (g.0, g.1, b.numbers, b.values, b.block, b.change)

-- ---- 25 at a station

module _ (size : ℕ) (replica : Replica) {p : Played} (lent : List ℕ) (o : Outcome) where
  pub station-refuses : numberless replica.group ≡ true
      → p ≡ record { replica = replica; number = 25; count = 0; numbers = p.numbers; shown = 0; values = p.values; change = Stays }
      → Plays size replica p lent (effect lent (unless_station (memory_of size replica) o))
  station-refuses e is = rw e (plays-bare is refl refl)

  pub replica-does : {left : List ℕ} → numberless replica.group ≡ false → Plays size replica p left (effect lent o)
      → Plays size replica p left (effect lent (unless_station (memory_of size replica) o))
  replica-does e h = rw e h
