-- What spreading the giving, document 02's Req 12, changed and what it is for. The rule before it, ties to the lowest number, stands here and nowhere else.
use Rattle.std.specs.Prelude.{ℕ, zero, suc, ◌+◌, ◌-◌, ◌%◌, ◌≤◌, ◌<◌, ◌≡◌, Bool, true, cond, not, List, [], ◌∷◌, eqb, length}
use Rattle.block.specs.Answers.{refuse, first_of}
use Rattle.memory.specs.Memory.{Memory, is_station}
use Rattle.giving.specs.Choice.{down, told_turn, may_give, is_better, giver_of}
use Rattle.giving.specs.Giving.{lacks, Going, set_out_field, give_slots, give_lent, giver_refusal, give_refusal, give_step}

-- ---- the former rule

-- the replicas are looked at by number
unfoldable pub former_best : ℕ → List ℕ → ℕ → ℕ
former_best own told zero = own
former_best own told (suc c) =
    let g = former_best own told c in
    cond (is_better own told g c) c g

abbrev pub former_giver : ℕ → List ℕ → ℕ
former_giver own told = former_best own told (length told)

-- a giving by it

abbrev pub former_nobody : Memory → List ℕ → Bool
former_nobody m told = eqb (former_giver m.group.own told) m.group.own

abbrev pub former_to : Memory → List ℕ → ℕ
former_to m told = told_turn told (former_giver m.group.own told)

unfoldable pub former_giver_refusal : Memory → List ℕ → ℕ
former_giver_refusal m told =
    first_of
    (refuse 25 (is_station m)
    ∷ refuse 1 (not (eqb (length told) m.group.replicas))
    ∷ refuse 30 (former_nobody m told)
    ∷ [])

unfoldable pub former_refusal : Memory → List ℕ → List ℕ → ℕ
former_refusal m told lent =
    first_of
    (refuse 25 (is_station m)
    ∷ refuse 1 (not (give_lent m told lent))
    ∷ refuse 30 (former_nobody m told)
    ∷ refuse 31 (lacks lent m.turn.slot (former_to m told))
    ∷ [])

unfoldable pub former_step : Memory → List ℕ → List ℕ → Going
former_step m told lent =
    cond (eqb (former_refusal m told lent) 0)
    (give_slots lent (former_to m told - m.turn.slot) (set_out_field m 0))
    (set_out_field m (former_refusal m told lent))

-- ---- what differs: the giver, and for ties alone

pub record TiesAlone : Type 0 where
  -- the former giver is the lowest of the tied
  pub lowest : (own : ℕ) (told : List ℕ) (g : ℕ) → g < former_giver own told → may_give own told g ≡ true → told_turn told g < told_turn told (former_giver own told)
  -- by both rules there is a giver, or by neither, and its turn is the same
  pub nobody : (own : ℕ) (told : List ℕ) → eqb (giver_of own told) own ≡ eqb (former_giver own told) own
  pub turn : (own : ℕ) (told : List ℕ) → told_turn told (giver_of own told) ≡ told_turn told (former_giver own told)
  -- one that is up and alone has the highest turn gives by both
  pub alone : (own : ℕ) (told : List ℕ) (g : ℕ) → may_give own told g ≡ true
      → ((h : ℕ) → may_give own told h ≡ true → (h ≡ g → ⊥) → told_turn told h < told_turn told g) → (giver_of own told ≡ g) × (former_giver own told ≡ g)
  -- with the same turns told and the same window lent all else is the same, on every memory
  pub asked : (m : Memory) (told : List ℕ) → giver_refusal m told ≡ former_giver_refusal m told
  pub refused : (m : Memory) (told lent : List ℕ) → give_refusal m told lent ≡ former_refusal m told lent
  pub given : (m : Memory) (told lent : List ℕ) → give_step m told lent ≡ former_step m told lent

-- ---- what it is for

-- returner k of n is told that all others are up, with one turn; its own entry is any
pub record Level (n t k : ℕ) (told : List ℕ) : Type 0 where
  pub each : length told ≡ n
  pub up : t ≡ down → ⊥
  pub others : (g : ℕ) → g < n → (g ≡ k → ⊥) → told_turn told g ≡ t

pub record EvenGiving : Type 0 where
  -- the one after the returner gives
  pub next : (n t k : ℕ) (told : List ℕ) → 2 ≤ n → k < n → Level n t k told → giver_of k told ≡ (k + 1) % n
  -- so, with each of the n returning, each gives once
  pub once : (n t : ℕ) (told : ℕ → List ℕ) → 2 ≤ n → ((k : ℕ) → k < n → Level n t k (told k)) → (g : ℕ) → g < n
      → (k : ℕ) × (k < n) × (giver_of k (told k) ≡ g) × ((j : ℕ) → j < n → giver_of j (told j) ≡ g → j ≡ k)
