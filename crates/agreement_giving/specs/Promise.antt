-- What a giving promises: "Under the agreement's premises, with the same notices taken and the turns told truly, a giving not turned away by 30 or 31 leaves the returner at the giver's turn, with the
-- values the giver had on reaching it; if the returner was level or ahead, nothing is given."
-- Of replicas alone: turns are told of them, and k and giver are below n. Calls at stations may stand in the list.
use Rattle.std.specs.Prelude.{ℕ, ◌+◌, ◌≤◌, ◌<◌, ◌≡◌, cond, ◌⊎◌, List, [], ◌∷◌, ◌++◌, ltb, ℤ, length}
use Rattle.memory.specs.Memory.{window_slots}
use Rattle.engine.specs.Make.{Setting}
use Rattle.agreement.specs.Group.{Members, CallAt, fresh, run, Calls, PremiseFrom, Premise}
use Rattle.giving.specs.Choice.{down, told_turn}
use Rattle.giving.specs.Giving.{set_out_field, nobody_up, give_refusal}
use Rattle.agreement_giving.specs.Givings.{giver_at, give_at, SameTaken}

-- one turn for each replica; of each other one its turn, or that it is down; the returner's own may be anything
pub record Truly (n : ℕ) (g : Members) (k : ℕ) (told : List ℕ) : Type 0 where
  pub each : length told ≡ n
  pub right : (j : ℕ) → j < n → (j ≡ k → ⊥) → (told_turn told j ≡ down) ⊎ (told_turn told j ≡ (g.memories j).turn.slot)

module _ (n : ℕ) (start : List ℤ) (cs : List CallAt) (k : ℕ) (told : List ℕ) where
  abbrev pub group_now : Members
  group_now = run (fresh n start) cs

  abbrev pub giver : ℕ
  giver = giver_at group_now k told

  -- the returner's turn, and the giver's
  abbrev pub has_turn : ℕ
  has_turn = (group_now.memories k).turn.slot

  abbrev pub to_turn : ℕ
  to_turn = (group_now.memories giver).turn.slot

  abbrev pub refused_by : ℕ
  refused_by = give_refusal (group_now.memories k) told (group_now.memories giver).blocks.window

  -- 30 where nobody else is up, 31 where the giver's turn is more than 64 ahead, and nothing else turns it away
  abbrev pub TurnedAway : Type 0
  TurnedAway = refused_by ≡ cond (nobody_up (group_now.memories k) told) 30 (cond (ltb (has_turn + window_slots) to_turn) 31 0)

  -- the call c of the list, behind `before`, brought the giver to its turn
  abbrev pub Reaches : List CallAt → CallAt → Type 0
  Reaches before c = (later : List CallAt) × (cs ≡ before ++ (c ∷ later)) × (((run (fresh n start) before).memories giver).turn.slot ≡ to_turn → ⊥)
      × (((run (fresh n start) (before ++ (c ∷ []))).memories giver).turn.slot ≡ to_turn)

  pub record Promised : Type 0 where
    -- no deliver is refused
    pub number : (give_at group_now k told).number ≡ 0
    -- level or ahead: nothing is given
    pub nothing : to_turn ≤ has_turn → give_at group_now k told ≡ set_out_field (group_now.memories k) 0
    -- else the giver's turn
    pub turn : has_turn < to_turn → (give_at group_now k told).memory.turn.slot ≡ to_turn
    -- with the values that the giver had on reaching it, at whichever call it did; and some call did
    pub values : has_turn < to_turn → (before : List CallAt) (c : CallAt) → Reaches before c
        → (give_at group_now k told).memory.store.values ≡ ((run (fresh n start) (before ++ (c ∷ []))).memories giver).store.values
    pub some-call : has_turn < to_turn → (before : List CallAt) × (c : CallAt) × Reaches before c

pub record PromiseTheorem : Type 0 where
  -- with the premise on the calls alone, so that a restart was lent the replica's own number; nothing is asked of the notices at the end
  pub refusals : (n : ℕ) (start : List ℤ) → Setting n start → (cs : List CallAt) → Calls n cs → PremiseFrom n start (fresh n start) cs → (k : ℕ) → k < n → (told : List ℕ)
      → Truly n (run (fresh n start) cs) k told → TurnedAway n start cs k told
  pub promise : (n : ℕ) (start : List ℤ) → Setting n start → (cs : List CallAt) → Calls n cs → Premise n start cs → (k : ℕ) → k < n → (told : List ℕ)
      → Truly n (run (fresh n start) cs) k told → SameTaken (run (fresh n start) cs) k (giver_at (run (fresh n start) cs) k told)
      → refused_by n start cs k told ≡ 0 → Promised n start cs k told
