-- Tied replicas give the same: so spreading the giving, document 02's Req 12, changes the giver that is named and nothing else.
-- Of replicas alone, as in `Promise`; of the notices nothing is asked but the agreement's premise.
use Rattle.std.specs.Prelude.{ℕ, ◌<◌, ◌≡◌, List, ℤ}
use Rattle.engine.specs.Make.{Setting}
use Rattle.agreement.specs.Group.{Members, CallAt, fresh, run, Calls, Premise}
use Rattle.giving.specs.Giving.{Going}
use Rattle.giving.specs.Spread.{former_giver, former_step}
use Rattle.agreement_giving.specs.Givings.{give_at}
use Rattle.agreement_giving.specs.Promise.{Truly}

-- a giving at replica k by the former rule, lent the window of the giver that it names
abbrev pub former_at : Members → ℕ → List ℕ → Going
former_at g k told = former_step (g.memories k) told (g.memories (former_giver (g.memories k).group.own told)).blocks.window

pub record SpreadTheorem : Type 0 where
  -- two replicas at one turn have the same window, byte for byte
  pub tied : (n : ℕ) (start : List ℤ) → Setting n start → (cs : List CallAt) → Calls n cs → Premise n start cs → (a b : ℕ) → a < n → b < n
      → let g = run (fresh n start) cs in (g.memories a).turn.slot ≡ (g.memories b).turn.slot → (g.memories a).blocks.window ≡ (g.memories b).blocks.window
  -- so, turns told truly, a giving by either rule leaves the same memory, answers the same number and tickets, and does the same calls
  pub given : (n : ℕ) (start : List ℤ) → Setting n start → (cs : List CallAt) → Calls n cs → Premise n start cs → (k : ℕ) → k < n → (told : List ℕ)
      → let g = run (fresh n start) cs in Truly n g k told → give_at g k told ≡ former_at g k told
