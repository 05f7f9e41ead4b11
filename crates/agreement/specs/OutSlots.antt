-- Which slots are out at a replica or a station: by the notices it took, from its turn on. So a Back brings the slots of its replica from its own on back, whatever was taken before.
use Rattle.std.specs.Prelude.{ℕ, ◌≤◌, ◌<◌, ◌≡◌, false, List, ℤ}
use Rattle.memory.specs.Memory.{slot_limit, owner_at}
use Rattle.memory.specs.Notices.{is_out, puts_out}
use Rattle.engine.specs.Make.{Setting}
use Rattle.agreement.specs.Group.{CallAt, fresh, run, Calls, PremiseFrom}

-- after a list of calls with the premise on each of them; nothing is asked of the notices at its end
abbrev pub OutSlots : Type 0
OutSlots = (n : ℕ) (start : List ℤ) → Setting n start → (cs : List CallAt) → Calls n cs → PremiseFrom n start (fresh n start) cs
    → (k s : ℕ) → let g = run (fresh n start) cs in let group = (g.memories k).group in (g.memories k).turn.slot ≤ s → s < slot_limit
    → is_out group s ≡ puts_out false (g.taken k) (owner_at group s) s
