-- The tickets put down: none of a replica stands twice, so that Report's counts after a restart are document 02's to the letter.
use Rattle.std.specs.Prelude.{ℕ, ◌≡◌, ℤ}
use mathlib.Core.List.{List, Nodup, map}
use Rattle.memory.specs.Notices.{Notice}
use Rattle.engine.specs.Make.{Setting}
use Rattle.engine.specs.Answers.Answer.{restarted}
use Rattle.engine.specs.Client.{report_of}
use Rattle.engine.specs.Restart.{blocks_in, restart_step}
use Rattle.engine.specs.Tickets.{own_tickets, CountsOf}
use Rattle.engine.specs.History.AnyCall.{restart}
use Rattle.protocol.specs.Observer.{sequence, id_of}
use Rattle.agreement.specs.Group.{CallAt, fresh, run, Comes, Calls, Premise}

pub record Tickets : Type 0 where
  -- no ticket of a replica is put down twice
  pub once : (n : ℕ) (start : List ℤ) → Setting n start → (cs : List CallAt) → Calls n cs → Premise n start cs
      → Nodup (map id_of (sequence (run (fresh n start) cs).handouts))
  -- nor does one stand twice in the own blocks of the journal that an accepted restart is lent, all else as the premise has it: `repeated` is 0, and Report's counts after it are those of the blocks
  pub restarts : (n : ℕ) (start : List ℤ) → Setting n start → (cs : List CallAt) → Calls n cs → Premise n start cs
      → (before : List CallAt) (k : ℕ) (journal : List ℕ) (notices : List Notice) (block : List ℕ) (count : ℕ) (given : List ℕ)
      → Comes cs before (record { at = k; does = restart n k start journal notices block })
      → let o = restart_step ((run (fresh n start) before).memories k) n k start journal notices block in o.answer ≡ restarted count given
      → Nodup (own_tickets k (blocks_in n journal)) × CountsOf k (blocks_in n journal) (report_of o.memory)
