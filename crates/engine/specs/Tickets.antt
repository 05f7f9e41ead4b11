-- The tickets in the own blocks that a restart commits. Where no ticket stands twice, Report's counts after it are document 02's to the letter.
use Rattle.std.specs.Prelude.{ℕ, ◌+◌, ◌≤◌, ◌≡◌, cond, ℤ}
use mathlib.Core.List.{List, Nodup, [], ◌∷◌, ◌++◌, map}
use Rattle.block.specs.Message.{Record}
use Rattle.memory.specs.Notices.{Notice}
use Rattle.engine.specs.Make.{SettingOf}
use Rattle.engine.specs.declared.Report.{Report}
use Rattle.engine.specs.Client.{report_of}
use Rattle.engine.specs.Calls.{Call, after}
use Rattle.engine.specs.Restart.{blocks_in, writesets_in, is_from, highest_own, own_writesets, repeated, restarted_memory}

-- in the blocks' order
unfoldable pub own_tickets : ℕ → List (List ℕ) → List ℕ
own_tickets own [] = []
own_tickets own (b ∷ bs) = cond (is_from own b) (map (λ (w : Record). w.ticket) (writesets_in b)) [] ++ own_tickets own bs

-- document 02 of a report just after a restart: its own writesets count as committed, all other tickets up to the highest in its own blocks as aborted
pub record CountsOf (own : ℕ) (bs : List (List ℕ)) (r : Report) : Type 0 where
  pub tickets : r.tickets ≡ highest_own own bs
  pub committed : r.committed ≡ own_writesets own bs
  pub others : r.committed + r.aborted ≡ r.tickets
  pub none_open : r.open_count ≡ 0
  pub none-read-only : r.read_only ≡ 0
  pub none-withdrawn : r.withdrawn ≡ 0

-- of every journal in whose own blocks no ticket stands twice
pub record TicketsOnce : Type 0 where
  -- there are no more own writesets than tickets up to the highest
  pub few : (n own : ℕ) (journal : List ℕ) → let bs = blocks_in n journal in Nodup (own_tickets own bs) → own_writesets own bs ≤ highest_own own bs
  pub none-repeated : (n own : ℕ) (journal : List ℕ) → let bs = blocks_in n journal in Nodup (own_tickets own bs) → repeated own bs ≡ 0
  pub counts : (n own : ℕ) (values : List ℤ) (journal : List ℕ) (notices : List Notice) → let bs = blocks_in n journal in Nodup (own_tickets own bs)
      → CountsOf own bs (report_of (restarted_memory n own values notices bs))
  -- and after calls since then tickets given equal open plus all endings
  pub sum : (n own : ℕ) (values : List ℤ) → SettingOf n own values → (journal : List ℕ) (notices : List Notice)
      → let bs = blocks_in n journal in Nodup (own_tickets own bs) → (cs : List Call)
      → let r = report_of (after (restarted_memory n own values notices bs) cs) in r.tickets ≡ r.open_count + r.committed + r.read_only + r.aborted + r.withdrawn
