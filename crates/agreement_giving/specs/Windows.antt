-- The window of each replica: the last 64 blocks of its journal, after any list of calls and restarts.
use Rattle.std.specs.Prelude.{ℕ, ◌+◌, ◌*◌, ◌≤◌, ◌<◌, ◌≡◌, true, false, List, ℤ, length}
use Rattle.std.proofs.Math.Seq.{slice}
use Rattle.memory.specs.Memory.{window_slots, window_bytes}
use Rattle.memory.specs.Window.{kept_block}
use Rattle.engine.specs.Make.{Setting}
use Rattle.agreement.specs.Group.{CallAt, fresh, run, Calls}
use Rattle.giving.specs.Giving.{holds, lacks}

-- the last 64 blocks that the turn has left, as journaled: block s of a journal is that of slot s
pub record LastBlocks (turn : ℕ) (journal window : List ℕ) : Type 0 where
  pub long : length window ≡ window_bytes
  pub blocks : (s : ℕ) → s < turn → turn ≤ s + window_slots → kept_block window s ≡ slice (512 * s) (512 * s + 512) journal
  -- it has a block for these slots, and for no other
  pub holds-these : (s : ℕ) → s < turn → turn ≤ s + window_slots → holds window s ≡ true
  pub holds-only : (s : ℕ) → holds window s ≡ true → (s < turn) × (turn ≤ s + window_slots)
  -- the ends of a range tell whether it lacks one
  pub lacks-none : (from to : ℕ) → lacks window from to ≡ false → (s : ℕ) → from ≤ s → s < to → holds window s ≡ true
  pub lacks-one : (from to : ℕ) → ((s : ℕ) → from ≤ s → s < to → holds window s ≡ true) → lacks window from to ≡ false

-- with any bytes, any journals and notices lent and no premise
abbrev pub WindowTheorem : Type 0
WindowTheorem = (n : ℕ) (start : List ℤ) → Setting n start → (cs : List CallAt) → Calls n cs → (k : ℕ) → k < n
    → let g = run (fresh n start) cs in LastBlocks (g.memories k).turn.slot (g.disks k).journal (g.memories k).blocks.window
