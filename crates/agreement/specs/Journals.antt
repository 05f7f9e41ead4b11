-- A replica's journal: the blocks put down and the *nexts* of out slots, in slot order, up to its turn, and the turn's own block once it is sent.
use Rattle.std.specs.Prelude.{ℕ, ◌+◌, ◌*◌, ◌<◌, ◌≡◌, Bool, true, false, cond, List, [], map, ℤ, length, get_or}
use Rattle.block.specs.Message.{owner_of}
use Rattle.memory.specs.declared.Turn.{Turn}
use Rattle.memory.specs.Notices.{Notice, puts_out}
use Rattle.memory.specs.Turns.{is_on}
use Rattle.engine.specs.Make.{Setting}
use Rattle.engine.specs.Restart.{blocks_in}
use Rattle.protocol.specs.Lists.{Mem}
use Rattle.protocol.specs.Writesets.{Message}
use Rattle.protocol.specs.Observer.{Handout, handout_message}
use Rattle.agreement.specs.Group.{message_in, CallAt, fresh, run, Calls, Premise}

-- how many blocks: one for each slot that the turn has left, and the own one of the turn's slot once the sent mark is on
abbrev pub blocks_at : Turn → ℕ
blocks_at t = t.slot + cond (is_on t.sent) 1 0

-- with any bytes, any journals and notices lent and no premise
abbrev pub JournalLength : Type 0
JournalLength = (n : ℕ) (start : List ℤ) → Setting n start → (cs : List CallAt) → Calls n cs → (k : ℕ) → k < n
    → let g = run (fresh n start) cs in length (g.disks k).journal ≡ 512 * blocks_at (g.memories k).turn

-- the message of block i
abbrev pub message_at : ℕ → List ℕ → ℕ → Message ℤ
message_at n journal i = message_in (get_or (blocks_in n journal) i [])

-- slot i is out by the list of its owner
abbrev pub out_in : ℕ → (ℕ → List Notice) → ℕ → Bool
out_in n l i = puts_out false (l (owner_of n i)) (owner_of n i) i

-- the journal is `count` blocks; l: the lists of notices; D: what was put down
pub record InSlotOrder (n : ℕ) (l : ℕ → List Notice) (D : List (Handout ℤ)) (count : ℕ) (journal : List ℕ) : Type 0 where
  pub whole : length journal ≡ 512 * count
  -- a restart reads all of them
  pub read : length (blocks_in n journal) ≡ count
  -- block i is the one put down for slot i, or the *next* of its owner where the slot is out
  pub live : (i : ℕ) → i < count → out_in n l i ≡ false → Mem (message_at n journal i) (map handout_message D) × ((message_at n journal i).slot ≡ i)
  pub out : (i : ℕ) → i < count → out_in n l i ≡ true → message_at n journal i ≡ record { slot = i; sender = owner_of n i; writesets = [] }

abbrev pub JournalTheorem : Type 0
JournalTheorem = (n : ℕ) (start : List ℤ) → Setting n start → (cs : List CallAt) → Calls n cs → (p : Premise n start cs) → (k : ℕ) → k < n
    → let g = run (fresh n start) cs in InSlotOrder n p.lists g.handouts (blocks_at (g.memories k).turn) (g.disks k).journal
