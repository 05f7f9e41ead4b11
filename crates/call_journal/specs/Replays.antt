-- What a restart knows of the journal's blocks while it reads them.
use Rattle.std.specs.Prelude.{ℕ, zero, suc, ◌+◌, ◌*◌, ◌≤◌, max, ◌≡◌, Bool, false, cond, not, ◌&&◌, List, [], ◌∷◌, ℤ, length, get_or, take, drop, replicate}
use Rattle.memory.specs.Notices.{Notice, puts_out}
use Rattle.memory.specs.Window.{keeping_all}
use Rattle.engine.specs.Restart.{Replayed, blocks_in, writesets_in, commit_blocks, is_from, highest_ticket, highest_own, own_writesets, last_own}
use Rattle.call_journal.specs.declared.JournalTally.{JournalTally}

-- commit count, values and stamps; no table of classes
abbrev pub replayed : ℕ → List ℤ → List ℕ → Replayed
replayed commits values stamps = record { commits = commits; store = record { values = values; stamps = stamps; classes = replicate 128 0 } }

-- the k-th block of a journal, counted from 1; 512 zeros for the 0-th
unfoldable pub block_number : ℕ → List ℕ → List ℕ
block_number zero journal = replicate 512 0
block_number (suc k) journal = take 512 (drop (512 * k) journal)

-- an own block, for a slot that the notices do not put out
abbrev pub is_given : ℕ → List Notice → ℕ → List ℕ → Bool
is_given own notices slot b = is_from own b && not (puts_out false notices own slot)

-- the number of the last such block, counted from 1: of blocks that begin behind k others, of which number l is the last, 0 where none is
unfoldable pub last_number : ℕ → List Notice → ℕ → ℕ → List (List ℕ) → ℕ
last_number own notices l k [] = l
last_number own notices l k (b ∷ bs) = last_number own notices (cond (is_given own notices k b) (k + 1) l) (k + 1) bs

-- one block more, with the commit count behind it
unfoldable pub tallied : ℕ → List Notice → JournalTally → ℕ → List ℕ → JournalTally
tallied own notices r commits b = record {
  blocks = r.blocks + 1;
  commits = commits;
  highest = cond (is_from own b) (max r.highest (highest_ticket (writesets_in b))) r.highest;
  committed = cond (is_from own b) (r.committed + get_or b 3 0) r.committed;
  last = cond (is_given own notices r.blocks b) (r.blocks + 1) r.last;
}

-- all blocks of a journal, from the values, stamps and window before them
pub record Replays (n own : ℕ) (journal : List ℕ) (notices : List Notice) (before : Replayed) (held : List ℕ) (values : List ℤ) (stamps window : List ℕ) (r : JournalTally) : Type 0 where
  pub blocks : r.blocks ≡ length (blocks_in n journal)
  pub store : replayed r.commits values stamps ≡ commit_blocks before (blocks_in n journal)
  pub window-kept : window ≡ keeping_all held 0 (blocks_in n journal)
  pub highest : r.highest ≡ highest_own own (blocks_in n journal)
  pub committed : r.committed ≡ own_writesets own (blocks_in n journal)
  pub last : r.last ≡ last_number own notices 0 0 (blocks_in n journal)
  pub last_block : block_number r.last journal ≡ last_own own notices (replicate 512 0) (blocks_in n journal)
  pub last-there : 512 * r.last ≤ length journal
