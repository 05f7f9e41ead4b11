-- A restart from a journal, document 02's Req 01, with the notices taken, Req 10: the blocks read, what committing them leaves, and the call.
use Rattle.std.specs.Prelude.{ℕ, zero, suc, ◌+◌, ◌-◌, ◌*◌, ◌/◌, max, Bool, false, cond, not, ◌&&◌, List, [], ◌∷◌, eqb, ℤ, pos, length, get_or, take, drop, replicate}
use Rattle.block.specs.Message.{Record}
use Rattle.block.specs.Answers.{refuse, first_of, block_refusal, header_of}
use Rattle.memory.specs.Memory.{Store, Memory, group_of, span, is_block, bump}
use Rattle.memory.specs.Notices.{Notice, with_notices, puts_out}
use Rattle.memory.specs.Rows.{closed}
use Rattle.memory.specs.Window.{empty_window, keeping_all}
use Rattle.engine.specs.Answers.{Outcome, outcome, unless}
use Rattle.engine.specs.Answers.Answer.{restarted}
use Rattle.engine.specs.Make.{parts_fit, size_out}
use Rattle.engine.specs.Moves.{writeset_at, store_after}

-- ---- the blocks read

-- 512 bytes with a good check and form, of a group of n
unfoldable pub is_good : ℕ → List ℕ → Bool
is_good n b = eqb (block_refusal b) 0 && eqb (header_of b).replicas n

-- block by block, from slot s on and at most `most`, up to one that is torn, fails its check or form, has another N or is not the next slot
unfoldable pub blocks_from : ℕ → ℕ → ℕ → List ℕ → List (List ℕ)
blocks_from n s zero bytes = []
blocks_from n s (suc most) bytes =
    cond (is_good n (take 512 bytes) && eqb (header_of (take 512 bytes)).slot s) (take 512 bytes ∷ blocks_from n (suc s) most (drop 512 bytes)) []

abbrev pub blocks_in : ℕ → List ℕ → List (List ℕ)
blocks_in n journal = blocks_from n 0 (length journal / 512) journal

-- the first c blocks of a journal
unfoldable pub first_blocks : ℕ → List ℕ → List (List ℕ)
first_blocks zero bytes = []
first_blocks (suc c) bytes = take 512 bytes ∷ first_blocks c (drop 512 bytes)

-- ---- the blocks committed

-- k writesets of a block, from the j-th on
unfoldable pub writesets_from : List ℕ → ℕ → ℕ → List Record
writesets_from b j zero = []
writesets_from b j (suc k) = writeset_at b j ∷ writesets_from b (suc j) k

abbrev pub writesets_in : List ℕ → List Record
writesets_in b = writesets_from b 0 (get_or b 3 0)

-- the commit count, and values and stamps
pub record Replayed : Type 0 where
  pub commits : ℕ
  pub store : Store

-- one more writeset, as a work commits it
abbrev pub commit_one : Replayed → Record → Replayed
commit_one r w = record { commits = bump r.commits; store = store_after (bump r.commits) w.entries r.store }

unfoldable pub commit_all : Replayed → List Record → Replayed
commit_all r [] = r
commit_all r (w ∷ ws) = commit_all (commit_one r w) ws

unfoldable pub commit_blocks : Replayed → List (List ℕ) → Replayed
commit_blocks r [] = r
commit_blocks r (b ∷ bs) = commit_blocks (commit_all r (writesets_in b)) bs

abbrev pub start_replay : List ℤ → Replayed
start_replay values = record { commits = 0; store = record { values = values; stamps = replicate 128 0; classes = replicate 128 0 } }

-- ---- the replica's own blocks

abbrev pub is_from : ℕ → List ℕ → Bool
is_from own b = eqb (get_or b 1 0) own

-- the highest ticket of the writesets, of the own blocks; 0 where there is none
unfoldable pub highest_ticket : List Record → ℕ
highest_ticket [] = 0
highest_ticket (w ∷ ws) = max w.ticket (highest_ticket ws)

unfoldable pub highest_own : ℕ → List (List ℕ) → ℕ
highest_own own [] = 0
highest_own own (b ∷ bs) = max (cond (is_from own b) (highest_ticket (writesets_in b)) 0) (highest_own own bs)

-- how many writesets the own blocks have
unfoldable pub own_writesets : ℕ → List (List ℕ) → ℕ
own_writesets own [] = 0
own_writesets own (b ∷ bs) = cond (is_from own b) (get_or b 3 0) 0 + own_writesets own bs

-- the last own block outside out slots, out by all of the notices, else d
unfoldable pub last_own : ℕ → List Notice → List ℕ → List (List ℕ) → List ℕ
last_own own notices d [] = d
last_own own notices d (b ∷ bs) = last_own own notices (cond (is_from own b && not (puts_out false notices own (header_of b).slot)) b d) bs

-- own writesets above the highest ticket: 0 but where a ticket stands in two own blocks
abbrev pub repeated : ℕ → List (List ℕ) → ℕ
repeated own bs = own_writesets own bs - highest_own own bs

-- ---- the window

-- every block in its place, in order: of each place the last stays, so the last 64
abbrev pub refilled : List (List ℕ) → List ℕ
refilled bs = keeping_all empty_window 0 bs

-- ---- the call

-- the blocks committed, the last 64 in the window, the notices in force, and nothing else there, also no table of classes: tickets up to the highest in own blocks are given, all own writesets committed; aborted is the highest
-- ticket less these, 0 where they are more, which is so only where a ticket stands twice
unfoldable pub restarted_memory : ℕ → ℕ → List ℤ → List Notice → List (List ℕ) → Memory
restarted_memory n own values notices bs = record {
  group = with_notices (group_of n own) notices;
  turn = record { slot = length bs; sent = 0; applying = 0 };
  counts = record {
    commits = (commit_blocks (start_replay values) bs).commits;
    done = 0;
    tickets = highest_own own bs;
    committed = own_writesets own bs;
    read_only = 0;
    aborted = highest_own own bs - own_writesets own bs;
    withdrawn = 0;
  };
  txns = record {
    table = replicate 6 closed;
    queue = replicate 6 0;
    items = replicate 48 0;
    writes = replicate 48 (pos 0);
    snapshots = replicate 768 (pos 0);
  };
  store = (commit_blocks (start_replay values) bs).store;
  blocks = record { places = replicate (512 * span (group_of n own)) 0; outbox = replicate 512 0; window = refilled bs };
}

-- Make's; 1 also for the lent block, never for the journal
unfoldable pub restart_refusal : Memory → ℕ → ℕ → List ℤ → List ℕ → ℕ
restart_refusal m n own values block =
    first_of
    (refuse 1 (not (eqb (length values) 128 && (is_block block && parts_fit m n)))
    ∷ refuse 2 (size_out n own)
    ∷ [])

-- on the memory lent, whatever its turn, counts and table are; the notices are put in force, in order, without a test
unfoldable pub restart_step : Memory → ℕ → ℕ → List ℤ → List ℕ → List Notice → List ℕ → Outcome
restart_step m n own values journal notices block =
    unless (restart_refusal m n own values block) m
    (outcome (restarted (length (blocks_in n journal)) (last_own own notices (replicate 512 0) (blocks_in n journal)))
    (restarted_memory n own values notices (blocks_in n journal)))
