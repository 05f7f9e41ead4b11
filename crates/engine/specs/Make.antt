-- A replica just made.
use Rattle.std.specs.Prelude.{ℕ, ◌*◌, ◌≤◌, ◌<◌, ◌≡◌, Bool, not, ◌&&◌, ◌||◌, List, [], ◌∷◌, eqb, leb, ℤ, pos, length, replicate}
use Rattle.block.specs.Answers.{refuse, first_of}
use Rattle.block.specs.Message.{within}
use Rattle.memory.specs.declared.Counts.{Counts}
use Rattle.memory.specs.declared.Turn.{Turn}
use Rattle.memory.specs.Memory.{Memory, group_of, span, queue_lent, items_lent, snapshots_lent, values_lent, stamps_lent, classes_lent, outbox_lent, window_lent}
use Rattle.memory.specs.Rows.{closed}
use Rattle.memory.specs.Window.{empty_window}
use Rattle.engine.specs.Answers.{Outcome, outcome, unless}
use Rattle.engine.specs.Answers.Answer.{made}

-- what a group is made with: 2 to 6 replicas, and 128 starting values
pub record Setting (n : ℕ) (values : List ℤ) : Type 0 where
  pub least : 2 ≤ n
  pub most : n ≤ 6
  pub long : length values ≡ 128

-- what a replica of it is made with: its number is below N
pub record SettingOf (n own : ℕ) (values : List ℤ) : Type 0 where
  pub group : Setting n values
  pub below : own < n

abbrev pub turn_zero : Turn
turn_zero = record { slot = 0; sent = 0; applying = 0 }

abbrev pub counts_zero : Counts
counts_zero = record {
  commits = 0;
  done = 0;
  tickets = 0;
  committed = 0;
  read_only = 0;
  aborted = 0;
  withdrawn = 0;
}

-- turn, counts and stamps 0, places and window empty, marks off, the starting values; no table of classes is loaded
unfoldable pub made_memory : ℕ → ℕ → List ℤ → Memory
made_memory n own values = record {
  group = group_of n own;
  turn = turn_zero;
  counts = counts_zero;
  txns = record {
    table = replicate 6 closed;
    queue = replicate 6 0;
    items = replicate 48 0;
    writes = replicate 48 (pos 0);
    snapshots = replicate 768 (pos 0);
  };
  store = record { values = values; stamps = replicate 128 0; classes = replicate 128 0 };
  blocks = record { places = replicate (512 * span (group_of n own)) 0; outbox = replicate 512 0; window = empty_window };
}

-- a block for each place of a group of n; an n out of range gives the places no length
unfoldable pub places_fit : List ℕ → ℕ → Bool
places_fit places n = not (within 2 6 n) || eqb (length places) (512 * n)

-- the lent parts have their lengths
abbrev pub slices_fit : Memory → Bool
slices_fit m =
    queue_lent m
    && (items_lent m && (eqb (length m.txns.writes) 48 && (snapshots_lent m && (values_lent m && (stamps_lent m && (classes_lent m && (outbox_lent m && window_lent m)))))))

unfoldable pub parts_fit : Memory → ℕ → Bool
parts_fit m n = slices_fit m && places_fit m.blocks.places n

-- 2: N or own number out of range
abbrev pub size_out : ℕ → ℕ → Bool
size_out n own = not (within 2 6 n) || leb n own

unfoldable pub make_refusal : Memory → ℕ → ℕ → List ℤ → ℕ
make_refusal m n own values =
    first_of
    (refuse 1 (not (eqb (length values) 128 && parts_fit m n))
    ∷ refuse 2 (size_out n own)
    ∷ [])

-- on the memory lent, whatever its turn, counts and table are
unfoldable pub make_step : Memory → ℕ → ℕ → List ℤ → Outcome
make_step m n own values = unless (make_refusal m n own values) m (outcome made (made_memory n own values))
