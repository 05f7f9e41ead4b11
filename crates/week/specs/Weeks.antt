-- A week: what it begins with, and what a line changes.
use Rattle.std.specs.Prelude.{ℕ, ◌≡◌, [], get_or, set, Option, Some, None}
use Rattle.replay_parse.specs.declared.Call.{Call}
use Rattle.replay_replica.specs.declared.Replica.{Replica}
use Rattle.replay_replica.specs.Effects.{places_size, no_replica, memory_of}
use Rattle.replay_calls.specs.Letters.{size_lent}
use Rattle.week_kept.specs.Blocks.{blocks_of}
use Rattle.week_calls.specs.Steps.{Answers, start_of}
use Rattle.week.specs.declared.Week.{Week}
use Rattle.week.specs.declared.Replied.{Replied}

abbrev pub replica_at : Week → ℕ → Replica
replica_at w k = get_or w.replicas k no_replica

-- n replicas just made, and no block kept; a replica that is not below n is refused by Make, and stays nobody
pub record Begins (n : ℕ) (w : Week) : Type 0 where
  pub count : w.n ≡ n
  pub first : memory_of (places_size n) (replica_at w 0) ≡ start_of n 0
  pub second : memory_of (places_size n) (replica_at w 1) ≡ start_of n 1
  pub third : memory_of (places_size n) (replica_at w 2) ≡ start_of n 2
  pub fourth : memory_of (places_size n) (replica_at w 3) ≡ start_of n 3
  pub kept : blocks_of w.kept ≡ []

-- the call at replica k, by its step; every other replica stays
pub record Changes (k : ℕ) (c : Call) (w : Week) (r : Replied) : Type 0 where
  pub count : r.week.n ≡ w.n
  pub others : r.week.replicas ≡ set w.replicas k (replica_at r.week k)
  pub one : Answers (size_lent c (replica_at w k).group) c (replica_at w k) (blocks_of w.kept) (record {
    number = r.number;
    replica = replica_at r.week k;
    kept = r.week.kept;
  })

-- what is no line is 27, and changes nothing
abbrev pub Replies : Option (ℕ × Call) → Week → Replied → Type 0
Replies (Some (k, c)) w r = Changes k c w r
Replies None w r = r ≡ record { week = w; number = 27 }
