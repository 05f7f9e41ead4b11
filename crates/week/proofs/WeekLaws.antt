-- What a line's parts give together, of the whole week.
use Prim.Native.Nat.{ℕ, zero, suc, ◌≤◌, ◌<◌}
use mathlib.Core.Path.{◌≡◌, refl}
use mathlib.Core.List.{List, [], ◌∷◌}
use native.Mathlib.Nat.{not-suc-le-zero, le_of_suc-le-suc}
use native.Mathlib.Omega.{arith}
use lib.ListN.{length, get_or, set, get_or-eq_default}
use lib.Seq.{get_or-set_same}
use Rattle.replay_parse.specs.declared.Call.{Call}
use Rattle.replay_replica.specs.declared.Replica.{Replica}
use Rattle.replay_replica.specs.Effects.{no_replica}
use Rattle.replay_calls.specs.Letters.{size_lent}
use Rattle.std.specs.Prelude.{Some, None}
use Rattle.week_lines.specs.Weeks.{line_of}
use Rattle.week_kept.specs.Blocks.{blocks_of}
use Rattle.week_calls.specs.declared.Answered.{Answered}
use Rattle.week_calls.specs.Steps.{Answers}
use Rattle.week.specs.declared.Week.{Week}
use Rattle.week.specs.Weeks.{Replies}

-- ---- one of four

get_d_any : (l : List Replica) (k : ℕ) (x y : Replica) → k < length l → get_or l k x ≡ get_or l k y
get_d_any [] k x y h = absurd (not-suc-le-zero h)
get_d_any (a ∷ l) zero x y h = refl
get_d_any (a ∷ l) (suc k) x y h = get_d_any l k x y (le_of_suc-le-suc h)

module _ (l : List Replica) (k : ℕ) (four : length l ≡ 4) where
  pub replica-is : (x : Replica) → k < 4 → get_or l k x ≡ get_or l k no_replica
  replica-is x h = get_d_any l k x no_replica (omega arith)

  pub replica-none : 4 ≤ k → get_or l k no_replica ≡ no_replica
  replica-none h = get_or-eq_default l no_replica (omega arith)

  pub replica-set : (one : Replica) → k < 4 → get_or (set l k one) k no_replica ≡ one
  replica-set one h = get_or-set_same l k one no_replica (omega arith)

-- ---- a line

module _ (w : Week) (line : List ℕ) where
  pub replies-wrong : None ≡ line_of w.n line → Replies (line_of w.n line) w (record { week = w; number = 27 })
  replies-wrong e = rw (← e) refl

  pub replies-asks : (k : ℕ) (c : Call) (replica : Replica) (a : Answered) (after : List Replica) → Some (k, c) ≡ line_of w.n line → replica ≡ get_or w.replicas k no_replica
      → Answers (size_lent c replica.group) c replica (blocks_of w.kept) a → after ≡ set w.replicas k a.replica → get_or after k no_replica ≡ a.replica
      → Replies (line_of w.n line) w (record { week = record { n = w.n; replicas = after; kept = a.kept }; number = a.number })
  replies-asks k c replica a after e f h s g = rw (← e) (record { count = refl; others = rw g s; one = rw (g, ← f) h })
