-- What the parts of a line's step give together, over plain values.
use Prim.Native.Nat.{ℕ}
use mathlib.Core.Path.{◌≡◌, refl, ap}
use mathlib.Core.Bool.{true, false}
use mathlib.Core.List.{List, [], ◌∷◌}
use lib.IntN.{pos}
use lib.ListN.{take, get_or}
use Rattle.engine.specs.Calls.{step}
use Rattle.engine.specs.Client.{report_step}
use Rattle.replay_parse.specs.declared.Call.{Call}
use Rattle.replay_parse.specs.Lines.{call_with}
use Rattle.replay_print.specs.Text.{answer_text, Holds}
use Rattle.replay_replica.specs.declared.Played.{Played}
use Rattle.replay_replica.specs.declared.Replica.{Replica}
use Rattle.replay_replica.specs.Effects.{places_size, no_replica, memory_of, numbers_of, Effect, Plays}
use Rattle.replay_calls.specs.Letters.{size_lent, played}
use Rattle.week_kept.specs.declared.Sent.{Sent}
use Rattle.week_kept.specs.declared.Kept.{Kept}
use Rattle.week_kept.specs.Blocks.{blocks_of}
use Rattle.week_calls.specs.Steps.{is_missing, played_at, kept_after, week_step, Answers, start_of, row_text}

-- ---- a line

module _ (size : ℕ) (c : Call) (replica : Replica) where
  pub missing-told : (kept : Kept) → is_missing c (blocks_of kept) ≡ true → Answers size c replica (blocks_of kept) (record { number = 26; replica = replica; kept = kept })
  unfolding week_step
  missing-told kept e = record { is = rw e; rest = refl }

  pub plays-told : (kept : List Sent) (p : Played) (block : List ℕ) (left : Kept) → is_missing c kept ≡ false → Plays size replica p block (played_at c (memory_of size replica) kept)
      → blocks_of left ≡ kept_after c.letter p.number (record { slot = replica.turn.slot; bytes = block }) kept
      → Answers size c replica kept (record { number = p.number; replica = p.replica; kept = left })
  unfolding week_step
  plays-told kept p block left e h k = record { is = rw (e, ← h.is, k); rest = h.rest }

-- ---- start and end

pub made_is : (n k : ℕ) (p : Played) (block bytes lent : List ℕ)
    → Plays (size_lent (call_with 77 n k (pos 0)) no_replica.group) no_replica p block (played (call_with 77 n k (pos 0)) bytes lent (memory_of (size_lent (call_with 77 n k (pos 0)) no_replica.group) no_replica))
    → memory_of (places_size n) p.replica ≡ start_of n k
unfolding played
made_is n k p block bytes lent h = ap (λ (e : Effect). e.memory) h.is

pub report_numbers : (replica : Replica) (p : Played) (block bytes lent : List ℕ)
    → Plays (size_lent (call_with 81 0 0 (pos 0)) replica.group) replica p block (played (call_with 81 0 0 (pos 0)) bytes lent (memory_of (size_lent (call_with 81 0 0 (pos 0)) replica.group) replica))
    → take p.count p.numbers ≡ numbers_of (report_step (memory_of (places_size replica.group.replicas) replica)).answer
unfolding played step
report_numbers replica p block bytes lent h = ap (λ (e : Effect). e.numbers) h.is

pub row_is : (replica : Replica) (k : ℕ) (numbers : List ℕ) (a b d : ℕ) {out left : List ℕ} {r : ℕ}
    → numbers ≡ numbers_of (report_step (memory_of (places_size replica.group.replicas) replica)).answer
    → a ≡ get_or numbers 0 0 → b ≡ get_or numbers 1 0 → d ≡ get_or numbers 3 0 → Holds out (answer_text k (a ∷ (b ∷ (d ∷ []))) [] []) left r
    → Holds out (row_text k (report_step (memory_of (places_size replica.group.replicas) replica))) left r
row_is replica k numbers a b d n x y z h = rw (← n) (rw (x, y, z) at h)
