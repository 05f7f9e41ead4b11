-- The log: a handout for every slot, that of an out slot empty. It grows by the handouts, and by out slots as replicas pass them. Assumes nothing.
use Prim.Native.Nat.{ℕ}
use mathlib.Core.Bool.{cond}
use mathlib.Core.Option.{none, some}
use mathlib.Core.List.{List, [], ◌++◌, ◌∷◌}
use lib.ListN.{length}
use lib.Dec.{ltb}
use Rattle.protocol.specs.Lists.{opt}
use Rattle.protocol.specs.Writesets.{Message}
use Rattle.protocol.specs.Replica.{Setup, Event, refused, began, got, wrote, requested, withdrew, reported, handed_out, accepted, passed, committed, restarted, loaded, noticed, was_made}
use Rattle.protocol.specs.Observer.{Observed, Handout, handout_of, has_slot}
use Rattle.protocol.proofs.ListLaws.{cond_by}

module _ {X : Type 0} (S : Setup X) where
  abbrev pub blank_of : (slot sender : ℕ) → Handout X
  blank_of s k = record { slot = s; sender = k; writesets = [] }

  -- up to slot n, of which at most the last is missing
  abbrev pub up_to : ℕ → List (Handout X) → List (Handout X)
  up_to n G = cond (ltb (length G) n) (G ++ (blank_of (length G) (S.owner (length G)) ∷ [])) G

  -- a call at replica k, of which p was kept before it, and after which its turn is n: a handout, or an out slot that the turn leaves first of all
  unfoldable pub log_after : List (Handout X) → (k n : ℕ) → Observed X → Event X → List (Handout X)
  log_after G k n p (refused c) = G
  log_after G k n p (began t) = G
  log_after G k n p (got t i v) = G
  log_after G k n p (wrote t i v) = G
  log_after G k n p (requested t) = G
  log_after G k n p (withdrew t) = G
  log_after G k n p (reported t c) = G
  log_after G k n p (handed_out m) = G ++ (handout_of k p m ∷ [])
  log_after G k n p (accepted m) = G
  log_after G k n p (passed s a) = up_to n G
  log_after G k n p (committed s t a) = G
  log_after G k n p (restarted held notices given) = opt given (up_to n G) (λ m. cond (has_slot m.slot G) (up_to n G) (G ++ (handout_of k p m ∷ [])))
  log_after G k n p loaded = G
  log_after G k n p (noticed a) = G
  log_after G k n p was_made = G

  pub log-by : (P : List (Handout X) → Type 0) (G : List (Handout X)) (k n : ℕ) (p : Observed X) (e : Event X) → P G → ((m : Message X) → P (G ++ (handout_of k p m ∷ [])))
      → P (G ++ (blank_of (length G) (S.owner (length G)) ∷ [])) → P (log_after G k n p e)
  unfolding log_after
  log-by P G k n p (refused c) f g h = f
  log-by P G k n p (began t) f g h = f
  log-by P G k n p (got t i v) f g h = f
  log-by P G k n p (wrote t i v) f g h = f
  log-by P G k n p (requested t) f g h = f
  log-by P G k n p (withdrew t) f g h = f
  log-by P G k n p (reported t c) f g h = f
  log-by P G k n p (handed_out m) f g h = g m
  log-by P G k n p (accepted m) f g h = f
  log-by P G k n p (passed s a) f g h = cond_by P (ltb (length G) n) (λ e. h) (λ e. f)
  log-by P G k n p (committed s t a) f g h = f
  log-by P G k n p (restarted l a none) f g h = cond_by P (ltb (length G) n) (λ e. h) (λ e. f)
  log-by P G k n p (restarted l a (some m)) f g h = cond_by P (has_slot m.slot G) (λ e. cond_by P (ltb (length G) n) (λ e. h) (λ e. f)) (λ e. g m)
  log-by P G k n p loaded f g h = f
  log-by P G k n p (noticed a) f g h = f
  log-by P G k n p was_made f g h = f
