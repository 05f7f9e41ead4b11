-- Each answer to who asks for the giver, from the tests that lead to it. Assumes nothing.
use Prim.Native.Nat.{ℕ}
use mathlib.Core.Path.{◌≡◌}
use mathlib.Core.List.{List}
use lib.ListN.{length}
use borrow.Author.Tests.{eq-eqb, ne_eqb}
use Rattle.block.specs.Answers.{first_of}
use Rattle.memory.specs.Memory.{Memory, no_number}
use Rattle.giving.specs.Choice.{giver_of}
use Rattle.giving.specs.Giving.{giver_refusal}
use Rattle.call_giver.specs.Asked.{giver_reply}

module _ (m : Memory) (told : List ℕ) where
  pub asked-station : m.group.own ≡ no_number → record { number = 25; giver = 0 } ≡ giver_reply m told
  unfolding giver_refusal first_of
  asked-station h = rw (eq-eqb m.group.own no_number h)

  module _ (replica : m.group.own ≡ no_number → ⊥) where
    pub asked-length : (length told ≡ m.group.replicas → ⊥) → record { number = 1; giver = 0 } ≡ giver_reply m told
    unfolding giver_refusal first_of
    asked-length h = rw (ne_eqb m.group.own no_number replica, ne_eqb (length told) m.group.replicas h)

    module _ (long : length told ≡ m.group.replicas) (best : ℕ) (is : best ≡ giver_of m.group.own told) where
      pub asked-nobody : best ≡ m.group.own → record { number = 30; giver = 0 } ≡ giver_reply m told
      unfolding giver_refusal first_of
      asked-nobody h = rw (ne_eqb m.group.own no_number replica, eq-eqb (length told) m.group.replicas long, ← is, eq-eqb best m.group.own h)

      pub asked-giver : (best ≡ m.group.own → ⊥) → record { number = 0; giver = best } ≡ giver_reply m told
      unfolding giver_refusal first_of
      asked-giver h = rw (ne_eqb m.group.own no_number replica, eq-eqb (length told) m.group.replicas long, ← is, ne_eqb best m.group.own h)
