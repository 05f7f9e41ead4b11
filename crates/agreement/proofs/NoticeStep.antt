-- A notice does what the model's does. Assumes nothing.
use Prim.Native.Nat.{ℕ, zero, suc, ◌+◌, ◌*◌, ◌<◌}
use mathlib.Core.Path.{◌≡◌, refl}
use mathlib.Core.Bool.{Bool, true, false, cond}
use mathlib.Core.List.{List}
use native.Mathlib.Nat.{mod-lt}
use native.Mathlib.Omega.{arith}
use lib.Dec.{eqb, ltb, leb}
use lib.IntN.{ℤ}
use lib.ListN.{length, get_or}
use lib.Seq.{slice, get_or-set_same, get_or-set_other}
use borrow.Author.Tests.{eq-eqb, ne_eqb, lt-leb, le-ltb}
use Rattle.block.specs.Message.{owner_of}
use Rattle.memory.specs.declared.Group.{Group}
use Rattle.memory.specs.Memory.{Memory, slot_limit, with_group}
use Rattle.memory.specs.Notices.{Notice, with_notice}
use Rattle.engine.specs.Answers.{outcome}
use Rattle.engine.specs.Answers.Answer.{noticed}
use Rattle.engine.specs.Notices as engine
use Rattle.engine.specs.Notices.{notice_refusal}
use Rattle.engine.specs.Calls.{step}
use Rattle.engine.specs.Calls.Call.{notice}
use Rattle.engine.specs.Shape.{Shape}
use Rattle.engine.proofs.Tests.{bool_by, same_by, not_first}
use Rattle.engine.proofs.Steps.{notice-by}
use Rattle.engine.proofs.Passed.{notice_passed}
use Rattle.protocol.specs.Notices.{outages_after}
use Rattle.protocol.specs.Replica.{Event}
use Rattle.protocol.specs.Moves as model
use Rattle.protocol.specs.System as system
use Rattle.agreement.specs.Group.{notice_in, first_notice, heard}
use Rattle.agreement.proofs.View.{setup, view, place_at, outages_in, Sound, Owed, follows}
use Rattle.agreement.proofs.ClientStep.{refused-owes}
use Rattle.agreement.proofs.DeliverStep.{slot_said, sender_said}

pub owner_below : (n t : ℕ) → 0 < n → owner_of n t < n
unfolding owner_of
owner_below n t h = mod-lt t h

-- the outages after a notice are the model's
pub outages_now : (g : Group) (a : Notice) → length g.from ≡ 6 → length g.until ≡ 6 → (k : ℕ) → k < 6
    → outages_in (with_notice g a) k ≡ outages_after slot_limit (outages_in g) (notice_in a) k
outages_now g a f u k h =
    same_by k a.about
    (λ q. rw (eq-eqb k a.about q)
    (bool_by a.out
    (λ b. rw (b, q, get_or-set_same g.from a.about a.slot 0 (omega arith), get_or-set_same g.until a.about slot_limit 0 (omega arith)) refl)
    (λ b. rw (b, q, get_or-set_same g.until a.about a.slot 0 (omega arith)) refl)))
    (λ d. rw (ne_eqb k a.about d, get_or-set_other g.until a.about k (cond a.out slot_limit a.slot) 0 d)
    (bool_by a.out (λ b. rw (b, get_or-set_other g.from a.about k a.slot 0 d) refl) (λ b. rw b refl)))

module _ (n : ℕ) (start : List ℤ) {over : ℕ} (m : Memory) (S : Shape over m) (size : m.group.replicas ≡ n) where
  placed_same : (k v j : ℕ) → model.placed_from (setup n start) (view m) k v j ≡ engine.placed_from m k v j
  unfolding model.placed_from engine.placed_from place_at
  placed_same k v zero = refl
  placed_same k v (suc j) =
      let b = slice (512 * j) (512 * j + 512) m.blocks.places in
      bool_by (eqb (get_or m.blocks.places (512 * j) 0) 0) (λ e. rw (e, placed_same k v j) refl) (λ e. rw (e, placed_same k v j, sender_said b, slot_said b) refl)

  bars-same : (a : Notice) → model.bars_notice (setup n start) (view m) (notice_in a) ≡ engine.bars_notice m a
  bars-same a = rw (placed_same a.about a.slot n, size) refl

  owner-few : (t : ℕ) → owner_of n t < 6
  owner-few t = let h = owner_below n t (omega (arith, S.ranges.least, size)) in omega (arith, S.ranges.most, size)

  module _ (a : Notice) (z : notice_refusal m a ≡ 0) where
    bars : engine.bars_notice m a ≡ false
    bars = let p = notice_passed m a z in rw (le-ltb _ _ p.turn, p.bars) refl

    takes : system.step (setup n start) (view m) (system.Call.notice (notice_in a))
        ≡ Rattle.protocol.specs.Replica.outcome (model.taking (setup n start) (view m) (notice_in a)) (Event.noticed (notice_in a))
    unfolding system.step model.notice_step
    takes = rw (lt-leb slot_limit a.slot (notice_passed m a z).range, bars-same a, bars) refl

    taken : Owed n start m (notice a) (outcome noticed (with_group m (with_notice m.group a)))
    unfolding heard first_notice
    taken = follows (rw takes refl) (rw takes (record {
      own = refl;
      cursor = refl;
      commits = refl;
      values = refl;
      stamps = λ i. refl;
      tickets = refl;
      queue = refl;
      there = λ t h. h;
      back = λ t h. h;
      places = λ p. refl;
      outages = λ t. outages_now m.group a S.lengths.from S.lengths.until (owner_of n t) (owner-few t);
    }))

pub notice_owes : (n : ℕ) (start : List ℤ) (m : Memory) → Sound n m → (a : Notice) → Owed n start m (notice a) (step m (notice a))
unfolding notice_refusal
notice_owes n start m s a =
    notice-by (Owed n start m (notice a)) m a (taken n start m s.shape s.size a) (λ z. refused-owes n start m (notice a) (notice_refusal m a) (not_first 9 _ refl))
