-- What it says that a giving is not turned away. Assumes nothing.
use Prim.Native.Nat.{ℕ, ◌-◌, ◌≤◌}
use mathlib.Core.Path.{◌≡◌, refl}
use mathlib.Core.Bool.{true, false, cond}
use mathlib.Core.List.{List}
use native.Mathlib.Omega.{arith}
use lib.Dec.{eqb, leb}
use lib.ListN.{length}
use borrow.Author.Tests.{eqb-true, eqb-false, lt-ltb, leb-true, not-false}
use Rattle.block.specs.Answers.{refuse, first_of}
use Rattle.block.proofs.BoolLaws.{both}
use Rattle.memory.specs.Memory.{Memory, window_slots, window_bytes, outbox_lent, is_window, is_station}
use Rattle.engine.specs.Moves.{work_lent}
use Rattle.engine.proofs.Tests.{less_by, passes}
use Rattle.giving.specs.Choice.{giver_of}
use Rattle.giving.specs.Giving.{lacks, give_lent, nobody_up, giver_refusal, given_to, give_refusal}

pub record GivePassed (m : Memory) (told lent : List ℕ) : Type 0 where
  pub replica : is_station m ≡ false
  -- what its works and delivers are lent
  pub works : work_lent m ≡ true
  pub outbox : outbox_lent m ≡ true
  pub each : length told ≡ m.group.replicas
  pub long : length lent ≡ window_bytes
  pub up : giver_of m.group.own told ≡ m.group.own → ⊥
  pub enough : lacks lent m.turn.slot (given_to m told) ≡ false
  -- a window's slots at most are given
  pub few : given_to m told - m.turn.slot ≤ window_slots

-- no range that a window has blocks for is longer than it
lacks-few : (lent : List ℕ) (from to : ℕ) → lacks lent from to ≡ false → to - from ≤ window_slots
unfolding lacks
lacks-few lent from to e = less_by from to
    (λ h. leb-true (to - from) window_slots (both (leb (to - from) window_slots) _ (not-false _ (rw (lt-ltb from to h) at e))).left)
    (λ h. omega arith)

pub give_passed : (m : Memory) (told lent : List ℕ) → give_refusal m told lent ≡ 0 → GivePassed m told lent
unfolding give_refusal
give_passed m told lent e =
    let s = passes (refuse 25 _) _ refl e in
    let a = passes (refuse 1 _) _ refl s.1 in
    let b = passes (refuse 30 _) _ refl a.1 in
    let c = passes (refuse 31 _) _ refl b.1 in
    let w = both (work_lent m) _ (not-false (give_lent m told lent) a.0) in
    let o = both (outbox_lent m) _ w.right in
    let t = both (eqb (length told) m.group.replicas) (is_window lent) o.right in
    record {
      replica = s.0;
      works = w.left;
      outbox = o.left;
      each = eqb-true (length told) m.group.replicas t.left;
      long = eqb-true (length lent) window_bytes t.right;
      up = eqb-false (giver_of m.group.own told) m.group.own b.0;
      enough = c.0;
      few = lacks-few lent m.turn.slot (given_to m told) c.0;
    }

-- at a replica, with everything lent in its length, nobody up and the ends of the range decide
pub refusal_is : (m : Memory) (told lent : List ℕ) → is_station m ≡ false → give_lent m told lent ≡ true
    → give_refusal m told lent ≡ cond (nobody_up m told) 30 (cond (lacks lent m.turn.slot (given_to m told)) 31 0)
unfolding give_refusal first_of
refusal_is m told lent s e = rw (s, e) refl

-- the choice alone is turned away by the same numbers
pub giver-passed : (m : Memory) (told : List ℕ) → giver_refusal m told ≡ 0 → (is_station m ≡ false) × (length told ≡ m.group.replicas) × (giver_of m.group.own told ≡ m.group.own → ⊥)
unfolding giver_refusal
giver-passed m told e =
    let s = passes (refuse 25 _) _ refl e in
    let a = passes (refuse 1 _) _ refl s.1 in
    let b = passes (refuse 30 _) _ refl a.1 in
    (s.0, eqb-true (length told) m.group.replicas (not-false _ a.0), eqb-false (giver_of m.group.own told) m.group.own b.0)
