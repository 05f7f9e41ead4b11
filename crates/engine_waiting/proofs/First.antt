-- There is a first own slot after a turn that a list of calls does not pass as out. Assumes nothing.
use Prim.Native.Nat.{ℕ, zero, suc, ◌+◌, ◌-◌, ◌≤◌, ◌<◌, max}
use mathlib.Core.Path.{◌≡◌, refl}
use mathlib.Core.Bool.{Bool, true, false, not, ◌&&◌}
use mathlib.Core.List.{List, [], ◌∷◌}
use native.Mathlib.Omega.{arith}
use lib.Dec.{eqb}
use borrow.Author.Tests.{eqb-true, eq-eqb, not-true}
use Rattle.block.proofs.BoolLaws.{both, joined, not_so}
use Rattle.memory.specs.Memory.{Memory, owner_at}
use Rattle.engine.specs.History.{AnyCall, any_step}
use Rattle.engine.specs.History.AnyCall.{call, restart}
use Rattle.engine.proofs.Tests.{bool_by, same_by, clash}
use Rattle.engine.proofs.PlaceLaws.{own_slot}
use Rattle.engine_waiting.specs.Waiting.{leaves_out, passed_out, FirstSlot}

-- the first number from a on that passes a test
record Least (p : ℕ → Bool) (a s : ℕ) : Type 0 where
  above : a ≤ s
  passes : p s ≡ true
  others : (u : ℕ) → a ≤ u → u < s → p u ≡ false

least : (p : ℕ → Bool) (k a : ℕ) → p (a + k) ≡ true → (s : ℕ) × Least p a s
least p zero a h = (a, record { above = omega arith; passes = let e : a + 0 ≡ a = omega arith in rw e at h; others = λ u l g. absurd (omega arith) })
least p (suc k) a h =
    bool_by (p a)
    (λ e. (a, record { above = omega arith; passes = e; others = λ u l g. absurd (omega arith) }))
    (λ e. let z : a + suc k ≡ suc a + k = omega arith in
    let f = least p k (suc a) (rw z at h) in (
      f.0,
      record {
        above = let l = f.1.above in omega arith;
        passes = f.1.passes;
        others = λ u l g. same_by u a (λ y. rw y e) (λ y. f.1.others u (omega (arith, y)) g);
      },
    ))

-- above every turn that the calls come by, and so above every slot that they pass
unfoldable ceiling : Memory → List AnyCall → ℕ
ceiling m [] = 0
ceiling m (c ∷ cs) = max (suc m.turn.slot) (ceiling (any_step m c).memory cs)

leaves_at : (s : ℕ) (m : Memory) (c : AnyCall) → leaves_out s m c ≡ true → m.turn.slot ≡ s
leaves_at s m (call c) e = eqb-true m.turn.slot s (both (eqb m.turn.slot s) _ e).left
leaves_at s m (restart n own values journal notices block) e = clash {b = false} e refl

not_above : (s : ℕ) (m : Memory) (cs : List AnyCall) → ceiling m cs ≤ s → passed_out s m cs ≡ false
unfolding ceiling passed_out
not_above s m [] h = refl
not_above s m (c ∷ cs) h =
    let l : leaves_out s m c ≡ false = not_so (leaves_out s m c) (λ e. let z = leaves_at s m c e in omega arith) in
    rw l (not_above s (any_step m c).memory cs (omega arith))

module _ (m : Memory) (below : m.group.own < m.group.replicas) (t : ℕ) (cs : List AnyCall) where
  -- an own slot that is not passed as out
  abbrev counted : ℕ → Bool
  counted s = eqb (owner_at m.group s) m.group.own && not (passed_out s m cs)

  is-counted : (s : ℕ) → owner_at m.group s ≡ m.group.own → passed_out s m cs ≡ false → eqb (owner_at m.group s) m.group.own && not (passed_out s m cs) ≡ true
  is-counted s o f = joined (eq-eqb (owner_at m.group s) m.group.own o) (rw f refl)

  some-slot : (s : ℕ) × Least counted (suc t) s
  some-slot =
      let o = own_slot m.group.replicas m.group.own (max t (ceiling m cs)) below in
      let s = o.0 in
      let l = o.1 in
      let z : suc t + (s - suc t) ≡ s = omega arith in
      least counted (s - suc t) (suc t) (rw z (is-counted s o.3 (not_above s m cs (omega arith))))

  pub first_slot : (s : ℕ) × FirstSlot m t cs s
  first_slot =
      let f = some-slot in
      let b = both (eqb (owner_at m.group f.0) m.group.own) (not (passed_out f.0 m cs)) f.1.passes in (
        f.0,
        record {
          above = f.1.above;
          own = eqb-true (owner_at m.group f.0) m.group.own b.left;
          counts = not-true (passed_out f.0 m cs) b.right;
          first = λ u l g o. bool_by (passed_out u m cs) (λ e. e) (λ e. clash (is-counted u o e) (f.1.others u l g));
        },
      )
