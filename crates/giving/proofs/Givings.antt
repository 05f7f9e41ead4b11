-- A giving does its calls and nothing else, and names the tickets that they name. Assumes nothing.
use Prim.Native.Nat.{ℕ, zero, suc, ◌≤◌, ◌<◌}
use mathlib.Core.Path.{◌≡◌, refl, sym, ap, ◌∙◌}
use mathlib.Core.Bool.{Bool, true, false, cond, ◌||◌}
use mathlib.Core.Logic.{◌⊎◌, inl, inr}
use mathlib.Core.List.Memᴰ
use mathlib.Core.List.{List, Memᴰ, [], ◌∷◌, ◌++◌}
use native.Mathlib.Nat.{le_of_suc-le-suc, not-suc-le-zero}
use native.Mathlib.Omega.{arith}
use lib.Dec.{eqb, ltb}
use lib.ListN.{length, get_or}
use borrow.Author.Tests.{eqb-true, ltb-true, ltb-false}
use Rattle.memory.specs.Memory.{Memory}
use Rattle.memory.specs.Rows.{has}
use Rattle.memory.specs.Window.{kept_block}
use Rattle.engine.specs.Moves.{insert_rising}
use Rattle.engine.specs.Calls.{Call, step, after}
use Rattle.engine.specs.Calls.Call.{deliver, work}
use Rattle.engine.proofs.Tests.{cond_by, clash}
use Rattle.engine.proofs.HasLaws.{has-at}
use Rattle.engine.proofs.HitLaws.{has-rising}
use Rattle.giving.specs.Giving.{aborted_in, gathered, Going, set_out_field, doing, give_step}
use Rattle.giving.specs.Statement.{named_in, Givings}
use Rattle.giving.proofs.Kept.{step-refused, give-keeps}

-- ---- one call more at the end of a list

pub after_on : (m : Memory) (cs : List Call) (c : Call) → after m (cs ++ (c ∷ [])) ≡ (step (after m cs) c).memory
unfolding after
after_on m [] c = refl
after_on m (d ∷ cs) c = after_on (step m d).memory cs c

or_false : (a : Bool) → a || false ≡ a
or_false true = refl
or_false false = refl

or_over : (a b c : Bool) → a || (b || c) ≡ (a || b) || c
or_over true b c = refl
or_over false b c = refl

or_turn : (a b : Bool) → a || b ≡ b || a
or_turn true true = refl
or_turn true false = refl
or_turn false true = refl
or_turn false false = refl

named_on : (t : ℕ) (m : Memory) (cs : List Call) (c : Call) → named_in t m (cs ++ (c ∷ [])) ≡ named_in t m cs || has t (aborted_in (step (after m cs) c).answer)
unfolding after named_in
named_on t m [] c = or_false (has t (aborted_in (step m c).answer))
named_on t m (d ∷ cs) c =
    ap (λ (x : Bool). has t (aborted_in (step m d).answer) || x) (named_on t (step m d).memory cs c)
    ∙ or_over (has t (aborted_in (step m d).answer)) (named_in t (step m d).memory cs) (has t (aborted_in (step (after (step m d).memory cs) c).answer))

-- ---- tickets gathered

unfoldable Climbs : List ℕ → Type 0
Climbs [] = Unit
Climbs (x ∷ xs) = ((z : ℕ) → has z xs ≡ true → x ≤ z) × Climbs xs

climbs_at : (l : List ℕ) → Climbs l → (j k : ℕ) → j < k → k < length l → get_or l j 0 ≤ get_or l k 0
unfolding Climbs
climbs_at [] r j k h u = absurd (not-suc-le-zero u)
climbs_at (x ∷ xs) r j zero h u = absurd (not-suc-le-zero h)
climbs_at (x ∷ xs) r zero (suc k) h u = r.0 (get_or xs k 0) (has-at _ xs k (le_of_suc-le-suc u) refl)
climbs_at (x ∷ xs) r (suc j) (suc k) h u = climbs_at xs r.1 j k (le_of_suc-le-suc h) (le_of_suc-le-suc u)

climbs_insert : (x : ℕ) (l : List ℕ) → Climbs l → Climbs (insert_rising x l)
unfolding Climbs insert_rising has
climbs_insert x [] r = ((λ z h. clash {b = false} h refl), tt)
climbs_insert x (y ∷ ys) r = cond_by Climbs (ltb x y) (λ e. (front (ltb-true x y e), r)) (λ e. (behind (ltb-false x y e), climbs_insert x ys r.1))
  where
    front : x < y → (z : ℕ) → has z (y ∷ ys) ≡ true → x ≤ z
    front e z h = cond_by (λ (b : Bool). b ≡ true → x ≤ z) (eqb y z) (λ q g. omega (arith, eqb-true y z q)) (λ q g. omega (arith, r.0 z g)) h

    behind : y ≤ x → (z : ℕ) → has z (insert_rising x ys) ≡ true → y ≤ z
    behind e z h = cond_by (λ (b : Bool). b ≡ true → y ≤ z) (eqb x z) (λ q g. omega (arith, eqb-true x z q)) (λ q g. r.0 z g) (sym (has-rising z x ys) ∙ h)

climbs_gathered : (ts l : List ℕ) → Climbs l → Climbs (gathered ts l)
unfolding gathered
climbs_gathered [] l r = r
climbs_gathered (t ∷ ts) l r = climbs_gathered ts (insert_rising t l) (climbs_insert t l r)

has-gathered : (t : ℕ) (ts l : List ℕ) → has t (gathered ts l) ≡ has t ts || has t l
unfolding gathered has
has-gathered t [] l = refl
has-gathered t (x ∷ ts) l = has-gathered t ts (insert_rising x l) ∙ ap (λ (b : Bool). has t ts || b) (has-rising t x l) ∙ go (eqb x t) (has t ts)
  where
    go : (b c : Bool) → c || cond b true (has t l) ≡ cond b true c || has t l
    go true true = refl
    go true false = refl
    go false c = refl

-- ---- the giving

-- a call that it may do
abbrev pub GivenCall : List ℕ → Call → Type 0
GivenCall lent c = (c ≡ work) ⊎ ((s : ℕ) × (c ≡ deliver (kept_block lent s)))

record Done (m : Memory) (lent : List ℕ) (g : Going) : Type 0 where
  memory : g.memory ≡ after m g.calls
  calls : (c : Call) → Memᴰ c g.calls → GivenCall lent c
  named : (t : ℕ) → has t g.aborted ≡ named_in t m g.calls
  rising : Climbs g.aborted

module _ (m : Memory) (lent : List ℕ) where
  none_done : (n : ℕ) → Done m lent (set_out_field m n)
  unfolding after named_in has Climbs
  none_done n = record { memory = refl; calls = λ c q. absurd (Memᴰ.not-nil q); named = λ t. refl; rising = tt }

  more-done : (c : Call) → GivenCall lent c → (g : Going) → Done m lent g → Done m lent (doing g c)
  unfolding doing
  more-done c w g D = record {
    memory = ap (λ (k : Memory). (step k c).memory) D.memory ∙ sym (after_on m g.calls c);
    calls = λ d q. go d (Memᴰ.append_cases g.calls q);
    named = λ t. has-gathered t (aborted_in (step g.memory c).answer) g.aborted
        ∙ or_turn (has t (aborted_in (step g.memory c).answer)) (has t g.aborted)
        ∙ ap (λ (b : Bool). b || has t (aborted_in (step g.memory c).answer)) (D.named t)
        ∙ ap (λ (k : Memory). named_in t m g.calls || has t (aborted_in (step k c).answer)) D.memory
        ∙ sym (named_on t m g.calls c);
    rising = climbs_gathered (aborted_in (step g.memory c).answer) g.aborted D.rising;
  }
    where
      this : (d : Call) → (d ≡ c) ⊎ Memᴰ d [] → GivenCall lent d
      this d (inl e) = rw e w
      this d (inr q) = absurd (Memᴰ.not-nil q)

      go : (d : Call) → Memᴰ d g.calls ⊎ Memᴰ d (c ∷ []) → GivenCall lent d
      go d (inl q) = D.calls d q
      go d (inr q) = this d (Memᴰ.cases_cons q)

  give-done : (told : List ℕ) → Done m lent (give_step m told lent)
  give-done told = give-keeps (Done m lent) (more-done work (inl refl)) lent (λ g s. more-done (deliver (kept_block lent s)) (inr (s, refl)) g) m told none_done

pub givings : Givings
givings = record {
  turned-away = step-refused;
  memory = λ m told lent. (give-done m lent told).memory;
  calls = λ m told lent. (give-done m lent told).calls;
  named = λ m told lent. (give-done m lent told).named;
  rising = λ m told lent. climbs_at (give_step m told lent).aborted (give-done m lent told).rising;
}
