-- The former rule beside the present one, and each replica's share of the giving. Assumes nothing.
use Prim.Native.Nat.{ℕ, zero, suc, ◌+◌, ◌-◌, ◌%◌, ◌≤◌, ◌<◌}
use mathlib.Core.Path.{◌≡◌, refl, sym, ap, ◌∙◌, subst}
use mathlib.Core.Bool.{true, false, not}
use mathlib.Core.Logic.{◌⊎◌, inl, inr}
use mathlib.Core.List.{List}
use native.Mathlib.Nat.{mod-lt, mod-eq_of_lt, mod_self, mod-add-mod, add-mod_right}
use native.Mathlib.Omega.{arith}
use lib.Dec.{eqb}
use lib.ListN.{length, get_or-eq_default}
use borrow.Author.Tests.{eqb-false, ne_eqb, not-true}
use Rattle.block.proofs.BoolLaws.{both, not_so}
use Rattle.memory.specs.Memory.{Memory}
use Rattle.engine.proofs.Tests.{same_by, less_by, clash}
use Rattle.giving.specs.Choice.{down, told_turn, may_give, candidate, giver_of}
use Rattle.giving.specs.Giving.{giver_refusal, give_refusal, give_step}
use Rattle.giving.specs.Spread.{former_best, former_giver, former_giver_refusal, former_refusal, former_step, TiesAlone, Level, EvenGiving}
use Rattle.giving.proofs.Choices.{not_own, Best, best-in, best, candidate-below}

-- ---- both rules look at every replica

-- the candidates are all of them
candidate-of : (own n g : ℕ) → g < n → (i : ℕ) × (i < n) × (candidate own n i ≡ g)
candidate-of own n g h = go ((own + 1) % n) refl (mod-lt (own + 1) {m = n} (omega arith))
  where
    at : (r i x : ℕ) → r ≡ (own + 1) % n → r + i ≡ x → x % n ≡ g → candidate own n i ≡ g
    at r i x e z m = sym (mod-add-mod (own + 1) n i) ∙ ap (λ (y : ℕ). (y + i) % n) (sym e) ∙ ap (λ (y : ℕ). y % n) z ∙ m

    go : (r : ℕ) → r ≡ (own + 1) % n → r < n → (i : ℕ) × (i < n) × (candidate own n i ≡ g)
    go r e l = less_by g r
        (λ u. (g + n - r, omega arith, at r (g + n - r) (g + n) e (omega arith) (add-mod_right g n ∙ mod-eq_of_lt h)))
        (λ u. (g - r, omega arith, at r (g - r) g e (omega arith) (mod-eq_of_lt h)))

module _ (own : ℕ) (told : List ℕ) where
  -- a turn is told of who may give
  may-below : (g : ℕ) → may_give own told g ≡ true → g < length told
  may-below g h = less_by g (length told) (λ l. l) (λ l.
      absurd (eqb-false (told_turn told g) down (not-true _ (both (not (eqb g own)) _ h).right) (get_or-eq_default told down l)))

  -- nobody may give, or g may and none has a higher turn
  data Found (g : ℕ) : Type 0 where
    none : g ≡ own → ((h : ℕ) → may_give own told h ≡ false) → Found g
    some : may_give own told g ≡ true → ((h : ℕ) → may_give own told h ≡ true → told_turn told h ≤ told_turn told g) → Found g

  -- in an order that has every replica
  found : (order : ℕ → ℕ) → ((g : ℕ) → g < length told → (i : ℕ) × (i < length told) × (order i ≡ g)) → (g : ℕ) → Best own told order (length told) g → Found g
  found order all g (inl q) = none q.0 (λ h. not_so (may_give own told h) (λ m.
      let c = all h (may-below h m) in
      clash m (ap (may_give own told) (sym c.2) ∙ q.1 c.0 c.1)))
  found order all g (inr F) = some F.may (λ h m.
      let c = all h (may-below h m) in
      subst (λ (x : ℕ). told_turn told x ≤ told_turn told g) c.2 (F.highest c.0 c.1 (ap (may_give own told) c.2 ∙ m)))

  giver-found : Found (giver_of own told)
  giver-found = found (candidate own (length told)) (candidate-of own (length told)) (giver_of own told) (best own told (length told))

  former-best : Best own told (λ i. i) (length told) (former_giver own told)
  unfolding former_best
  former-best = best-in own told (λ i. i) (former_best own told) refl (λ c. refl) (length told)

  former-found : Found (former_giver own told)
  former-found = found (λ i. i) (λ g h. (g, h, refl)) (former_giver own told) former-best

  -- one that the former rule finds is another that is up
  pub former-may : (former_giver own told ≡ own → ⊥) → (former_giver own told < length told) × (may_give own told (former_giver own told) ≡ true)
  former-may d = go former-found
    where
      go : Found (former_giver own told) → (former_giver own told < length told) × (may_give own told (former_giver own told) ≡ true)
      go (none e f) = absurd (d e)
      go (some m f) = (may-below (former_giver own told) m, m)

  former-lowest : (g : ℕ) → g < former_giver own told → may_give own told g ≡ true → told_turn told g < told_turn told (former_giver own told)
  former-lowest g h m = go former-best
    where
      go : Best own told (λ i. i) (length told) (former_giver own told) → told_turn told g < told_turn told (former_giver own told)
      go (inl q) = clash m (q.1 g (may-below g m))
      go (inr F) = F.first g (let e = F.is in omega arith) m

  -- ---- two that are found

  same-found : (a b : ℕ) → Found a → Found b → (eqb a own ≡ eqb b own) × (told_turn told a ≡ told_turn told b)
  same-found a b (none e f) (none u v) = let z = e ∙ sym u in (ap (λ (x : ℕ). eqb x own) z, ap (told_turn told) z)
  same-found a b (none e f) (some m h) = clash m (f b)
  same-found a b (some m h) (none e f) = clash m (f a)
  same-found a b (some m h) (some u v) =
      let x = h b u in
      let y = v a m in
      (ne_eqb a own (not_own own told a m) ∙ sym (ne_eqb b own (not_own own told b u)), omega arith)

  found-alone : (a g : ℕ) → Found a → may_give own told g ≡ true → ((h : ℕ) → may_give own told h ≡ true → (h ≡ g → ⊥) → told_turn told h < told_turn told g) → a ≡ g
  found-alone a g (none e f) m k = clash m (f g)
  found-alone a g (some u v) m k = same_by a g (λ e. e) (λ d. absurd (let x = k a u d in let y = v g m in let z : ⊥ = omega arith in z))

  same-nobody : eqb (giver_of own told) own ≡ eqb (former_giver own told) own
  same-nobody = (same-found (giver_of own told) (former_giver own told) giver-found former-found).0

  same_turn : told_turn told (giver_of own told) ≡ told_turn told (former_giver own told)
  same_turn = (same-found (giver_of own told) (former_giver own told) giver-found former-found).1

-- ---- a giving by each rule

same_asked : (m : Memory) (told : List ℕ) → giver_refusal m told ≡ former_giver_refusal m told
unfolding giver_refusal former_giver_refusal
same_asked m told = rw (same-nobody m.group.own told) refl

same-refused : (m : Memory) (told lent : List ℕ) → give_refusal m told lent ≡ former_refusal m told lent
unfolding give_refusal former_refusal
same-refused m told lent = rw (same-nobody m.group.own told, same_turn m.group.own told) refl

same-given : (m : Memory) (told lent : List ℕ) → give_step m told lent ≡ former_step m told lent
unfolding give_step former_step
same-given m told lent = rw (same-refused m told lent, same_turn m.group.own told) refl

pub ties_alone : TiesAlone
ties_alone = record {
  lowest = former-lowest;
  nobody = same-nobody;
  turn = same_turn;
  alone = λ own told g m k. (found-alone own told (giver_of own told) g (giver-found own told) m k, found-alone own told (former_giver own told) g (former-found own told) m k);
  asked = same_asked;
  refused = same-refused;
  given = same-given;
}

-- ---- each replica's share

-- the one after k
after : (n k : ℕ) → k < n → ((k + 1 < n) × ((k + 1) % n ≡ k + 1)) ⊎ ((k + 1 ≡ n) × ((k + 1) % n ≡ 0))
after n k h = less_by (k + 1) n
    (λ l. inl (l, mod-eq_of_lt l))
    (λ l. let e : k + 1 ≡ n = omega arith in inr (e, ap (λ (x : ℕ). x % n) e ∙ mod_self n))

next-gives : (n t k : ℕ) (told : List ℕ) → 2 ≤ n → k < n → Level n t k told → giver_of k told ≡ (k + 1) % n
next-gives n t k told two h L = go (best k told (length told))
  where
    first : candidate k (length told) 0 ≡ (k + 1) % n
    first = ap (λ (x : ℕ). x % length told) (let e : k + 1 + 0 ≡ k + 1 = omega arith in e) ∙ ap (λ (x : ℕ). (k + 1) % x) L.each

    below : (k + 1) % n < n
    below = mod-lt (k + 1) {m = n} (omega arith)

    other : (k + 1) % n ≡ k → ⊥
    other e = by (after n k h)
      where
        by : ((k + 1 < n) × ((k + 1) % n ≡ k + 1)) ⊎ ((k + 1 ≡ n) × ((k + 1) % n ≡ 0)) → ⊥
        by (inl q) = let a = q.1 in omega arith
        by (inr q) = let a = q.0 in let b = q.1 in omega arith

    turn : told_turn told ((k + 1) % n) ≡ t
    turn = L.others ((k + 1) % n) below other

    may : may_give k told (candidate k (length told) 0) ≡ true
    may = ap (may_give k told) first ∙ rw (ne_eqb ((k + 1) % n) k other, ne_eqb (told_turn told ((k + 1) % n)) down (λ e. L.up (sym turn ∙ e))) refl

    go : Best k told (candidate k (length told)) (length told) (giver_of k told) → giver_of k told ≡ (k + 1) % n
    go (inl q) = clash may (q.1 0 (let e = L.each in omega arith))
    go (inr F) = less_by 0 F.place
        (λ l. absurd (
        let g = giver_of k told in
        let b : g < n = rw (F.is, L.each) (candidate-below k n F.place (let p = F.among in let e = L.each in omega arith)) in
        let a = L.others g b (not_own k told g F.may) in
        let c = F.first 0 l may in
        let d : told_turn told (candidate k (length told) 0) ≡ t = ap (told_turn told) first ∙ turn in
        let z : ⊥ = omega arith in z))
        (λ l. F.is ∙ ap (candidate k (length told)) (let e : F.place ≡ 0 = omega arith in e) ∙ first)

-- the one before g
before : (n g : ℕ) → 2 ≤ n → g < n → (k : ℕ) × (k < n) × ((k + 1) % n ≡ g)
before n zero two h = (n - 1, omega arith, ap (λ (x : ℕ). x % n) (let e : n - 1 + 1 ≡ n = omega arith in e) ∙ mod_self n)
before n (suc g) two h = (g, omega arith, ap (λ (x : ℕ). x % n) (let e : g + 1 ≡ suc g = omega arith in e) ∙ mod-eq_of_lt h)

-- is one alone
before-one : (n j k : ℕ) → j < n → k < n → (j + 1) % n ≡ (k + 1) % n → j ≡ k
before-one n j k h l e = by (after n j h) (after n k l)
  where
    by : ((j + 1 < n) × ((j + 1) % n ≡ j + 1)) ⊎ ((j + 1 ≡ n) × ((j + 1) % n ≡ 0)) → ((k + 1 < n) × ((k + 1) % n ≡ k + 1)) ⊎ ((k + 1 ≡ n) × ((k + 1) % n ≡ 0)) → j ≡ k
    by (inl p) (inl q) = let a = p.1 in let b = q.1 in omega arith
    by (inl p) (inr q) = let a = p.1 in let b = q.1 in omega arith
    by (inr p) (inl q) = let a = p.1 in let b = q.1 in omega arith
    by (inr p) (inr q) = let a = p.0 in let b = q.0 in omega arith

pub even_giving : EvenGiving
even_giving = record {
  next = next-gives;
  once = λ n t told two L g h.
      let b = before n g two h in (
        b.0,
        b.1,
        next-gives n t b.0 (told b.0) two b.1 (L b.0 b.1) ∙ b.2,
        (λ j l e. before-one n j b.0 l b.1 (sym (next-gives n t j (told j) two l (L j l)) ∙ e ∙ sym b.2)),
      );
}
