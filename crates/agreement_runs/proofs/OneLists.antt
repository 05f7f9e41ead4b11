-- The premise on the notices at a run's end: met by a run without notices, and as a test that one with notices computes. Assumes nothing.
use Prim.Native.Nat.{ℕ, zero, suc, ◌<◌, ◌≤◌}
use mathlib.Core.Path.{◌≡◌, refl, sym, ap, ◌∙◌, subst}
use mathlib.Core.Logic.{◌⊎◌, inl, inr}
use mathlib.Core.Bool.{Bool, true, false, cond, not, ◌&&◌}
use mathlib.Core.List.Memᴰ
use mathlib.Core.List.{List, [], ◌∷◌, ◌++◌}
use native.Mathlib.Omega.{arith}
use lib.Dec.{leb, eqb}
use lib.IntN.{ℤ}
use borrow.Author.Tests.{ne_eqb, eqb-true, leb-true, leb-false, not-true}
use Rattle.block.specs.Answers.{header_of}
use Rattle.block.proofs.BoolLaws.{both}
use Rattle.memory.specs.Memory.{Memory}
use Rattle.memory.specs.Notices.{Notice, puts_out}
use Rattle.engine.specs.Answers.{Outcome}
use Rattle.engine.specs.Calls.{Call}
use Rattle.engine.specs.Calls.Call.{begin, read, write, ask, withdraw, report, send, deliver, work, load, notice}
use Rattle.engine.specs.History.{AnyCall, any_step}
use Rattle.engine.specs.History.AnyCall.{call, restart}
use Rattle.engine.proofs.Tests.{clash, same_by}
use Rattle.engine.proofs.Steps.{restart-by}
use Rattle.protocol.specs.Lists.{Mem, any_of, keep}
use Rattle.protocol.proofs.ListLaws.{bool_by, less_by, any_false, keep-mem, update-by}
use Rattle.agreement.specs.Group.{arguments_of, is_taken, Members, CallAt, fresh, run, next, PremiseFrom, about, Beginning, OneList, Premise}
use Rattle.agreement.proofs.Runs.{noticing}
use Rattle.agreement_runs.proofs.Premises.{same_notice, same_notice_lem, Cut, walked, calls-premise}

-- ---- a run without notices

abbrev is_notice : AnyCall → Bool
is_notice (call begin) = false
is_notice (call (read t i)) = false
is_notice (call (write t i v)) = false
is_notice (call (ask t)) = false
is_notice (call (withdraw t)) = false
is_notice (call report) = false
is_notice (call (send b)) = false
is_notice (call (deliver b)) = false
is_notice (call work) = false
is_notice (call (load l)) = false
is_notice (call (notice a)) = true
is_notice (restart size own values j a l) = false

abbrev pub tells : CallAt → Bool
tells c = is_notice c.does

lent_none : (c : Call) → is_notice (call c) ≡ false → (arguments_of (call c)).notices ≡ []
lent_none begin e = refl
lent_none (read t i) e = refl
lent_none (write t i v) e = refl
lent_none (ask t) e = refl
lent_none (withdraw t) e = refl
lent_none report e = refl
lent_none (send b) e = refl
lent_none (deliver b) e = refl
lent_none work e = refl
lent_none (load l) e = refl
lent_none (notice a) e = clash {b = true} refl e

abbrev is_some : List Notice → Bool
is_some [] = false
is_some (a ∷ l) = true

-- what a restart is lent it does not take
not_taken : (m : Memory) (c : AnyCall) → is_notice c ≡ false → is_taken (any_step m c).answer ≡ false
not_taken m (call c) e =
    bool_by (is_taken (any_step m (call c)).answer)
    (λ t. let n = noticing m (call c) t in clash (ap is_some (sym (lent_none c e) ∙ n.1)) refl)
    (λ f. f)
not_taken m (restart size own values j a l) e = restart-by (λ (o : Outcome). is_taken o.answer ≡ false) m size own values j a l (λ z. refl) (λ z. refl)

neither : (a b : Bool) → cond a true b ≡ false → (a ≡ false) × (b ≡ false)
neither true b e = clash {b = true} refl e
neither false b e = (refl, e)

pub taken-kept : (cs : List CallAt) (g : Members) → any_of tells cs ≡ false → (j : ℕ) → (run g cs).taken j ≡ g.taken j
unfolding run any_of
taken-kept [] g e j = refl
taken-kept (c ∷ cs) g e j =
    let h = neither (is_notice c.does) (any_of tells cs) e in
    taken-kept cs (next g c) h.1 j
    ∙ update-by (λ (i : ℕ) (l : List Notice). l ≡ g.taken i) g.taken c.at _ (rw (not_taken (g.memories c.at) c.does h.0)) (λ i d. refl) j

-- nobody took one: the lists are empty
pub none_taken : (cs : List CallAt) (g : Members) → ((j : ℕ) → g.taken j ≡ []) → OneList cs (λ k. []) g
unfolding puts_out keep
none_taken cs g h = record {
  of_its = λ k a q. absurd (Memᴰ.not-nil q);
  taken = λ c m k. record { lacking = []; whole = rw (h c.at); ahead = λ a q. absurd (Memᴰ.not-nil q) };
  handed = λ b m. refl;
}

pub quiet : (n : ℕ) (start : List ℤ) (cs : List CallAt) (hs : List Cut) → (walked n start cs hs).fine ≡ true → any_of tells cs ≡ false → Premise n start cs
quiet n start cs hs e q = record { calls = calls-premise n start cs hs e; lists = λ k. []; one = none_taken cs (run (fresh n start) cs) (taken-kept cs (fresh n start) q) }

-- ---- a run with notices

-- the first list is a beginning of the second, and the turn is not above the slot of one that is lacking
unfoldable pub begins : List Notice → List Notice → ℕ → Bool
begins [] [] t = true
begins [] (b ∷ m) t = leb t b.slot && begins [] m t
begins (a ∷ l) [] t = false
begins (a ∷ l) (b ∷ m) t = same_notice a b && begins l m t

lacks-all : (m : List Notice) (t : ℕ) → begins [] m t ≡ true → (a : Notice) → Mem a m → t ≤ a.slot
unfolding begins
lacks-all [] t e a q = absurd (Memᴰ.not-nil q)
lacks-all (b ∷ m) t e a q =
    let h = both (leb t b.slot) (begins [] m t) e in
    go (leb-true t b.slot h.left) (lacks-all m t h.right a) (Memᴰ.cases_cons q)
  where
    go : t ≤ b.slot → (Mem a m → t ≤ a.slot) → (a ≡ b) ⊎ Mem a m → t ≤ a.slot
    go h f (inl z) = subst (λ (x : Notice). t ≤ x.slot) (sym z) h
    go h f (inr z) = f z

begins_is : (l m : List Notice) (t : ℕ) → begins l m t ≡ true → Beginning l m t
unfolding begins
begins_is [] m t e = record { lacking = m; whole = refl; ahead = lacks-all m t e }
begins_is (a ∷ l) [] t e = clash {b = false} e refl
begins_is (a ∷ l) (b ∷ m) t e =
    let h = both (same_notice a b) (begins l m t) e in
    let B = begins_is l m t h.right in
    record { lacking = B.lacking; whole = λ i. sym (same_notice_lem a b h.left) i ∷ B.whole i; ahead = B.ahead }

-- of each number below m
unfoldable pub up_to : (ℕ → Bool) → ℕ → Bool
up_to p zero = true
up_to p (suc m) = p m && up_to p m

up_to_lem : (p : ℕ → Bool) (m : ℕ) → up_to p m ≡ true → (k : ℕ) → k < m → p k ≡ true
unfolding up_to
up_to_lem p zero e k h = absurd (omega (arith, h))
up_to_lem p (suc m) e k h =
    let b = both (p m) (up_to p m) e in
    same_by k m (λ q. subst (λ (x : ℕ). p x ≡ true) (sym q) b.left) (λ d. up_to_lem p m b.right k (omega (arith, h, d)))

module _ (n : ℕ) where
  abbrev pub beyond : Notice → Bool
  beyond a = leb n a.about

  none-about : (l : List Notice) → any_of beyond l ≡ false → (k : ℕ) → n ≤ k → about k l ≡ []
  unfolding any_of keep
  none-about [] e k h = refl
  none-about (a ∷ l) e k h =
      let b = neither (leb n a.about) (any_of beyond l) e in
      let z = leb-false n a.about b.0 in
      let d : a.about ≡ k → ⊥ = λ q. let w : ⊥ = omega (arith, z, h, q) in w in
      rw (ne_eqb a.about k d) (none-about l b.1 k h)

  -- of what a member has taken, with its turn
  abbrev pub begins_each : List Notice → List Notice → ℕ → Bool
  begins_each all l t = not (any_of beyond l) && up_to (λ k. begins (about k l) (about k all) t) n

  -- `all`: the notices, those about each replica in order; m: the members
  abbrev pub fit : List Notice → ℕ → Members → Bool
  fit all m g =
      not (any_of beyond all)
      && (up_to (λ j. begins_each all (g.taken j) (g.memories j).turn.slot) m
      && not (any_of (λ b. puts_out false (about (header_of b).sender all) (header_of b).sender (header_of b).slot) g.blocks))

  abbrev pub outside : ℕ → CallAt → Bool
  outside m c = leb m c.at

  pub one_list : (all : List Notice) (m : ℕ) (cs : List CallAt) (g : Members) → fit all m g ≡ true → any_of (outside m) cs ≡ false → OneList cs (λ k. about k all) g
  one_list all m cs g e o =
      let x = both (not (any_of beyond all)) _ e in
      let y = both (up_to (λ j. begins_each all (g.taken j) (g.memories j).turn.slot) m) _ x.right in record {
        of_its = λ k a q. eqb-true a.about k (keep-mem (λ (b : Notice). eqb b.about k) all a q).1;
        taken = λ c q k. member c (up_to_lem _ m y.left c.at (let z = leb-false m c.at (any_false (outside m) cs o c q) in omega (arith, z))) (not-true _ x.left) k;
        handed = λ b q. any_false _ g.blocks (not-true _ y.right) b q;
      }
    where
      member : (c : CallAt) → begins_each all (g.taken c.at) (g.memories c.at).turn.slot ≡ true → any_of beyond all ≡ false → (k : ℕ)
          → Beginning (about k (g.taken c.at)) (about k all) (g.memories c.at).turn.slot
      member c h u k =
          let z = both (not (any_of beyond (g.taken c.at))) _ h in
          less_by k n
          (λ i. begins_is (about k (g.taken c.at)) (about k all) (g.memories c.at).turn.slot (up_to_lem _ n z.right k i))
          (λ i. record {
            lacking = [];
            whole = none-about all u k i ∙ ap (λ (l : List Notice). l ++ []) (sym (none-about (g.taken c.at) (not-true _ z.left) k i));
            ahead = λ a q. absurd (Memᴰ.not-nil q);
          })

-- the premise of such a run, on each call and at the end
pub noticed-premise : (n : ℕ) (start : List ℤ) (cs : List CallAt) → PremiseFrom n start (fresh n start) cs → (all : List Notice) (m : ℕ)
    → fit n all m (run (fresh n start) cs) ≡ true → any_of (outside n m) cs ≡ false → Premise n start cs
noticed-premise n start cs p all m e o = record { calls = p; lists = λ k. about k all; one = one_list n all m cs (run (fresh n start) cs) e o }
