-- Lists of calls in parts, and one call more at their end. Assumes nothing.
use Prim.Native.Nat.{ℕ}
use mathlib.Core.Bool.{true}
use mathlib.Core.Path.{◌≡◌, refl, sym, ap, ◌∙◌}
use mathlib.Core.Logic.{◌⊎◌, inl, inr}
use mathlib.Core.List.Memᴰ
use mathlib.Core.List.{List, [], ◌∷◌, ◌++◌}
use native.Mathlib.Omega.{arith}
use lib.IntN.{ℤ}
use lib.ListN.{length, length-append, get_or, drop}
use Rattle.block.specs.Message.{signed32}
use Rattle.engine.specs.Answers.Answer.{kept}
use Rattle.engine.specs.Calls.{step}
use Rattle.engine.specs.Calls.Call.{deliver}
use Rattle.engine.specs.History.AnyCall.{call, restart}
use Rattle.protocol.specs.Lists.{Mem}
use Rattle.agreement.specs.Group.{arguments_of, Members, CallAt, next, run, Comes, MayBeAt, Calls, PremiseFrom}
use Rattle.agreement.proofs.Runs.{LentOurs}

-- a member of a list with one more at its end
split_last : {A : Type 0} (cs : List A) (c : A) (before : List A) (d : A) (after : List A) → cs ++ (c ∷ []) ≡ before ++ (d ∷ after)
    → ((before ≡ cs) × (d ≡ c)) ⊎ ((rest : List A) × (cs ≡ before ++ (d ∷ rest)))
split_last {A} [] c [] d after e = inl (refl, sym (ap (λ (l : List A). get_or l 0 c) e))
split_last [] c (b ∷ bs) d after e = absurd (let a = ap length e in let l = length-append bs (d ∷ after) in let z : ⊥ = omega arith in z)
split_last {A} (x ∷ xs) c [] d after e = inr (xs, ap (λ (y : A). y ∷ xs) (ap (λ (l : List A). get_or l 0 c) e))
split_last {A} (x ∷ xs) c (b ∷ bs) d after e = go (split_last xs c bs d after (ap (drop 1) e))
  where
    go : ((bs ≡ xs) × (d ≡ c)) ⊎ ((rest : List A) × (xs ≡ bs ++ (d ∷ rest))) → (((b ∷ bs) ≡ (x ∷ xs)) × (d ≡ c)) ⊎ ((rest : List A) × ((x ∷ xs) ≡ (b ∷ bs) ++ (d ∷ rest)))
    go (inl q) = inl (ap (λ (y : A). y ∷ bs) (sym (ap (λ (l : List A). get_or l 0 c) e)) ∙ ap (λ (l : List A). x ∷ l) q.0, q.1)
    go (inr q) = inr (q.0, ap (λ (y : A). y ∷ xs) (ap (λ (l : List A). get_or l 0 c) e) ∙ ap (λ (l : List A). b ∷ l) q.1)

pub run-append : (a b : List CallAt) (g : Members) → run g (a ++ b) ≡ run (run g a) b
unfolding run
run-append [] b g = refl
run-append (c ∷ a) b g = run-append a b (next g c)

pub calls_on : (n : ℕ) (cs : List CallAt) → Calls n cs → (c : CallAt) → MayBeAt n c.at c.does × (signed32 (arguments_of c.does).value ≡ true) → Calls n (cs ++ (c ∷ []))
calls_on n cs f c h d q = go (Memᴰ.append_cases cs q)
  where
    this : (d ≡ c) ⊎ Mem d [] → MayBeAt n d.at d.does × (signed32 (arguments_of d.does).value ≡ true)
    this (inl e) = rw e h
    this (inr r) = absurd (Memᴰ.not-nil r)

    go : Mem d cs ⊎ Mem d (c ∷ []) → MayBeAt n d.at d.does × (signed32 (arguments_of d.does).value ≡ true)
    go (inl r) = f d r
    go (inr r) = this (Memᴰ.cases_cons r)

-- what the premise says of the call c in the group g
pub record PremiseOf (n : ℕ) (start : List ℤ) (g : Members) (c : CallAt) : Type 0 where
  pub delivered : (bytes : List ℕ) → c.does ≡ call (deliver bytes) → (step (g.memories c.at) (deliver bytes)).answer ≡ kept → Mem bytes g.blocks
  pub lent : LentOurs n start c.at (g.memories c.at) (g.disks c.at) (g.taken c.at) c.does

module _ (n : ℕ) (start : List ℤ) (g : Members) (cs : List CallAt) (p : PremiseFrom n start g cs) where
  -- of a call of a list
  pub premise-of : (before : List CallAt) (c : CallAt) → Comes cs before c → PremiseOf n start (run g before) c
  premise-of before c q = record {
    delivered = λ bytes e. p.delivered before c.at bytes (q.0, q.1 ∙ ap (λ d. before ++ (record { at = c.at; does = d } ∷ q.0)) e);
    lent = λ size own values j a l x b e. p.lent before c.at size own values j a l x b (q.0, q.1 ∙ ap (λ d. before ++ (record { at = c.at; does = d } ∷ q.0)) e);
  }

  -- with one call more
  pub premise-on : (c : CallAt) → PremiseOf n start (run g cs) c → PremiseFrom n start g (cs ++ (c ∷ []))
  premise-on c P = record {
    delivered = λ before k bytes q. (of before (record { at = k; does = call (deliver bytes) }) (split_last cs c before _ q.0 q.1)).delivered bytes refl;
    lent = λ before k size own values j a l x b q. (of before (record { at = k; does = restart size own values j a l }) (split_last cs c before _ q.0 q.1)).lent size own values j a l x b refl;
  }
    where
      of : (before : List CallAt) (d : CallAt) → ((before ≡ cs) × (d ≡ c)) ⊎ ((rest : List CallAt) × (cs ≡ before ++ (d ∷ rest))) → PremiseOf n start (run g before) d
      of before d (inl q) = rw (q.0, q.1) P
      of before d (inr q) = premise-of before d q
