-- A block given to a replica waits there at the list's end, or the turn has passed its slot. Assumes nothing.
use Prim.Native.Nat.{ℕ}
use mathlib.Core.Path.{◌≡◌, refl, sym, ap, ◌∙◌, subst}
use mathlib.Core.List.{List, [], ◌∷◌, ◌++◌, append_assoc}
use lib.Dec.{eqb}
use lib.IntN.{ℤ}
use borrow.Author.Tests.{eqb-true}
use Rattle.block.specs.Answers.{header_of}
use Rattle.memory.specs.Memory.{Memory}
use Rattle.engine.specs.Make.{Setting}
use Rattle.engine.specs.Answers.{Outcome}
use Rattle.engine.specs.Answers.Answer.{restarted}
use Rattle.engine.specs.Calls.{refusal_of}
use Rattle.engine.specs.Calls.Call.{deliver}
use Rattle.engine.specs.History.{AnyCall, any_step}
use Rattle.engine.specs.History.AnyCall.{call, restart}
use Rattle.engine.proofs.Tests.{cond_by}
use Rattle.engine.proofs.Steps.{restart-by}
use Rattle.engine.proofs.Refusals.{refusals}
use Rattle.protocol.proofs.ListLaws.{update_same}
use Rattle.agreement.specs.Group.{Members, CallAt, fresh, next, run, Comes, Calls, Premise}
use Rattle.agreement.proofs.View.{Sound}
use Rattle.agreement.proofs.Runs.{run_on}
use Rattle.agreement_progress.specs.Progress.{giving, Given}
use Rattle.agreement_progress.proofs.Come.{HasCome, come-each, come-given}
use Rattle.agreement_progress.proofs.Parts.{walk, stood}
use Rattle.agreement_progress.proofs.Blocks.{givable}

-- what has come to a replica stays until the turn has passed it, or a restart is accepted
come_performed : (n s : ℕ) (m : Memory) → Sound n m → HasCome s m → (d : AnyCall) → ((x : ℕ) (b : List ℕ) → (any_step m d).answer ≡ restarted x b → ⊥) → HasCome s (any_step m d).memory
come_performed n s m R C (call c) none = come-each m R.shape s C c
come_performed n s m R C (restart size own values j a l) none =
    restart-by (λ (o : Outcome). ((x : ℕ) (b : List ℕ) → o.answer ≡ restarted x b → ⊥) → HasCome s o.memory) m size own values j a l (λ e g. absurd (g _ _ refl)) (λ e g. C) none

come_next : (n : ℕ) (g : Members) (k s : ℕ) → Sound n (g.memories k) → HasCome s (g.memories k) → (c : CallAt)
    → ((d : AnyCall) (x : ℕ) (b : List ℕ) → c ≡ record { at = k; does = d } → (any_step (g.memories k) d).answer ≡ restarted x b → ⊥) → HasCome s ((next g c).memories k)
come_next n g k s R C c none =
    cond_by (HasCome s) (eqb k c.at)
    (λ e. let z = eqb-true k c.at e in
    subst (λ (i : ℕ). HasCome s (any_step (g.memories i) c.does).memory) z
    (come_performed n s (g.memories k) R C c.does (λ x b. none c.does x b (ap (λ (i : ℕ). record { at = i; does = c.does }) (sym z)))))
    (λ e. C)

module _ (n : ℕ) (start : List ℤ) (setting : Setting n start) (cs : List CallAt) (f : Calls n cs) (p : Premise n start cs) (k : ℕ) (b : List ℕ) (G : Given n start cs k b) where
  abbrev Come : List CallAt → Type 0
  Come l = HasCome (header_of b).slot ((run (fresh n start) l).memories k)

  whole : cs ≡ (G.before ++ (giving k b ∷ [])) ++ G.later
  whole = G.comes ∙ sym (append_assoc G.before (giving k b ∷ []) G.later)

  begun : Come (G.before ++ (giving k b ∷ []))
  unfolding refusal_of
  begun =
      let m = (run (fresh n start) G.before).memories k in
      let e = refusals.number m (deliver b) in
      subst (λ (g : Members). HasCome (header_of b).slot (g.memories k)) (sym (run_on G.before (fresh n start) (giving k b)))
      (subst (HasCome (header_of b).slot) (sym (update_same (run (fresh n start) G.before).memories k _))
      (come-given m (stood n start setting cs f p G.before (giving k b ∷ G.later) G.comes k).sound.shape b
      (givable n start setting cs f p G.before (giving k b ∷ G.later) G.comes k b G.handed) (λ z. G.near (e ∙ z)) (λ z. G.live (e ∙ z))))

  onward : (mid : List CallAt) (c : CallAt) → Comes G.later mid c → Come ((G.before ++ (giving k b ∷ [])) ++ mid) → Come ((G.before ++ (giving k b ∷ [])) ++ (mid ++ (c ∷ [])))
  onward mid c q C =
      let l = G.before ++ (giving k b ∷ []) in
      let e : cs ≡ (l ++ mid) ++ (c ∷ q.0) = whole ∙ ap (λ (r : List CallAt). l ++ r) q.1 ∙ sym (append_assoc l mid (c ∷ q.0)) in
      subst Come (append_assoc l mid (c ∷ []))
      (subst (λ (g : Members). HasCome (header_of b).slot (g.memories k)) (sym (run_on (l ++ mid) (fresh n start) c))
      (come_next n (run (fresh n start) (l ++ mid)) k (header_of b).slot (stood n start setting cs f p (l ++ mid) (c ∷ q.0) e k).sound C c (λ d x y z a.
      G.since mid d x y (q.0, q.1 ∙ ap (λ (i : CallAt). mid ++ (i ∷ q.0)) z)
      (subst (λ (r : List CallAt). (any_step ((run (fresh n start) r).memories k) d).answer ≡ restarted x y) (append_assoc G.before (giving k b ∷ []) mid) a))))

  pub come-all : HasCome (header_of b).slot ((run (fresh n start) cs).memories k)
  come-all = subst Come (sym whole) (walk Come (G.before ++ (giving k b ∷ [])) G.later begun onward)
