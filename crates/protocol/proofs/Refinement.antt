-- From a machine to the model: a machine that refines the model agrees. Assumes nothing.
use Prim.Native.Nat.{ℕ}
use mathlib.Core.Path.{◌∙◌, ◌≡◌, ap, refl, subst, sym}
use mathlib.Core.Bool.{Bool, false, true, cond}
use mathlib.Core.Option.{Option, none, some}
use mathlib.Core.List.{List, [], ◌++◌, ◌∷◌, append_assoc, append-nil}
use native.Mathlib.Omega.{arith}
use lib.Dec.{eqb}
use borrow.Author.Tests.{eqb-true}
use Rattle.protocol.specs.Lists.{update}
use Rattle.protocol.specs.Writesets.{Message}
use Rattle.protocol.specs.Notices.{Notice}
use Rattle.protocol.specs.Replica.{Setup, Cursor, Replica, Event, refused, outcome}
use Rattle.protocol.specs.Journal.{Journal, Cut, appended}
use Rattle.protocol.specs.Observer.{Observed, Placed, Handout, sequence}
use Rattle.protocol.specs.System.{Call, begin, read, write, ask, withdraw, report, send, deliver, work, load, restart, notice, System, HandedOut, OneList, step, appends, Lent, made, PlacesApart, PlacesWithin}
use Rattle.protocol.specs.Statement.{Agreed}
use Rattle.protocol.specs.Machine.{Performed, Refines, refuses, follows, Machine, CommandClaim, MachineSystem, CommandAt, fresh_system, appended_by, after_command, run_commands, CommandLent, CommandPremise, system_of, CommandClaims, MachineTheorem}
use Rattle.protocol.proofs.Deeds as deeds
use Rattle.protocol.proofs.Deeds.{lone-alike, Does, AllLone, Deed, Done, next, reach, AllDone, next-lone}
use Rattle.protocol.proofs.Invariant.{SystemInv}
use Rattle.protocol.proofs.Keep.{replica-alike, DoesFit, inv-next, inv-fresh}
use Rattle.protocol.proofs.ClaimLaws.{grows-call, not-stale, call-claim}
use Rattle.protocol.proofs.Agreed.{agreed}
use Rattle.protocol.proofs.Fates.{out_of, fits}
use Rattle.protocol.proofs.Agreement.{fresh-lone}

module _ {X : Type 0} (S : Setup X) (M : Machine S) where
  open M use {Memory, Command, perform, meaning, Member, view, Sound, Allowed, make, refines, stays, made-sound, made_alike}

  -- a refusal other than 9 says nothing
  refusal-claim : (F : List (Placed X)) (D : List (Handout X)) (p : Observed X) (k : ℕ) (o : Option (Call X)) (c : ℕ) → (c ≡ 9 → ⊥) → CommandClaim S F D p k o (refused c)
  refusal-claim F D p k none c n = tt
  refusal-claim F D p k (some begin) c n = tt
  refusal-claim F D p k (some (read t i)) c n = λ v q. let z : ◌≡◌ {A = ℕ} 0 1 = cc in absurd (let w : ⊥ = omega arith in w)
  refusal-claim F D p k (some (write t i x)) c n = not-stale S (λ s. false) D k t c n
  refusal-claim F D p k (some (ask t)) c n = tt
  refusal-claim F D p k (some (withdraw t)) c n = tt
  refusal-claim F D p k (some report) c n = λ t u q. let z : ◌≡◌ {A = ℕ} 0 1 = cc in absurd (let w : ⊥ = omega arith in w)
  refusal-claim F D p k (some send) c n = tt
  refusal-claim F D p k (some (deliver m)) c n = tt
  refusal-claim F D p k (some work) c n = λ s u a q. let z : ◌≡◌ {A = ℕ} 0 1 = cc in absurd (let w : ⊥ = omega arith in w)
  refusal-claim F D p k (some load) c n = tt
  refusal-claim F D p k (some (restart l a)) c n = tt
  refusal-claim F D p k (some (notice a)) c n = tt

  abbrev AllSound : MachineSystem S M → Type 0
  AllSound g = (k : ℕ) → Member k → Sound k (g.memories k)

  -- a command as a deed
  abbrev deed : MachineSystem S M → CommandAt S M → Deed S
  deed g a = record { at = a.at; outcome = outcome (view a.at (perform a.at (g.memories a.at) a.command).memory) (perform a.at (g.memories a.at) a.command).event }

  module _ (g : MachineSystem S M) (sound : AllSound g) (a : CommandAt S M) (h : HandedOut g.messages (perform a.at (g.memories a.at) a.command).event)
      (lent : CommandLent S M (g.journals a.at) (g.notices a.at) a.at (g.memories a.at) a.command)
      (allowed : Allowed a.at (g.memories a.at) a.command) where
    abbrev k : ℕ
    k = a.at

    abbrev m : Memory
    m = g.memories a.at

    abbrev r : Replica X
    r = view a.at (g.memories a.at)

    abbrev J : Journal X
    J = g.journals a.at

    abbrev l : List Notice
    l = g.notices a.at

    abbrev did : Performed X Memory
    did = perform a.at (g.memories a.at) a.command

    -- what a command appends is what some call does
    appends-as : (b : Command) → Allowed k m b → (K : List (Message X)) → Cut J (appended_by S M k m b) K → (c : Call X) × Cut J (appends S r (step S r c)) K
    appends-as b may K C = go (refines k m b (sound k a.here) may)
      where
        go : Refines S (perform k) meaning (view k) m b → (c : Call X) × Cut J (appends S r (step S r c)) K
        go (refuses c n e L) = unfold step appended in (report, subst (λ (v : Event X). Cut J (appended S r (view k (perform k m b).memory).cursor.turn v) K) e C)
        go (follows c q e L) = (
          c,
          subst (λ (n : ℕ). Cut J (appended S r n (step S r c).event) K) (ap (λ (x : Cursor). x.turn) L.cursor)
              (subst (λ (v : Event X). Cut J (appended S r (view k (perform k m b).memory).cursor.turn v) K) e C),
        )

    lent_of : (c : Call X) → meaning a.command ≡ some c → did.event ≡ (step S r c).event → Lent S J l r c
    unfolding step
    lent_of c q e K n i = let C = lent K _ n _ _ (q ∙ ap some i) (e ∙ ap (λ (d : Call X). (step S r d).event) i) in (appends-as C.0.0 C.0.1 K C.0.2, C.1)

    does-of : Refines S (perform k) meaning (view k) m a.command → Does S J l r (deed g a).outcome
    does-of (refuses c n e L) = deeds.refuses c e L
    does-of (follows c q e L) = deeds.follows c e L (lent_of c q e)

    done : Done S (system_of S M g) (deed g a)
    done = (h, does-of (refines k m a.command (sound k a.here) allowed))

    -- it fits, with what comes after it
    fit : (A : PlacesApart S) (N : PlacesWithin S) (list : ℕ → List Notice) → AllLone S (system_of S M g) → (ds : List (Deed S)) → AllDone S (next S (system_of S M g) (deed g a)) ds
        → OneList Member list (reach S (next S (system_of S M g) (deed g a)) ds) → DoesFit S (out_of S list) (does-of (refines k m a.command (sound k a.here) allowed))
    unfolding does-of
    fit A N list W ds E O = go (refines k m a.command (sound k a.here) allowed)
      where
        go : (R : Refines S (perform k) meaning (view k) m a.command) → DoesFit S (out_of S list) (does-of R)
        go (refuses c n e L) = tt
        go (follows c q e L) = fits S A N Member list (system_of S M g) W (deed g a) done ds E O a.here c e L (lent_of c q e)

    said : (out : ℕ → Bool) (A : PlacesApart S) → SystemInv S out (system_of S M g) → (E : List (Placed X))
        → CommandClaim S (sequence g.handouts ++ E) g.handouts (g.observed a.at) a.at (meaning a.command) did.event
    said out A I E = go (refines k m a.command (sound k a.here) allowed)
      where
        F : List (Placed X)
        F = sequence g.handouts ++ E

        go : Refines S (perform k) meaning (view k) m a.command → CommandClaim S (sequence g.handouts ++ E) g.handouts (g.observed a.at) a.at (meaning a.command) did.event
        go (refuses c n e L) = subst (λ (v : Event X). CommandClaim S F g.handouts (g.observed k) k (meaning a.command) v) (sym e) (refusal-claim F g.handouts (g.observed k) k (meaning a.command) c n)
        go (follows c q e L) = subst (λ (v : Event X). CommandClaim S F g.handouts (g.observed k) k (meaning a.command) v) (sym e)
            (subst (λ (o : Option (Call X)). CommandClaim S F g.handouts (g.observed k) k o (step S r c).event) (sym q) (call-claim S out A (system_of S M g) I k c E))

    sound-next : AllSound (after_command S M g a)
    sound-next j here = two (eqb j k) refl
      where
        two : (b : Bool) → eqb j k ≡ b → Sound j (cond b did.memory (g.memories j))
        two true e = subst (λ (i : ℕ). Sound i did.memory) (sym (eqb-true j k e)) (stays k m a.command (sound k a.here) allowed)
        two false e = sound j here

  -- the group as the model sees it after a command
  next-is : (g : MachineSystem S M) (a : CommandAt S M) → next S (system_of S M g) (deed g a) ≡ system_of S M (after_command S M g a)
  next-is g a = ap (λ (f : ℕ → Replica X). record {
    replicas = f;
    journals = (after_command S M g a).journals;
    notices = (after_command S M g a).notices;
    observed = (after_command S M g a).observed;
    handouts = (after_command S M g a).handouts;
    messages = (after_command S M g a).messages;
  }) (λ i j. views j i)
    where
      m' : Memory
      m' = (perform a.at (g.memories a.at) a.command).memory

      by : (j : ℕ) (b : Bool) → eqb j a.at ≡ b → cond b (view a.at m') (view j (g.memories j)) ≡ view j (cond b m' (g.memories j))
      by j true e = ap (λ (i : ℕ). view i m') (sym (eqb-true j a.at e))
      by j false e = refl

      views : (j : ℕ) → update (λ i. view i (g.memories i)) a.at (view a.at m') j ≡ view j (update g.memories a.at m' j)
      views j = by j (eqb j a.at) refl

  unfoldable deeds_of : MachineSystem S M → List (CommandAt S M) → List (Deed S)
  deeds_of g [] = []
  deeds_of g (a ∷ cs) = deed g a ∷ deeds_of (after_command S M g a) cs

  reach-run : (cs : List (CommandAt S M)) (g : MachineSystem S M) → reach S (system_of S M g) (deeds_of g cs) ≡ system_of S M (run_commands S M g cs)
  unfolding deeds_of reach run_commands
  reach-run [] g = refl
  reach-run (a ∷ cs) g = ap (λ (w : System X). reach S w (deeds_of (after_command S M g a) cs)) (next-is g a) ∙ reach-run cs (after_command S M g a)

  all_done : (cs : List (CommandAt S M)) (g : MachineSystem S M) → AllSound g → CommandPremise S M g cs → AllDone S (system_of S M g) (deeds_of g cs)
  unfolding CommandPremise deeds_of AllDone
  all_done [] g s f = tt
  all_done (a ∷ cs) g s f = (
    done g s a f.0.0 f.0.1 f.0.2,
    subst (λ (w : System X). AllDone S w (deeds_of (after_command S M g a) cs)) (sym (next-is g a)) (all_done cs (after_command S M g a) (sound-next g s a f.0.0 f.0.1 f.0.2) f.1),
  )

  -- what holds of each member by itself, along a list of commands
  pub record MachineLone (g : MachineSystem S M) : Type 0 where
    pub lone : AllLone S (system_of S M g)
    pub sound : AllSound g

  pub lone-next : PlacesApart S → PlacesWithin S → (g : MachineSystem S M) → MachineLone g → (a : CommandAt S M) → HandedOut g.messages (perform a.at (g.memories a.at) a.command).event
      → CommandLent S M (g.journals a.at) (g.notices a.at) a.at (g.memories a.at) a.command → Allowed a.at (g.memories a.at) a.command → MachineLone (after_command S M g a)
  lone-next A N g H a h lent may = record {
    lone = subst (AllLone S) (next-is g a) (next-lone S A N (system_of S M g) H.lone (deed g a) (done g H.sound a h lent may));
    sound = sound-next g H.sound a h lent may;
  }

  pub fresh-machine : MachineLone (fresh_system S M)
  fresh-machine = record {
    lone = record { formed = (fresh-lone S).formed; each = λ k. lone-alike S [] [] _ (made S k) (view k (make k)) (made_alike k) ((fresh-lone S).each k) };
    sound = made-sound;
  }

  pub lone-commands : PlacesApart S → PlacesWithin S → (cs : List (CommandAt S M)) (g : MachineSystem S M) → MachineLone g → CommandPremise S M g cs → MachineLone (run_commands S M g cs)
  unfolding CommandPremise run_commands
  lone-commands A N [] g H f = H
  lone-commands A N (a ∷ cs) g H f = lone-commands A N cs (after_command S M g a) (lone-next A N g H a f.0.0 f.0.1 f.0.2) f.1

  -- ---- a list in two parts
  pub run-parts : (before after : List (CommandAt S M)) (g : MachineSystem S M) → run_commands S M g (before ++ after) ≡ run_commands S M (run_commands S M g before) after
  unfolding run_commands
  run-parts [] after g = refl
  run-parts (a ∷ before) after g = run-parts before after (after_command S M g a)

  pub premise-parts : (before after : List (CommandAt S M)) (g : MachineSystem S M) → CommandPremise S M g (before ++ after) → CommandPremise S M g before × CommandPremise S M (run_commands S M g before) after
  unfolding CommandPremise run_commands
  premise-parts [] after g f = (tt, f)
  premise-parts (a ∷ before) after g f = let p = premise-parts before after (after_command S M g a) f.1 in ((f.0, p.0), p.1)

  -- ---- with the one list l at the end
  module _ (A : PlacesApart S) (N : PlacesWithin S) (l : ℕ → List Notice) where
    pub record MachineInv (g : MachineSystem S M) : Type 0 where
      pub inv : SystemInv S (out_of S l) (system_of S M g)
      pub whole : MachineLone g

    one_list : (g : MachineSystem S M) (a : CommandAt S M) (cs : List (CommandAt S M)) → OneList Member l (system_of S M (run_commands S M (after_command S M g a) cs))
        → OneList Member l (reach S (next S (system_of S M g) (deed g a)) (deeds_of (after_command S M g a) cs))
    one_list g a cs O = subst (OneList Member l) (sym (ap (λ (w : System X). reach S w (deeds_of (after_command S M g a) cs)) (next-is g a) ∙ reach-run cs (after_command S M g a))) O

    inv-command : (g : MachineSystem S M) → MachineInv g → (a : CommandAt S M) (cs : List (CommandAt S M)) → CommandPremise S M g (a ∷ cs) → OneList Member l (system_of S M (run_commands S M g (a ∷ cs)))
        → MachineInv (after_command S M g a)
    unfolding CommandPremise run_commands done
    inv-command g H a cs f O = let s = H.whole.sound in let w = lone-next A N g H.whole a f.0.0 f.0.1 f.0.2 in record {
      inv = subst (SystemInv S (out_of S l)) (next-is g a) (inv-next S (out_of S l) A (system_of S M g) H.inv (deed g a) (done g s a f.0.0 f.0.1 f.0.2)
          (fit g s a f.0.0 f.0.1 f.0.2 A N l H.whole.lone (deeds_of (after_command S M g a) cs)
          (subst (λ (v : System X). AllDone S v (deeds_of (after_command S M g a) cs)) (sym (next-is g a)) (all_done cs (after_command S M g a) w.sound f.1)) (one_list g a cs O)));
      whole = w;
    }

    pub inv-commands : (cs : List (CommandAt S M)) (g : MachineSystem S M) → MachineInv g → CommandPremise S M g cs → OneList Member l (system_of S M (run_commands S M g cs)) → MachineInv (run_commands S M g cs)
    unfolding CommandPremise run_commands
    inv-commands [] g H f O = H
    inv-commands (a ∷ cs) g H f O = inv-commands cs (after_command S M g a) (inv-command g H a cs f O) f.1 O

    -- at every first part of a list whose end has the one list: the premise of the part alone does not give it
    pub inv-part : (before after : List (CommandAt S M)) (g : MachineSystem S M) → MachineInv g → CommandPremise S M g (before ++ after)
        → OneList Member l (system_of S M (run_commands S M g (before ++ after))) → MachineInv (run_commands S M g before)
    unfolding CommandPremise run_commands
    inv-part [] after g H f O = H
    inv-part (a ∷ before) after g H f O = inv-part before after (after_command S M g a) (inv-command g H a (before ++ after) f O) f.1 O

    commands-grow : (cs : List (CommandAt S M)) (g : MachineSystem S M) → (E : List (Placed X)) × (sequence (run_commands S M g cs).handouts ≡ sequence g.handouts ++ E)
    unfolding run_commands
    commands-grow [] g = ([], sym (append-nil (sequence g.handouts)))
    commands-grow (a ∷ cs) g =
        let u = grows-call S (out_of S l) g.handouts a.at (g.observed a.at) (perform a.at (g.memories a.at) a.command).event in
        let v = commands-grow cs (after_command S M g a) in
        (u.0 ++ v.0, v.1 ∙ ap (λ (F : List (Placed X)). F ++ v.0) u.1 ∙ append_assoc (sequence g.handouts) u.0 v.0)

    command-claims-hold : (cs : List (CommandAt S M)) (g : MachineSystem S M) → MachineInv g → CommandPremise S M g cs → OneList Member l (system_of S M (run_commands S M g cs))
        → CommandClaims S M (sequence (run_commands S M g cs).handouts) g cs
    unfolding run_commands CommandPremise CommandClaims
    command-claims-hold [] g H f O = tt
    command-claims-hold (a ∷ cs) g H f O = let E = commands-grow (a ∷ cs) g in (
      rw E.1 (said g H.whole.sound a f.0.0 f.0.1 f.0.2 (out_of S l) A H.inv E.0),
      command-claims-hold cs (after_command S M g a) (inv-command g H a cs f O) f.1 O,
    )

    pub fresh-inv : MachineInv (fresh_system S M)
    fresh-inv = let I = inv-fresh S (out_of S l) in record {
      inv = record {
        log = I.log;
        listed = I.listed;
        whole = I.whole;
        each = λ k. replica-alike S (out_of S l) I.log _ k (made S k) (view k (make k)) (made_alike k) (I.each k);
        journals = λ k. rw (made_alike k).cursor (I.journals k);
      };
      whole = fresh-machine;
    }

    -- of a run from the start, as a list and its first part
    pub inv_at : (cs before after : List (CommandAt S M)) → cs ≡ before ++ after → CommandPremise S M (fresh_system S M) cs → OneList Member l (system_of S M (run_commands S M (fresh_system S M) cs))
        → MachineInv (run_commands S M (fresh_system S M) before)
    inv_at cs before after e f O = inv-part before after (fresh_system S M) fresh-inv (subst (CommandPremise S M (fresh_system S M)) e f)
        (subst (λ (l' : List (CommandAt S M)). OneList Member l (system_of S M (run_commands S M (fresh_system S M) l'))) e O)

    -- what is claimed of the group holds at every first part too
    pub agreed-at : (cs before after : List (CommandAt S M)) → cs ≡ before ++ after → CommandPremise S M (fresh_system S M) cs → OneList Member l (system_of S M (run_commands S M (fresh_system S M) cs))
        → Agreed S (system_of S M (run_commands S M (fresh_system S M) before))
    agreed-at cs before after e f O = agreed S (out_of S l) (system_of S M (run_commands S M (fresh_system S M) before)) (inv_at cs before after e f O).inv

pub machine_agreement : {X : Type 0} (S : Setup X) → MachineTheorem S
machine_agreement S A N M cs f l O = record {
  group = agreed S (out_of S l) (system_of S M (run_commands S M (fresh_system S M) cs)) (inv-commands S M A N l cs (fresh_system S M) (fresh-inv S M A N l) f O).inv;
  calls = command-claims-hold S M A N l cs (fresh_system S M) (fresh-inv S M A N l) f O;
}
