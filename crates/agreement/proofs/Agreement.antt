-- Agreement: the statement's proof, from what each call owes. Assumes nothing.
use Prim.Native.Nat.{ℕ, suc, ◌-◌, ◌<◌}
use mathlib.Core.Path.{◌≡◌, sym, ap, ◌∙◌, subst}
use mathlib.Core.List.Memᴰ
use mathlib.Core.List.{List, [], ◌∷◌}
use native.Mathlib.Omega.{arith}
use lib.IntN.{ℤ, pos}
use lib.ListN.{length, length-map, get_or, take}
use lib.Seq.{length-take-le}
use borrow.Author.Tests.{ne_eqb}
use Rattle.memory.specs.Memory.{Memory}
use Rattle.engine.specs.Make.{Setting}
use Rattle.engine.specs.Answers.{Answer, WorkDone, Outcome}
use Rattle.engine.specs.Answers.Answer.{refused, made, began, got, wrote, queued, read_only, withdrew, reported, sent, kept, worked, loaded, noticed, restarted}
use Rattle.engine.specs.Client.{report_of}
use Rattle.engine.specs.Moves.{pass_next, commit_writeset, pass_out}
use Rattle.engine.specs.Calls.{Call, step}
use Rattle.engine.specs.Calls.Call.{read, write, work}
use Rattle.engine.specs.History.AnyCall.{call}
use Rattle.engine.proofs.Steps.{work-by}
use Rattle.engine.proofs.ShapeTurn.{working}
use Rattle.protocol.specs.Lists.{Mem}
use Rattle.protocol.specs.Writesets.{value_or}
use Rattle.protocol.specs.Notices as protocol
use Rattle.protocol.specs.Journal.{Journal, journal}
use Rattle.protocol.specs.Observer.{Observed, Placed, Handout, sequence, id_of, apply_all, handout_message, no_placed}
use Rattle.protocol.specs.Statement.{NotHandedOut, Committed, Agreed}
use Rattle.protocol.specs.System.{OneList}
use Rattle.protocol.specs.Machine.{MachineSystem, MachineAgreement, CommandPremise, CommandClaims, fresh_system, run_commands, system_of}
use Rattle.protocol.proofs.Refinement.{machine_agreement}
use Rattle.protocol.proofs.ListLaws.{mem-map}
use Rattle.protocol.proofs.SequenceLaws.{mem_at}
use Rattle.agreement.specs.Group.{message_in, heard, Members, CallAt, fresh, run, Comes, Calls}
use Rattle.agreement.specs.Statement.{InSequence, Agrees, FirstCommitter, group_after, Agreement}
use Rattle.agreement.proofs.View.{setup, Sound, Owed}
use Rattle.agreement.proofs.Replicas.{places_apart, places_within, made-sound}
use Rattle.agreement.proofs.Runs.{machine, machine_of, commands, journals_run, runs, sound_run, Said, said}

-- ---- places counted from 1, and what was put down

next_place : (c : ℕ) → suc c - 1 ≡ c
next_place c = omega arith

put-down : (D : List (Handout ℤ)) (k t : ℕ) → NotHandedOut D k t → InSequence D k t → ⊥
put-down D k t free p =
    let a = mem_at no_placed (sequence D) p.0 p.1 in
    free a.0 a.1.0 (ap (λ (e : Placed ℤ). e.sender) (sym a.1.1) ∙ p.2) (ap (λ (e : Placed ℤ). e.ticket) (sym a.1.1) ∙ p.3)

first_committer : (F : List (Placed ℤ)) (p : ℕ) → 0 < p → Rattle.protocol.specs.Statement.FirstCommitter F (p - 1) → FirstCommitter F p
first_committer F p h f = record { before = omega (arith, f.before); apart = λ q a b. f.apart (q - 1) (omega arith) (omega arith) }

-- ---- a work

-- the tickets that an answer names as aborted, and its ticket
abbrev named_by : Answer → List ℕ
named_by (refused n) = []
named_by made = []
named_by (began t) = []
named_by (got v) = []
named_by wrote = []
named_by queued = []
named_by read_only = []
named_by withdrew = []
named_by (reported r) = []
named_by (sent b) = []
named_by kept = []
named_by (worked s) = s.aborted
named_by loaded = []
named_by noticed = []
named_by (restarted c b) = []

abbrev worked_on : Answer → ℕ
worked_on (refused n) = 0
worked_on made = 0
worked_on (began t) = 0
worked_on (got v) = 0
worked_on wrote = 0
worked_on queued = 0
worked_on read_only = 0
worked_on withdrew = 0
worked_on (reported r) = 0
worked_on (sent b) = 0
worked_on kept = 0
worked_on (worked s) = s.ticket
worked_on loaded = 0
worked_on noticed = 0
worked_on (restarted c b) = 0

-- a work on a *next* aborts nobody
none_named : (n : ℕ) (m : Memory) → Sound n m → (t : ℕ) → worked_on (step m work).answer ≡ 0 → Mem t (named_by (step m work).answer) → ⊥
unfolding pass_next commit_writeset pass_out
none_named n m s t =
    work-by (λ (o : Outcome). worked_on o.answer ≡ 0 → Mem t (named_by o.answer) → ⊥) m
    (λ e k z q. Memᴰ.not-nil q)
    (λ e k z q. Memᴰ.not-nil q)
    (λ e k z q. absurd (let a = (working m s.shape e).ticket k in let b : ⊥ = omega arith in b))
    (λ e z q. Memᴰ.not-nil q)

-- ---- the theorem

module _ (n : ℕ) (start : List ℤ) (setting : Setting n start)
    (owes : (m : Memory) → Sound n m → (c : Call) → Owed n start m c (step m c))
    (cs : List CallAt) (f : Calls n cs) (l : ℕ → List protocol.Notice)
    (p : CommandPremise (setup n start) (machine n start setting owes) (fresh_system (setup n start) (machine n start setting owes)) (commands n start setting owes cs f))
    (one : OneList (λ k. Unit) l (system_of (setup n start) (machine n start setting owes)
    (run_commands (setup n start) (machine n start setting owes) (fresh_system (setup n start) (machine n start setting owes)) (commands n start setting owes cs f)))) where
  abbrev g : Members
  g = run (fresh n start) cs

  abbrev no_journals : ℕ → Journal ℤ
  no_journals = λ k. journal [] 0

  abbrev F : List (Placed ℤ)
  F = sequence (run (fresh n start) cs).handouts

  whole : MachineAgreement (setup n start) (machine n start setting owes) (commands n start setting owes cs f)
  whole = machine_agreement (setup n start) (places_apart n start) (places_within n start setting.least) (machine n start setting owes) (commands n start setting owes cs f) p l one

  group : Agreed (setup n start) (system_of (setup n start) (machine n start setting owes) (machine_of n start setting owes (journals_run n start setting owes no_journals (fresh n start) cs) g))
  group = subst (λ (s : MachineSystem (setup n start) (machine n start setting owes)). Agreed (setup n start) (system_of (setup n start) (machine n start setting owes) s))
      (runs n start setting owes cs f no_journals (fresh n start)) whole.group

  claims : CommandClaims (setup n start) (machine n start setting owes) F (machine_of n start setting owes no_journals (fresh n start)) (commands n start setting owes cs f)
  claims = subst (λ (s : MachineSystem (setup n start) (machine n start setting owes)).
      CommandClaims (setup n start) (machine n start setting owes) (sequence s.handouts) (machine_of n start setting owes no_journals (fresh n start)) (commands n start setting owes cs f))
      (runs n start setting owes cs f no_journals (fresh n start)) whole.calls

  -- what is claimed of the call c that has `before` in front of it
  at_call : (before : List CallAt) (c : CallAt) → Comes cs before c → Said n start setting owes F (run (fresh n start) before) c
  at_call before c e = said n start setting owes F cs f no_journals (fresh n start) claims before c e

  -- the memory that a call of the list acts on is sound
  sound-at : (before : List CallAt) (c : CallAt) → Comes cs before c → Sound n ((run (fresh n start) before).memories c.at)
  sound-at before c e =
      sound_run n before (λ d q. f d (subst (Mem d) (sym e.1) (Memᴰ.append_left (c ∷ e.0) q))) (fresh n start) (λ k. (made-sound n start setting owes k).sound) c.at

  module _ (before : List CallAt) (k : ℕ) (s : WorkDone) (e : Comes cs before (record { at = k; does = call work })) (a : (step ((group_after n start cs before).memories k) work).answer ≡ worked s) where
    abbrev seen : Observed ℤ
    seen = (run (fresh n start) before).observed k

    committing : (s.ticket ≡ 0 → ⊥) → Committed F (run (fresh n start) before).handouts seen k s.sender s.ticket s.aborted
    unfolding heard
    committing z = at_call before (record { at = k; does = call work }) e s.sender s.ticket s.aborted (ap (heard (call work)) a ∙ rw (ne_eqb s.ticket 0 z))

    -- a work that names a ticket as aborted commits a writeset
    naming : (t : ℕ) → Mem t s.aborted → s.ticket ≡ 0 → ⊥
    naming t q z = none_named n _ (sound-at before (record { at = k; does = call work }) e) t (ap worked_on a ∙ z) (subst (Mem t) (sym (ap named_by a)) q)

  reading : (before : List CallAt) (k t i : ℕ) (v : ℤ) → Comes cs before (record { at = k; does = call (read t i) })
      → (step ((group_after n start cs before).memories k) (read t i)).answer ≡ got v
      → let note = ((run (fresh n start) before).observed k).noted t in v ≡ value_or i (get_or (apply_all start (take note.start F)) i (pos 0)) note.writes
  unfolding heard
  reading before k t i v e a = at_call before (record { at = k; does = call (read t i) }) e v (ap (heard (call (read t i))) a)

  writing : (before : List CallAt) (k t i : ℕ) (v : ℤ) → Comes cs before (record { at = k; does = call (write t i v) })
      → (step ((group_after n start cs before).memories k) (write t i v)).answer ≡ refused 9 → NotHandedOut (run (fresh n start) before).handouts k t
  unfolding heard
  writing before k t i v e a = at_call before (record { at = k; does = call (write t i v) }) e (ap (heard (call (write t i v))) a)

  agrees : (k : ℕ) → Agrees start F g.handouts (g.observed k) (g.memories k).store (report_of (g.memories k))
  unfolding report_of
  agrees k = let a = group.agree k in record {
    commits = a.commits;
    counted = ap length a.commits ∙ length-map (take (g.memories k).counts.commits F) id_of ∙ length-take-le (g.memories k).counts.commits F a.within;
    below = a.below;
    reached = a.reached;
    values = a.values;
    stamps = λ i. record {
      within = a.stamps.within i;
      written = λ h. a.stamps.written i (get_or (g.memories k).store.stamps i 0 - 1) (omega arith);
      last = λ q h l w. let z = a.stamps.last (q - 1) (omega arith) i w in omega arith;
    };
  }

  pub agreement-from : Agreement n start cs
  agreement-from = record {
    slots = group.rising;
    blocks = λ b m. group.messages.each (message_in b) (mem-map message_in g.blocks b m);
    handed = λ h m. group.messages.all (handout_message h) (mem-map handout_message g.handouts h m);
    replicas = λ k h. agrees k;
    stations = λ k h. agrees k;
    reads = reading;
    first = λ q h u. first_committer F q h (group.first (q - 1) (omega arith));
    works = λ before k s e a z. rw (next_place (length ((run (fresh n start) before).observed k).commits)) (committing before k s e a z).named;
    aborts = λ before k s e a t q.
        let z = naming before k s e a t q in
        let b = (committing before k s e a z).aborts t q in
        (z, rw (next_place (length ((run (fresh n start) before).observed k).commits)) (b.item, b.written, b.committed));
    spared = λ before k s e a t q. put-down (run (fresh n start) before).handouts k t ((committing before k s e a (naming before k s e a t q)).aborts t q).free;
    never-stale = λ before k t i v e a. put-down (run (fresh n start) before).handouts k t (writing before k t i v e a);
  }
