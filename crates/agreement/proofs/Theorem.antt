-- Agreement, the theorem, and the invariant after a first part of a list of calls. Assumes nothing.
use Prim.Native.Nat.{ℕ}
use mathlib.Core.Path.{◌≡◌, sym, subst}
use mathlib.Core.List.Memᴰ
use mathlib.Core.List.{List, [], ◌++◌}
use native.Mathlib.Omega.{arith}
use lib.IntN.{ℤ}
use Rattle.memory.specs.Memory.{Memory}
use Rattle.memory.specs.Notices.{Notice}
use Rattle.engine.specs.Make.{Setting}
use Rattle.engine.specs.Calls.{Call, step}
use Rattle.engine.specs.Calls.Call.{begin, read, write, ask, withdraw, report, send, deliver, work, load, notice}
use Rattle.protocol.specs.Journal.{Journal, journal}
use Rattle.protocol.specs.System.{OneList}
use Rattle.protocol.specs.Machine.{Machine, MachineSystem, CommandAt, CommandPremise, fresh_system, run_commands, system_of}
use Rattle.protocol.proofs.Refinement.{MachineInv, fresh-machine, inv_at}
use Rattle.agreement.specs.Group.{CallAt, fresh, run, Calls, PremiseFrom, Premise}
use Rattle.agreement.specs.Statement.{AgreementTheorem}
use Rattle.agreement.proofs.View.{setup, Sound, Owed}
use Rattle.agreement.proofs.BeginStep.{begin-owes}
use Rattle.agreement.proofs.ReadStep.{read-owes}
use Rattle.agreement.proofs.WriteStep.{write_owes}
use Rattle.agreement.proofs.AskStep.{ask-owes}
use Rattle.agreement.proofs.WithdrawStep.{withdraw-owes, report-owes, load-owes}
use Rattle.agreement.proofs.SendStep.{send_owes}
use Rattle.agreement.proofs.DeliverStep.{deliver-owes}
use Rattle.agreement.proofs.WorkStep.{work_owes}
use Rattle.agreement.proofs.NoticeStep.{notice_owes}
use Rattle.agreement.proofs.Replicas.{places_apart, places_within}
use Rattle.agreement.proofs.Runs.{machine, machine_of, commands, commands-part, journals_run, runs, fresh_kept}
use Rattle.agreement.proofs.OneList.{model_lists, one_list}
use Rattle.agreement.proofs.Premises.{premise}
use Rattle.agreement.proofs.Agreement.{agreement-from}

pub owes : (n : ℕ) (start : List ℤ) (m : Memory) → Sound n m → (c : Call) → Owed n start m c (step m c)
owes n start m s begin = begin-owes n start m s
owes n start m s (read t i) = read-owes n start m s t i
owes n start m s (write t i v) = write_owes n start m s t i v
owes n start m s (ask t) = ask-owes n start m s t
owes n start m s (withdraw t) = withdraw-owes n start m s t
owes n start m s report = report-owes n start m s
owes n start m s (send b) = send_owes n start m s b
owes n start m s (deliver b) = deliver-owes n start m s b
owes n start m s work = work_owes n start m s
owes n start m s (load l) = load-owes n start m s l
owes n start m s (notice a) = notice_owes n start m s a

-- ---- the premise, as the machine's

module _ (n : ℕ) (start : List ℤ) (setting : Setting n start) (cs : List CallAt) where
  -- the machine, its commands, and its start
  abbrev pub M : Machine (setup n start)
  M = machine n start setting (owes n start)

  abbrev pub commands_of : Calls n cs → List (CommandAt (setup n start) (machine n start setting (owes n start)))
  commands_of f = commands n start setting (owes n start) cs f

  abbrev no_journals : ℕ → Journal ℤ
  no_journals = λ k. journal [] 0

  -- the model's journals
  abbrev pub journals_after : ℕ → Journal ℤ
  journals_after = journals_run n start setting (owes n start) (λ j. journal [] 0) (fresh n start) cs

  pub machine-premise : (f : Calls n cs) → PremiseFrom n start (fresh n start) cs → CommandPremise (setup n start) M (fresh_system (setup n start) M) (commands_of f)
  machine-premise f p =
      premise n start setting (owes n start) cs f no_journals (fresh n start) (fresh_kept n start setting (owes n start)) (fresh-machine (setup n start) M) (λ j h. omega arith) p

  pub machine-list : (f : Calls n cs) (p : Premise n start cs)
      → OneList (λ k. Unit) (model_lists p.lists) (system_of (setup n start) M (run_commands (setup n start) M (fresh_system (setup n start) M) (commands_of f)))
  machine-list f p =
      subst (λ (s : MachineSystem (setup n start) M). OneList (λ k. Unit) (model_lists p.lists) (system_of (setup n start) M s))
      (sym (runs n start setting (owes n start) cs f no_journals (fresh n start)))
      (one_list n start setting (owes n start) cs p.lists p.one journals_after)

pub agreement : AgreementTheorem
agreement n start setting cs f p =
    agreement-from n start setting (owes n start) cs f (model_lists p.lists) (machine-premise n start setting cs f p.calls) (machine-list n start setting cs f p)

-- ---- the invariant after a first part of a list of calls

module _ (n : ℕ) (start : List ℤ) (setting : Setting n start) where
  -- with the lists l of the whole list of calls
  abbrev pub InvAfter : (ℕ → List Notice) → List CallAt → Type 0
  InvAfter l before = MachineInv (setup n start) (machine n start setting (owes n start)) (places_apart n start) (places_within n start setting.least) (model_lists l)
      (machine_of n start setting (owes n start) (journals_after n start setting before) (run (fresh n start) before))

  inv-part : (before rest : List CallAt) → Calls n (before ++ rest) → (p : Premise n start (before ++ rest)) → InvAfter p.lists before
  inv-part before rest f p =
      let A = places_apart n start in
      let W = places_within n start setting.least in
      let h : Calls n before = λ d q. f d (Memᴰ.append_left rest q) in
      let more = commands-part n start setting (owes n start) before rest f h in
      subst (MachineInv (setup n start) (machine n start setting (owes n start)) A W (model_lists p.lists)) (runs n start setting (owes n start) before h (λ j. journal [] 0) (fresh n start))
      (inv_at (setup n start) (machine n start setting (owes n start)) A W (model_lists p.lists) (commands_of n start setting (before ++ rest) f) (commands_of n start setting before h) more.0
      more.1 (machine-premise n start setting (before ++ rest) f p.calls) (machine-list n start setting (before ++ rest) f p))

  pub inv-after : (cs : List CallAt) → Calls n cs → (p : Premise n start cs) → (before rest : List CallAt) → cs ≡ before ++ rest → InvAfter p.lists before
  inv-after cs f p before rest e =
      subst (λ (l : List CallAt). Calls n l → (p : Premise n start l) → InvAfter p.lists before) (sym e) (inv-part before rest) f p
