-- What a call owes where it is refused, and where it changes the transactions alone. Assumes nothing.
use Prim.Native.Nat.{ℕ}
use mathlib.Core.Path.{◌≡◌, refl}
use mathlib.Core.List.{List}
use lib.IntN.{ℤ}
use Rattle.memory.specs.declared.Counts.{Counts}
use Rattle.memory.specs.Memory.{Transactions, Memory, with_txns}
use Rattle.engine.specs.Answers.{Outcome, outcome}
use Rattle.engine.specs.Answers.Answer.{refused}
use Rattle.engine.specs.Moves.{waiting}
use Rattle.engine.specs.Calls.{Call}
use Rattle.engine.specs.History.AnyCall.{call}
use Rattle.protocol.specs.Replica.{transactions, Event}
use Rattle.protocol.specs.Client.{without, ClientOutcome, answered, from_client}
use Rattle.protocol.specs.System.{step}
use Rattle.protocol.specs.Machine.{Alike}
use Rattle.agreement.specs.Group.{heard}
use Rattle.agreement.proofs.View.{setup, open_txns, view, meant, Owed, refuses, follows, alike_same}
use Rattle.agreement.proofs.RowChange.{SameMembers}

-- the model's transactions without that of the ticket
abbrev pub ended : Rattle.protocol.specs.Replica.Transactions ℤ → ℕ → Event ℤ → ClientOutcome ℤ
ended k t e = answered (transactions k.tickets (without t k.txns) k.queue) e

module _ (n : ℕ) (start : List ℤ) (m : Memory) (c : Call) where
  pub refused-owes : (k : ℕ) → (k ≡ 9 → ⊥) → Owed n start m c (outcome (refused k) m)
  unfolding heard
  refused-owes k h = refuses k h refl (alike_same (view m))

  -- the transactions became those of the model
  pub record ClientAlike (d : ClientOutcome ℤ) (k : Counts) (x : Transactions) : Type 0 where
    pub done : k.done ≡ m.counts.done
    pub commits : k.commits ≡ m.counts.commits
    pub tickets : k.tickets ≡ d.transactions.tickets
    pub queue : waiting x.queue ≡ d.transactions.queue
    pub txns : SameMembers d.transactions.txns (open_txns x)

  client-alike : (d : ClientOutcome ℤ) (k : Counts) (x : Transactions) → ClientAlike d k x → Alike (setup n start) (from_client (view m) d).replica (view (with_txns m k x))
  client-alike d k x a = record {
    own = refl;
    cursor = rw a.done;
    commits = a.commits;
    values = refl;
    stamps = λ i. refl;
    tickets = a.tickets;
    queue = a.queue;
    there = a.txns.there;
    back = a.txns.back;
    places = λ p. refl;
    outages = λ t. refl;
  }

  pub client-owes : (d : ClientOutcome ℤ) (o : Outcome) (k : Counts) (x : Transactions) → step (setup n start) (view m) (meant c) ≡ from_client (view m) d
      → heard (call c) o.answer ≡ d.event → o.memory ≡ with_txns m k x → ClientAlike d k x → Owed n start m c o
  client-owes d o k x e h q a = follows (rw e h) (rw (e, q) (client-alike d k x a))
