-- A machine with a view of its memory as a replica's state, what each of its calls owes the model, and agreement stated of the machine.
use Rattle.std.specs.Prelude.{ℕ, ◌≡◌, List, [], ◌∷◌}
use Rattle.std.proofs.Math.Option.{Option, none, some}
use Rattle.protocol.specs.Lists.{update, Mem}
use Rattle.protocol.specs.Writesets.{Message}
use Rattle.protocol.specs.Notices.{Notice}
use Rattle.protocol.specs.Replica.{Setup, Transaction, Replica, Event, refused, restarted, outcome}
use Rattle.protocol.specs.Journal.{Journal, journal, Cut, appended}
use Rattle.protocol.specs.Observer.{noting, Observed, observing, Placed, Handout, observed_after, handouts_after, sequence}
use Rattle.protocol.specs.System.{messages_after, notices_after, Call, restart, System, HandedOut, OneList, step, journal_next, made, PlacesApart, PlacesWithin}
use Rattle.protocol.specs.Statement.{Claim, Agreed}

module _ {X : Type 0} (S : Setup X) where
  -- two states that differ at most in the order of the open transactions, in the outbox, in how stamps and places are kept, and in outages of what owns no slot
  pub record Alike (r s : Replica X) : Type 0 where
    pub own : s.own ≡ r.own
    pub cursor : s.cursor ≡ r.cursor
    pub commits : s.store.commits ≡ r.store.commits
    pub values : s.store.values ≡ r.store.values
    pub stamps : (i : ℕ) → s.store.stamps i ≡ r.store.stamps i
    pub tickets : s.transactions.tickets ≡ r.transactions.tickets
    pub queue : s.transactions.queue ≡ r.transactions.queue
    pub there : (u : Transaction X) → Mem u r.transactions.txns → Mem u s.transactions.txns
    pub back : (u : Transaction X) → Mem u s.transactions.txns → Mem u r.transactions.txns
    pub places : (p : ℕ) → s.blocks.places p ≡ r.blocks.places p
    pub outages : (t : ℕ) → s.blocks.outages (S.owner t) ≡ r.blocks.outages (S.owner t)

-- what a command does
pub record Performed (X Memory : Type 0) : Type 0 where
  pub memory : Memory
  pub event : Event X

module _ {X : Type 0} (S : Setup X) where
  -- what one command owes, of a machine with these calls, their meaning and this view: a refusal that leaves the view alone, or the step of its meaning
  module _ {Memory Command : Type 0} (perform : Memory → Command → Performed X Memory) (meaning : Command → Option (Call X)) (view : Memory → Replica X) where
    pub data Refines (m : Memory) (a : Command) : Type 0 where
      refuses : (c : ℕ) → (c ≡ 9 → ⊥) → (perform m a).event ≡ refused c → Alike S (view m) (view (perform m a).memory) → Refines m a
      follows : (c : Call X) → meaning a ≡ some c → (perform m a).event ≡ (step S (view m) c).event → Alike S (step S (view m) c).replica (view (perform m a).memory) → Refines m a

  -- perform k: what a command at member k does and how the observer sees it; meaning: the call it is, if it is well formed; Member k: the group has a replica k;
  -- view k, Sound k: the memory of member k as a replica's state, and what it meets after every call; Allowed k: what a premise asks of a command there
  pub record Machine : Type 1 where
    pub Memory : Type 0
    pub Command : Type 0
    pub perform : ℕ → Memory → Command → Performed X Memory
    pub meaning : Command → Option (Call X)
    pub Member : ℕ → Type 0
    pub view : ℕ → Memory → Replica X
    pub Sound : ℕ → Memory → Type 0
    pub Allowed : ℕ → Memory → Command → Type 0
    pub make : ℕ → Memory
    pub refines : (k : ℕ) (m : Memory) (a : Command) → Sound k m → Allowed k m a → Refines (perform k) meaning (view k) m a
    pub stays : (k : ℕ) (m : Memory) (a : Command) → Sound k m → Allowed k m a → Sound k (perform k m a).memory
    pub made-sound : (k : ℕ) → Member k → Sound k (make k)
    pub made_alike : (k : ℕ) → Alike S (made S k) (view k (make k))

  -- of one command
  abbrev pub CommandClaim : List (Placed X) → List (Handout X) → Observed X → ℕ → Option (Call X) → Event X → Type 0
  CommandClaim F D p k none e = Unit
  CommandClaim F D p k (some c) e = Claim S F D p k c e

  module _ (M : Machine) where
    open M use {Memory, Command, perform, meaning, Member, view, Allowed, make}

    pub record MachineSystem : Type 0 where
      pub memories : ℕ → Memory
      pub journals : ℕ → Journal X
      pub notices : ℕ → List Notice
      pub observed : ℕ → Observed X
      pub handouts : List (Handout X)
      pub messages : List (Message X)

    -- a command at a member of the group
    pub record CommandAt : Type 0 where
      pub at : ℕ
      pub here : Member at
      pub command : Command

    abbrev pub fresh_system : MachineSystem
    fresh_system = record { memories = make; journals = λ k. journal [] 0; notices = λ k. []; observed = λ k. observing (λ t. noting 0 []) [] []; handouts = []; messages = [] }

    -- what a command at member k appends to the journal, as its messages
    abbrev pub appended_by : ℕ → Memory → Command → Option (Message X)
    appended_by k m a = appended S (view k m) (view k (perform k m a).memory).cursor.turn (perform k m a).event

    -- and what the journal is after it
    abbrev pub journal_by : Journal X → ℕ → Memory → Command → Journal X
    journal_by J k m a = journal_next S J (view k m) (outcome (view k (perform k m a).memory) (perform k m a).event)

    abbrev pub after_command : MachineSystem → CommandAt → MachineSystem
    after_command g a = record {
      memories = update g.memories a.at (perform a.at (g.memories a.at) a.command).memory;
      journals = update g.journals a.at (journal_by (g.journals a.at) a.at (g.memories a.at) a.command);
      notices = update g.notices a.at (notices_after (g.notices a.at) (perform a.at (g.memories a.at) a.command).event);
      observed = update g.observed a.at (observed_after (g.observed a.at) (perform a.at (g.memories a.at) a.command).event);
      handouts = handouts_after g.handouts a.at (g.observed a.at) (perform a.at (g.memories a.at) a.command).event;
      messages = messages_after g.messages (perform a.at (g.memories a.at) a.command).event;
    }

    unfoldable pub run_commands : MachineSystem → List CommandAt → MachineSystem
    run_commands g [] = g
    run_commands g (a ∷ cs) = run_commands (after_command g a) cs

    -- the journal that an accepted restart is lent is left by a cut, in which one command of any kind may have ended; the notices lent are those taken
    abbrev pub CommandLent : Journal X → List Notice → ℕ → Memory → Command → Type 0
    CommandLent J l k m a = (lent held : List (Message X)) (notices heard : List Notice) (given : Option (Message X)) → meaning a ≡ some (restart lent notices)
        → (perform k m a).event ≡ restarted held heard given → ((ended : Command) × Allowed k m ended × Cut J (appended_by k m ended) lent) × (notices ≡ l)

    -- the premise on each of a list of commands
    unfoldable pub CommandPremise : MachineSystem → List CommandAt → Type 0
    CommandPremise g [] = Unit
    CommandPremise g (a ∷ cs) =
        (HandedOut g.messages (perform a.at (g.memories a.at) a.command).event
        × CommandLent (g.journals a.at) (g.notices a.at) a.at (g.memories a.at) a.command × Allowed a.at (g.memories a.at) a.command)
        × CommandPremise (after_command g a) cs

    -- the group as the model sees it
    abbrev pub system_of : MachineSystem → System X
    system_of g = record { replicas = λ k. view k (g.memories k); journals = g.journals; notices = g.notices; observed = g.observed; handouts = g.handouts; messages = g.messages }

    unfoldable pub CommandClaims : List (Placed X) → MachineSystem → List CommandAt → Type 0
    CommandClaims F g [] = Unit
    CommandClaims F g (a ∷ cs) = CommandClaim F g.handouts (g.observed a.at) a.at (meaning a.command) (perform a.at (g.memories a.at) a.command).event
        × CommandClaims F (after_command g a) cs

    -- agreement of the machine
    pub record MachineAgreement (cs : List CommandAt) : Type 0 where
      pub group : Agreed S (system_of (run_commands fresh_system cs))
      pub calls : CommandClaims (sequence (run_commands fresh_system cs).handouts) fresh_system cs

  abbrev pub MachineTheorem : Type 1
  MachineTheorem = PlacesApart S → PlacesWithin S → (M : Machine) (cs : List (CommandAt M)) → CommandPremise M (fresh_system M) cs
      → (l : ℕ → List Notice) → OneList M.Member l (system_of M (run_commands M (fresh_system M) cs)) → MachineAgreement M cs
