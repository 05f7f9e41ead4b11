-- Document 02's Req 06: "if, under the agreement's premises, every block handed out has been given to every replica since that replica was made or last restarted, no replica is down, and
-- some replica has slots left, then some replica can send, or work without a refusal." With its Req 10: "a block answered 18 or 29 doesn't count as given; a replica out from v may be down,
-- and then doesn't count, if its slots before v all were out or had a block handed out; the others have taken the same notices."
-- Replicas alone are meant, k < n, in what was given as in what is promised; calls at stations may stand in the list.
use Rattle.std.specs.Prelude.{ℕ, ◌≤◌, ◌<◌, ◌≡◌, Bool, true, false, ◌⊎◌, List, [], ◌∷◌, ◌++◌, ℤ, length}
use Rattle.block.specs.Message.{owner_of}
use Rattle.block.specs.Answers.{header_of}
use Rattle.memory.specs.Memory.{Memory, slot_limit}
use Rattle.memory.specs.Notices.{Notice, puts_out}
use Rattle.engine.specs.Make.{Setting}
use Rattle.engine.specs.Answers.{number_of}
use Rattle.engine.specs.Answers.Answer.{restarted}
use Rattle.engine.specs.Calls.{step}
use Rattle.engine.specs.Calls.Call.{send, deliver, work}
use Rattle.engine.specs.History.{AnyCall, any_step}
use Rattle.engine.specs.History.AnyCall.{call}
use Rattle.protocol.specs.Lists.{Mem}
use Rattle.agreement.specs.Group.{Members, CallAt, fresh, run, Comes, Calls, about, Premise}

abbrev pub giving : ℕ → List ℕ → CallAt
giving k b = record { at = k; does = call (deliver b) }

-- *Out k from v*
abbrev pub out_from : ℕ → ℕ → Notice
out_from k v = record { about = k; out = true; slot = v }

-- what a deliver answers
abbrev pub deliver_number : Memory → List ℕ → ℕ
deliver_number m b = number_of (step m (deliver b)).answer

-- a send is accepted, of any 512 bytes lent
abbrev pub CanSend : Memory → Type 0
CanSend m = (lent : List ℕ) → length lent ≡ 512 → number_of (step m (send lent)).answer ≡ 0

abbrev pub CanWork : Memory → Type 0
CanWork m = number_of (step m work).answer ≡ 0

module _ (n : ℕ) (start : List ℤ) (cs : List CallAt) where
  abbrev pub end : Members
  end = run (fresh n start) cs

  -- the block was given to replica k, its own maker too: a deliver of its bytes was called there after the block was handed out, with any answer but 18 and 29; and no restart of that
  -- replica was accepted since
  pub record Given (k : ℕ) (b : List ℕ) : Type 0 where
    pub before : List CallAt
    pub later : List CallAt
    pub comes : cs ≡ before ++ (giving k b ∷ later)
    pub handed : Mem b (run (fresh n start) before).blocks
    pub near : deliver_number ((run (fresh n start) before).memories k) b ≡ 18 → ⊥
    pub live : deliver_number ((run (fresh n start) before).memories k) b ≡ 29 → ⊥
    pub since : (more : List CallAt) (c : AnyCall) (count : ℕ) (given : List ℕ) → Comes later more (record { at = k; does = c })
        → (any_step ((run (fresh n start) (before ++ (giving k b ∷ more))).memories k) c).answer ≡ restarted count given → ⊥

  -- a block was handed out for the slot
  abbrev pub HandedFor : ℕ → Type 0
  HandedFor s = (b : List ℕ) × Mem b end.blocks × ((header_of b).slot ≡ s)

  -- by what replica k has taken, replica d is out from v, with no Back behind that Out; and d's slots before v all were out or had a block handed out
  pub record OutFor (k d : ℕ) : Type 0 where
    pub earlier : List Notice
    pub v : ℕ
    pub last : about d (end.taken k) ≡ earlier ++ (out_from d v ∷ [])
    pub passed : (s : ℕ) → owner_of n s ≡ d → s < v → (puts_out false (end.taken k) d s ≡ true) ⊎ HandedFor s

  -- counts: which replicas count. They are up: each may be called at the end of the list, on the memory that it has there. The others are down
  module _ (counts : ℕ → Bool) where
    abbrev pub Counts : ℕ → Type 0
    Counts k = (k < n) × (counts k ≡ true)

    abbrev pub DownOut : Type 0
    DownOut = (d : ℕ) → d < n → counts d ≡ false → (k : ℕ) → Counts k → OutFor k d

    -- about every replica, and also where none is down
    abbrev pub SameNotices : Type 0
    SameNotices = (j k : ℕ) → Counts j → Counts k → (d : ℕ) → d < n → about d (end.taken j) ≡ about d (end.taken k)

    -- every block handed out; not asked of those whose slot the replica's turn has passed, since such a deliver is answered 17 and changes nothing
    abbrev pub AllGiven : Type 0
    AllGiven = (k : ℕ) → Counts k → (b : List ℕ) → Mem b end.blocks → (end.memories k).turn.slot ≤ (header_of b).slot → Given k b

    -- some turn is below 100,000,000
    abbrev pub SlotsLeft : Type 0
    SlotsLeft = (k : ℕ) × Counts k × ((end.memories k).turn.slot < slot_limit)

    abbrev pub SomeGoes : Type 0
    SomeGoes = (k : ℕ) × Counts k × (CanSend (end.memories k) ⊎ CanWork (end.memories k))

    abbrev pub Progress : Type 0
    Progress = DownOut → SameNotices → AllGiven → SlotsLeft → SomeGoes

abbrev pub ProgressTheorem : Type 0
ProgressTheorem = (n : ℕ) (start : List ℤ) → Setting n start → (cs : List CallAt) → Calls n cs → Premise n start cs → (counts : ℕ → Bool) → Progress n start cs counts

-- no replica is down
abbrev pub everyone : ℕ → Bool
everyone k = true

abbrev pub NoneDown : Type 0
NoneDown = (n : ℕ) (start : List ℤ) → Setting n start → (cs : List CallAt) → Calls n cs → Premise n start cs
    → SameNotices n start cs everyone → AllGiven n start cs everyone → SlotsLeft n start cs everyone → SomeGoes n start cs everyone

-- What a host may drop. A block handed out that is delivered, at a replica or a station, is kept, or answered 17, 18, 20 or 29: never 14, 15, 16, nor 19. One answered 17 or 20 is not needed
-- there until a restart; one answered 18 or 29 may be, once the turn has come nearer or a Back is taken, and is to be delivered again.
abbrev pub HandedAnswers : Type 0
HandedAnswers = (n : ℕ) (start : List ℤ) → Setting n start → (cs : List CallAt) → Calls n cs → Premise n start cs
    → (k : ℕ) (b : List ℕ) → let g = run (fresh n start) cs in Mem b g.blocks
    → let a = deliver_number (g.memories k) b in (a ≡ 0) ⊎ ((a ≡ 17) ⊎ ((a ≡ 18) ⊎ ((a ≡ 20) ⊎ (a ≡ 29))))

-- without notices a replica answers neither 18 nor 29 to it; a station, which no owner waits for, may answer 18
abbrev pub HandedUnnoticed : Type 0
HandedUnnoticed = (n : ℕ) (start : List ℤ) → Setting n start → (cs : List CallAt) → Calls n cs → (p : Premise n start cs) → ((k : ℕ) → p.lists k ≡ [])
    → (k : ℕ) → k < n → (b : List ℕ) → let g = run (fresh n start) cs in Mem b g.blocks
    → let a = deliver_number (g.memories k) b in (a ≡ 0) ⊎ ((a ≡ 17) ⊎ (a ≡ 20))
