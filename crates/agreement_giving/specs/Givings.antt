-- Givings in a list of calls: "In demand 3's list and on the sheet, each Deliver and Work of a giving stands as a call of its own at the returner."
-- Replicas alone give and are given to: a returner is at k < n, and so is the giver, one of the N told of. Calls at stations may stand in the list.
use Rattle.std.specs.Prelude.{ℕ, ◌<◌, ◌≡◌, true, List, [], ◌∷◌, ◌++◌, map, ℤ, take}
use Rattle.block.specs.Message.{signed32}
use Rattle.memory.specs.Notices.{Notice}
use Rattle.engine.specs.Make.{Setting}
use Rattle.engine.specs.Answers.Answer.{kept, restarted}
use Rattle.engine.specs.Calls.{Call, step}
use Rattle.engine.specs.Calls.Call.{deliver}
use Rattle.engine.specs.Restart.{restart_step}
use Rattle.engine.specs.History.AnyCall.{call, restart}
use Rattle.protocol.specs.Lists.{Mem}
use Rattle.agreement.specs.Group.{arguments_of, Members, CallAt, fresh, run, MayBeAt, Calls, Lent, about, OneList, Premise}
use Rattle.agreement.specs.Statement.{Agreement}
use Rattle.giving.specs.Choice.{giver_of}
use Rattle.giving.specs.Giving.{Going, give_step}

-- ---- a giving in a group

abbrev pub giver_at : Members → ℕ → List ℕ → ℕ
giver_at g k told = giver_of (g.memories k).group.own told

-- at replica k, which is told turns and lent the giver's window
abbrev pub give_at : Members → ℕ → List ℕ → Going
give_at g k told = give_step (g.memories k) told (g.memories (giver_at g k told)).blocks.window

abbrev pub calls_at : ℕ → List Call → List CallAt
calls_at k cs = map (λ c. record { at = k; does = call c }) cs

-- two have taken the same notices about every replica
abbrev pub SameTaken : Members → ℕ → ℕ → Type 0
SameTaken g j k = (d : ℕ) → about d (g.taken j) ≡ about d (g.taken k)

-- ---- lists with givings

-- a call, a giving, or the first calls of a giving that a cut ends
pub data Happening : Type 0 where
  single : CallAt → Happening
  give : (at : ℕ) (told : List ℕ) → Happening
  cut : (at : ℕ) (told : List ℕ) (count : ℕ) → Happening

-- the calls that it is
abbrev pub called_in : Members → Happening → List CallAt
called_in g (single c) = c ∷ []
called_in g (give k told) = calls_at k (give_at g k told).calls
called_in g (cut k told count) = calls_at k (take count (give_at g k told).calls)

unfoldable pub expand : Members → List Happening → List CallAt
expand g [] = []
expand g (h ∷ hs) = called_in g h ++ expand (run g (called_in g h)) hs

module _ (n : ℕ) (start : List ℤ) where
  -- demand 3's list
  abbrev pub list_of : List Happening → List CallAt
  list_of hs = expand (fresh n start) hs

  -- the group after them
  abbrev pub group_of : List Happening → Members
  group_of hs = run (fresh n start) (list_of hs)

-- a giving is at a replica of the group, and what is told is any; a single call may be at a station
abbrev pub HappeningIn : ℕ → Happening → Type 0
HappeningIn n (single c) = MayBeAt n c.at c.does × (signed32 (arguments_of c.does).value ≡ true)
HappeningIn n (give k told) = k < n
HappeningIn n (cut k told count) = k < n

abbrev pub Happenings : ℕ → List Happening → Type 0
Happenings n hs = (h : Happening) → Mem h hs → HappeningIn n h

abbrev pub Happens : List Happening → List Happening → Happening → Type 0
Happens hs before h = (later : List Happening) × (hs ≡ before ++ (h ∷ later))

-- the agreement's premise, on bytes and journals asked of the single calls alone; of a giving, that returner and giver have taken the same notices
pub record GivingPremise (n : ℕ) (start : List ℤ) (hs : List Happening) : Type 0 where
  pub delivered : (before : List Happening) (k : ℕ) (bytes : List ℕ) → Happens hs before (single (record { at = k; does = call (deliver bytes) }))
      → let g = group_of n start before in (step (g.memories k) (deliver bytes)).answer ≡ kept → Mem bytes g.blocks
  pub lent : (before : List Happening) (k size own : ℕ) (values : List ℤ) (journal : List ℕ) (notices : List Notice) (block : List ℕ) (count : ℕ) (given : List ℕ)
      → Happens hs before (single (record { at = k; does = restart size own values journal notices block }))
      → let g = group_of n start before in (restart_step (g.memories k) size own values journal notices block).answer ≡ restarted count given
      → (size ≡ n) × (own ≡ k) × (values ≡ start) × Lent (g.memories k) (g.disks k) journal × (notices ≡ g.taken k)
  pub gives : (before : List Happening) (k : ℕ) (told : List ℕ) → Happens hs before (give k told)
      → let g = group_of n start before in SameTaken g k (giver_at g k told)
  pub cuts : (before : List Happening) (k : ℕ) (told : List ℕ) (count : ℕ) → Happens hs before (cut k told count)
      → let g = group_of n start before in SameTaken g k (giver_at g k told)
  pub lists : ℕ → List Notice
  pub one : OneList (list_of n start hs) lists (group_of n start hs)

-- what doing the calls of a giving at replica k leaves, from any group
pub record SameGiving (g : Members) (k : ℕ) (told : List ℕ) (cs : List CallAt) : Type 0 where
  -- what the giving leaves
  pub memory : (run g cs).memories k ≡ (give_at g k told).memory
  -- the memories of the others stay; nothing is handed out, and no notice is taken
  pub others : (j : ℕ) → (j ≡ k → ⊥) → (run g cs).memories j ≡ g.memories j
  pub blocks : (run g cs).blocks ≡ g.blocks
  pub handouts : (run g cs).handouts ≡ g.handouts
  pub taken : (j : ℕ) → (run g cs).taken j ≡ g.taken j

pub record GivingsTheorem : Type 0 where
  pub same : (g : Members) (k : ℕ) (told : List ℕ) → SameGiving g k told (calls_at k (give_at g k told).calls)
  pub calls : (n : ℕ) (start : List ℤ) (hs : List Happening) → Happenings n hs → Calls n (list_of n start hs)
  -- with the premise asked of its delivers and works too, the agreement holds as of any list
  pub whole : (n : ℕ) (start : List ℤ) → Setting n start → (hs : List Happening) → Happenings n hs → Premise n start (list_of n start hs) → Agreement n start (list_of n start hs)
  -- a giving with the same notices taken never leaves the premise: what it delivers was handed out, whatever turns are told
  pub premise : (n : ℕ) (start : List ℤ) → Setting n start → (hs : List Happening) → Happenings n hs → GivingPremise n start hs → Premise n start (list_of n start hs)
  -- agreement with givings
  pub agreement : (n : ℕ) (start : List ℤ) → Setting n start → (hs : List Happening) → Happenings n hs → GivingPremise n start hs → Agreement n start (list_of n start hs)
