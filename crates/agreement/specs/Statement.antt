-- What demand 3 claims after every list of calls. `proofs/Theorem.antt` has the proof.
use Rattle.std.specs.Prelude.{ℕ, suc, ◌-◌, ◌<◌, ◌≤◌, ◌≡◌, true, List, map, ℤ, pos, length, get_or, take}
use Rattle.memory.specs.Memory.{Store}
use Rattle.engine.specs.Make.{Setting}
use Rattle.engine.specs.declared.Report.{Report}
use Rattle.engine.specs.Answers.{Answer, WorkDone}
use Rattle.engine.specs.Answers.Answer.{refused, got, worked}
use Rattle.engine.specs.Client.{report_of}
use Rattle.engine.specs.Calls.{Call, step}
use Rattle.engine.specs.Calls.Call.{read, write, work}
use Rattle.engine.specs.History.AnyCall.{call}
use Rattle.protocol.specs.Lists.{Mem}
use Rattle.protocol.specs.Writesets.{Write, has, value_or, Disjoint}
use Rattle.protocol.specs.Observer.{Observed, Placed, Handout, sequence, id_of, apply_all, handout_message, no_placed, no_handout}
use Rattle.agreement.specs.Group.{message_in, Members, CallAt, fresh, run, Comes, Calls, Premise}

-- the writeset at a place of the sequence, counted from 1
abbrev pub placed : List (Placed ℤ) → ℕ → Placed ℤ
placed F p = get_or F (p - 1) no_placed

-- a writeset of replica k with the ticket was put down
abbrev pub InSequence : List (Handout ℤ) → ℕ → ℕ → Type 0
InSequence D k t = (e : Placed ℤ) × Mem e (sequence D) × (e.sender ≡ k) × (e.ticket ≡ t)

-- an item is in both
abbrev pub Share : List (Write ℤ) → List (Write ℤ) → Type 0
Share a b = (i : ℕ) × (has i a ≡ true) × (has i b ≡ true)

-- the stamp of an item after the first c writesets: the place of the last of them that has the item, which is the commit count just after it, 0 where none has
pub record IsStamp (F : List (Placed ℤ)) (c item stamp : ℕ) : Type 0 where
  pub within : stamp ≤ c
  pub written : 0 < stamp → has item (placed F stamp).writes ≡ true
  pub last : (q : ℕ) → stamp < q → q ≤ c → has item (placed F q).writes ≡ true → ⊥

module _ (start : List ℤ) (F : List (Placed ℤ)) (D : List (Handout ℤ)) where
  -- of a replica or a station, what is kept of it, what it holds and what it reports
  pub record Agrees (p : Observed ℤ) (held : Store) (r : Report) : Type 0 where
    -- its commits are the first c of the sequence, by sender and ticket, c the commit count in its report
    pub commits : p.commits ≡ map id_of (take r.commits F)
    pub counted : length p.commits ≡ r.commits
    -- and hold every writeset put down under a slot below its turn, by sender and ticket and by place
    pub below : (h : Handout ℤ) → Mem h D → h.slot < r.turn → (e : Placed ℤ) → Mem e h.writesets → Mem (id_of e) p.commits
    pub reached : (i : ℕ) → i < length D → (get_or D i no_handout).slot < r.turn → length (sequence (take (suc i) D)) ≤ r.commits
    -- its values are the starting ones with those put in, in order, and its stamps tell the last of them
    pub values : held.values ≡ apply_all start (take r.commits F)
    pub stamps : (i : ℕ) → IsStamp F r.commits i (get_or held.stamps i 0)

-- the transaction at place p began before it, and no writeset between its start and its place shares an item with it
pub record FirstCommitter (F : List (Placed ℤ)) (p : ℕ) : Type 0 where
  pub before : (placed F p).start < p
  pub apart : (q : ℕ) → (placed F p).start < q → q < p → Disjoint (placed F q).writes (placed F p).writes

module _ (n : ℕ) (start : List ℤ) (cs : List CallAt) where
  -- the group after some of the calls, and after all
  abbrev pub group_after : List CallAt → Members
  group_after before = run (fresh n start) before

  abbrev pub handouts : List (Handout ℤ)
  handouts = (group_after cs).handouts

  -- document 01's *sequence*
  abbrev pub F : List (Placed ℤ)
  F = sequence handouts

  -- what a call at member k answers with `before` in front of it
  abbrev pub answer : List CallAt → ℕ → Call → Answer
  answer before k c = (step ((group_after before).memories k) c).answer

  -- document 01's sentences
  pub record Agreement : Type 0 where
    -- no slot was put down twice, and the sequence is by rising slot
    pub slots : (i j : ℕ) → i < j → j < length handouts → (get_or handouts i no_handout).slot < (get_or handouts j no_handout).slot
    -- the records of each block handed out are the tickets and writes put down under its slot, in order; and nothing else was put down
    pub blocks : (b : List ℕ) → Mem b (group_after cs).blocks → Mem (message_in b) (map handout_message handouts)
    pub handed : (h : Handout ℤ) → Mem h handouts → Mem (handout_message h) (map message_in (group_after cs).blocks)
    -- each replica has committed a beginning of the sequence and holds its values and stamps
    pub replicas : (k : ℕ) → k < n → Agrees start F handouts ((group_after cs).observed k) ((group_after cs).memories k).store (report_of ((group_after cs).memories k))
    -- so has each station
    pub stations : (k : ℕ) → n ≤ k → Agrees start F handouts ((group_after cs).observed k) ((group_after cs).memories k).store (report_of ((group_after cs).memories k))
    -- each accepted read, at a station too, gave the value then noted, else the item's value after the first *start* writesets of the sequence
    pub reads : (before : List CallAt) (k t i : ℕ) (v : ℤ) → Comes cs before (record { at = k; does = call (read t i) }) → answer before k (read t i) ≡ got v
        → let note = ((group_after before).observed k).noted t in v ≡ value_or i (get_or (apply_all start (take note.start F)) i (pos 0)) note.writes
    -- the first committer wins
    pub first : (p : ℕ) → 0 < p → p ≤ length F → FirstCommitter F p
    -- a work that commits names the next writeset of the sequence
    pub works : (before : List CallAt) (k : ℕ) (s : WorkDone) → Comes cs before (record { at = k; does = call work }) → answer before k work ≡ worked s → (s.ticket ≡ 0 → ⊥)
        → id_of (placed F (suc (length ((group_after before).observed k).commits))) ≡ record { sender = s.sender; ticket = s.ticket }
    -- a work that names a ticket as aborted commits a writeset, and the ticket has noted an item of it
    pub aborts : (before : List CallAt) (k : ℕ) (s : WorkDone) → Comes cs before (record { at = k; does = call work }) → answer before k work ≡ worked s
        → (t : ℕ) → Mem t s.aborted
        → (s.ticket ≡ 0 → ⊥) × Share (((group_after before).observed k).noted t).writes (placed F (suc (length ((group_after before).observed k).commits))).writes
    -- once a ticket is put down, no work at its replica names it as aborted
    pub spared : (before : List CallAt) (k : ℕ) (s : WorkDone) → Comes cs before (record { at = k; does = call work }) → answer before k work ≡ worked s
        → (t : ℕ) → Mem t s.aborted → InSequence (group_after before).handouts k t → ⊥
    -- and no write under it gives 9
    pub never-stale : (before : List CallAt) (k t i : ℕ) (v : ℤ) → Comes cs before (record { at = k; does = call (write t i v) }) → answer before k (write t i v) ≡ refused 9
        → InSequence (group_after before).handouts k t → ⊥

-- for every group, starting values and list with the premise
abbrev pub AgreementTheorem : Type 0
AgreementTheorem = (n : ℕ) (start : List ℤ) → Setting n start → (cs : List CallAt) → Calls n cs → Premise n start cs → Agreement n start cs
