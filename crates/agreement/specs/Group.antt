-- A group of replicas and stations with its observer and the replicas' journals, and lists of calls. Its members are numbered by all of ℕ: with n replicas, k is replica k below n, and from n
-- on a station. A station has no number: the one here only tells it from others.
use Rattle.std.specs.Prelude.{ℕ, suc, ◌*◌, ◌≤◌, ◌<◌, max, ◌≡◌, Bool, true, false, cond, List, [], ◌∷◌, ◌++◌, map, eqb, ltb, ℤ, pos, length, get_or, take}
use Rattle.std.proofs.Math.Option.{Option, none, some}
use Rattle.block.specs.declared.Entry.{Entry}
use Rattle.block.specs.Message.{Record, signed32}
use Rattle.block.specs.Form.{message_of}
use Rattle.block.specs.Answers.{header_of}
use Rattle.memory.specs.Memory.{Memory}
use Rattle.memory.specs.Notices.{Notice, puts_out}
use Rattle.engine.specs.Answers.{Answer, Outcome}
use Rattle.engine.specs.Answers.Answer.{refused, made, began, got, wrote, queued, read_only, withdrew, reported, sent, kept, worked, loaded, noticed, restarted}
use Rattle.engine.specs.Make.{made_memory}
use Rattle.engine.specs.Station.{station_memory}
use Rattle.engine.specs.Calls.{Call, step}
use Rattle.engine.specs.Calls.Call.{begin, read, write, ask, withdraw, report, send, deliver, work, load, notice}
use Rattle.engine.specs.Moves.{out_at_turn}
use Rattle.engine.specs.Restart.{blocks_in, restart_step}
use Rattle.engine.specs.History.{AnyCall, any_step}
use Rattle.engine.specs.History.AnyCall.{call, restart}
use Rattle.protocol.specs.Lists.{opt, update, Mem, keep}
use Rattle.protocol.specs.Notices as protocol
use Rattle.protocol.specs.Writesets.{Write, new_write, Writeset, Message}
use Rattle.protocol.specs.Replica.{Event}
use Rattle.protocol.specs.Replica.Event.{passed, committed, requested, handed_out, accepted}
use Rattle.protocol.specs.Observer.{noting, Observed, observing, Handout, observed_after, handouts_after}

-- ---- what a call is lent

-- bytes: those of a deliver; notices: that of a notice, those of a restart
pub record Arguments : Type 0 where
  pub ticket : ℕ
  pub item : ℕ
  pub value : ℤ
  pub bytes : List ℕ
  pub notices : List Notice

abbrev pub arguments : ℕ → ℕ → ℤ → List ℕ → Arguments
arguments t i v b = record { ticket = t; item = i; value = v; bytes = b; notices = [] }

abbrev pub notice_arguments : List Notice → Arguments
notice_arguments l = record { ticket = 0; item = 0; value = pos 0; bytes = []; notices = l }

-- 0, no bytes and no notices where a call has none
abbrev pub arguments_of : AnyCall → Arguments
arguments_of (call begin) = arguments 0 0 (pos 0) []
arguments_of (call (read t i)) = arguments t i (pos 0) []
arguments_of (call (write t i v)) = arguments t i v []
arguments_of (call (ask t)) = arguments t 0 (pos 0) []
arguments_of (call (withdraw t)) = arguments t 0 (pos 0) []
arguments_of (call report) = arguments 0 0 (pos 0) []
arguments_of (call (send block)) = arguments 0 0 (pos 0) []
arguments_of (call (deliver bytes)) = arguments 0 0 (pos 0) bytes
arguments_of (call work) = arguments 0 0 (pos 0) []
arguments_of (call (load classes)) = arguments 0 0 (pos 0) []
arguments_of (call (notice a)) = notice_arguments (a ∷ [])
arguments_of (restart n own values journal notices block) = notice_arguments notices

-- a restart's journal, and its blocks before the one at which the restart stops
abbrev pub journal_in : AnyCall → List ℕ
journal_in (call c) = []
journal_in (restart n own values journal notices block) = journal

abbrev pub blocks_read : AnyCall → List (List ℕ)
blocks_read (call c) = []
blocks_read (restart n own values journal notices block) = blocks_in n journal

-- ---- what the observer is fed of a call: arguments and answer alone

-- what a block says
abbrev pub write_of : Entry → Write ℤ
write_of e = new_write e.item e.value

abbrev pub writeset_from : Record → Writeset ℤ
writeset_from r = record { ticket = r.ticket; writes = map write_of r.entries }

unfoldable pub message_in : List ℕ → Message ℤ
message_in b = record { slot = (message_of b).slot; sender = (message_of b).sender; writesets = map writeset_from (message_of b).records }

-- the block that a restart gives back, none where it is zeros
abbrev pub given_in : List ℕ → Option (Message ℤ)
given_in b = cond (eqb (get_or b 0 0) 0) none (some (message_in b))

-- a notice as the model has it; that of a notice call
abbrev pub notice_in : Notice → protocol.Notice
notice_in a = record { about = a.about; out = a.out; slot = a.slot }

unfoldable pub first_notice : List Notice → protocol.Notice
first_notice [] = record { about = 0; out = false; slot = 0 }
first_notice (a ∷ l) = notice_in a

-- a work that committed nothing names ticket 0; a restart's commits are of the blocks read, whatever count it answers; no call answers `made`
unfoldable pub heard : AnyCall → Answer → Event ℤ
heard c (refused k) = Event.refused k
heard c made = Event.was_made
heard c (began t) = Event.began t
heard c (got v) = Event.got (arguments_of c).ticket (arguments_of c).item v
heard c wrote = Event.wrote (arguments_of c).ticket (arguments_of c).item (arguments_of c).value
heard c queued = requested (arguments_of c).ticket
heard c read_only = requested (arguments_of c).ticket
heard c withdrew = Event.withdrew (arguments_of c).ticket
heard c (reported r) = Event.reported r.turn r.commits
heard c (sent b) = handed_out (message_in b)
heard c kept = accepted (message_in (arguments_of c).bytes)
heard c (worked s) = cond (eqb s.ticket 0) (passed s.sender s.aborted) (committed s.sender s.ticket s.aborted)
heard c loaded = Event.loaded
heard c noticed = Event.noticed (first_notice (arguments_of c).notices)
heard c (restarted k b) = Event.restarted (map message_in (blocks_read c)) (map notice_in (arguments_of c).notices) (given_in b)

-- the block that a call hands out: a send's; a restart's, unless it is zeros
abbrev pub handed_out_in : Answer → Option (List ℕ)
handed_out_in (refused n) = none
handed_out_in made = none
handed_out_in (began t) = none
handed_out_in (got v) = none
handed_out_in wrote = none
handed_out_in queued = none
handed_out_in read_only = none
handed_out_in withdrew = none
handed_out_in (reported r) = none
handed_out_in (sent b) = some b
handed_out_in kept = none
handed_out_in (worked s) = none
handed_out_in loaded = none
handed_out_in noticed = none
handed_out_in (restarted c b) = cond (eqb (get_or b 0 0) 0) none (some b)

-- ---- the journals, from what calls answer, and the floor, from where they stood

-- what a replica's disk has: the bytes appended, and how many of them a cut leaves at least; a station has no disk, and what stands under its number is never asked for
pub record Disk : Type 0 where
  pub journal : List ℕ
  pub floor : ℕ

abbrev pub disk : List ℕ → ℕ → Disk
disk l n = record { journal = l; floor = n }

-- a send appends its block, a work another's where the turn leaves its slot, or the *next* of an out slot; a restart's journal goes on behind the last block committed
abbrev pub journal_after : List ℕ → AnyCall → Answer → List ℕ
journal_after l c (refused n) = l
journal_after l c made = l
journal_after l c (began t) = l
journal_after l c (got v) = l
journal_after l c wrote = l
journal_after l c queued = l
journal_after l c read_only = l
journal_after l c withdrew = l
journal_after l c (reported r) = l
journal_after l c (sent b) = l ++ b
journal_after l c kept = l
journal_after l c (worked s) = l ++ s.append
journal_after l c loaded = l
journal_after l c noticed = l
journal_after l c (restarted k b) = take (512 * k) (journal_in c)

-- the slot behind the last of the blocks whose slot the notices put out, 0 where there is none
unfoldable pub out_end : List Notice → List (List ℕ) → ℕ
out_end l [] = 0
out_end l (b ∷ bs) = max (cond (puts_out false l (header_of b).sender (header_of b).slot) (suc (header_of b).slot) 0) (out_end l bs)

-- what a cut leaves at least, after a call on m: `all` that is there once an own block is handed out, a notice is taken or an out slot is passed; and what a restart committed up to
-- the last out slot
abbrev pub floor_after : (floor all : ℕ) → Memory → AnyCall → Answer → ℕ
floor_after f all m c (refused n) = f
floor_after f all m c made = f
floor_after f all m c (began t) = f
floor_after f all m c (got v) = f
floor_after f all m c wrote = f
floor_after f all m c queued = f
floor_after f all m c read_only = f
floor_after f all m c withdrew = f
floor_after f all m c (reported r) = f
floor_after f all m c (sent b) = all
floor_after f all m c kept = f
floor_after f all m c (worked s) = cond (out_at_turn m) all f
floor_after f all m c loaded = f
floor_after f all m c noticed = all
floor_after f all m c (restarted k b) = opt (handed_out_in (restarted k b)) (max f (512 * out_end (arguments_of c).notices (blocks_read c))) (λ x. all)

abbrev pub disk_after : Disk → Memory → AnyCall → Answer → Disk
disk_after d m c a = let l = journal_after d.journal c a in disk l (floor_after d.floor (length l) m c a)

-- ---- the notices taken

-- whether the answer takes a notice
abbrev pub is_taken : Answer → Bool
is_taken (refused n) = false
is_taken made = false
is_taken (began t) = false
is_taken (got v) = false
is_taken wrote = false
is_taken queued = false
is_taken read_only = false
is_taken withdrew = false
is_taken (reported r) = false
is_taken (sent b) = false
is_taken kept = false
is_taken (worked s) = false
is_taken loaded = false
is_taken noticed = true
is_taken (restarted c b) = false

-- in order; no restart loses one
abbrev pub taken_after : List Notice → AnyCall → Answer → List Notice
taken_after l c a = cond (is_taken a) (l ++ (arguments_of c).notices) l

-- ---- the group

-- taken: the notices that each took; blocks: those handed out, in order, also by a restart
pub record Members : Type 0 where
  pub memories : ℕ → Memory
  pub disks : ℕ → Disk
  pub taken : ℕ → List Notice
  pub observed : ℕ → Observed ℤ
  pub handouts : List (Handout ℤ)
  pub blocks : List (List ℕ)

pub record CallAt : Type 0 where
  pub at : ℕ
  pub does : AnyCall

abbrev pub blocks_after : List (List ℕ) → Answer → List (List ℕ)
blocks_after B a = opt (handed_out_in a) B (λ b. B ++ (b ∷ []))

module _ (n : ℕ) (start : List ℤ) where
  -- member k just made
  abbrev pub made_member : ℕ → Memory
  made_member k = cond (ltb k n) (made_memory n k start) (station_memory n start)

  -- n replicas just made, numbers 0 to n − 1, and stations, the same values
  abbrev pub fresh : Members
  fresh = record {
    memories = made_member;
    disks = λ k. disk [] 0;
    taken = λ k. [];
    observed = λ k. observing (λ t. noting 0 []) [] [];
    handouts = [];
    blocks = [];
  }

-- a call acts on the memory that the last call at its member left
abbrev pub did : Members → CallAt → Outcome
did g c = any_step (g.memories c.at) c.does

-- the group after a call with this outcome
abbrev pub next_by : Outcome → Members → CallAt → Members
next_by o g c = record {
  memories = update g.memories c.at o.memory;
  disks = update g.disks c.at (disk_after (g.disks c.at) (g.memories c.at) c.does o.answer);
  taken = update g.taken c.at (taken_after (g.taken c.at) c.does o.answer);
  observed = update g.observed c.at (observed_after (g.observed c.at) (heard c.does o.answer));
  handouts = handouts_after g.handouts c.at (g.observed c.at) (heard c.does o.answer);
  blocks = blocks_after g.blocks o.answer;
}

abbrev pub next : Members → CallAt → Members
next g c = next_by (did g c) g c

unfoldable pub run : Members → List CallAt → Members
run g [] = g
run g (c ∷ cs) = run (next g c) cs

-- ---- lists of calls

-- the list has the call, with `before` in front of it
abbrev pub Comes : List CallAt → List CallAt → CallAt → Type 0
Comes cs before c = (after : List CallAt) × (cs ≡ before ++ (c ∷ after))

-- a restart is a replica's; any other call may be a station's
abbrev pub MayBeAt : ℕ → ℕ → AnyCall → Type 0
MayBeAt n k (call c) = Unit
MayBeAt n k (restart size own values journal notices block) = k < n

-- each call is at a replica of the group or at a station, and a value written is a signed 32-bit number, as the calls' types have it; all else is any
abbrev pub Calls : ℕ → List CallAt → Type 0
Calls n cs = (c : CallAt) → Mem c cs → MayBeAt n c.at c.does × (signed32 (arguments_of c.does).value ≡ true)

-- a cut leaves a first part of what was appended, also by the call there which it ended, of any kind, and never less than the floor
pub record Lent (m : Memory) (d : Disk) (journal : List ℕ) : Type 0 where
  pub ended : Call
  pub value : signed32 (arguments_of (call ended)).value ≡ true
  pub count : ℕ
  pub part : journal ≡ take count (journal_after d.journal (call ended) (step m ended).answer)
  pub enough : d.floor ≤ length journal

-- of each call of a list from the group g, of n replicas with the starting values `start`
pub record PremiseFrom (n : ℕ) (start : List ℤ) (g : Members) (cs : List CallAt) : Type 0 where
  -- bytes that a deliver accepts equal a block handed out earlier in the list
  pub delivered : (before : List CallAt) (k : ℕ) (bytes : List ℕ) → Comes cs before (record { at = k; does = call (deliver bytes) })
      → (step ((run g before).memories k) (deliver bytes)).answer ≡ kept → Mem bytes (run g before).blocks
  -- a restart that is accepted was lent N, its own number and the starting values, as at Make, what a cut leaves, and the notices taken
  pub lent : (before : List CallAt) (k size own : ℕ) (values : List ℤ) (journal : List ℕ) (notices : List Notice) (block : List ℕ) (count : ℕ) (given : List ℕ)
      → Comes cs before (record { at = k; does = restart size own values journal notices block })
      → (restart_step ((run g before).memories k) size own values journal notices block).answer ≡ restarted count given
      → (size ≡ n) × (own ≡ k) × (values ≡ start) × Lent ((run g before).memories k) ((run g before).disks k) journal × (notices ≡ (run g before).taken k)

-- ---- the notices at the end

-- those about replica k
abbrev pub about : ℕ → List Notice → List Notice
about k l = keep (λ (a : Notice). eqb a.about k) l

-- those taken are a beginning of the list, and the turn is not above the slot of one that is lacking
pub record Beginning (taken list : List Notice) (turn : ℕ) : Type 0 where
  pub lacking : List Notice
  pub whole : list ≡ taken ++ lacking
  pub ahead : (a : Notice) → Mem a lacking → turn ≤ a.slot

-- document 02's premise on the end g of a list of calls: of the one list l k about replica k each replica and station has taken a beginning, none stands above the slot of a notice that
-- it lacks, and no block of k was handed out for a slot that the list puts out; asked of those at which there is a call
pub record OneList (cs : List CallAt) (l : ℕ → List Notice) (g : Members) : Type 0 where
  pub of_its : (k : ℕ) (a : Notice) → Mem a (l k) → a.about ≡ k
  pub taken : (c : CallAt) → Mem c cs → (k : ℕ) → Beginning (about k (g.taken c.at)) (l k) (g.memories c.at).turn.slot
  pub handed : (b : List ℕ) → Mem b g.blocks → puts_out false (l (header_of b).sender) (header_of b).sender (header_of b).slot ≡ false

-- of a list of calls: on each of them, and on the notices at the end
pub record Premise (n : ℕ) (start : List ℤ) (cs : List CallAt) : Type 0 where
  pub calls : PremiseFrom n start (fresh n start) cs
  pub lists : ℕ → List Notice
  pub one : OneList cs lists (run (fresh n start) cs)
