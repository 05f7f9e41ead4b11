-- What a call at a replica or a station gives and leaves.
use Rattle.std.specs.Prelude.{ℕ, ◌*◌, ◌≤◌, min, ◌≡◌, cond, List, [], ◌∷◌, eqb, ℤ, pos, length, take, drop, replicate}
use Rattle.std.proofs.Math.Seq.{paste}
use Rattle.memory.specs.Memory.{Memory, group_of}
use Rattle.memory.specs.Rows.{closed}
use Rattle.engine.specs.declared.Report.{Report}
use Rattle.engine.specs.Answers.{WorkDone, Answer, number_of, Outcome}
use Rattle.engine.specs.Answers.Answer.{refused, made, began, got, wrote, queued, read_only, withdrew, reported, sent, kept, worked, loaded, noticed, restarted}
use Rattle.engine.specs.Make.{turn_zero, counts_zero}
use Rattle.call_reply.specs.Parts.{all_parts}
use Rattle.call_reply.specs.Replies.{step_in, block_left}
use Rattle.replay_journal.specs.declared.Change.{Change}
use Rattle.replay_journal.specs.declared.Change.TheVariants.{Stays, Grows, Begins}
use Rattle.replay_replica.specs.declared.Played.{Played}
use Rattle.replay_replica.specs.declared.Replica.{Replica}

-- ---- a replica's memory

-- n places, of the six that the program has room for
abbrev pub places_size : ℕ → ℕ
places_size n = 512 * min n 6

-- where none was made: a group of no replicas
abbrev pub no_replica : Replica
no_replica = record {
  group = group_of 0 0;
  turn = turn_zero;
  counts = counts_zero;
  rows = replicate 6 closed;
  queue = replicate 6 0;
  items = replicate 48 0;
  writes = replicate 48 (pos 0);
  snapshots = replicate 768 (pos 0);
  values = replicate 128 (pos 0);
  stamps = replicate 128 0;
  classes = replicate 128 0;
  places = replicate 3072 0;
  outbox = replicate 512 0;
  window = replicate 32_768 0;
}

-- the memory that a call is lent: of the bytes for places the first `size`
abbrev pub memory_of : ℕ → Replica → Memory
memory_of size r =
    all_parts r.group r.turn r.counts r.rows r.queue r.items r.writes r.snapshots r.values r.stamps r.classes (take size r.places) r.outbox r.window

-- ---- what is printed of an answer, behind its number

abbrev pub report_numbers : Report → List ℕ
report_numbers r = r.turn ∷ (r.commits ∷ (r.tickets ∷ (r.open_count ∷ (r.committed ∷ (r.read_only ∷ (r.aborted ∷ (r.withdrawn ∷ [])))))))

abbrev pub step_numbers : WorkDone → List ℕ
step_numbers s = s.sender ∷ (s.ticket ∷ (cond s.moved 1 0 ∷ (length s.aborted ∷ s.aborted)))

abbrev pub numbers_of : Answer → List ℕ
numbers_of (began t) = t ∷ []
numbers_of queued = 0 ∷ []
numbers_of read_only = 1 ∷ []
numbers_of (reported r) = report_numbers r
numbers_of (worked s) = step_numbers s
numbers_of (refused n) = []
numbers_of made = []
numbers_of (got v) = []
numbers_of wrote = []
numbers_of withdrew = []
numbers_of (sent b) = []
numbers_of kept = []
numbers_of loaded = []
numbers_of noticed = []
numbers_of (restarted c b) = c ∷ []

abbrev pub values_of : Answer → List ℤ
values_of (got v) = v ∷ []
values_of (began t) = []
values_of queued = []
values_of read_only = []
values_of (reported r) = []
values_of (worked s) = []
values_of (refused n) = []
values_of made = []
values_of wrote = []
values_of withdrew = []
values_of (sent b) = []
values_of kept = []
values_of loaded = []
values_of noticed = []
values_of (restarted c b) = []

-- ---- what becomes of the journal

-- it grows by a block that is sent, or that a work hands out, and begins anew with a make or a restart
abbrev pub change_of : Answer → Change
change_of (sent b) = Grows
change_of (worked s) = cond (eqb (length s.append) 0) Stays Grows
change_of made = Begins 0
change_of (restarted c b) = Begins c
change_of (refused n) = Stays
change_of (began t) = Stays
change_of (got v) = Stays
change_of wrote = Stays
change_of queued = Stays
change_of read_only = Stays
change_of withdrew = Stays
change_of (reported r) = Stays
change_of kept = Stays
change_of loaded = Stays
change_of noticed = Stays

-- ---- calls

-- bytes over the first of those lent, as many as there is room for
abbrev pub over : List ℕ → List ℕ → List ℕ
over lent bytes = paste lent 0 bytes (min (length bytes) (length lent))

-- what is left in the bytes lent for a block: also the block that a work has for the journal
abbrev pub block_given : Answer → List ℕ → List ℕ
block_given a lent = cond (eqb (length (step_in a).append) 0) (block_left a lent) (over lent (step_in a).append)

-- the number, the numbers and values behind it, what is left in the bytes lent for a block, the memory left, and what becomes of the journal
pub record Effect : Type 0 where
  pub number : ℕ
  pub numbers : List ℕ
  pub values : List ℤ
  pub block : List ℕ
  pub memory : Memory
  pub change : Change

abbrev pub effect : List ℕ → Outcome → Effect
effect lent o = record {
  number = number_of o.answer;
  numbers = numbers_of o.answer;
  values = values_of o.answer;
  block = block_given o.answer lent;
  memory = o.memory;
  change = change_of o.answer;
}

-- ---- what the program has of it

abbrev pub effect_of : ℕ → Played → List ℕ → Effect
effect_of size p block = record {
  number = p.number;
  numbers = take p.count p.numbers;
  values = take p.shown p.values;
  block = block;
  memory = memory_of size p.replica;
  change = p.change;
}

-- the effect e, with `size` bytes of places lent; the others stay
pub record Plays (size : ℕ) (replica : Replica) (p : Played) (block : List ℕ) (e : Effect) : Type 0 where
  pub is : effect_of size p block ≡ e
  pub rest : drop size p.replica.places ≡ drop size replica.places
  -- the numbers and values that are shown are among those there
  pub count : p.count ≤ 10
  pub shown : p.shown ≤ 128
