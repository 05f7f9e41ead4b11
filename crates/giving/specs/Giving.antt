-- A giving, at the returner: it is told turns, and lent the window of the giver that they name.
use Rattle.std.specs.Prelude.{ℕ, zero, suc, ◌-◌, Bool, cond, not, ◌&&◌, List, [], ◌∷◌, ◌++◌, eqb, ltb, leb, length}
use Rattle.block.specs.Answers.{refuse, first_of, header_of}
use Rattle.memory.specs.Memory.{Memory, window_slots, is_window, outbox_lent, is_station}
use Rattle.memory.specs.Turns.{is_empty}
use Rattle.memory.specs.Window.{kept_block}
use Rattle.engine.specs.Answers.{Answer, number_of}
use Rattle.engine.specs.Answers.Answer.{refused, made, began, got, wrote, queued, read_only, withdrew, reported, sent, kept, worked, loaded, noticed, restarted}
use Rattle.engine.specs.Moves.{insert_rising, out_at_turn, nothing_waits, work_lent}
use Rattle.engine.specs.Calls.{Call, step}
use Rattle.engine.specs.Calls.Call.{deliver, work}
use Rattle.giving.specs.Choice.{told_turn, giver_of}

-- ---- what a window has

-- a block for slot s: the ring's block there is not empty, and says that slot
unfoldable pub holds : List ℕ → ℕ → Bool
holds window s = not (is_empty window_slots s window) && eqb (header_of (kept_block window s)).slot s

-- it lacks a block for one of the slots `from` to `to` − 1; of a replica's window the ends of the range tell it (`agreement_giving`, `LastBlocks`)
unfoldable pub lacks : List ℕ → ℕ → ℕ → Bool
lacks window from to = ltb from to && not (leb (to - from) window_slots && (holds window from && holds window (to - 1)))

-- ---- the calls of a giving

-- the tickets that a work names as aborted
abbrev pub aborted_in : Answer → List ℕ
aborted_in (refused n) = []
aborted_in made = []
aborted_in (began t) = []
aborted_in (got v) = []
aborted_in wrote = []
aborted_in queued = []
aborted_in read_only = []
aborted_in withdrew = []
aborted_in (reported r) = []
aborted_in (sent b) = []
aborted_in kept = []
aborted_in (worked s) = s.aborted
aborted_in loaded = []
aborted_in noticed = []
aborted_in (restarted c b) = []

-- tickets put into a rising list
unfoldable pub gathered : List ℕ → List ℕ → List ℕ
gathered [] l = l
gathered (t ∷ ts) l = gathered ts (insert_rising t l)

-- how far it is: the returner's memory, the number that ended it, 0 so far, the tickets aborted, rising, and the calls done, in order
pub record Going : Type 0 where
  pub memory : Memory
  pub number : ℕ
  pub aborted : List ℕ
  pub calls : List Call

-- with no call done
abbrev pub set_out_field : Memory → ℕ → Going
set_out_field m n = record { memory = m; number = n; aborted = []; calls = [] }

-- one call more
unfoldable pub doing : Going → Call → Going
doing g c =
    let o = step g.memory c in
    record {
      memory = o.memory;
      number = number_of o.answer;
      aborted = gathered (aborted_in o.answer) g.aborted;
      calls = g.calls ++ (c ∷ []);
    }

-- a block's
abbrev pub most_writesets : ℕ
most_writesets = 6

-- at most c works, until the turn has left slot s
unfoldable pub work_out : ℕ → ℕ → Going → Going
work_out s zero g = g
work_out s (suc c) g = cond (eqb g.number 0 && eqb g.memory.turn.slot s) (work_out s c (doing g work)) g

-- the turn's slot is not out, and nothing is in place for it
abbrev pub is_wanted : Memory → Bool
is_wanted m = not (out_at_turn m) && nothing_waits m

-- the turn's slot: the block delivered, unless one is in place or the slot is out, then worked
unfoldable pub take_slot : List ℕ → Going → Going
take_slot block g = work_out g.memory.turn.slot most_writesets (cond (is_wanted g.memory) (doing g (deliver block)) g)

-- c slots, each the turn's, until one is refused
unfoldable pub give_slots : List ℕ → ℕ → Going → Going
give_slots lent zero g = g
give_slots lent (suc c) g = cond (eqb g.number 0) (give_slots lent c (take_slot (kept_block lent g.memory.turn.slot) g)) g

-- ---- the call

-- 1: what the returner's delivers and works are lent has its lengths, one turn is told for each replica, and the giver's window is a window
abbrev pub give_lent : Memory → List ℕ → List ℕ → Bool
give_lent m told lent = work_lent m && (outbox_lent m && (eqb (length told) m.group.replicas && is_window lent))

-- 30: nobody else is up
abbrev pub nobody_up : Memory → List ℕ → Bool
nobody_up m told = eqb (giver_of m.group.own told) m.group.own

-- whose window to ask for: known from the turns alone. 25 at a station, which is neither giver nor returner
unfoldable pub giver_refusal : Memory → List ℕ → ℕ
giver_refusal m told =
    first_of
    (refuse 25 (is_station m)
    ∷ refuse 1 (not (eqb (length told) m.group.replicas))
    ∷ refuse 30 (nobody_up m told)
    ∷ [])

-- the giver's turn, as told
abbrev pub given_to : Memory → List ℕ → ℕ
given_to m told = told_turn told (giver_of m.group.own told)

-- 31: the giver's window lacks a block for a slot from the returner's turn up to the giver's
unfoldable pub give_refusal : Memory → List ℕ → List ℕ → ℕ
give_refusal m told lent =
    first_of
    (refuse 25 (is_station m)
    ∷ refuse 1 (not (give_lent m told lent))
    ∷ refuse 30 (nobody_up m told)
    ∷ refuse 31 (lacks lent m.turn.slot (given_to m told))
    ∷ [])

-- level or ahead, nothing is given
unfoldable pub give_step : Memory → List ℕ → List ℕ → Going
give_step m told lent =
    cond (eqb (give_refusal m told lent) 0)
    (give_slots lent (given_to m told - m.turn.slot) (set_out_field m 0))
    (set_out_field m (give_refusal m told lent))
