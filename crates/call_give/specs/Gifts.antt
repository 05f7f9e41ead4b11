-- A giving as the code does it: the parts it is lent, how far it is, and its answer.
use Rattle.std.specs.Prelude.{ℕ, ◌+◌, ◌≤◌, ◌≡◌, ◌≢◌, Option, Some, None, Bool, cond, not, ◌&&◌, ◌||◌, List, [], ◌∷◌, eqb, ℤ, length, take, drop, replicate}
use Rattle.memory.specs.declared.Counts.{Counts}
use Rattle.memory.specs.declared.Group.{Group}
use Rattle.memory.specs.declared.Turn.{Turn}
use Rattle.memory.specs.declared.Txn.{Txn}
use Rattle.memory.specs.Memory.{Memory}
use Rattle.memory.specs.Rows.{is_open, open_count, end_rows}
use Rattle.call_reply.specs.declared.Worked.{Worked}
use Rattle.call_reply.specs.Replies.{six_of}
use Rattle.giving.specs.Choice.{giver_of}
use Rattle.giving.specs.Giving.{gathered, Going, given_to, give_refusal, give_step}
use Rattle.call_give.specs.declared.Giving.{Giving}
use Rattle.call_give.specs.declared.GiveReply.{GiveReply}

-- the memory m with what a giving is lent in place of its own: a work's parts, and the block sent last
abbrev pub give_parts : Memory → Group → Turn → Counts → List Txn → List ℕ → List ℕ → List ℤ → List ℕ → List ℕ → List ℕ → List ℕ → Memory
give_parts m group turn counts table queue items values stamps places outbox window = record {
  group = group;
  turn = turn;
  counts = counts;
  txns = record { table = table; queue = queue; items = items; writes = m.txns.writes; snapshots = m.txns.snapshots };
  store = record { values = values; stamps = stamps; classes = m.store.classes };
  blocks = record { places = places; outbox = outbox; window = window };
}

-- ---- how far it is

-- the code, with s by value and what is lent as in m, is where the giving is
pub record Stands (g : Going) (s : Giving) (m : Memory) : Type 0 where
  pub memory : m ≡ g.memory
  pub number : s.number ≡ g.number
  pub count : s.count ≡ length g.aborted
  pub aborted : s.aborted ≡ six_of g.aborted

-- the tickets named and the rows still open are six at most: each that a work names frees its row
abbrev pub Room : Giving → Type 0
Room s = s.count + open_count s.rows ≤ 6

-- after one accepted work more: its tickets are put among the others, and nothing behind them is touched
pub record Follows (before : Giving) (w : Worked) (after : Giving) : Type 0 where
  pub rows : after.rows ≡ end_rows w.ended before.rows
  pub turn : after.turn ≡ w.turn
  pub counts : after.counts ≡ w.counts
  pub number : after.number ≡ 0
  pub count : after.count ≡ before.count + w.count
  pub named : take (before.count + w.count) after.aborted ≡ gathered (take w.count w.aborted) (take before.count before.aborted)
  pub behind : drop (before.count + w.count) after.aborted ≡ drop (before.count + w.count) before.aborted

-- ---- the answer

-- the giver's turn, where somebody is up
abbrev pub TurnTold : Memory → List ℕ → Option ℕ → Type 0
TurnTold m told None = giver_of m.group.own told ≡ m.group.own
TurnTold m told (Some to) = (giver_of m.group.own told ≢ m.group.own) × (to ≡ given_to m told)

-- by its refusal: the giver is named where the giving is not turned away, and by 31
abbrev pub names_giver : ℕ → Bool
names_giver refusal = eqb refusal 0 || eqb refusal 31

abbrev pub giver_named : Memory → (told lent : List ℕ) → ℕ
giver_named m told lent = cond (names_giver (give_refusal m told lent)) (giver_of m.group.own told) 0

abbrev pub give_reply : Memory → (told lent : List ℕ) → GiveReply
give_reply m told lent =
    let o = give_step m told lent in
    record { number = o.number; giver = giver_named m told lent; count = length o.aborted; aborted = six_of o.aborted }

-- the answer, and the memory left
pub record Gift : Type 0 where
  pub reply : GiveReply
  pub memory : Memory

abbrev pub gift : Memory → (told lent : List ℕ) → Gift
gift m told lent = record { reply = give_reply m told lent; memory = (give_step m told lent).memory }

-- what a contract says: the reply is that of the gift, and what is left is its memory
abbrev pub GivesGift : Gift → GiveReply → Memory → Type 0
GivesGift g r left = (r ≡ g.reply) × (left ≡ g.memory)

-- of a giving that is not begun
abbrev pub no_gift : ℕ → GiveReply
no_gift number = record { number = number; giver = 0; count = 0; aborted = replicate 6 0 }

-- with a lent table: 1 where it is not six rows
unfoldable pub gift_called : Memory → (told lent : List ℕ) → Gift
gift_called m told lent = cond (eqb (length m.txns.table) 6) (gift m told lent) (record { reply = no_gift 1; memory = m })

-- ---- the rows that it ended

-- the marks of those that were open and are not
unfoldable pub freed_marks : (before after : List Txn) → List Bool
freed_marks [] us = []
freed_marks (t ∷ ts) [] = []
freed_marks (t ∷ ts) (u ∷ us) = (is_open t && not (is_open u)) ∷ freed_marks ts us
