-- What is claimed of the choice and of a giving, on every memory and whatever is told and lent.
use Rattle.std.specs.Prelude.{ℕ, max, ◌≤◌, ◌<◌, ◌≡◌, Bool, true, false, ◌||◌, ◌⊎◌, ℤ, length, get_or}
use mathlib.Core.List.{List, Memᴰ, [], ◌∷◌, ◌++◌}
use Rattle.block.specs.Answers.{header_of}
use Rattle.memory.specs.Memory.{Memory}
use Rattle.memory.specs.Rows.{has}
use Rattle.memory.specs.Window.{kept_block}
use Rattle.engine.specs.Answers.Answer.{refused}
use Rattle.engine.specs.Make.{SettingOf, made_memory}
use Rattle.engine.specs.Calls.{Call, step, after}
use Rattle.engine.specs.Calls.Call.{deliver, work}
use Rattle.engine.specs.History.{AnyCall, after_all}
use Rattle.giving.specs.Choice.{told_turn, may_give, candidate, best_of}
use Rattle.giving.specs.Giving.{aborted_in, set_out_field, given_to, give_refusal, give_step}

-- ---- the choice

-- g is the first candidate with the highest turn, of the first c
pub record FirstHighest (own : ℕ) (told : List ℕ) (c g : ℕ) : Type 0 where
  pub place : ℕ
  pub among : place < c
  pub is : g ≡ candidate own (length told) place
  pub may : may_give own told g ≡ true
  pub highest : (i : ℕ) → i < c → may_give own told (candidate own (length told) i) ≡ true → told_turn told (candidate own (length told) i) ≤ told_turn told g
  pub first : (i : ℕ) → i < place → may_give own told (candidate own (length told) i) ≡ true → told_turn told (candidate own (length told) i) < told_turn told g

pub record Choices : Type 0 where
  -- nobody may give and the own number is answered, or the first with the highest turn is
  pub best : (own : ℕ) (told : List ℕ) (c : ℕ)
      → ((best_of own told c ≡ own) × ((i : ℕ) → i < c → may_give own told (candidate own (length told) i) ≡ false)) ⊎ FirstHighest own told c (best_of own told c)

-- ---- the giving

-- a call of the list names the ticket as aborted
unfoldable pub named_in : ℕ → Memory → List Call → Bool
named_in t m [] = false
named_in t m (c ∷ cs) = has t (aborted_in (step m c).answer) || named_in t (step m c).memory cs

pub record Givings : Type 0 where
  -- turned away, all is left as before
  pub turned-away : (m : Memory) (told lent : List ℕ) → (give_refusal m told lent ≡ 0 → ⊥) → give_step m told lent ≡ set_out_field m (give_refusal m told lent)
  -- else it does its calls, each a call of its own, and leaves what they leave
  pub memory : (m : Memory) (told lent : List ℕ) → (give_step m told lent).memory ≡ after m (give_step m told lent).calls
  -- works, and delivers of the giver's blocks
  pub calls : (m : Memory) (told lent : List ℕ) (c : Call) → Memᴰ c (give_step m told lent).calls → (c ≡ work) ⊎ ((s : ℕ) × (c ≡ deliver (kept_block lent s)))
  -- it names the tickets that they name, rising
  pub named : (m : Memory) (told lent : List ℕ) (t : ℕ) → has t (give_step m told lent).aborted ≡ named_in t m (give_step m told lent).calls
  pub rising : (m : Memory) (told lent : List ℕ) (i j : ℕ) → i < j → j < length (give_step m told lent).aborted
      → get_or (give_step m told lent).aborted i 0 ≤ get_or (give_step m told lent).aborted j 0

pub record GivenTickets : Type 0 where
  -- at most six, on every memory whose table has six rows
  pub six : (m : Memory) (told lent : List ℕ) → length m.txns.table ≡ 6 → length (give_step m told lent).aborted ≤ 6
  -- each once, after any calls with any bytes, restarts from any journal among them
  pub once : (n own : ℕ) (values : List ℤ) → SettingOf n own values → (cs : List AnyCall) (told lent : List ℕ)
      → let l = (give_step (after_all (made_memory n own values) cs) told lent).aborted in (i j : ℕ) → i < j → j < length l → get_or l i 0 < get_or l j 0

-- after any calls and restarts, where the window lent has each slot's block in its place, as every replica's has: a giving that is not turned away comes to the giver's turn, or its last call is a
-- deliver that is refused with the number answered, and all before it stands
pub record Endings : Type 0 where
  pub ending : (n own : ℕ) (values : List ℤ) → SettingOf n own values → (cs : List AnyCall) (told lent : List ℕ)
      → let m = after_all (made_memory n own values) cs in let o = give_step m told lent in
      give_refusal m told lent ≡ 0 → ((s : ℕ) → m.turn.slot ≤ s → s < given_to m told → (header_of (kept_block lent s)).slot ≡ s)
      → ((o.number ≡ 0) × (o.memory.turn.slot ≡ max m.turn.slot (given_to m told)))
      ⊎ ((before : List Call) × (b : List ℕ) × (o.calls ≡ before ++ (deliver b ∷ [])) × ((step (after m before) (deliver b)).answer ≡ refused o.number) × (o.memory ≡ after m before))
