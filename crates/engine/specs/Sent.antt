-- The block sent and the rows open as sent, on every memory that calls lead to, with any bytes. `OwnSent.antt` rests on it.
use Rattle.std.specs.Prelude.{ℕ, ◌+◌, ◌≤◌, ◌<◌, ◌≡◌, true, false, List, ℤ, get_or}
use Rattle.block.specs.Answers.{record_at}
use Rattle.memory.specs.Memory.{Memory, owner_at, span}
use Rattle.memory.specs.Notices.{Notice}
use Rattle.memory.specs.Rows.{row_at}
use Rattle.memory.specs.Turns.{block_in, is_empty}
use Rattle.engine.specs.Make.{made_memory}
use Rattle.engine.specs.Moves.{out_at_turn, sent_already, is_sent}
use Rattle.engine.specs.Calls.{Call, step}
use Rattle.engine.specs.Restart.{blocks_in, restarted_memory}
use Rattle.engine.specs.Shape.{Shape}

-- how many writesets the block sent last has, and the ticket of each
abbrev pub sent_count : Memory → ℕ
sent_count m = get_or m.blocks.outbox 3 0

abbrev pub sent_ticket : Memory → ℕ → ℕ
sent_ticket m j = (record_at m.blocks.outbox j).ticket

pub record SentShape (m : Memory) : Type 0 where
  -- the sent mark is on at an own slot alone that is not out
  pub turn : sent_already m ≡ true → owner_at m.group m.turn.slot ≡ m.group.own
  pub awaited : sent_already m ≡ true → out_at_turn m ≡ false
  -- a block that waits for an own slot is the one sent
  pub own : (s : ℕ) → m.turn.slot ≤ s → s < m.turn.slot + span m.group → is_empty (span m.group) s m.blocks.places ≡ false
      → owner_at m.group s ≡ m.group.own
      → (sent_already m ≡ true) × (block_in (span m.group) s m.blocks.places ≡ m.blocks.outbox)
  -- its tickets differ; those not yet done are open as sent, and no other row is
  pub once : sent_already m ≡ true → (j k : ℕ) → j < k → k < sent_count m → sent_ticket m j ≡ sent_ticket m k → ⊥
  pub live : sent_already m ≡ true → (j : ℕ) → m.counts.done ≤ j → j < sent_count m → is_sent m (sent_ticket m j) ≡ true
  pub only : (r : ℕ) → r < 6 → (row_at m.txns.table r).stage ≡ 2
      → (sent_already m ≡ true) × (j : ℕ) × (m.counts.done ≤ j) × (j < sent_count m) × (sent_ticket m j ≡ (row_at m.txns.table r).ticket)

pub record SentShapes : Type 0 where
  pub made : (n own : ℕ) (values : List ℤ) → SentShape (made_memory n own values)
  pub each : {over : ℕ} (m : Memory) → Shape over m → SentShape m → (c : Call) → SentShape (step m c).memory
  pub restarted : (n own : ℕ) (values : List ℤ) (journal : List ℕ) (notices : List Notice) → SentShape (restarted_memory n own values notices (blocks_in n journal))
