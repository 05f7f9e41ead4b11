-- What calls answer: on every memory of the shape a write is read again, the tickets that a work names rise, the turn stays until a block sent is delivered back, and no row is free exactly where
-- six transactions are open; on every memory a deliver of a block that a fault changed is refused.
use Rattle.std.specs.Prelude.{ℕ, ◌<◌, ◌≡◌, true, ℤ, length, get_or}
use mathlib.Core.List.{List, Memᴰ}
use Rattle.block.specs.Theorems.{Accepted, TwoWordsChanged}
use Rattle.memory.specs.declared.Txn.{Txn}
use Rattle.memory.specs.Memory.{Memory}
use Rattle.memory.specs.Rows.{open_count, free_row}
use Rattle.engine.specs.Answers.{WorkDone}
use Rattle.engine.specs.Answers.Answer.{refused, got, wrote, sent, worked}
use Rattle.engine.specs.Moves.{deliver_lent}
use Rattle.engine.specs.Calls.{Call, step, after}
use Rattle.engine.specs.Calls.Call.{read, write, send, deliver, work}
use Rattle.engine.specs.Shape.{Shape}
use Rattle.engine.specs.Sent.{SentShape}

pub record Claims : Type 0 where
  -- a read under the ticket gives what it wrote last to the item
  pub read_back : {over : ℕ} (m : Memory) → Shape over m → (ticket item : ℕ) (value : ℤ) → (step m (write ticket item value)).answer ≡ wrote
      → (step (step m (write ticket item value)).memory (read ticket item)).answer ≡ got value
  -- any other read, under this ticket or another, open or not, is answered as before
  pub read-other : {over : ℕ} (m : Memory) → Shape over m → (ticket item : ℕ) (value : ℤ) → (step m (write ticket item value)).answer ≡ wrote
      → (t i : ℕ) → ((t ≡ ticket) × (i ≡ item) → ⊥) → (step (step m (write ticket item value)).memory (read t i)).answer ≡ (step m (read t i)).answer
  -- the aborted tickets rise strictly
  pub rising : {over : ℕ} (m : Memory) → Shape over m → (s : WorkDone) → (step m work).answer ≡ worked s
      → (j k : ℕ) → j < k → k < length s.aborted → get_or s.aborted j 0 < get_or s.aborted k 0
  -- after a send the turn stays until the replica gets its block back: through any calls but a deliver of it
  pub turn-stays : {over : ℕ} (m : Memory) → Shape over m → SentShape m → (lent block : List ℕ) → (step m (send lent)).answer ≡ sent block
      → (cs : List Call) → (Memᴰ (deliver block) cs → ⊥) → (after (step m (send lent)).memory cs).turn.slot ≡ m.turn.slot
  -- of an accepted block with one or two of its words changed, whatever the memory: 14
  pub changed : (m : Memory) (b c : List ℕ) (i j : ℕ) → Accepted b → TwoWordsChanged b c i j → deliver_lent m c ≡ true → (step m (deliver c)).answer ≡ refused 14
  -- 5's condition, no free row, holds exactly where 6 transactions are open
  pub full : (table : List Txn) → length table ≡ 6 → open_count table ≡ 6 → free_row table ≡ 6
  pub six-open : (table : List Txn) → length table ≡ 6 → free_row table ≡ 6 → open_count table ≡ 6
