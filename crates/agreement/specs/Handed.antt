-- Blocks read back, with any bytes and no premise: one handed out is read as its message, and bytes that a deliver keeps are the only block of theirs.
use Rattle.std.specs.Prelude.{ℕ, ◌<◌, ◌≡◌, ◌⊎◌, List, ℤ, replicate}
use Rattle.block.specs.Bytes.{block_of}
use Rattle.block.specs.Form.{message_of}
use Rattle.block.specs.Answers.{block_refusal}
use Rattle.block.specs.Theorems.{AreBytes}
use Rattle.memory.specs.Memory.{Memory}
use Rattle.memory.specs.Notices.{Notice}
use Rattle.engine.specs.Make.{Setting}
use Rattle.engine.specs.Answers.Answer.{sent, kept, restarted}
use Rattle.engine.specs.Moves.{message_for}
use Rattle.engine.specs.Calls.{step}
use Rattle.engine.specs.Calls.Call.{send, deliver}
use Rattle.engine.specs.Restart.{restart_step}
use Rattle.agreement.specs.Group.{CallAt, fresh, run, Calls}

pub record ReadsBack : Type 0 where
  -- a send's block, after any list of calls and restarts
  pub sends : (n : ℕ) (start : List ℤ) → Setting n start → (cs : List CallAt) → Calls n cs → (k : ℕ) → k < n → (lent block : List ℕ)
      → let m = (run (fresh n start) cs).memories k in (step m (send lent)).answer ≡ sent block → (block_refusal block ≡ 0) × (message_of block ≡ message_for m)
  -- the block that a restart gives back, on any memory and from any journal
  pub restarts : (m : Memory) (n own : ℕ) (values : List ℤ) (journal : List ℕ) (notices : List Notice) (lent : List ℕ) (count : ℕ) (block : List ℕ)
      → (restart_step m n own values journal notices lent).answer ≡ restarted count block
      → (block ≡ replicate 512 0) ⊎ (block_refusal block ≡ 0)
  -- on any memory
  pub keeps : (m : Memory) (bytes : List ℕ) → AreBytes bytes → (step m (deliver bytes)).answer ≡ kept → bytes ≡ block_of (message_of bytes)
