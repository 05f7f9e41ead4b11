-- What the calls do with notices and out slots: which slots a notice puts out, brings back and leaves, what a work does in an out slot, and what a restart gives back.
use Rattle.std.specs.Prelude.{ℕ, ◌≤◌, ◌<◌, ◌≡◌, true, false, ℤ, length, replicate}
use mathlib.Core.List.{List, Memᴰ, [], ◌∷◌, ◌++◌}
use Rattle.block.specs.Answers.{block_refusal, header_of}
use Rattle.memory.specs.Memory.{Memory, owner_at, slot_limit, with_done, with_turn}
use Rattle.memory.specs.Notices.{Notice, is_out, puts_out}
use Rattle.memory.specs.Turns.{advance}
use Rattle.engine.specs.Answers.{WorkDone}
use Rattle.engine.specs.Answers.Answer.{worked, restarted}
use Rattle.engine.specs.Moves.{out_at_turn, out_blocks}
use Rattle.engine.specs.Notices.{notice_refusal}
use Rattle.engine.specs.Calls.{step}
use Rattle.engine.specs.Calls.Call.{work, notice}
use Rattle.engine.specs.Restart.{blocks_in, is_from, restart_refusal, restart_step}
use Rattle.engine.specs.Shape.{Shape}

-- the *next* of the slot's owner, be it the replica itself, is journaled and kept in the window; the reader takes it; the turn moves and nothing else changes, the asked list neither
pub record OutPassed (m : Memory) (s : WorkDone) : Type 0 where
  pub sender : s.sender ≡ owner_at m.group m.turn.slot
  pub ticket : s.ticket ≡ 0
  pub moved : s.moved ≡ true
  pub aborted : s.aborted ≡ []
  pub taken : block_refusal s.append ≡ 0
  pub header : header_of s.append ≡ record { kind = 1; sender = owner_at m.group m.turn.slot; replicas = m.group.replicas; count = 0; slot = m.turn.slot }
  pub memory : (step m work).memory ≡ with_turn m (advance m.turn) (with_done m.counts 0) (out_blocks m)

-- every own one of the blocks is of a slot that the notices put out
abbrev pub AllOut : List Notice → ℕ → List (List ℕ) → Type 0
AllOut notices own bs = (b : List ℕ) → Memᴰ b bs → is_from own b ≡ true → puts_out false notices own (header_of b).slot ≡ true

pub record NoticeClaims : Type 0 where
  -- no block is needed where the turn's slot is out
  pub works : {over : ℕ} (m : Memory) → Shape over m → out_at_turn m ≡ true → (s : WorkDone) × ((step m work).answer ≡ worked s) × OutPassed m s
  -- an accepted restart gives back the last own block outside out slots, by all notices; zeros where there is none
  pub gives : (m : Memory) (n own : ℕ) (values : List ℤ) (journal : List ℕ) (notices : List Notice) (block : List ℕ) → restart_refusal m n own values block ≡ 0
      → (before after : List (List ℕ)) (b : List ℕ) → blocks_in n journal ≡ before ++ (b ∷ after) → is_from own b ≡ true → puts_out false notices own (header_of b).slot ≡ false
      → AllOut notices own after → (restart_step m n own values journal notices block).answer ≡ restarted (length (blocks_in n journal)) b
  pub gives_none : (m : Memory) (n own : ℕ) (values : List ℤ) (journal : List ℕ) (notices : List Notice) (block : List ℕ) → restart_refusal m n own values block ≡ 0
      → AllOut notices own (blocks_in n journal) → (restart_step m n own values journal notices block).answer ≡ restarted (length (blocks_in n journal)) (replicate 512 0)
  -- *Out k from v*, taken: "the slots of k from v on" are out
  pub outs : {over : ℕ} (m : Memory) → Shape over m → (a : Notice) → a.out ≡ true → notice_refusal m a ≡ 0 → (s : ℕ) → owner_at m.group s ≡ a.about → a.slot ≤ s → s < slot_limit
      → is_out (step m (notice a)).memory.group s ≡ true
  -- *Back k at w*, taken: "from w on they count again"
  pub again : {over : ℕ} (m : Memory) → Shape over m → (a : Notice) → a.out ≡ false → notice_refusal m a ≡ 0 → (s : ℕ) → owner_at m.group s ≡ a.about → a.slot ≤ s
      → is_out (step m (notice a)).memory.group s ≡ false
  -- every other slot from the turn on, of another replica or of k before v or w, is out where it was
  pub others : {over : ℕ} (m : Memory) → Shape over m → (a : Notice) → notice_refusal m a ≡ 0 → (s : ℕ) → m.turn.slot ≤ s → (owner_at m.group s ≡ a.about → s < a.slot)
      → is_out (step m (notice a)).memory.group s ≡ is_out m.group s
  -- of the slots that the turn has passed a notice that is taken puts none out, and a Back brings none back
  pub notices : {over : ℕ} (m : Memory) → Shape over m → (a : Notice) → notice_refusal m a ≡ 0 → (s : ℕ) → s < m.turn.slot
      → is_out (step m (notice a)).memory.group s ≡ true → is_out m.group s ≡ true
  pub backs : {over : ℕ} (m : Memory) → Shape over m → (a : Notice) → a.out ≡ false → notice_refusal m a ≡ 0 → (s : ℕ) → s < m.turn.slot
      → is_out m.group s ≡ true → is_out (step m (notice a)).memory.group s ≡ true
