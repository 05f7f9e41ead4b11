-- Refusals: none has the number 0, what `?` hands on, and the outcomes of a call that is refused with a number, and of one that is not. Assumes nothing.
use Rattle.std.proofs.Common.{ℕ, ◌≡◌, ap, refl, arith}
use borrow.Author.Tests.{ne_eqb}
use Rattle.std.specs.Prelude.{Result, Ok, Err}
use Rattle.std.specs.Result.{IsErrAnd}
use Rattle.block.specs.declared.BlockFault.{BlockFault}
use Rattle.block.specs.declared.BlockFault.TheVariants as block
use Rattle.block.specs.Answers as answers
use Rattle.memory.specs.declared.Counts.{Counts}
use Rattle.memory.specs.declared.Txn.{Txn}
use Rattle.memory.specs.Memory.{Memory}
use Rattle.engine.specs.Answers.{Outcome, outcome, unless}
use Rattle.engine.specs.Answers.Answer.{refused}
use Rattle.call_reply.specs.declared.faults.Fault.{Fault}
use Rattle.call_reply.specs.declared.faults.Fault.TheVariants.{WrongLength, OutOfRange, NotOpen, NotActive, AllOpen, TicketsSpent, Applying, Locked, Stale, WritesetFull, NotOurTurn, AlreadySent, SlotsSpent, WrongCheck, WrongForm, WrongGroup, PastSlot, FarSlot, NotSent, SlotTaken, NothingWaits, LoadWhileApplying, StationOnlyReads, NoticeRefused, SlotOut, NobodyUp, WindowLacks}
use Rattle.call_reply.specs.Faults.{fault_number, from_block}
use Rattle.call_reply.specs.Clients.{counts_written, row_written}

pub fault_some : (f : Fault) → fault_number f ≡ 0 → ⊥
fault_some WrongLength h = omega (arith, h)
fault_some OutOfRange h = omega (arith, h)
fault_some NotOpen h = omega (arith, h)
fault_some NotActive h = omega (arith, h)
fault_some AllOpen h = omega (arith, h)
fault_some TicketsSpent h = omega (arith, h)
fault_some Applying h = omega (arith, h)
fault_some Locked h = omega (arith, h)
fault_some Stale h = omega (arith, h)
fault_some WritesetFull h = omega (arith, h)
fault_some NotOurTurn h = omega (arith, h)
fault_some AlreadySent h = omega (arith, h)
fault_some SlotsSpent h = omega (arith, h)
fault_some WrongCheck h = omega (arith, h)
fault_some WrongForm h = omega (arith, h)
fault_some WrongGroup h = omega (arith, h)
fault_some PastSlot h = omega (arith, h)
fault_some FarSlot h = omega (arith, h)
fault_some NotSent h = omega (arith, h)
fault_some SlotTaken h = omega (arith, h)
fault_some NothingWaits h = omega (arith, h)
fault_some LoadWhileApplying h = omega (arith, h)
fault_some StationOnlyReads h = omega (arith, h)
fault_some NoticeRefused h = omega (arith, h)
fault_some SlotOut h = omega (arith, h)
fault_some NobodyUp h = omega (arith, h)
fault_some WindowLacks h = omega (arith, h)

-- the answer that `?` gives is the refusal
pub handed_on : {T : Type 0} (r : Result T Fault) (f : Fault) → IsErrAnd r (λ e. e ≡ f) → r ≡ Err f
handed_on (Ok x) f h = absurd h
handed_on (Err e) f h = ap Err h

-- a block's refusal keeps its number
pub from_block-number : (f : BlockFault) → fault_number (from_block f) ≡ answers.fault_number f
from_block-number block.WrongLength = refl
from_block-number block.WrongCheck = refl
from_block-number block.WrongForm = refl

-- the refusal, with the memory as it was
pub refused_by : (f : Fault) (n : ℕ) (m : Memory) (o : Outcome) → fault_number f ≡ n → outcome (refused (fault_number f)) m ≡ unless n m o
refused_by f n m o e = rw (← e, ne_eqb (fault_number f) 0 (fault_some f))

-- what the call does
pub accepted_by : (n : ℕ) (m : Memory) (o : Outcome) → 0 ≡ n → o ≡ unless n m o
accepted_by n m o e = rw (← e)

-- a write that is refused, but for a stale one, leaves counts and row
pub written_kept : (f : Fault) (c : Counts) (t : Txn) → (f ≡ Stale → ⊥) → (counts_written (Err f) c ≡ c) × (row_written (Err f) t ≡ t)
written_kept Stale c t h = absurd (h refl)
written_kept WrongLength c t h = (refl, refl)
written_kept OutOfRange c t h = (refl, refl)
written_kept NotOpen c t h = (refl, refl)
written_kept NotActive c t h = (refl, refl)
written_kept AllOpen c t h = (refl, refl)
written_kept TicketsSpent c t h = (refl, refl)
written_kept Applying c t h = (refl, refl)
written_kept Locked c t h = (refl, refl)
written_kept WritesetFull c t h = (refl, refl)
written_kept NotOurTurn c t h = (refl, refl)
written_kept AlreadySent c t h = (refl, refl)
written_kept SlotsSpent c t h = (refl, refl)
written_kept WrongCheck c t h = (refl, refl)
written_kept WrongForm c t h = (refl, refl)
written_kept WrongGroup c t h = (refl, refl)
written_kept PastSlot c t h = (refl, refl)
written_kept FarSlot c t h = (refl, refl)
written_kept NotSent c t h = (refl, refl)
written_kept SlotTaken c t h = (refl, refl)
written_kept NothingWaits c t h = (refl, refl)
written_kept LoadWhileApplying c t h = (refl, refl)
written_kept StationOnlyReads c t h = (refl, refl)
written_kept NoticeRefused c t h = (refl, refl)
written_kept SlotOut c t h = (refl, refl)
written_kept NobodyUp c t h = (refl, refl)
written_kept WindowLacks c t h = (refl, refl)
