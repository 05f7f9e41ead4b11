-- A refusal as a number, and what a call that may be refused leaves.
use Rattle.std.specs.Prelude.{ℕ, Result, Ok, Err}
use Rattle.block.specs.declared.BlockFault.{BlockFault}
use Rattle.block.specs.declared.BlockFault.TheVariants as block
use Rattle.call_reply.specs.declared.faults.Fault.{Fault}
use Rattle.call_reply.specs.declared.faults.Fault.TheVariants.{WrongLength, OutOfRange, NotOpen, NotActive, AllOpen, TicketsSpent, Applying, Locked, Stale, WritesetFull, NotOurTurn, AlreadySent, SlotsSpent, WrongCheck, WrongForm, WrongGroup, PastSlot, FarSlot, NotSent, SlotTaken, NothingWaits, LoadWhileApplying, StationOnlyReads, NoticeRefused, SlotOut, NobodyUp, WindowLacks}

-- its number in the table of refusals
abbrev pub fault_number : Fault → ℕ
fault_number WrongLength = 1
fault_number OutOfRange = 2
fault_number NotOpen = 3
fault_number NotActive = 4
fault_number AllOpen = 5
fault_number TicketsSpent = 6
fault_number Applying = 7
fault_number Locked = 8
fault_number Stale = 9
fault_number WritesetFull = 10
fault_number NotOurTurn = 11
fault_number AlreadySent = 12
fault_number SlotsSpent = 13
fault_number WrongCheck = 14
fault_number WrongForm = 15
fault_number WrongGroup = 16
fault_number PastSlot = 17
fault_number FarSlot = 18
fault_number NotSent = 19
fault_number SlotTaken = 20
fault_number NothingWaits = 21
fault_number LoadWhileApplying = 23
fault_number StationOnlyReads = 25
fault_number NoticeRefused = 28
fault_number SlotOut = 29
fault_number NobodyUp = 30
fault_number WindowLacks = 31

-- the number of a refusal, 0 where the call is accepted
abbrev pub number_in : {T : Type 0} → Result T Fault → ℕ
number_in (Ok x) = 0
number_in (Err f) = fault_number f

-- what an accepted call leaves, or what was there
abbrev pub left_by : {T : Type 0} → Result T Fault → T → T
left_by (Ok x) before = x
left_by (Err f) before = before

-- a block's refusal is the call's with the same number
abbrev pub from_block : BlockFault → Fault
from_block block.WrongLength = WrongLength
from_block block.WrongCheck = WrongCheck
from_block block.WrongForm = WrongForm
