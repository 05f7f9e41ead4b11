-- Each ticket that a giving names frees a row: tickets named and open rows together grow at no stage. Assumes nothing.
use Prim.Native.Nat.{ℕ, suc, ◌+◌, ◌≤◌}
use mathlib.Core.Path.{◌≡◌, refl}
use mathlib.Core.Bool.{Bool, true, false}
use mathlib.Core.List.{List, [], ◌∷◌}
use native.Mathlib.Omega.{arith}
use lib.Dec.{eqb}
use lib.ListN.{length, get_or, set}
use lib.Seq.{set_out}
use Rattle.block.specs.Message.{Record}
use Rattle.memory.specs.declared.Txn.{Txn}
use Rattle.memory.specs.Memory.{Memory}
use Rattle.memory.specs.Rows.{closed, open_count, row_of}
use Rattle.memory.specs.Window.{kept_block}
use Rattle.engine.specs.Answers.{Outcome}
use Rattle.engine.specs.Moves.{insert_rising, deliver_now, block_at_turn, writeset_at, ends_own, pass_next, commit_writeset, pass_out}
use Rattle.engine.specs.Calls.{step}
use Rattle.engine.specs.Calls.Call.{deliver, work}
use Rattle.engine.proofs.Tests.{cond_by, less_by}
use Rattle.engine.proofs.Steps.{deliver-by, work-by}
use Rattle.engine.proofs.HitLaws.{length-rising, aborts-open}
use Rattle.engine.proofs.RowLaws.{open_set}
use Rattle.giving.specs.Giving.{aborted_in, gathered, Going, set_out_field, doing, work_out, take_slot, give_slots, give_step}
use Rattle.giving.proofs.Kept.{work-keeps, take-keeps, slots-keep, give-keeps}

-- ---- gathered, and freed

pub length-gathered : (ts l : List ℕ) → length (gathered ts l) ≡ length ts + length l
unfolding gathered
length-gathered [] l = let z : length l ≡ 0 + length l = omega arith in z
length-gathered (x ∷ ts) l = let a = length-gathered ts (insert_rising x l) in let b = length-rising x l in let z : length (gathered ts (insert_rising x l)) ≡ suc (length ts) + length l = omega arith in z

closing : (l : List Txn) (r : ℕ) → open_count (set l r closed) ≤ open_count l
closing l r = less_by r (length l)
    (λ h. let a = open_set l r closed h in omega arith)
    (λ h. rw (set_out l r closed h) (omega arith))

-- ---- one call

abbrev Frees : Memory → Outcome → Type 0
Frees m o = length (aborted_in o.answer) + open_count o.memory.txns.table ≤ open_count m.txns.table

frees_commit : (m : Memory) (mine : Bool) (w : Record) → Frees m (commit_writeset m mine w)
unfolding commit_writeset
frees_commit m true w = cond_by (λ (l : List Txn). 0 + open_count l ≤ open_count m.txns.table) (ends_own true m.txns.table w.ticket)
    (λ e. let a = closing m.txns.table (row_of w.ticket m.txns.table) in omega arith) (λ e. omega arith)
frees_commit m false w = let a = aborts-open w.entries m.txns.items 0 m.txns.table in omega arith

pub work_frees : (m : Memory) → Frees m (step m work)
unfolding pass_next pass_out
work_frees m = work-by (Frees m) m (λ e u. omega arith) (λ e k. omega arith)
    (λ e k. frees_commit m (eqb (get_or (block_at_turn m) 1 0) m.group.own) (writeset_at (block_at_turn m) m.counts.done)) (λ e. omega arith)

-- a deliver names none, and leaves the rows
pub deliver_names : (m : Memory) (b : List ℕ) → (aborted_in (step m (deliver b)).answer ≡ []) × ((step m (deliver b)).memory.txns ≡ m.txns)
unfolding deliver_now
deliver_names m b = deliver-by (λ (o : Outcome). (aborted_in o.answer ≡ []) × (o.memory.txns ≡ m.txns)) m b (λ e. (refl, refl)) (λ e. (refl, refl))

-- ---- along a giving

pub record Counted (n : ℕ) (g : Going) : Type 0 where
  pub bound : length g.aborted + open_count g.memory.txns.table ≤ n

pub work_counted : (n : ℕ) (g : Going) → Counted n g → Counted n (doing g work)
unfolding doing
work_counted n g C = record {
  bound = (let a = C.bound in let b = work_frees g.memory in let c = length-gathered (aborted_in (step g.memory work).answer) g.aborted in omega arith);
}

pub deliver_counted : (n : ℕ) (b : List ℕ) (g : Going) → Counted n g → Counted n (doing g (deliver b))
unfolding doing gathered
deliver_counted n b g C = let d = deliver_names g.memory b in record { bound = rw (d.0, d.1) C.bound }

-- there is room for those that the next work names
pub work_room : (n : ℕ) (g : Going) → Counted n g → length (aborted_in (step g.memory work).answer) + length g.aborted ≤ n
work_room n g C = let a = C.bound in let b = work_frees g.memory in omega arith

pub out-counted : (n s c : ℕ) (g : Going) → Counted n g → Counted n (work_out s c g)
out-counted n = work-keeps (Counted n) (work_counted n)

pub taken-counted : (n : ℕ) (block : List ℕ) (g : Going) → Counted n g → Counted n (take_slot block g)
taken-counted n block g = take-keeps (Counted n) (work_counted n) block g (deliver_counted n block g)

pub slots_counted : (n : ℕ) (lent : List ℕ) (c : ℕ) (g : Going) → Counted n g → Counted n (give_slots lent c g)
slots_counted n lent = slots-keep (Counted n) (work_counted n) lent (λ g s. deliver_counted n (kept_block lent s) g)

-- from the open rows that it begins with
pub begun-counted : (m : Memory) (k : ℕ) → Counted (open_count m.txns.table) (set_out_field m k)
begun-counted m k = record { bound = omega arith }

pub give_counted : (m : Memory) (told lent : List ℕ) → Counted (open_count m.txns.table) (give_step m told lent)
give_counted m told lent =
    let n = open_count m.txns.table in
    give-keeps (Counted n) (work_counted n) lent (λ g s. deliver_counted n (kept_block lent s) g) m told (begun-counted m)
