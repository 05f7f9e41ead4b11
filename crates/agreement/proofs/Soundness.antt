-- What holds of a replica's memory holds after every call: with the shape and what is sent, the size of its group and the values it wrote. Assumes nothing.
use Prim.Native.Nat.{ℕ, zero, suc, ◌+◌, ◌*◌, ◌-◌, ◌<◌}
use mathlib.Core.Path.{◌≡◌, refl, sym, ap, ◌∙◌}
use mathlib.Core.Bool.{Bool, true, false, cond}
use mathlib.Core.List.{List, [], ◌∷◌}
use native.Mathlib.Omega.{arith}
use lib.IntN.{ℤ, pos}
use lib.ListN.{length, get_or, set, replicate}
use borrow.Author.Tests.{eqb-true, not-false}
use Rattle.block.specs.Message.{Record, owner_of, signed32}
use Rattle.memory.specs.declared.Txn.{Txn}
use Rattle.memory.specs.Memory.{Memory, no_number}
use Rattle.memory.specs.Rows.{write_count, items_of, count_below, insert_at}
use Rattle.memory.specs.Turns.{is_on, mark_applying, advance}
use Rattle.engine.specs.Answers.{Outcome}
use Rattle.engine.specs.Make.{Setting, SettingOf, made_memory}
use Rattle.engine.specs.Station.{station_memory}
use Rattle.engine.specs.Client.{row_no, row_in, begin_at, rewrite_at, insert_write, stale_at, read_only_at, queue_at, withdraw_at, report_step}
use Rattle.engine.specs.Moves.{send_refusal, send_now, deliver_now, pass_next, is_last, commit_writeset, pass_out}
use Rattle.engine.specs.Calls.{Call, step}
use Rattle.engine.specs.Calls.Call.{begin, read, write, ask, withdraw, report, send, deliver, work, load, notice}
use Rattle.engine.specs.History.AnyCall.{call}
use Rattle.engine.proofs.Tests.{clash, same_by, less_by, passes}
use Rattle.engine.proofs.PartLaws.{insert-before, insert-here, insert-moved, insert-after, below-part}
use Rattle.engine.proofs.Passed.{write_passed}
use Rattle.engine.proofs.Steps.{begin-by, read_by, write-by, ask-by, withdraw-by, send_by, deliver-by, work-by, load-by, notice-by}
use Rattle.engine.proofs.ShapeMade.{shape_station}
use Rattle.engine.proofs.Shapes.{shapes}
use Rattle.engine.proofs.Sent.{sent-shapes}
use Rattle.agreement.specs.Group.{arguments_of}
use Rattle.agreement.proofs.View.{Sound}

-- each number of the list is a signed 32-bit one
abbrev Fits : List ℤ → Type 0
Fits l = (i : ℕ) → signed32 (get_or l i (pos 0)) ≡ true

-- all but the shape and what is sent
record Rest (n : ℕ) (m : Memory) : Type 0 where
  size : m.group.replicas ≡ n
  fits : Fits m.txns.writes

-- ---- a value put into the list

fits_set : (l : List ℤ) (k : ℕ) (v : ℤ) → Fits l → signed32 v ≡ true → Fits (set l k v)
fits_set [] k v h e i = h i
fits_set (x ∷ xs) zero v h e zero = e
fits_set (x ∷ xs) zero v h e (suc i) = h (suc i)
fits_set (x ∷ xs) (suc k) v h e zero = h 0
fits_set (x ∷ xs) (suc k) v h e (suc i) = fits_set xs k v (λ j. h (suc j)) e i

fits_insert : (l : List ℤ) (at k : ℕ) (v : ℤ) → at + k < length l → Fits l → signed32 v ≡ true → Fits (insert_at at k v l)
fits_insert l at k v room h e i =
    less_by i at (λ a. rw (insert-before at k v l room i (pos 0) a) (h i))
    (λ a. same_by i at (λ q. rw (q, insert-here at k v l room (pos 0)) e)
    (λ d. less_by (at + k) i (λ b. rw (insert-after at k v l room i (pos 0) b) (h i))
    (λ b. rw (insert-moved at k v l room i (pos 0) (omega (arith, d, a)) b) (h (i - 1)))))

pub fits_zeros : (k : ℕ) → Fits (replicate k (pos 0))
unfolding signed32
fits_zeros zero i = refl
fits_zeros (suc k) zero = refl
fits_zeros (suc k) (suc i) = fits_zeros k i

-- ---- what each call does

module _ (n : ℕ) (m : Memory) (s : Rest n m) where
  abbrev Rests : Outcome → Type 0
  Rests o = Rest n o.memory

  begin-rests : (r : ℕ) → Rests (begin_at m r)
  unfolding begin_at
  begin-rests r = record { size = s.size; fits = s.fits }

  rewrite-rests : (r k : ℕ) (v : ℤ) → signed32 v ≡ true → Rests (rewrite_at m r k v)
  unfolding rewrite_at
  rewrite-rests r k v e = record { size = s.size; fits = fits_set m.txns.writes (8 * r + k) v s.fits e }

  insert-rests : (r i : ℕ) (t : Txn) (v : ℤ) → r < 6 → length m.txns.items ≡ 48 → length m.txns.writes ≡ 48 → write_count t < 8 → signed32 v ≡ true
      → Rests (insert_write m r t i v)
  unfolding insert_write
  insert-rests r i t v h l w k e = record {
    size = s.size;
    fits = let b = below-part i (8 * r) (write_count t) m.txns.items (omega arith) in
        fits_insert m.txns.writes (8 * r + count_below i (items_of r t m.txns.items) 0) (write_count t - count_below i (items_of r t m.txns.items) 0) v (omega arith) s.fits e;
  }

  stale-rests : (r : ℕ) → Rests (stale_at m r)
  unfolding stale_at
  stale-rests r = record { size = s.size; fits = s.fits }

  read-only-rests : (r : ℕ) → Rests (read_only_at m r)
  unfolding read_only_at
  read-only-rests r = record { size = s.size; fits = s.fits }

  queue-rests : (r : ℕ) (t : Txn) → Rests (queue_at m r t)
  unfolding queue_at
  queue-rests r t = record { size = s.size; fits = s.fits }

  withdraw-rests : (r : ℕ) → Rests (withdraw_at m r)
  unfolding withdraw_at
  withdraw-rests r = record { size = s.size; fits = s.fits }

  send-rests : Rests (send_now m)
  unfolding send_now
  send-rests = record { size = s.size; fits = s.fits }

  deliver-rests : (b : List ℕ) → Rests (deliver_now m b)
  unfolding deliver_now
  deliver-rests b = record { size = s.size; fits = s.fits }

  next-rests : Rests (pass_next m)
  unfolding pass_next
  next-rests = record { size = s.size; fits = s.fits }

  out-rests : Rests (pass_out m)
  unfolding pass_out
  out-rests = record { size = s.size; fits = s.fits }

  writeset-rests : (mine : Bool) (w : Record) → Rests (commit_writeset m mine w)
  unfolding commit_writeset
  writeset-rests mine w = record { size = s.size; fits = s.fits }

rest-each : (n : ℕ) (m : Memory) → Rest n m → (c : Call) → signed32 (arguments_of (call c)).value ≡ true → Rest n (step m c).memory
rest-each n m s begin e = begin-by (Rests n m s) m (λ p. begin-rests n m s _) (λ p. s)
rest-each n m s (read t i) e = read_by (Rests n m s) m t i (λ p. s) (λ p. s)
rest-each n m s (write t i v) e =
    write-by (Rests n m s) m t i v (λ p. stale-rests n m s _) (λ p o. rewrite-rests n m s _ _ v e)
    (λ p o. let w = write_passed m t i p in insert-rests n m s (row_no m t) i (row_in m (row_no m t)) v w.own.row w.items w.writes (w.room o) e) (λ k p q. s)
rest-each n m s (ask t) e = ask-by (Rests n m s) m t (λ p. read-only-rests n m s _) (λ p o. queue-rests n m s _ _) (λ p. s)
rest-each n m s (withdraw t) e = withdraw-by (Rests n m s) m t (λ p. withdraw-rests n m s _) (λ p. s)
rest-each n m s report e = unfold step report_step in s
rest-each n m s (send b) e = send_by (Rests n m s) m b (λ p. send-rests n m s) (λ k p q. s)
rest-each n m s (deliver b) e = deliver-by (Rests n m s) m b (λ p. deliver-rests n m s b) (λ p. s)
rest-each n m s work e = work-by (Rests n m s) m (λ p k. out-rests n m s) (λ p k. next-rests n m s) (λ p k. writeset-rests n m s _ _) (λ p. s)
rest-each n m s (load l) e = load-by (Rests n m s) m l (λ p. record { size = s.size; fits = s.fits }) (λ p. s)
rest-each n m s (notice a) e = notice-by (Rests n m s) m a (λ p. record { size = s.size; fits = s.fits }) (λ p. s)

-- ---- the whole

pub sound_each : (n : ℕ) (m : Memory) → Sound n m → (c : Call) → signed32 (arguments_of (call c)).value ≡ true → Sound n (step m c).memory
sound_each n m s c e =
    let r = rest-each n m (record { size = s.size; fits = s.fits }) c e in
    record { over = s.over; shape = shapes.each m s.shape c; sent = sent-shapes.each m s.shape s.sent c; size = r.size; fits = r.fits }

pub sound_made : (n k : ℕ) (start : List ℤ) → SettingOf n k start → Sound n (made_memory n k start)
unfolding made_memory
sound_made n k start g = record { over = 0; shape = shapes.made n k start g; sent = sent-shapes.made n k start; size = refl; fits = fits_zeros 48 }

pub sound_station : (n : ℕ) (start : List ℤ) → Setting n start → Sound n (station_memory n start)
unfolding made_memory
sound_station n start g = record { over = 0; shape = shape_station n start g; sent = sent-shapes.made n no_number start; size = refl; fits = fits_zeros 48 }
