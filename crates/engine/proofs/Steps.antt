-- To prove P of a call's outcome, prove it of each thing the call may do, with what the tests tell there. Assumes nothing.
use Prim.Native.Nat.{ℕ}
use mathlib.Core.Path.{◌≡◌, refl, sym, subst}
use mathlib.Core.Bool.{true, false}
use mathlib.Core.List.{List}
use native.Mathlib.Omega.{arith}
use lib.Dec.{eqb}
use lib.IntN.{ℤ}
use lib.ListN.{length, get_or, replicate}
use borrow.Author.Tests.{eqb-true, eqb-false}
use Rattle.memory.specs.Memory.{Memory, is_station, with_group, with_classes}
use Rattle.memory.specs.Notices.{Notice, with_notice}
use Rattle.memory.specs.Rows.{write_count}
use Rattle.engine.specs.Answers.{Outcome, outcome}
use Rattle.engine.specs.Answers.Answer.{refused, got, loaded, noticed, restarted}
use Rattle.engine.specs.Classes.{load_refusal, load_step}
use Rattle.engine.specs.Client.{free_no, row_no, row_in, own_index, is_own, begin_refusal, begin_at, begin_row, read_refusal, value_for, read_row, write_refusal, rewrite_at, insert_write, stale_at, write_row, write_step, ask_refusal, read_only_at, queue_at, ask_row, withdraw_refusal, withdraw_at, withdraw_row}
use Rattle.engine.specs.Moves.{send_refusal, send_now, send_step, deliver_refusal, deliver_now, deliver_step, out_at_turn, block_at_turn, writeset_at, work_refusal, pass_next, commit_writeset, pass_out, pass_block, work_step}
use Rattle.engine.specs.Notices.{notice_refusal, notice_step}
use Rattle.engine.specs.Restart.{blocks_in, last_own, restarted_memory, restart_refusal, restart_step}
use Rattle.engine.specs.Calls.{step}
use Rattle.engine.specs.Calls.Call.{begin, read, write, ask, withdraw, send, deliver, work, load, notice}
use Rattle.engine.proofs.Tests.{cond_by, bool_by, not_first, unless-by}

-- document 02's Req 05: at a station a write and a send are refused by 25, before any other reason, and change nothing; at a replica they are its steps
pub writes_refused : (m : Memory) → is_station m ≡ true → (t i : ℕ) (v : ℤ) → step m (write t i v) ≡ outcome (refused 25) m
unfolding step
writes_refused m h t i v = rw h refl

pub sends-refused : (m : Memory) → is_station m ≡ true → (b : List ℕ) → step m (send b) ≡ outcome (refused 25) m
unfolding step
sends-refused m h b = rw h refl

pub writes_so : (m : Memory) → is_station m ≡ false → (t i : ℕ) (v : ℤ) → step m (write t i v) ≡ write_step m t i v
unfolding step
writes_so m h t i v = rw h refl

pub sends_so : (m : Memory) → is_station m ≡ false → (b : List ℕ) → step m (send b) ≡ send_step m b
unfolding step
sends_so m h b = rw h refl

-- a work looks at the turn's place: it is accepted, and the slot is not out
pub record Awaited (m : Memory) : Type 0 where
  pub passed : work_refusal m ≡ 0
  pub live : out_at_turn m ≡ false

module _ (P : Outcome → Type 0) (m : Memory) where
  -- refused, with the memory as it was
  abbrev pub Refused : ℕ → Type 0
  Refused n = (n ≡ 0 → ⊥) → P (outcome (refused n) m)

  pub begin-by : (begin_refusal m (free_no m) ≡ 0 → P (begin_at m (free_no m))) → Refused (begin_refusal m (free_no m)) → P (step m begin)
  unfolding step begin_row
  begin-by f r = unless-by P _ m f r

  pub read_by : (t i : ℕ) → (read_refusal m (row_no m t) i ≡ 0 → P (outcome (got (value_for m (row_no m t) i)) m)) → Refused (read_refusal m (row_no m t) i) → P (step m (read t i))
  unfolding step read_row
  read_by t i f r = unless-by P _ m f r

  -- at a replica
  pub write-step-by : (t i : ℕ) (v : ℤ)
      → (write_refusal m (row_no m t) i ≡ 9 → P (stale_at m (row_no m t)))
      → (write_refusal m (row_no m t) i ≡ 0 → is_own m (row_no m t) i ≡ true → P (rewrite_at m (row_no m t) (own_index m (row_no m t) i) v))
      → (write_refusal m (row_no m t) i ≡ 0 → is_own m (row_no m t) i ≡ false → P (insert_write m (row_no m t) (row_in m (row_no m t)) i v))
      → ((write_refusal m (row_no m t) i ≡ 9 → ⊥) → Refused (write_refusal m (row_no m t) i))
      → P (write_step m t i v)
  unfolding write_row
  write-step-by t i v s f g r =
      let n = write_refusal m (row_no m t) i in
      cond_by P (eqb n 9) (λ e. s (eqb-true n 9 e)) (λ e. unless-by P n m (λ z. cond_by P (is_own m (row_no m t) i) (f z) (g z)) (r (eqb-false n 9 e)))

  -- refused by any number but 0 and 9
  abbrev pub RefusedBut9 : Type 0
  RefusedBut9 = (k : ℕ) → (k ≡ 9 → ⊥) → Refused k

  -- the refusals are a write's own, and a station's 25
  pub write-by : (t i : ℕ) (v : ℤ)
      → (write_refusal m (row_no m t) i ≡ 9 → P (stale_at m (row_no m t)))
      → (write_refusal m (row_no m t) i ≡ 0 → is_own m (row_no m t) i ≡ true → P (rewrite_at m (row_no m t) (own_index m (row_no m t) i) v))
      → (write_refusal m (row_no m t) i ≡ 0 → is_own m (row_no m t) i ≡ false → P (insert_write m (row_no m t) (row_in m (row_no m t)) i v))
      → RefusedBut9
      → P (step m (write t i v))
  write-by t i v s f g r =
      bool_by (is_station m) (λ e. subst P (sym (writes_refused m e t i v)) (r 25 (λ z. omega arith) (λ z. omega arith)))
      (λ e. subst P (sym (writes_so m e t i v)) (write-step-by t i v s f g (r (write_refusal m (row_no m t) i))))

  pub ask-by : (t : ℕ)
      → (ask_refusal m (row_no m t) ≡ 0 → P (read_only_at m (row_no m t)))
      → (ask_refusal m (row_no m t) ≡ 0 → (write_count (row_in m (row_no m t)) ≡ 0 → ⊥) → P (queue_at m (row_no m t) (row_in m (row_no m t))))
      → Refused (ask_refusal m (row_no m t))
      → P (step m (ask t))
  unfolding step ask_row
  ask-by t f g r =
      let n = write_count (row_in m (row_no m t)) in
      unless-by P _ m (λ z. cond_by P (eqb n 0) (λ e. f z) (λ e. g z (eqb-false n 0 e))) r

  pub withdraw-by : (t : ℕ) → (withdraw_refusal m (row_no m t) ≡ 0 → P (withdraw_at m (row_no m t))) → Refused (withdraw_refusal m (row_no m t)) → P (step m (withdraw t))
  unfolding step withdraw_row
  withdraw-by t f r = unless-by P _ m f r

  pub send_by : (b : List ℕ) → (send_refusal m b ≡ 0 → P (send_now m)) → RefusedBut9 → P (step m (send b))
  unfolding send_step send_refusal
  send_by b f r =
      bool_by (is_station m) (λ e. subst P (sym (sends-refused m e b)) (r 25 (λ z. omega arith) (λ z. omega arith)))
      (λ e. subst P (sym (sends_so m e b)) (unless-by P (send_refusal m b) m f (r (send_refusal m b) (not_first 9 _ refl))))

  pub deliver-by : (b : List ℕ) → (deliver_refusal m b ≡ 0 → P (deliver_now m b)) → Refused (deliver_refusal m b) → P (step m (deliver b))
  unfolding step deliver_step
  deliver-by b f r = unless-by P _ m f r

  -- the block at the turn is a *next*, or a writeset of it is committed
  pub block-by : (get_or (block_at_turn m) 0 0 ≡ 1 → P (pass_next m))
      → ((get_or (block_at_turn m) 0 0 ≡ 1 → ⊥)
      → P (commit_writeset m (eqb (get_or (block_at_turn m) 1 0) m.group.own) (writeset_at (block_at_turn m) m.counts.done)))
      → P (pass_block m)
  unfolding pass_block
  block-by f g = let k = get_or (block_at_turn m) 0 0 in cond_by P (eqb k 1) (λ e. f (eqb-true k 1 e)) (λ e. g (eqb-false k 1 e))

  pub work-by : (work_refusal m ≡ 0 → out_at_turn m ≡ true → P (pass_out m))
      → (Awaited m → get_or (block_at_turn m) 0 0 ≡ 1 → P (pass_next m))
      → (Awaited m → (get_or (block_at_turn m) 0 0 ≡ 1 → ⊥)
      → P (commit_writeset m (eqb (get_or (block_at_turn m) 1 0) m.group.own) (writeset_at (block_at_turn m) m.counts.done)))
      → Refused (work_refusal m)
      → P (step m work)
  unfolding step work_step
  work-by o f g r =
      unless-by P _ m
      (λ z. cond_by P (out_at_turn m) (o z) (λ e. let a : Awaited m = record { passed = z; live = e } in block-by (f a) (g a)))
      r

  pub notice-by : (a : Notice) → (notice_refusal m a ≡ 0 → P (outcome noticed (with_group m (with_notice m.group a)))) → Refused (notice_refusal m a) → P (step m (notice a))
  unfolding step notice_step
  notice-by a f r = unless-by P _ m f r

  pub load-by : (l : List ℕ) → (load_refusal m l ≡ 0 → P (outcome loaded (with_classes m l))) → Refused (load_refusal m l) → P (step m (load l))
  unfolding step load_step
  load-by l f r = unless-by P _ m f r

  -- a restart is refused, with the memory as it was, or commits the blocks read
  pub restart-by : (n k : ℕ) (start : List ℤ) (journal : List ℕ) (notices : List Notice) (block : List ℕ)
      → (restart_refusal m n k start block ≡ 0
      → P (outcome (restarted (length (blocks_in n journal)) (last_own k notices (replicate 512 0) (blocks_in n journal))) (restarted_memory n k start notices (blocks_in n journal))))
      → ((restart_refusal m n k start block ≡ 0 → ⊥) → P (outcome (refused (restart_refusal m n k start block)) m))
      → P (restart_step m n k start journal notices block)
  unfolding restart_step
  restart-by n k start journal notices block f g = unless-by P _ m f g
