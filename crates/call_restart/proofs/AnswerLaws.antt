-- The answers of a restart, from what the make that it begins with gave. Assumes nothing.
use Prim.Native.Nat.{ℕ, ◌%◌}
use mathlib.Core.Path.{◌≡◌, refl, sym, ap, ◌∙◌}
use mathlib.Core.Bool.{Bool, true, false, ◌&&◌, and-false}
use mathlib.Core.List.{List}
use lib.Dec.{eqb}
use lib.IntN.{ℤ}
use lib.ListN.{length, replicate, length-replicate}
use borrow.Author.Tests.{eq-eqb, ne_eqb, eqb-true}
use Rattle.block.specs.Answers.{first_of}
use Rattle.block.proofs.BoolLaws.{both}
use Rattle.memory.specs.declared.Counts.{Counts}
use Rattle.memory.specs.declared.Group.{Group}
use Rattle.memory.specs.declared.Turn.{Turn}
use Rattle.memory.specs.declared.Txn.{Txn}
use Rattle.memory.specs.Memory.{Store, Memory, window_bytes, group_of}
use Rattle.memory.specs.Notices.{with_notices}
use Rattle.memory.specs.Rows.{closed}
use Rattle.memory.specs.Window.{empty_window}
use Rattle.engine.specs.Answers.{Outcome, outcome}
use Rattle.engine.specs.Answers.Answer.{refused, restarted}
use Rattle.engine.specs.Make.{made_memory, make_refusal, make_step}
use Rattle.engine.specs.Restart.{Replayed, blocks_in, commit_blocks, start_replay, refilled, restart_refusal, restarted_memory, restart_step}
use Rattle.engine.proofs.Tests.{cond_by, bool_by}
use Rattle.call_reply.specs.Parts.{all_parts}
use Rattle.call_reply.specs.declared.Restarted.{Restarted}
use Rattle.call_reply.specs.Replies.{number, Gives}
use Rattle.call_reply.specs.Notices.{notices_in, restart_lent}
use Rattle.call_make.specs.Made.{if_made}
use Rattle.call_journal.specs.declared.JournalTally.{JournalTally}
use Rattle.call_journal.specs.Replays.{replayed, block_number, Replays}
use Rattle.call_restart.specs.Answered.{answered}

module _ (m : Memory) (n own : ℕ) (start : List ℤ) (journal notices block : List ℕ) where
  abbrev fit : Bool
  fit = eqb (length notices % 3) 0 && eqb (length block) 512

  pub restart-other : fit ≡ false → outcome (refused 1) m ≡ restart_lent m n own start journal notices block
  unfolding restart_lent restart_step restart_refusal first_of
  restart-other h =
      bool_by (eqb (length notices % 3) 0)
      (λ e. let f : eqb (length block) 512 ≡ false = rw e at h in rw (e, f, and-false (eqb (length start) 128)))
      (λ e. rw e)

  module _ (fits : fit ≡ true) where
    threes : eqb (length notices % 3) 0 ≡ true
    threes = (both (eqb (length notices % 3) 0) (eqb (length block) 512) fits).left

    pub restart-long : length block ≡ 512
    restart-long = eqb-true (length block) 512 (both (eqb (length notices % 3) 0) (eqb (length block) 512) fits).right

  module _ (fits : fit ≡ true) (k : ℕ) (left : Memory) (make : Gives number (make_step m n own start) k left) where
    same-refusal : restart_refusal m n own start block ≡ make_refusal m n own start
    unfolding restart_refusal make_refusal
    same-refusal = rw (eq-eqb (length block) 512 (restart-long fits))

    -- the number of a make is its refusal
    is-refusal : k ≡ make_refusal m n own start
    unfolding make_step
    is-refusal =
        make.0
        ∙ cond_by (λ (o : Outcome). number o ≡ make_refusal m n own start) (eqb (make_refusal m n own start) 0) (λ e. sym (eqb-true (make_refusal m n own start) 0 e)) (λ e. refl)

    pub restart-refused : (k ≡ 0 → ⊥) → outcome (refused k) left ≡ restart_lent m n own start journal notices block
    unfolding restart_lent restart_step make_step
    restart-refused h =
        let l : left ≡ m = rw (← is-refusal, ne_eqb k 0 h) at make.1 in
        rw (threes fits, same-refusal, ← is-refusal, ne_eqb k 0 h, l)

    module _ (free : k ≡ 0) where
      is_made : left ≡ made_memory n own start
      unfolding make_step
      is_made = rw (← is-refusal, free) at make.1

      -- the window that the make cleared has its length
      pub restart-window : length left.blocks.window ≡ window_bytes
      unfolding made_memory empty_window
      restart-window = rw is_made (length-replicate {A = ℕ} window_bytes 0)

      module _ (t : JournalTally) (v : List ℤ) (s w : List ℕ) (p : Replays n own journal (notices_in notices) (replayed 0 left.store.values left.store.stamps) left.blocks.window v s w t) where
        -- nobody is out but by the notices
        abbrev pub noticed : Restarted
        noticed = answered (with_notices (group_of n own) (notices_in notices)) t

        same-replay : replayed t.commits v s ≡ commit_blocks (start_replay start) (blocks_in n journal)
        unfolding made_memory
        same-replay = rw is_made at p.store

        same-window : w ≡ refilled (blocks_in n journal)
        unfolding made_memory
        same-window = rw is_made at p.window-kept

        same-commits : t.commits ≡ (commit_blocks (start_replay start) (blocks_in n journal)).commits
        same-commits = ap (λ (x : Replayed). x.commits) same-replay

        -- the parts that the make cleared stay, and the blocks' values and stamps are added, and they themselves in the window
        pub restart-taken : outcome (restarted t.blocks (block_number t.last journal))
            (all_parts noticed.group noticed.turn noticed.counts (replicate 6 closed) left.txns.queue left.txns.items left.txns.writes left.txns.snapshots
            v s left.store.classes left.blocks.places left.blocks.outbox w)
            ≡ restart_lent m n own start journal notices block
        unfolding restart_lent restart_step restarted_memory made_memory answered
        restart-taken =
            let a : ◌≡◌ {A = Store} (record { values = v; stamps = s; classes = replicate 128 0 }) (commit_blocks (start_replay start) (blocks_in n journal)).store = ap (λ (x : Replayed). x.store) same-replay in
            rw (threes fits, same-refusal, ← is-refusal, free, is_made, p.blocks, p.last_block, p.highest, p.committed, same-commits, same-window, a)

        -- turn and counts of the answer by themselves
        pub restart-turn : noticed.turn ≡ (restarted_memory n own start (notices_in notices) (blocks_in n journal)).turn
        unfolding restarted_memory answered
        restart-turn = rw p.blocks

        pub restart-counts : noticed.counts ≡ (restarted_memory n own start (notices_in notices) (blocks_in n journal)).counts
        unfolding restarted_memory answered
        restart-counts = rw (p.highest, p.committed, same-commits)
