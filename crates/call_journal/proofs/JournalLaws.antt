-- One turn of the loop over the blocks of a journal. Assumes nothing.
use Prim.Native.Nat.{ℕ, suc, ◌+◌, ◌-◌, ◌*◌, ◌/◌, ◌≤◌, ◌<◌, max}
use mathlib.Core.Path.{◌≡◌, refl, sym, ap, ◌∙◌, subst}
use mathlib.Core.Bool.{Bool, true, false, cond, ◌&&◌}
use mathlib.Core.List.{List, [], ◌∷◌}
use native.Mathlib.Numerals.{add-one}
use native.Mathlib.Omega.{arith}
use lib.Dec.{eqb}
use lib.IntN.{ℤ}
use lib.ListN.{length, get_or, take, drop, replicate}
use borrow.Author.Tests.{eqb-true}
use lib.Seq.{drop-drop}
use Rattle.block.specs.Answers.{header_of}
use Rattle.block.proofs.BoolLaws.{both}
use Rattle.memory.specs.Notices.{Notice}
use Rattle.memory.specs.Window.{keeping, keeping_all}
use Rattle.engine.specs.Restart.{Replayed, is_good, blocks_from, blocks_in, writesets_in, commit_all, commit_blocks, is_from, highest_own, own_writesets, last_own}
use Rattle.engine.proofs.Tests.{bool_by}
use Rattle.engine.proofs.BlockFacts.{taken_block}
use Rattle.engine.proofs.RestartLaws.{good_taken, reads_good, reads_few, count-few, own-few}
use Rattle.std.specs.Simd.{first_chunks}
use Rattle.call_journal.specs.declared.JournalTally.{JournalTally}
use Rattle.call_journal.proofs.ChunkLaws.{read_at}
use Rattle.call_journal.specs.Replays.{replayed, block_number, is_given, last_number, tallied, Replays}

-- block i of a journal, and the blocks read from it on
abbrev pub block_at : List ℕ → ℕ → List ℕ
block_at journal i = take 512 (drop (512 * i) journal)

abbrev pub rest : ℕ → List ℕ → ℕ → List (List ℕ)
rest n journal i = blocks_from n i (length journal / 512 - i) (drop (512 * i) journal)

-- whether block i is read
abbrev pub is_next : ℕ → List ℕ → ℕ → Bool
is_next n journal i = is_good n (block_at journal i) && eqb (header_of (block_at journal i)).slot i

module _ (n : ℕ) (journal : List ℕ) (i : ℕ) where
  -- block i as it is read: t are read before it
  pub read_is : (chunks : List (List ℕ)) → chunks ≡ first_chunks 512 (length journal / 512) journal → i < length journal / 512 → {t : ℕ} → t ≡ i → get_or chunks i [] ≡ block_at journal t
  read_is chunks is h e = rw e (read_at 512 i journal [] chunks is h)

  rest-cons : i < length journal / 512 → is_next n journal i ≡ true → rest n journal i ≡ block_at journal i ∷ rest n journal (i + 1)
  unfolding blocks_from
  rest-cons h e =
      let k : length journal / 512 - i ≡ suc (length journal / 512 - (i + 1)) = omega arith in
      let d : 512 * i + 512 ≡ 512 * (i + 1) = omega arith in
      rw (k, e, drop-drop 512 (512 * i) journal, d, add-one i)

  pub rest-stop : i < length journal / 512 → is_next n journal i ≡ false → rest n journal i ≡ []
  unfolding blocks_from
  rest-stop h e = let k : length journal / 512 - i ≡ suc (length journal / 512 - (i + 1)) = omega arith in rw (k, e)

  pub rest-none : length journal / 512 ≤ i → rest n journal i ≡ []
  unfolding blocks_from
  rest-none h = let k : length journal / 512 - i ≡ 0 = omega arith in rw k

-- of one block more the slot is known
last_cons : (own : ℕ) (notices : List Notice) (d b : List ℕ) (bs : List (List ℕ)) {k : ℕ} → (header_of b).slot ≡ k → last_own own notices d (b ∷ bs) ≡ last_own own notices (cond (is_given own notices k b) b d) bs
unfolding last_own
last_cons own notices d b bs e = subst (λ (k : ℕ). last_own own notices d (b ∷ bs) ≡ last_own own notices (cond (is_given own notices k b) b d) bs) e refl

-- all blocks come to what the blocks still to be read come to on top of the tally, of values, stamps and window as they are now
pub record Replaying (n own : ℕ) (journal : List ℕ) (notices : List Notice) (before : Replayed) (held : List ℕ) (values : List ℤ) (stamps window : List ℕ) (t : JournalTally) : Type 0 where
  pub there : t.blocks ≤ length journal / 512
  pub blocks : length (blocks_in n journal) ≡ t.blocks + length (rest n journal t.blocks)
  pub store : commit_blocks before (blocks_in n journal) ≡ commit_blocks (replayed t.commits values stamps) (rest n journal t.blocks)
  pub window-kept : keeping_all held 0 (blocks_in n journal) ≡ keeping_all window t.blocks (rest n journal t.blocks)
  pub highest : highest_own own (blocks_in n journal) ≡ max t.highest (highest_own own (rest n journal t.blocks))
  pub committed : own_writesets own (blocks_in n journal) ≡ t.committed + own_writesets own (rest n journal t.blocks)
  pub last : last_number own notices 0 0 (blocks_in n journal) ≡ last_number own notices t.last t.blocks (rest n journal t.blocks)
  pub last_block : last_own own notices (replicate 512 0) (blocks_in n journal) ≡ last_own own notices (block_number t.last journal) (rest n journal t.blocks)
  pub last-there : t.last ≤ t.blocks

module _ (n own : ℕ) (journal : List ℕ) (notices : List Notice) where
  pub replay-start : (values : List ℤ) (stamps window : List ℕ)
      → Replaying n own journal notices (replayed 0 values stamps) window values stamps window (record { blocks = 0; commits = 0; highest = 0; committed = 0; last = 0 })
  unfolding block_number
  replay-start values stamps window =
      let k : length journal / 512 - 0 ≡ length journal / 512 = omega arith in
      record {
        there = omega arith;
        blocks = rw k (omega arith);
        store = rw k;
        window-kept = rw k;
        highest = rw k (omega arith);
        committed = rw k (omega arith);
        last = rw k;
        last_block = rw k;
        last-there = omega arith;
      }

  module _ (before : Replayed) (held : List ℕ) (values : List ℤ) (stamps window : List ℕ) (t : JournalTally) (p : Replaying n own journal notices before held values stamps window t) where
    pub replay-end : rest n journal t.blocks ≡ [] → Replays n own journal notices before held values stamps window t
    unfolding commit_blocks keeping_all highest_own own_writesets last_own last_number
    replay-end e = record {
      blocks = sym (rw e at p.blocks ∙ omega arith);
      store = sym (rw e at p.store);
      window-kept = sym (rw e at p.window-kept);
      highest = sym (rw e at p.highest ∙ omega arith);
      committed = sym (rw e at p.committed ∙ omega arith);
      last = sym (rw e at p.last);
      last_block = sym (rw e at p.last_block);
      last-there = omega arith;
    }

    module _ (more : t.blocks < length journal / 512) (next : is_next n journal t.blocks ≡ true) where
      -- there are no more blocks than slots, and no more than six writesets in each
      pub replay-room : (t.blocks < 4_294_967_295) × (t.committed + get_or (block_at journal t.blocks) 3 0 ≤ 4_294_967_295)
      replay-room =
          let most = length journal / 512 in
          let f = reads_few n 0 most journal (omega arith) in
          let c = count-few n (blocks_in n journal) (reads_good n 0 most journal) in
          let o = own-few own (blocks_in n journal) in
          let k = (taken_block (block_at journal t.blocks) (good_taken n (block_at journal t.blocks) (both _ _ next).left)).count in
          (omega arith, omega arith)

      pub replay-turn : (c : ℕ) (v : List ℤ) (s w : List ℕ) → replayed c v s ≡ commit_all (replayed t.commits values stamps) (writesets_in (block_at journal t.blocks))
          → w ≡ keeping window t.blocks (block_at journal t.blocks) → Replaying n own journal notices before held v s w (tallied own notices t c (block_at journal t.blocks))
      unfolding tallied commit_blocks keeping_all highest_own own_writesets last_own last_number block_number
      replay-turn c v s w did keeps =
          let b = block_at journal t.blocks in
          let e = rest-cons n journal t.blocks more next in
          let slot : (header_of b).slot ≡ t.blocks = eqb-true (header_of b).slot t.blocks (both (is_good n b) _ next).right in
          record {
            there = omega arith;
            blocks = rw e at p.blocks ∙ omega arith;
            store = rw e at p.store ∙ ap (λ (r : Replayed). commit_blocks r (rest n journal (t.blocks + 1))) (sym did);
            window-kept = rw e at p.window-kept ∙ rw (keeps, add-one t.blocks);
            highest = rw e at p.highest ∙ bool_by (is_from own b) (λ f. rw f (omega arith)) (λ f. rw f (omega arith));
            committed = rw e at p.committed ∙ bool_by (is_from own b) (λ f. rw f (omega arith)) (λ f. rw f (omega arith));
            last = rw e at p.last;
            last_block =
                rw e at p.last_block
                ∙ last_cons own notices (block_number t.last journal) b (rest n journal (t.blocks + 1)) slot
                ∙ ap (λ (d : List ℕ). last_own own notices d (rest n journal (t.blocks + 1))) (bool_by (is_given own notices t.blocks b) (λ f. rw (f, add-one t.blocks)) (λ f. rw f));
            last-there = bool_by (is_given own notices t.blocks b) (λ f. rw f (omega arith)) (λ f. rw f (omega arith));
          }
