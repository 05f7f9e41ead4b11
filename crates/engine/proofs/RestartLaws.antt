-- The blocks that a restart reads, from any journal: each is good, they are at most as many as there are slots, and their writesets, tickets and lengths. Assumes nothing.
use Prim.Native.Nat.{ℕ, zero, suc, ◌+◌, ◌*◌, ◌≤◌}
use mathlib.Core.Path.{◌≡◌, refl, sym, ap, ◌∙◌}
use mathlib.Core.Logic.{◌⊎◌, inl, inr}
use mathlib.Core.Bool.{true, ◌&&◌}
use mathlib.Core.List.Memᴰ
use mathlib.Core.List.{List, Memᴰ, [], ◌∷◌}
use native.Mathlib.Nat.{add-zero}
use native.Mathlib.Omega.{arith}
use lib.Dec.{eqb}
use lib.ListN.{length, get_or, take, drop}
use borrow.Author.Tests.{eqb-true}
use Rattle.block.specs.Message.{Record}
use Rattle.block.specs.Answers.{block_refusal, header_of}
use Rattle.block.proofs.BoolLaws.{both}
use Rattle.block.proofs.AnswerLaws.{is_taken}
use Rattle.memory.specs.Memory.{window_bytes}
use Rattle.memory.specs.Window.{empty_window}
use Rattle.engine.specs.Restart.{is_good, blocks_from, first_blocks, writesets_from, writesets_in, Replayed, commit_one, commit_all, commit_blocks, is_from, highest_ticket, highest_own, own_writesets, refilled}
use Rattle.engine.specs.History.{writeset_count}
use Rattle.engine.proofs.Tests.{cond_by, bump_is}
use Rattle.engine.proofs.BlockFacts.{taken_block}
use Rattle.engine.proofs.RingLaws.{length_empty, length-keeping_all}
use Rattle.engine.proofs.ShapeWriteset.{length-applied, length-stamped}

-- ---- the blocks

pub good_taken : (n : ℕ) (b : List ℕ) → is_good n b ≡ true → block_refusal b ≡ 0
unfolding is_good
good_taken n b h = eqb-true (block_refusal b) 0 (both _ _ h).left

pub good_replicas : (n : ℕ) (b : List ℕ) → is_good n b ≡ true → (header_of b).replicas ≡ n
unfolding is_good
good_replicas n b h = eqb-true (header_of b).replicas n (both (eqb (block_refusal b) 0) _ h).right

abbrev pub AllGood : ℕ → List (List ℕ) → Type 0
AllGood n bs = (b : List ℕ) → Memᴰ b bs → is_good n b ≡ true

pub good_cons : (n : ℕ) (b : List ℕ) (bs : List (List ℕ)) → is_good n b ≡ true → AllGood n bs → AllGood n (b ∷ bs)
good_cons n b bs h g c q = go (Memᴰ.cases_cons q)
  where
    go : (c ≡ b) ⊎ Memᴰ c bs → is_good n c ≡ true
    go (inl e) = ap (is_good n) e ∙ h
    go (inr r) = g c r

pub good_none : (n : ℕ) → AllGood n []
good_none n c q = absurd (Memᴰ.not-nil q)

pub reads_good : (n s most : ℕ) (bytes : List ℕ) → AllGood n (blocks_from n s most bytes)
unfolding blocks_from
reads_good n s zero bytes = good_none n
reads_good n s (suc most) bytes =
    cond_by (AllGood n) (is_good n (take 512 bytes) && eqb (header_of (take 512 bytes)).slot s)
    (λ e. good_cons n (take 512 bytes) (blocks_from n (suc s) most (drop 512 bytes)) (both _ _ e).left (reads_good n (suc s) most (drop 512 bytes)))
    (λ e. good_none n)

pub reads_few : (n s most : ℕ) (bytes : List ℕ) → s ≤ 100_000_000 → s + length (blocks_from n s most bytes) ≤ 100_000_000
unfolding blocks_from
reads_few n s zero bytes h = omega arith
reads_few n s (suc most) bytes h =
    cond_by (λ (l : List (List ℕ)). s + length l ≤ 100_000_000) (is_good n (take 512 bytes) && eqb (header_of (take 512 bytes)).slot s)
    (λ e. let t = (taken_block (take 512 bytes) (good_taken n (take 512 bytes) (both _ _ e).left)).slot in
    let z = eqb-true (header_of (take 512 bytes)).slot s (both (is_good n (take 512 bytes)) _ e).right in
    let r = reads_few n (suc s) most (drop 512 bytes) (omega arith) in omega arith)
    (λ e. omega arith)

-- they are the journal's first
pub reads_first : (n s most : ℕ) (bytes : List ℕ) → first_blocks (length (blocks_from n s most bytes)) bytes ≡ blocks_from n s most bytes
unfolding blocks_from first_blocks
reads_first n s zero bytes = refl
reads_first n s (suc most) bytes =
    cond_by (λ (l : List (List ℕ)). first_blocks (length l) bytes ≡ l) (is_good n (take 512 bytes) && eqb (header_of (take 512 bytes)).slot s)
    (λ e. ap (λ (l : List (List ℕ)). take 512 bytes ∷ l) (reads_first n (suc s) most (drop 512 bytes)))
    (λ e. refl)

-- ---- their writesets

pub count-few : (n : ℕ) (bs : List (List ℕ)) → AllGood n bs → writeset_count bs ≤ 6 * length bs
unfolding writeset_count
count-few n [] g = omega arith
count-few n (b ∷ bs) g =
    let a = count-few n bs (λ c q. g c (Memᴰ.tail q)) in
    let c = (taken_block b (good_taken n b (g b (Memᴰ.head refl)))).count in
    omega arith

pub own-few : (own : ℕ) (bs : List (List ℕ)) → own_writesets own bs ≤ writeset_count bs
unfolding writeset_count own_writesets
own-few own [] = omega arith
own-few own (b ∷ bs) =
    let a = own-few own bs in
    cond_by (λ (k : ℕ). k + own_writesets own bs ≤ get_or b 3 0 + writeset_count bs) (is_from own b) (λ e. omega arith) (λ e. omega arith)

tickets-few : (n : ℕ) (b : List ℕ) → is_good n b ≡ true → (j k : ℕ) → j + k ≤ get_or b 3 0 → highest_ticket (writesets_from b j k) ≤ 100_000_000
unfolding highest_ticket writesets_from
tickets-few n b g j zero h = omega arith
tickets-few n b g j (suc k) h =
    let a = tickets-few n b g (suc j) k (omega arith) in
    let t = ((taken_block b (good_taken n b g)).ticket j (omega arith)).1 in
    omega arith

pub highest_few : (n own : ℕ) (bs : List (List ℕ)) → AllGood n bs → highest_own own bs ≤ 100_000_000
unfolding highest_own
highest_few n own [] g = omega arith
highest_few n own (b ∷ bs) g =
    let a = highest_few n own bs (λ c q. g c (Memᴰ.tail q)) in
    let t = tickets-few n b (g b (Memᴰ.head refl)) 0 (get_or b 3 0) (omega arith) in
    cond_by (λ (k : ℕ). Prim.Native.Nat.max k (highest_own own bs) ≤ 100_000_000) (is_from own b) (λ e. omega arith) (λ e. omega arith)

-- ---- committing them

pub length_writesets : (b : List ℕ) (j k : ℕ) → length (writesets_from b j k) ≡ k
unfolding writesets_from
length_writesets b j zero = refl
length_writesets b j (suc k) = ap suc (length_writesets b (suc j) k)

pub all-counted : (ws : List Record) (r : Replayed) → r.commits + length ws ≤ 4_294_967_295 → (commit_all r ws).commits ≡ r.commits + length ws
unfolding commit_all
all-counted [] r h = sym (add-zero r.commits)
all-counted (w ∷ ws) r h =
    let e = bump_is r.commits (omega arith) in
    let a = all-counted ws (commit_one r w) (omega arith) in
    omega arith

pub blocks_counted : (bs : List (List ℕ)) (r : Replayed) → r.commits + writeset_count bs ≤ 4_294_967_295 → (commit_blocks r bs).commits ≡ r.commits + writeset_count bs
unfolding commit_blocks writeset_count
blocks_counted [] r h = sym (add-zero r.commits)
blocks_counted (b ∷ bs) r h =
    let l = length_writesets b 0 (get_or b 3 0) in
    let e = all-counted (writesets_in b) r (omega arith) in
    let a = blocks_counted bs (commit_all r (writesets_in b)) (omega arith) in
    omega arith

-- 128 values, stamps and classes stay
pub record Long (r : Replayed) : Type 0 where
  pub values : length r.store.values ≡ 128
  pub stamps : length r.store.stamps ≡ 128
  pub classes : length r.store.classes ≡ 128

all-long : (ws : List Record) (r : Replayed) → Long r → Long (commit_all r ws)
unfolding commit_all
all-long [] r h = h
all-long (w ∷ ws) r h = all-long ws (commit_one r w) (record {
  values = length-applied w.entries r.store.values ∙ h.values;
  stamps = length-stamped _ w.entries r.store.stamps ∙ h.stamps;
  classes = h.classes;
})

pub blocks_long : (bs : List (List ℕ)) (r : Replayed) → Long r → Long (commit_blocks r bs)
unfolding commit_blocks
blocks_long [] r h = h
blocks_long (b ∷ bs) r h = blocks_long bs (commit_all r (writesets_in b)) (all-long (writesets_in b) r h)

-- 32,768 bytes of window too
pub length-refilled : (n : ℕ) (bs : List (List ℕ)) → AllGood n bs → length (refilled bs) ≡ window_bytes
length-refilled n bs g = length-keeping_all bs empty_window 0 length_empty (λ b q. (is_taken b (good_taken n b (g b q))).long)
