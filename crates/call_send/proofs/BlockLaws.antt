-- Lists filled from the front, and the block that a send writes: the tickets that wait, the part of the items that a row has, a turn of the loop over
-- the tickets, and the whole. Assumes nothing.
use Prim.Native.Nat.{ℕ, suc, ◌+◌, ◌*◌, ◌-◌, ◌≤◌, ◌<◌}
use mathlib.Core.Path.{◌≡◌, refl, sym, ap, ◌∙◌}
use mathlib.Core.Bool.{Bool, true, false, cond}
use mathlib.Core.List.{List, [], ◌∷◌, ◌++◌, map, append_assoc, append-nil}
use native.Mathlib.Nat.{add-zero}
use native.Mathlib.Numerals.{add-one}
use native.Mathlib.Omega.{arith}
use borrow.Rule.Slice.PartMut.{put_mid}
use lib.Dec.{eqb}
use lib.IntN.{ℤ}
use lib.ListN.{length, get_or, take, drop, replicate, length-map, replicate-append-replicate, take-append-drop, get_or-eq_default}
use lib.Seq.{slice, length-slice, length-take-le, take-suc, take_at, drop_at, drop-drop}
use Rattle.std.specs.Prelude.{Result, ⊤}
use Rattle.block.specs.declared.BlockFault.{BlockFault}
use Rattle.block.specs.Bytes.{record_bytes, records_bytes, header_for, header_bytes, block_of}
use Rattle.block.specs.Writing.{Written, written, checked_step}
use Rattle.block.proofs.ListLaws.{lent_slice}
use Rattle.block.proofs.WriteLaws.{Filled, filled-part, records_append, drop-zeros}
use Rattle.block_writer.specs.Writing.{record_step}
use Rattle.block_writer.proofs.WriterLaws.{record_fresh}
use Rattle.block_writer.proofs.WholeLaws.{bytes_left, block-put}
use Rattle.memory.specs.declared.Txn.{Txn}
use Rattle.memory.specs.Memory.{Memory}
use Rattle.memory.specs.Rows.{closed, row_of, row_at, write_count, index_from, index_of}
use Rattle.memory.proofs.RowLaws.{row_within}
use Rattle.engine.specs.Moves.{waiting, writeset_of, message_for}
use Rattle.engine.proofs.Tests.{cond_by, less_by}
use Rattle.call_send.specs.Writing.{writeset_in, header_with}

-- ---- a list filled from the front

map_snoc : {A B : Type 0} (f : A → B) (l : List A) (x : A) → map f (l ++ (x ∷ [])) ≡ map f l ++ (f x ∷ [])
map_snoc f [] x = refl
map_snoc f (y ∷ l) x = ap (λ z. f y ∷ z) (map_snoc f l x)

module _ {A : Type 0} (d : A) (l : List A) (i : ℕ) (h : i < length l) where
  map_next : {B : Type 0} (f : A → B) → map f (take (i + 1) l) ≡ map f (take i l) ++ (f (get_or l i d) ∷ [])
  map_next f = rw (add-one i, take-suc l i d h) (map_snoc f (take i l) (get_or l i d))

-- ---- the tickets that wait are those before the queue's first 0

waiting_front : (q : List ℕ) → take (length (waiting q)) q ≡ waiting q
unfolding waiting
waiting_front [] = refl
waiting_front (t ∷ ts) = cond_by (λ (l : List ℕ). take (length l) (t ∷ ts) ≡ l) (eqb t 0) (λ e. refl) (λ e. ap (λ (l : List ℕ). t ∷ l) (waiting_front ts))

waiting_end : (q : List ℕ) (i : ℕ) → index_from 0 q i ≡ i + length (waiting q)
unfolding waiting index_from
waiting_end [] i = sym (add-zero i)
waiting_end (t ∷ ts) i = go (eqb t 0) (waiting_end ts (suc i))
  where
    go : (b : Bool) → index_from 0 ts (suc i) ≡ suc i + length (waiting ts) → cond b i (index_from 0 ts (suc i)) ≡ i + length (cond b [] (t ∷ waiting ts))
    go true h = sym (add-zero i)
    go false h = h ∙ omega arith

module _ (q : List ℕ) (n : ℕ) (end : n ≡ index_of 0 q) where
  length-waiting : n ≡ length (waiting q)
  length-waiting = end ∙ waiting_end q 0 ∙ omega arith

  waiting-is : take n q ≡ waiting q
  waiting-is = rw length-waiting (waiting_front q)

-- ---- the writes of a row: none where there is no row

module _ (table : List Txn) (six : length table ≡ 6) where
  pub row-of-within : (t : ℕ) → row_of t table ≤ 6
  unfolding row_of
  row-of-within t = cond_by (λ (r : ℕ). r ≤ 6) (eqb t 0) (λ e. omega arith) (λ e. omega (arith, row_within t table 0))

  pub no_row : (d : Txn) (r : ℕ) → 6 ≤ r → get_or table r d ≡ d
  no_row d r h = get_or-eq_default table d (omega arith)

  -- they stand within the 48
  writes-within : (r n : ℕ) → r ≤ 6 → n ≡ write_count (row_at table r) → 8 * r + n ≤ 48
  writes-within r n h e =
      less_by r 6 (λ u. omega arith)
      (λ u. let z : n ≡ 0 = e ∙ rw (no_row closed r u) in omega arith)

  pub row_writes : (t r n : ℕ) → r ≡ row_of t table → n ≡ write_count (row_at table r) → 8 * r + n ≤ 48
  row_writes t r n e = writes-within r n (rw e (row-of-within t))

-- ---- the writesets

module _ (table : List Txn) (is : List ℕ) (vs : List ℤ) (long : (length is ≡ 48) × (length vs ≡ 48)) where
  -- the record writer's call for a ticket writes its writeset: row r, of n writes
  pub writeset-written : (t r n : ℕ) (a : Result ⊤ BlockFault) (part ys : List ℕ) → r ≡ row_of t table → n ≡ write_count (row_at table r) → 8 * r + n ≤ 48 → part ≡ replicate 72 0
      → written a ys ≡ record_step part t (take (8 * r + n - 8 * r) (drop (8 * r) is)) (take (8 * r + n - 8 * r) (drop (8 * r) vs))
      → ys ≡ record_bytes (writeset_in table is vs t)
  unfolding writeset_of
  writeset-written t r n a part ys row count fits zeros q =
      let i = length-slice (8 * r) (8 * r + n) is (omega arith) in
      let v = length-slice (8 * r) (8 * r + n) vs (omega arith) in
      let d = record_fresh part t (slice (8 * r) (8 * r + n) is) (slice (8 * r) (8 * r + n) vs) zeros (omega arith) (v ∙ sym i) in
      rw (← row, ← count) (sym (bytes_left a ys) ∙ ap (λ (w : Written). w.bytes) (rw (lent_slice (8 * r) (8 * r + n) is (omega arith), lent_slice (8 * r) (8 * r + n) vs (omega arith)) at q ∙ d))

-- the block with the first j of them
abbrev pub block_to : List ℕ → List Txn → List ℕ → List ℕ → List ℤ → ℕ → List ℕ
block_to l₀ table q is vs j = take 16 l₀ ++ records_bytes (map (writeset_in table is vs) (take j q))

module _ (l₀ : List ℕ) (table : List Txn) (q is : List ℕ) (vs : List ℤ) where
  pub writesets-none : length l₀ ≡ 512 → Filled l₀ 16 (block_to l₀ table q is vs 0) l₀
  unfolding records_bytes
  writesets-none h = rw (append-nil (take 16 l₀)) (record { size = length-take-le 16 l₀ (omega arith); is = sym (take-append-drop 16 l₀) })

  -- the part of ticket j is zeros still
  pub writesets-fresh : (j : ℕ) (p l : List ℕ) → drop 16 l₀ ≡ replicate 496 0 → j < 6 → Filled l₀ (16 + 72 * j) p l
      → take (16 + 72 * j + 72 - (16 + 72 * j)) (drop (16 + 72 * j) l) ≡ replicate 72 0
  writesets-fresh j p l z h f =
      let k : 16 + 72 * j + 72 - (16 + 72 * j) ≡ 72 = omega arith in
      let n : 496 - 72 * j ≡ 72 + (424 - 72 * j) = omega arith in
      let d : drop (16 + 72 * j) l ≡ replicate 72 0 ++ replicate (424 - 72 * j) 0 =
      rw (f.is, drop_at p (drop (16 + 72 * j) l₀) (16 + 72 * j) f.size, ← drop-drop (72 * j) 16 l₀, z, drop-zeros (72 * j) 496, n)
      (sym (replicate-append-replicate 72 (424 - 72 * j) 0)) in
      rw (k, d) (take_at (replicate 72 0) (replicate (424 - 72 * j) 0) 72 refl)

  -- a turn of the loop: the writeset of ticket j, on its part
  pub writesets-put : (j : ℕ) (l ys : List ℕ) → j < length q → length ys ≡ 16 + 72 * j + 72 - (16 + 72 * j)
      → ys ≡ record_bytes (writeset_in table is vs (get_or q j 0))
      → Filled l₀ (16 + 72 * j) (block_to l₀ table q is vs j) l
      → Filled l₀ (16 + 72 * (j + 1)) (block_to l₀ table q is vs (j + 1)) (put_mid (16 + 72 * j) (16 + 72 * j + 72 - (16 + 72 * j)) l ys)
  writesets-put j l ys h p d f =
      let k : 16 + 72 * j + 72 - (16 + 72 * j) ≡ 72 = omega arith in
      let e : 16 + 72 * (j + 1) ≡ 16 + 72 * j + 72 = omega arith in
      let s : records_bytes (map (writeset_in table is vs) (take (j + 1) q)) ≡ records_bytes (map (writeset_in table is vs) (take j q)) ++ ys =
      rw (map_next 0 q j h (writeset_in table is vs), records_append, ← d) in
      rw (k, e, s, ← append_assoc (take 16 l₀) (records_bytes (map (writeset_in table is vs) (take j q))) ys) (filled-part f 72 ys (p ∙ k))

-- ---- a whole block

module _ (m : Memory) (n : ℕ) (end : n ≡ index_of 0 m.txns.queue) where
  records-are : (message_for m).records ≡ map (writeset_in m.txns.table m.txns.items m.txns.writes) (take n m.txns.queue)
  unfolding message_for writeset_of
  records-are = rw (waiting-is m.txns.queue n end)

  count-is : n ≡ length (message_for m).records
  unfolding message_for
  count-is = length-waiting m.txns.queue n end ∙ sym (length-map (waiting m.txns.queue) (writeset_of m.txns))

  header_is : header_for (message_for m) ≡ header_with m.group m.turn n
  unfolding header_for message_for
  header_is = rw (length-map, ← length-waiting m.txns.queue n end)

  pub message-put : n ≤ 6 → (z : ℕ) (r : Result ⊤ BlockFault) (l hs b c : List ℕ) → z ≡ 512 → l ≡ replicate z 0 → hs ≡ header_bytes (header_with m.group m.turn n)
      → b ≡ take 16 (put_mid 0 16 l hs) ++ (records_bytes (map (writeset_in m.txns.table m.txns.items m.txns.writes) (take n m.txns.queue)) ++ drop (16 + 72 * n) (put_mid 0 16 l hs))
      → length b ≡ 512 → written r c ≡ checked_step b → c ≡ block_of (message_for m)
  message-put few z r l hs b c e q p u w y = block-put (message_for m) n count-is few z r l hs b c e q (rw header_is p) (rw records-are u) w y
