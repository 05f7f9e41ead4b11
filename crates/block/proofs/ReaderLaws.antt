-- The reader's functions: each answer of its definition, from the tests that lead to it. Assumes nothing.
use Prim.Native.Nat.{ℕ, ◌+◌, ◌*◌, ◌≤◌, ◌<◌}
use mathlib.Core.Bool.{true, false, and-false}
use mathlib.Core.List.{List}
use mathlib.Core.Path.{◌≡◌}
use native.Mathlib.Omega.{arith}
use borrow.Author.Tests.{eq-eqb, ne_eqb, lt-ltb, le-ltb}
use lib.Dec.{eqb, ltb}
use lib.IntN.{ℤ}
use lib.ListN.{length, get_or}
use lib.Seq.{slice}
use mir.Syntax.{w32}
use mir.Val.{to_z}
use Rattle.block.specs.declared.Header.{Header}
use Rattle.block.specs.Answers.{first_of, block_refusal, header_of, no_header, block_read, record_at, entry_at}
use Rattle.block.specs.Check.{check_matches}
use Rattle.block.specs.Form.{entry_of, well_formed}
use Rattle.block.specs.Numbers.{number_from, value_of}
use Rattle.block.specs.Theorems.{no_entry}
use Rattle.block.proofs.ListLaws.{get_or-slice, slice-slice}

-- the answers of `record_at` and `entry_at`
module _ (b : List ℕ) (j : ℕ) where
  pub record-short : (length b ≡ 512 → ⊥) → record { ticket = 0; writes = 0 } ≡ record_at b j
  unfolding record_at
  record-short h = rw (ne_eqb (length b) 512 h)

  pub record-past : 6 ≤ j → record { ticket = 0; writes = 0 } ≡ record_at b j
  unfolding record_at
  record-past h = rw (le-ltb j 6 h, and-false (eqb (length b) 512))

  pub record-some : length b ≡ 512 → j < 6 → (t : ℕ) → t ≡ number_from (slice (16 + 72 * j) (16 + 72 * j + 4) b) → record { ticket = t; writes = get_or b (16 + 72 * j + 4) 0 } ≡ record_at b j
  unfolding record_at
  record-some l h t e = rw (eq-eqb (length b) 512 l, lt-ltb j 6 h, e, (let q : 16 + 72 * j + 4 ≡ 20 + 72 * j = omega arith in q))

  module _ (e : ℕ) where
    pub entry-short : (length b ≡ 512 → ⊥) → no_entry ≡ entry_at b j e
    unfolding entry_at
    entry-short h = rw (ne_eqb (length b) 512 h)

    pub entry_past : 6 ≤ j → no_entry ≡ entry_at b j e
    unfolding entry_at
    entry_past h = rw (le-ltb j 6 h, and-false (eqb (length b) 512))

    pub entry-over : 8 ≤ e → no_entry ≡ entry_at b j e
    unfolding entry_at
    entry-over h = rw (le-ltb e 8 h, and-false (ltb j 6), and-false (eqb (length b) 512))

    pub entry-some : length b ≡ 512 → j < 6 → e < 8 → (n : ℕ) → n ≡ number_from (slice (24 + 72 * j + 8 * e + 4) (24 + 72 * j + 8 * e + 4 + 4) b) → (v : ℤ) → v ≡ to_z w32 n
        → record { item = get_or b (24 + 72 * j + 8 * e) 0; value = v } ≡ entry_at b j e
    unfolding entry_at entry_of value_of
    entry-some l h k n q v r =
        rw (
          eq-eqb (length b) 512 l,
          lt-ltb j 6 h,
          lt-ltb e 8 k,
          get_or-slice b 0 (24 + 72 * j + 8 * e) (32 + 72 * j + 8 * e) 0 (24 + 72 * j + 8 * e) (omega arith) (omega arith),
          slice-slice (24 + 72 * j + 8 * e) (32 + 72 * j + 8 * e) 4 8 b (omega arith),
          r,
          q,
          (let z : 24 + 72 * j + 8 * e + 4 + 4 ≡ 24 + 72 * j + 8 * e + 8 = omega arith in z),
        )

-- the answers of `read_block`
module _ (b : List ℕ) where
  pub read_short : (length b ≡ 512 → ⊥) → (1, no_header) ≡ block_read b
  unfolding block_read block_refusal first_of
  read_short h = rw (ne_eqb (length b) 512 h)

  module _ (long : length b ≡ 512) where
    pub read-damaged : check_matches b ≡ false → (14, no_header) ≡ block_read b
    unfolding block_read block_refusal first_of
    read-damaged h = rw (eq-eqb (length b) 512 long, h)

    pub read-malformed : check_matches b ≡ true → well_formed b ≡ false → (15, no_header) ≡ block_read b
    unfolding block_read block_refusal first_of
    read-malformed h k = rw (eq-eqb (length b) 512 long, h, k)

    pub read_taken : check_matches b ≡ true → well_formed b ≡ true → (r : Header) → r ≡ header_of b → (0, r) ≡ block_read b
    unfolding block_read block_refusal first_of
    read_taken h k r e = rw (eq-eqb (length b) 512 long, h, k, e)
