-- What the stores and the lent parts of a writer leave, over plain lists; and that over zeros it is all of a header, all of a record. Assumes nothing.
use Prim.Native.Nat.{ℕ, ◌+◌, ◌-◌, ◌*◌, ◌≤◌}
use mathlib.Core.List.{List, [], ◌∷◌, ◌++◌, append_assoc}
use mathlib.Core.Path.{◌≡◌, refl, ap, ◌∙◌}
use native.Mathlib.Omega.{arith}
use borrow.Author.Tests.{eq-eqb, le-leb}
use borrow.Rule.Slice.PartMut.{put_mid}
use lib.IntN.{ℤ}
use lib.ListN.{length, take, drop, replicate, length-drop}
use lib.Seq.{take_all, drop_at, drop-drop}
use Rattle.block.specs.declared.Header.{Header}
use Rattle.block.specs.Bytes.{entries_bytes, record_bytes, header_bytes}
use Rattle.block.specs.Numbers.{bytes_of}
use Rattle.block.specs.Writing.{all_written, entries_from, record_from}
use Rattle.block.proofs.NumberLaws.{length-bytes_of}
use Rattle.block.proofs.WriteLaws.{filled_none, filled-part, filled-all, byte_number, length_entries, drop-zeros}
use Rattle.block_writer.specs.Writing.{header_over, record_over, header_step, record_step}

-- ---- what a writer leaves

-- four bytes, and the slot in the next four
pub header_over_lem : (l xs ys : List ℕ) (h : Header) → length l ≡ 16 → xs ≡ h.kind ∷ h.sender ∷ h.replicas ∷ h.count ∷ [] → ys ≡ bytes_of 4 h.slot
    → put_mid 4 4 (put_mid 0 4 l xs) ys ≡ header_over h l
unfolding header_over
header_over_lem l xs ys h n p q =
    rw (p, q) (filled-part (filled-part (filled_none l) 4 (h.kind ∷ h.sender ∷ h.replicas ∷ h.count ∷ []) refl) 4 (bytes_of 4 h.slot) (length-bytes_of 4 _)).is

module _ (l₀ : List ℕ) (is : List ℕ) (vs : List ℤ) (same : length vs ≡ length is) where
  -- ticket, number of writes, and the entries in the 64 bytes behind them
  pub record-over : (t : ℕ) (ts ns es : List ℕ) → length l₀ ≡ 72 → length is ≤ 8 → ts ≡ bytes_of 4 t → ns ≡ bytes_of 4 (length is) → length es ≡ 64
      → es ≡ entries_bytes (entries_from is vs) ++ drop (8 * length is) (take 64 (drop 8 (put_mid 4 4 (put_mid 0 4 l₀ ts) ns)))
      → put_mid 8 64 (put_mid 4 4 (put_mid 0 4 l₀ ts) ns) es ≡ record_over (record_from t is vs) l₀
  unfolding record_over
  record-over t ts ns es h k q r m y =
      let f = filled-part (filled-part (filled_none l₀) 4 ts (ap length q ∙ length-bytes_of 4 _)) 4 ns (ap length r ∙ length-bytes_of 4 _) in
      let d : drop 8 (put_mid 4 4 (put_mid 0 4 l₀ ts) ns) ≡ drop 8 l₀ = ap (drop 8) f.is ∙ drop_at (ts ++ ns) (drop 8 l₀) 8 f.size in
      let a : take 64 (drop 8 l₀) ≡ drop 8 l₀ = take_all 64 (drop 8 l₀) (omega (arith, length-drop 8 l₀)) in
      let e : es ≡ entries_bytes (entries_from is vs) ++ drop (8 + 8 * length is) l₀ = y ∙ rw (d, a, drop-drop (8 * length is) 8 l₀) in
      filled-all (filled-part f 64 es m) (omega arith)
      ∙ append_assoc ts ns es
      ∙ ap (λ (z : List ℕ). ts ++ (z ++ es)) (r ∙ byte_number (length is) (omega arith))
      ∙ rw (length_entries is vs same, ← e, ← q)

-- ---- over zeros

pub header_fresh : (part : List ℕ) (h : Header) → part ≡ replicate 16 0 → header_step part h ≡ all_written (header_bytes h)
unfolding header_step header_over header_bytes
header_fresh part h z = rw z

pub record_fresh : (part : List ℕ) (t : ℕ) (is : List ℕ) (vs : List ℤ) → part ≡ replicate 72 0 → length is ≤ 8 → length vs ≡ length is
    → record_step part t is vs ≡ all_written (record_bytes (record_from t is vs))
unfolding record_step record_over record_bytes
record_fresh part t is vs z k e =
    let n : 72 - (8 + 8 * length is) ≡ 64 - 8 * length is = omega arith in
    rw (z, le-leb _ 8 k, eq-eqb _ _ e, length_entries is vs e, drop-zeros (8 + 8 * length is) 72, n)
