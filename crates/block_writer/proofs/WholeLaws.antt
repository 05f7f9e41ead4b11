-- A whole block from zeros: its header, its records, its check. Assumes nothing.
use Prim.Native.Nat.{ℕ, ◌+◌, ◌-◌, ◌*◌, ◌≤◌}
use mathlib.Core.List.{List, ◌++◌, append_assoc}
use mathlib.Core.Path.{◌≡◌, refl, sym, ap, ◌∙◌}
use native.Mathlib.Omega.{arith}
use borrow.Author.Tests.{eq-eqb}
use borrow.Rule.Slice.PartMut.{put_mid}
use lib.ListN.{length, take, drop, replicate, length-append, replicate-append-replicate}
use lib.Seq.{take_at, drop_at, drop-drop}
use Rattle.std.specs.Prelude.{Result, Ok, Err, ⊤}
use Rattle.block.specs.declared.BlockFault.{BlockFault}
use Rattle.block.specs.declared.Header.{Header}
use Rattle.block.specs.Bytes.{records_bytes, header_for, header_bytes, body_bytes, block_of}
use Rattle.block.specs.Check.{check_bytes}
use Rattle.block.specs.Message.{Message}
use Rattle.block.specs.Writing.{Written, written, all_written, checked_step}
use Rattle.block.proofs.BlockLaws.{length-header_bytes}
use Rattle.block.proofs.CheckLaws.{check_take}
use Rattle.block.proofs.WriteLaws.{drop-zeros}
use Rattle.block_writer.specs.Writing.{header_step}
use Rattle.block_writer.proofs.WriterLaws.{header_fresh}

-- what is left, whatever is answered
pub bytes_left : (r : Result ⊤ BlockFault) (l : List ℕ) → (written r l).bytes ≡ l
bytes_left (Ok done) l = refl
bytes_left (Err f) l = refl

-- z zeros: the header into their first 16, and zeros behind it
module _ (z : ℕ) (l hs : List ℕ) (whole : z ≡ 512) (zeros : l ≡ replicate z 0) where
  pub header-written : (a : Result ⊤ BlockFault) (h : Header) → written a hs ≡ header_step (take 16 l) h → hs ≡ header_bytes h
  header-written a h q = sym (bytes_left a hs) ∙ ap (λ (w : Written). w.bytes) (q ∙ header_fresh (take 16 l) h (rw (zeros, whole)))

  pub zeros-behind : length hs ≡ 16 → drop 16 (put_mid 0 16 l hs) ≡ replicate 496 0
  zeros-behind s = drop_at hs (drop 16 l) 16 s ∙ rw (zeros, whole)

module _ (m : Message) (n : ℕ) (count : n ≡ length m.records) (few : n ≤ 6) where
  -- z zeros, then the header in their first 16, then the records: the body, and the check's eight bytes still zero
  body-put : (z : ℕ) (l hs b : List ℕ) → z ≡ 512 → l ≡ replicate z 0 → length hs ≡ 16 → hs ≡ header_bytes (header_for m)
      → b ≡ take 16 (put_mid 0 16 l hs) ++ (records_bytes m.records ++ drop (16 + 72 * n) (put_mid 0 16 l hs))
      → b ≡ body_bytes m ++ replicate 8 0
  unfolding body_bytes
  body-put z l hs b e q s p r =
      let k : z - (16 + 72 * n) ≡ 488 - 72 * n + 8 = omega arith in
      let d : drop (16 + 72 * n) (put_mid 0 16 l hs) ≡ replicate (488 - 72 * n) 0 ++ replicate 8 0 =
      sym (drop-drop (72 * n) 16 (put_mid 0 16 l hs)) ∙ rw (drop_at hs (drop 16 l) 16 s, drop-drop (72 * n) 16 l, q, drop-zeros (16 + 72 * n) z, k) (sym (replicate-append-replicate (488 - 72 * n) 8 0)) in
      r ∙ rw (d, take_at hs (drop 16 l) 16 s, ← count, ← p) (simp append_assoc)

  -- and the check into those: l, hs, b and c are what clearing, `write_header`, the records and `write_check` leave, r is an answer
  pub block-put : (z : ℕ) (r : Result ⊤ BlockFault) (l hs b c : List ℕ) → z ≡ 512 → l ≡ replicate z 0 → hs ≡ header_bytes (header_for m)
      → b ≡ take 16 (put_mid 0 16 l hs) ++ (records_bytes m.records ++ drop (16 + 72 * n) (put_mid 0 16 l hs))
      → length b ≡ 512 → written r c ≡ checked_step b → c ≡ block_of m
  unfolding checked_step block_of
  block-put z r l hs b c e q p u w y =
      let f = body-put z l hs b e q (ap length p ∙ length-header_bytes (header_for m)) p u in
      let g : length (body_bytes m) ≡ 504 = omega (arith, ap length f, length-append (body_bytes m) (replicate 8 0)) in
      let x : take 504 b ≡ body_bytes m = ap (take 504) f ∙ take_at (body_bytes m) (replicate 8 0) 504 g in
      let d : checked_step b ≡ all_written (body_bytes m ++ check_bytes (body_bytes m)) = rw (eq-eqb _ 512 w, ← check_take b (omega arith), x) in
      sym (bytes_left r c) ∙ ap (λ (v : Written). v.bytes) (y ∙ d)
