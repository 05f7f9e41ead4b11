-- Whether a block is good, from what the reader answers. Assumes nothing.
use Prim.Native.Nat.{ℕ}
use mathlib.Core.Path.{◌≡◌, sym, ap}
use mathlib.Core.Bool.{false}
use mathlib.Core.List.{List}
use native.Mathlib.Omega.{arith}
use lib.Dec.{eqb}
use Rattle.block.specs.declared.Header.{Header}
use Rattle.std.specs.Prelude.{Result, Ok, Err}
use Rattle.block.specs.declared.BlockFault.{BlockFault}
use Rattle.block.specs.Answers.{block_refusal, header_of, no_header, block_read, fault_number, number_and_header}
use Rattle.engine.specs.Restart.{is_good}
use Rattle.engine.proofs.Tests.{bool_by}
use Rattle.engine.proofs.BlockFacts.{taken_block}
use Rattle.engine.proofs.RestartLaws.{good_taken}

module _ (n : ℕ) (b : List ℕ) (r : Result Header BlockFault) (answer : number_and_header r ≡ block_read b) where
  -- a header that is read names two replicas at least, and no header names none
  pub not_good : (f : BlockFault) → r ≡ Err f → is_good n b ≡ false
  unfolding block_read
  not_good f e =
      bool_by (is_good n b)
      (λ g. let t = good_taken n b g in
      let a : (fault_number f, no_header) ≡ block_read b = rw e at answer in
      let o : no_header ≡ header_of b = rw t at (ap (λ (x : ℕ × Header). x.1) a) in
      absurd (omega (arith, (taken_block b t).replicas, ap (λ (x : Header). x.replicas) o)))
      (λ g. g)

  module _ (h : Header) (e : r ≡ Ok h) where
    taken : block_refusal b ≡ 0
    unfolding block_read
    taken = let a : (0, h) ≡ block_read b = rw e at answer in sym (ap (λ (x : ℕ × Header). x.0) a)

    pub good-header : h ≡ header_of b
    unfolding block_read
    good-header = let a : (0, h) ≡ block_read b = rw e at answer in rw taken at (ap (λ (x : ℕ × Header). x.1) a)

    pub good-by : is_good n b ≡ eqb h.replicas n
    unfolding is_good
    good-by = rw (taken, good-header)
