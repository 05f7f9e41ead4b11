-- A station's make from a replica's with number 0: what was made there, without the number. Assumes nothing.
use Prim.Native.Nat.{ℕ}
use mathlib.Core.Path.{◌≡◌, sym, ap, ◌∙◌}
use mathlib.Core.List.{List}
use lib.IntN.{ℤ}
use borrow.Author.Tests.{eq-eqb}
use Rattle.memory.specs.Memory.{Memory, no_number, group_of}
use Rattle.engine.proofs.Refusals.{refusals}
use Rattle.engine.proofs.Stations.{stations}
use Rattle.engine.specs.Make.{made_memory, make_refusal, make_step}
use Rattle.engine.specs.Station.{station_refusal, station_step}
use Rattle.call_reply.specs.Replies.{number, Gives}

-- a memory of N replicas, all else as it is, with no number
abbrev pub numberless : Memory → Memory
numberless x = record { group = group_of x.group.replicas no_number; turn = x.turn; counts = x.counts; txns = x.txns; store = x.store; blocks = x.blocks }

made_memory_lem : (m : Memory) (n : ℕ) (values : List ℤ) → make_refusal m n 0 values ≡ 0 → (make_step m n 0 values).memory ≡ made_memory n 0 values
unfolding make_step
made_memory_lem m n values e = rw (eq-eqb (make_refusal m n 0 values) 0 e)

module _ (m : Memory) (n : ℕ) (values : List ℤ) (k : ℕ) (left : Memory) (gave : Gives number (make_step m n 0 values) k left) where
  -- its number is that of the refusal
  station-number : k ≡ station_refusal m n values
  station-number = gave.0 ∙ refusals.make_number m n 0 values ∙ sym (stations.make-refusal m n values)

  pub station-refused : (k ≡ 0 → ⊥) → Gives number (station_step m n values) k left
  station-refused z =
      let no : station_refusal m n values ≡ 0 → ⊥ = λ e. z (station-number ∙ e) in (
        station-number ∙ sym (stations.make_number m n values),
        gave.1 ∙ refusals.make_unchanged m n 0 values (λ e. no (stations.make-refusal m n values ∙ e)) ∙ sym (stations.make_unchanged m n values no),
      )

  pub station-made : k ≡ 0 → Gives number (station_step m n values) k (numberless left)
  unfolding made_memory
  station-made z =
      let free : station_refusal m n values ≡ 0 = sym station-number ∙ z in
      let was : (make_step m n 0 values).memory ≡ made_memory n 0 values = made_memory_lem m n values (sym (stations.make-refusal m n values) ∙ free) in
      (station-number ∙ sym (stations.make_number m n values), ap numberless (gave.1 ∙ was) ∙ sym (stations.makes m n values free))
