-- One place, and whether one of the places has such a block. Assumes nothing.
use Prim.Native.Nat.{ℕ, zero, suc, ◌+◌, ◌-◌, ◌*◌, ◌/◌, ◌≤◌, ◌<◌}
use mathlib.Core.Path.{◌≡◌, ◌∙◌, refl, sym, ap}
use mathlib.Core.Bool.{Bool, true, false, ◌||◌, or-true}
use mathlib.Core.List.{List, [], ◌∷◌}
use native.Mathlib.Nat.{add-zero}
use native.Mathlib.Omega.{arith}
use lib.ListN.{length, get_or, take, drop}
use lib.Seq.{slice}
use denote.Ref.{Bor}
use denote.Param.Members.{Mut, Called}
use Rattle.std.specs.Prelude.{IsSomeAnd, IfSome, IsTrue, Option, Some, None}
use Rattle.std.specs.Option.{option_map}
use Rattle.std.specs.Bool.{MatchBool}
use Rattle.std.specs.Iterator.Runs.{SomeRun, EveryRun, AnyItemGives, AllItemsGive, CallKeepsClosure, IsChunksExactRun}
use Rattle.std.specs.declared.slice.ChunksExact.{ChunksExact}
use Rattle.std.specs.Slice.Iter.{chunks_exact_steps, chunks_exact_size, chunks_exact_rest}
use Rattle.block.specs.Answers.{header_of}
use Rattle.block.specs.Numbers.{number_from}
use Rattle.block.proofs.ListLaws.{get_or-slice, lent_slice}
use Rattle.block.proofs.NumberLaws.{number-four}
use Rattle.memory.specs.Memory.{Memory}
use Rattle.engine.specs.Notices.{placed_from}
use Rattle.engine.proofs.Tests.{same_by}
use Rattle.call_notice.specs.Placed.{placed_in}

-- sender and slot as they stand in a place
pub sender_held : (p : List ℕ) → (header_of p).sender ≡ get_or p 1 0
unfolding header_of
sender_held p = refl

pub slot_held : (p : List ℕ) → 8 ≤ length p → (header_of p).slot ≡ number_from (get_or p 4 0 ∷ get_or p 5 0 ∷ get_or p 6 0 ∷ get_or p 7 0 ∷ [])
unfolding header_of
slot_held p long = sym (number-four p 4 long)

module _ (m : Memory) (k v : ℕ) where
  abbrev place : ℕ → List ℕ
  place i = slice (512 * i) (512 * i + 512) m.blocks.places

  placed_next : (i : ℕ) → placed_from m k v (suc i) ≡ placed_in (place i) k v || placed_from m k v i
  unfolding placed_from
  placed_next i = rw (get_or-slice m.blocks.places 0 (512 * i) (512 * i + 512) 0 (512 * i) (add-zero (512 * i)) (omega arith)) refl

  placed_some : (n i : ℕ) → i < n → placed_in (place i) k v ≡ true → placed_from m k v n ≡ true
  placed_some zero i h e = absurd (omega (arith, h))
  placed_some (suc n) i h e =
      placed_next n ∙ same_by i n
      (λ q. rw (← q, e) refl)
      (λ d. rw (placed_some n i (omega (arith, d)) e) (or-true (placed_in (place n) k v)))

  placed_none : (n : ℕ) → ((i : ℕ) → i < n → placed_in (place i) k v ≡ false) → placed_from m k v n ≡ false
  unfolding placed_from
  placed_none zero h = refl
  placed_none (suc n) h = placed_next n ∙ rw (h n (omega arith), placed_none n (λ i l. h i (omega (arith, l)))) refl

-- a chunk is the place
chunk_is : (l : List ℕ) (i : ℕ) → i * 512 + 512 ≤ length l → take 512 (drop (i * 512) l) ≡ slice (512 * i) (512 * i + 512) l
chunk_is l i h =
    let a : i * 512 ≡ 512 * i = omega arith in
    let b : 512 * i + 512 - 512 * i ≡ 512 = omega arith in
    let w : take (512 * i + 512 - 512 * i) (drop (512 * i) l) ≡ slice (512 * i) (512 * i + 512) l = lent_slice (512 * i) (512 * i + 512) l (omega arith) in
    rw a (rw b at w)

-- an item is there, with what holds of it
here : {A : Type 0} {P Q : A → Type 0} (o : Option A) → IsSomeAnd o P → IfSome o Q → (x : A) × P x × Q x
here (Some x) p q = (x, p, q)
here None p q = absurd p

there : {A : Type 0} {P Q : A → Type 0} (items : List A) (i : ℕ) (o : Option A) → i < length items → ((d : A) → option_map (λ y. y) o ≡ Some (get_or items i d))
    → IfSome o P → IfSome o Q → (x : A) × P x × Q x
there items i (Some x) h read p q = (x, p, q)
there [] i None h read p q = absurd (omega (arith, h))
there (y ∷ ys) i None h read p q = let e = read y in cc

module _ {F : Type 0} (m : Memory) (k v : ℕ) (g : Mut F (Bor (List ℕ) × Unit {0}) Bool) (f : F) (keeps : CallKeepsClosure g f)
    (says : (x : Bor (List ℕ)) (b : Bool) (f' : F) → Called g f (x, tt) b f' → b ≡ placed_in x.now k v) where
  -- the answer of `any` over the chunks
  pub any_placed : (s : ChunksExact ℕ) (b : Bool) → chunks_exact_rest s ≡ m.blocks.places → chunks_exact_size s ≡ 512
      → EveryRun (chunks_exact_steps {A = ℕ}) (λ p. 0 < chunks_exact_size p.from → IsChunksExactRun p (chunks_exact_size p.from) (chunks_exact_rest p.from))
      → SomeRun (chunks_exact_steps {A = ℕ}) s (λ p. MatchBool b (AnyItemGives p g f true) (IsTrue p.whole × AllItemsGive p g f false))
      → b ≡ placed_from m k v (length m.blocks.places / 512)
  any_placed s true rest size runs r =
      let p = r.0 in
      let size' : chunks_exact_size p.from ≡ 512 = ap chunks_exact_size r.1 ∙ size in
      let rest' : chunks_exact_rest p.from ≡ m.blocks.places = ap chunks_exact_rest r.1 ∙ rest in
      let c = rw (size', rest') at (runs p p.seen (omega (arith, size'))) in
      let hit = r.2 keeps in
      let x = here (p.at hit.0) hit.2 (c.2 hit.0) in
      let is = x.2.2.0 ∙ chunk_is m.blocks.places hit.0 x.2.1 in
      sym (placed_some m k v (length m.blocks.places / 512) hit.0 (omega (arith, x.2.1)) (rw (← is) (sym (says x.0 true f x.1))))
  any_placed s false rest size runs r =
      let p = r.0 in
      let size' : chunks_exact_size p.from ≡ 512 = ap chunks_exact_size r.1 ∙ size in
      let rest' : chunks_exact_rest p.from ≡ m.blocks.places = ap chunks_exact_rest r.1 ∙ rest in
      let c = rw (size', rest') at (runs p p.seen (omega (arith, size'))) in
      let miss = r.2.1 keeps in
      sym (placed_none m k v (length m.blocks.places / 512) (λ i h.
      let l : i < length p.items = omega (arith, h, p.long, c.1 r.2.0) in
      let x = there p.items i (p.at i) l (λ d. p.reads i d (omega (arith, l, p.long))) (miss i) (c.2 i) in
      let is = x.2.2.0 ∙ chunk_is m.blocks.places i x.2.1 in
      rw (← is) (sym (says x.0 false f x.1))))
