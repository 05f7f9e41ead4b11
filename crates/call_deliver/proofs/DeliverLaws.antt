-- Each answer of a deliver, from the tests that lead to it, and the bytes that it compares. Assumes nothing.
use Prim.Native.Nat.{ℕ, ◌+◌, ◌*◌, ◌-◌, ◌≤◌, ◌<◌}
use mathlib.Core.Path.{◌≡◌, refl, sym, ap, ◌∙◌}
use mathlib.Core.Bool.{Bool, true, false, not, ◌&&◌}
use mathlib.Core.List.{List, [], ◌∷◌}
use native.Mathlib.Omega.{arith}
use lib.Dec.{eqb, ltb, leb}
use Rattle.std.proofs.Common.{nat_eq}
use lib.Pointwise.{pointwise}
use lib.ListN.{length, get_or}
use borrow.Author.Tests.{eq-eqb, ne_eqb, lt-ltb, le-ltb, le-leb, lt-leb, eqb-true}
use borrow.Rule.Slice.PartMut.{put_mid}
use Rattle.block.specs.declared.Header.{Header}
use Rattle.std.specs.Prelude.{Result, Ok, Err}
use Rattle.block.specs.declared.BlockFault.{BlockFault}
use Rattle.block.specs.Answers.{Refusal, refuse, first_of, block_refusal, header_of, block_read, number_and_header}
use Rattle.block.proofs.AnswerLaws.{is_taken}
use Rattle.block.proofs.BoolLaws.{both}
use Rattle.memory.proofs.ByteLaws.{put-paste}
use Rattle.memory.specs.declared.Group.{Group}
use Rattle.memory.specs.declared.Turn.{Turn}
use Rattle.memory.specs.Memory.{Memory, with_blocks}
use Rattle.memory.specs.Notices.{is_out}
use Rattle.memory.specs.Turns.{is_on, place_start}
use Rattle.engine.specs.Answers.{outcome}
use Rattle.engine.specs.Answers.Answer.{refused, kept}
use Rattle.engine.specs.Make.{made_memory}
use Rattle.engine.specs.Moves.{same_bytes, deliver_lent, deliver_refusal, deliver_now, deliver_step}
use Rattle.engine.proofs.Passed.{deliver_passed}
use Rattle.engine.proofs.PlaceLaws.{place-fits}
use Rattle.call_reply.specs.declared.faults.Fault.{Fault}
use Rattle.call_reply.specs.Faults.{fault_number, from_block}
use Rattle.call_reply.specs.Parts.{deliver_parts}
use Rattle.call_reply.proofs.FaultLaws.{fault_some, from_block-number}
use Rattle.call_deliver.specs.Lengths.{lengths_fit}

-- ---- bytes compared

-- by the test of slices
pub bytes_compared : (a b : List ℕ) → pointwise nat_eq a b ≡ same_bytes a b
unfolding same_bytes
bytes_compared [] [] = refl
bytes_compared [] (y ∷ ys) = refl
bytes_compared (x ∷ xs) [] = refl
bytes_compared (x ∷ xs) (y ∷ ys) = rw (bytes_compared xs ys)

-- ---- the lengths

pub record Long (n : ℕ) (p b : List ℕ) : Type 0 where
  pub places : length p ≡ 512 * n
  pub bytes : length b ≡ 512

pub lengths_long : (n : ℕ) (places outbox bytes : List ℕ) → lengths_fit n (length places) (length outbox) (length bytes) ≡ true → Long n places bytes
lengths_long n places outbox bytes h =
    let a = both _ (eqb (length outbox) 512 && eqb (length bytes) 512) h in
    record { places = eqb-true _ _ a.left; bytes = eqb-true _ 512 (both (eqb (length outbox) 512) (eqb (length bytes) 512) a.right).right }

-- ---- the reader's answer

reader_refused : (b : List ℕ) (r : Result Header BlockFault) (f : BlockFault) → r ≡ Err f → number_and_header r ≡ block_read b → fault_number (from_block f) ≡ block_refusal b
unfolding block_read
reader_refused b r f e h =
    let a : number_and_header (Err f) ≡ block_read b = rw e at h in
    from_block-number f ∙ ap (λ (x : ℕ × Header). x.0) a

pub reader_took : (b : List ℕ) (r : Result Header BlockFault) (h : Header) → r ≡ Ok h → number_and_header r ≡ block_read b → (block_refusal b ≡ 0) × (h ≡ header_of b)
unfolding block_read
reader_took b r h e q =
    let a : number_and_header (Ok h) ≡ block_read b = rw e at q in
    let k : block_refusal b ≡ 0 = sym (ap (λ (x : ℕ × Header). x.0) a) in
    (k, rw k at (ap (λ (x : ℕ × Header). x.1) a))

past_first : (r : Refusal) (l : List Refusal) → r.holds ≡ false → first_of (r ∷ l) ≡ first_of l
unfolding first_of
past_first r l h = rw h

-- the reader's refusals stand before the others
reader_first : (c w : Bool) (l : List Refusal) → (first_of (refuse 14 c ∷ refuse 15 w ∷ []) ≡ 0 → ⊥)
    → first_of (refuse 14 c ∷ refuse 15 w ∷ []) ≡ first_of (refuse 14 c ∷ refuse 15 w ∷ l)
unfolding first_of
reader_first true w l h = refl
reader_first false true l h = refl
reader_first false false l h = absurd (h refl)

-- ---- the answers

module _ (m : Memory) (bytes : List ℕ) where
  pub deliver-lengths : deliver_lent m bytes ≡ false → outcome (refused 1) m ≡ deliver_step m bytes
  unfolding deliver_step deliver_refusal first_of
  deliver-lengths h = rw h

  pub deliver-refused : (f : Fault) → fault_number f ≡ deliver_refusal m bytes → outcome (refused (fault_number f)) m ≡ deliver_step m bytes
  unfolding deliver_step
  deliver-refused f e = rw (← e, ne_eqb (fault_number f) 0 (fault_some f))

  module _ (long : deliver_lent m bytes ≡ true) where
    unread : (block_refusal bytes ≡ 0 → ⊥) → block_refusal bytes ≡ deliver_refusal m bytes
    unfolding block_refusal deliver_refusal
    unread h =
        let p = past_first _ _ (ap not (eq-eqb (length bytes) 512 (lengths_long _ m.blocks.places m.blocks.outbox bytes long).bytes)) in
        p ∙ reader_first _ _ _ (λ z. h (p ∙ z)) ∙ sym (past_first _ _ (ap not long))

    pub deliver-unread : (r : Result Header BlockFault) (f : BlockFault) → r ≡ Err f → number_and_header r ≡ block_read bytes
        → outcome (refused (fault_number (from_block f))) m ≡ deliver_step m bytes
    deliver-unread r f e h =
        let k = reader_refused bytes r f e h in
        deliver-refused (from_block f) (k ∙ unread (λ z. fault_some (from_block f) (k ∙ z)))

    module _ (taken : block_refusal bytes ≡ 0) (h : Header) (head : h ≡ header_of bytes) where
      -- what is left to test, from the header
      past : deliver_refusal m bytes
          ≡ first_of
          (refuse 16 (not (eqb h.replicas m.group.replicas))
          ∷ refuse 17 (ltb h.slot m.turn.slot)
          ∷ refuse 29 (is_out m.group h.slot)
          ∷ refuse 18 (leb (m.turn.slot + m.group.replicas) h.slot)
          ∷ refuse 19 (eqb h.sender m.group.own && not (is_on m.turn.sent && same_bytes bytes m.blocks.outbox))
          ∷ refuse 20 (not (eqb (get_or m.blocks.places (place_start m.group.replicas h.slot) 0) 0))
          ∷ [])
      unfolding deliver_refusal first_of
      past = let t = is_taken bytes taken in rw (long, t.checks, t.forms, head)

      pub refused-group : (h.replicas ≡ m.group.replicas → ⊥) → 16 ≡ deliver_refusal m bytes
      unfolding first_of
      refused-group d = rw (past, ne_eqb h.replicas m.group.replicas d)

      module _ (group : h.replicas ≡ m.group.replicas) where
        pub refused-past : h.slot < m.turn.slot → 17 ≡ deliver_refusal m bytes
        unfolding first_of
        refused-past l = rw (past, eq-eqb h.replicas m.group.replicas group, lt-ltb h.slot m.turn.slot l)

        module _ (low : m.turn.slot ≤ h.slot) (out : Bool) (said : out ≡ is_out m.group h.slot) where
          pub refused-out : out ≡ true → 29 ≡ deliver_refusal m bytes
          unfolding first_of
          refused-out e = rw (past, eq-eqb h.replicas m.group.replicas group, le-ltb h.slot m.turn.slot low, ← said, e)

          module _ (live : out ≡ false) where
            -- past the slot's own tests
            near : deliver_refusal m bytes
                ≡ first_of
                (refuse 18 (leb (m.turn.slot + m.group.replicas) h.slot)
                ∷ refuse 19 (eqb h.sender m.group.own && not (is_on m.turn.sent && same_bytes bytes m.blocks.outbox))
                ∷ refuse 20 (not (eqb (get_or m.blocks.places (place_start m.group.replicas h.slot) 0) 0))
                ∷ [])
            unfolding first_of
            near = rw (past, eq-eqb h.replicas m.group.replicas group, le-ltb h.slot m.turn.slot low, ← said, live)

            pub refused-ahead : m.group.replicas ≤ h.slot - m.turn.slot → 18 ≡ deliver_refusal m bytes
            unfolding first_of
            refused-ahead l = rw (near, le-leb (m.turn.slot + m.group.replicas) h.slot (omega arith))

            module _ (high : h.slot - m.turn.slot < m.group.replicas) (own : Bool)
                (foreign : own ≡ eqb h.sender m.group.own && not (is_on m.turn.sent && same_bytes bytes m.blocks.outbox)) where
              pub refused-own : own ≡ true → 19 ≡ deliver_refusal m bytes
              unfolding first_of
              refused-own e = rw (near, lt-leb (m.turn.slot + m.group.replicas) h.slot (omega arith), ← foreign, e)

              module _ (here : own ≡ false) (at : ℕ) (place : at ≡ place_start m.group.replicas h.slot) where
                last : deliver_refusal m bytes ≡ first_of (refuse 20 (not (eqb (get_or m.blocks.places at 0) 0)) ∷ [])
                unfolding first_of
                last = rw (near, lt-leb (m.turn.slot + m.group.replicas) h.slot (omega arith), ← foreign, here, ← place)

                pub refused-taken : (get_or m.blocks.places at 0 ≡ 0 → ⊥) → 20 ≡ deliver_refusal m bytes
                unfolding first_of
                refused-taken d = rw (last, ne_eqb (get_or m.blocks.places at 0) 0 d)

                pub refused_not : get_or m.blocks.places at 0 ≡ 0 → 0 ≡ deliver_refusal m bytes
                unfolding first_of
                refused_not e = rw (last, eq-eqb (get_or m.blocks.places at 0) 0 e)

-- ---- the place

-- the place of a slot lies in the places
pub place_in : (n slot : ℕ) (places outbox bytes : List ℕ) → lengths_fit n (length places) (length outbox) (length bytes) ≡ true → 0 < n
    → (at : ℕ) → at ≡ place_start n slot → at + 512 ≤ length places
place_in n slot places outbox bytes long some at e =
    omega (arith, place-fits n slot some, (lengths_long n places outbox bytes long).places)

-- the place of a block that is not refused: its group has replicas
pub deliver_room : (group : Group) (turn : Turn) (slot : ℕ) (places outbox bytes : List ℕ) → lengths_fit group.replicas (length places) (length outbox) (length bytes) ≡ true
    → ((m : Memory) → 0 ≡ deliver_refusal (deliver_parts m group turn places outbox) bytes) → (at : ℕ) → at ≡ place_start group.replicas slot → at + 512 ≤ length places
deliver_room group turn slot places outbox bytes long taken =
    let m = made_memory 0 0 [] in
    let k = deliver_passed (deliver_parts m group turn places outbox) bytes (sym (taken m)) in
    let some : 0 < group.replicas = omega (arith, k.low, k.high) in
    place_in group.replicas slot places outbox bytes long some

pub deliver_kept : (m : Memory) (bytes : List ℕ) → 0 ≡ deliver_refusal m bytes → (h : Header) → h ≡ header_of bytes
    → (at : ℕ) → at ≡ place_start m.group.replicas h.slot → (ys : List ℕ) → ys ≡ bytes
    → outcome kept (with_blocks m (record { places = put_mid at (at + 512 - at) m.blocks.places ys; outbox = m.blocks.outbox; window = m.blocks.window })) ≡ deliver_step m bytes
unfolding deliver_step deliver_now
deliver_kept m bytes e h head at place ys q =
    let k = deliver_passed m bytes (sym e) in
    rw (← e, ← head, ← place, q, put-paste at m.blocks.places bytes k.long)
