-- A replica's journal has the blocks put down and the *nexts* of out slots, in slot order, up to its turn and what it has sent for it. Assumes nothing.
use Prim.Native.Nat.{ℕ, suc, ◌+◌, ◌*◌, ◌/◌, ◌<◌}
use mathlib.Core.Path.{◌≡◌, refl, sym, ap, ◌∙◌, subst}
use mathlib.Core.Bool.{true, false}
use mathlib.Core.List.{List, [], ◌∷◌, append-nil, map}
use native.Mathlib.Nat.{lt-mul-div-succ}
use native.Mathlib.Omega.{arith}
use lib.IntN.{ℤ}
use lib.ListN.{length, length-map, get_or, take}
use lib.Seq.{take_all}
use borrow.Author.Tests.{eq-eqb}
use Rattle.block.specs.Message.{owner_of}
use Rattle.block.proofs.AnswerLaws.{is_taken}
use Rattle.memory.specs.Notices.{Notice}
use Rattle.engine.specs.Restart.{is_good, blocks_in}
use Rattle.engine.proofs.Tests.{clash}
use Rattle.engine.proofs.RestartLaws.{good_taken}
use Rattle.protocol.specs.Lists.{Mem}
use Rattle.protocol.specs.Writesets.{Message}
use Rattle.protocol.specs.Journal.{journal, in_slot_order, next_of}
use Rattle.protocol.specs.Blocks.{all_bytes, read_blocks}
use Rattle.protocol.specs.Observer.{handout_message}
use Rattle.protocol.proofs.BlockLaws.{Read, read-part}
use Rattle.protocol.proofs.ListLaws.{get_or-map_in}
use Rattle.protocol.proofs.Fates.{out_of}
use Rattle.protocol.proofs.Slots.{OfSlot, is_next_of, is_handed, slot-journaled}
use Rattle.agreement.specs.Group.{message_in, Members, fresh, run}
use Rattle.agreement.specs.Journals.{blocks_at, message_at, out_in, JournalTheorem}
use Rattle.agreement.proofs.View.{setup}
use Rattle.agreement.proofs.RestartView.{reads_in_order, read_enough}
use Rattle.agreement.proofs.RestartStep.{lent_messages}
use Rattle.agreement.proofs.JournalView.{OnDisk}
use Rattle.agreement.proofs.Runs.{fresh_kept, kept_run}
use Rattle.agreement.proofs.Premises.{length-all_bytes}
use Rattle.agreement.proofs.OneList.{model_lists, outs-same}
use Rattle.agreement.proofs.Theorem.{owes, journals_after, InvAfter, inv-after}
use Rattle.agreement.proofs.JournalLength.{journal-length}

module _ (n : ℕ) (l : List ℕ) (K : List (Message ℤ)) (H : OnDisk n l K) where
  long : length l ≡ 512 * length H.blocks
  long = ap length (sym H.joined) ∙ length-all_bytes n H.blocks H.good

  -- all blocks are read
  part : Read 512 (omega arith) (is_good n) H.blocks (take (length l) (all_bytes H.blocks)) (length H.blocks)
  part = read-part 512 (omega arith) (is_good n) (length H.blocks) H.blocks (omega arith) (λ x q. ((is_taken x (good_taken n x (H.good x q))).long, H.good x q)) (length l)

  all-bytes : take (length l) (all_bytes H.blocks) ≡ l
  all-bytes = ap (take (length l)) H.joined ∙ take_all (length l) l (omega arith)

  read-blocks : read_blocks 512 (is_good n) (length l / 512) l ≡ H.blocks
  read-blocks =
      read_enough (is_good n) (length l / 512) (length H.blocks) l (let h = lt-mul-div-succ (length l) {b = 512} (omega arith) in omega arith) (let e = long in omega arith)
      ∙ ap (read_blocks 512 (is_good n) (length H.blocks)) (sym all-bytes) ∙ part.read
      ∙ take_all part.count H.blocks (part.whole (length H.blocks) (let e = long in let a = ap length all-bytes in omega arith))

  all-messages : lent_messages n l ≡ K
  all-messages = ap (map message_in) read-blocks ∙ H.says

-- messages of slots s, s + 1 and so on are in slot order
order_all : (l : List (Message ℤ)) (d : Message ℤ) (s : ℕ) → ((i : ℕ) → i < length l → (get_or l i d).slot ≡ s + i) → in_slot_order s l ≡ l
unfolding in_slot_order
order_all [] d s h = refl
order_all (m ∷ l) d s h =
    rw (eq-eqb m.slot s (let a = h 0 (omega arith) in omega arith), order_all l d (suc s) (λ i u. let a = h (suc i) (omega arith) in let e : suc s + i ≡ s + suc i = omega arith in a ∙ sym e)) refl

-- what block i is, from what the model says of slot i
module _ (n : ℕ) (start : List ℤ) (l : ℕ → List Notice) (its : (k : ℕ) (a : Notice) → Mem a (l k) → a.about ≡ k) (B D : List (Message ℤ)) (known : (m : Message ℤ) → Mem m B → Mem m D) where
  abbrev Of : ℕ → Message ℤ → Type 0
  Of = OfSlot (setup n start) (out_of (setup n start) (model_lists l)) B

  slot_is : (s : ℕ) (m : Message ℤ) → Of s m → m.slot ≡ s
  slot_is s m (is_next_of o e) = ap (λ (x : Message ℤ). x.slot) e
  slot_is s m (is_handed o e h) = e

  out-is : (s : ℕ) → out_of (setup n start) (model_lists l) s ≡ out_in n l s
  out-is s = outs-same l its (owner_of n s) s

  live-is : (s : ℕ) (m : Message ℤ) → out_in n l s ≡ false → Of s m → Mem m D × (m.slot ≡ s)
  live-is s m u (is_next_of o e) = clash (sym (out-is s) ∙ o) u
  live-is s m u (is_handed o e h) = (known m h, e)

  next-is : (s : ℕ) (m : Message ℤ) → out_in n l s ≡ true → Of s m → m ≡ next_of s (owner_of n s)
  next-is s m u (is_next_of o e) = e
  next-is s m u (is_handed o e h) = clash u (sym (out-is s) ∙ o)

  in_order : (count : ℕ) (bytes : List ℕ) (K : List (Message ℤ)) → OnDisk n bytes K → ((s : ℕ) → s < length K → Of s (get_or K s (next_of 0 0))) → length bytes ≡ 512 * count
      → (whole : length bytes ≡ 512 * count) × (length (blocks_in n bytes) ≡ count) × ((i : ℕ) → i < count → Of i (message_at n bytes i))
  in_order count bytes K H each w = (w, sym (length-map (blocks_in n bytes) message_in) ∙ ap length messages ∙ all, λ i h. subst (Of i) (at i h) (each i (let a = all in omega arith)))
    where
      all : length K ≡ count
      all = let a = long n bytes K H in let b = length-map H.blocks message_in in let c = ap length H.says in omega arith

      messages : map message_in (blocks_in n bytes) ≡ K
      messages =
          reads_in_order n 0 (length bytes / 512) bytes ∙ ap (in_slot_order 0) (all-messages n bytes K H)
          ∙ order_all K (next_of 0 0) 0 (λ i h. let a = slot_is i _ (each i h) in omega arith)

      at : (i : ℕ) → i < count → get_or K i (next_of 0 0) ≡ message_at n bytes i
      at i h =
          ap (λ (x : List (Message ℤ)). get_or x i (next_of 0 0)) (sym messages)
          ∙ get_or-map_in message_in [] (next_of 0 0) (blocks_in n bytes) i (let a = ap length messages in let b = length-map (blocks_in n bytes) message_in in let c = all in omega arith)

pub journals : JournalTheorem
journals n start setting cs f p k h = record {
  whole = R.0;
  read = R.1;
  live = λ i u o. live-is n start p.lists p.one.of_its B D known i _ o (R.2 i u);
  out = λ i u o. next-is n start p.lists p.one.of_its B D known i _ o (R.2 i u);
}
  where
    G : Members
    G = run (fresh n start) cs

    B : List (Message ℤ)
    B = map message_in (run (fresh n start) cs).blocks

    D : List (Message ℤ)
    D = map handout_message (run (fresh n start) cs).handouts

    I : InvAfter n start setting p.lists cs
    I = inv-after n start setting cs f p cs [] (sym (append-nil cs))

    known : (m : Message ℤ) → Mem m B → Mem m D
    known m q = I.inv.listed.same.each m q

    R : (length (G.disks k).journal ≡ 512 * blocks_at (G.memories k).turn) × (length (blocks_in n (G.disks k).journal) ≡ blocks_at (G.memories k).turn)
        × ((i : ℕ) → i < blocks_at (G.memories k).turn → Of n start p.lists p.one.of_its B D known i (message_at n (G.disks k).journal i))
    R = in_order n start p.lists p.one.of_its B D known (blocks_at (G.memories k).turn) (G.disks k).journal (journals_after n start setting cs k).kept
        ((kept_run n start setting (owes n start) cs f (λ j. journal [] 0) (fresh n start) p.calls (fresh_kept n start setting (owes n start))).disks k h)
        (slot-journaled (setup n start) (out_of (setup n start) (model_lists p.lists)) _ I.inv k) (journal-length n start setting cs f k h)
