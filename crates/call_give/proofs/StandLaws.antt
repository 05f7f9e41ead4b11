-- Where the code is when a call of a giving is done. Assumes nothing.
use Prim.Native.Nat.{ℕ, ◌+◌, ◌≤◌}
use mathlib.Core.Path.{◌≡◌, refl, ap, ◌∙◌}
use mathlib.Core.Bool.{true, false, cond}
use mathlib.Core.List.{List, [], ◌∷◌}
use native.Mathlib.Omega.{arith}
use lib.IntN.{ℤ}
use lib.ListN.{length, get_or}
use borrow.Author.Tests.{eq-eqb, ne_eqb}
use Rattle.memory.specs.declared.Group.{Group}
use Rattle.memory.specs.Memory.{Memory, span}
use Rattle.memory.specs.Rows.{open_count, end_rows}
use Rattle.memory.specs.Turns.{place_start}
use Rattle.engine.specs.Answers.{Answer}
use Rattle.engine.specs.Answers.Answer.{refused, made, began, got, wrote, queued, read_only, withdrew, reported, sent, kept, worked, loaded, noticed, restarted}
use Rattle.engine.specs.Calls.{step}
use Rattle.engine.specs.Calls.Call.{deliver, work}
use Rattle.engine.specs.Moves.{out_at_turn, deliver_step, work_step}
use Rattle.giving.specs.Giving.{aborted_in, gathered, Going, doing, is_wanted}
use Rattle.giving.proofs.Freed.{length-gathered, work_frees, deliver_names}
use Rattle.call_reply.specs.declared.WorkReply.{WorkReply}
use Rattle.call_reply.specs.declared.Worked.{Worked}
use Rattle.call_reply.specs.Replies.{step_in, six_of, number, work_reply, worked_reply, unworked}
use Rattle.call_give.specs.declared.Giving.{Giving}
use Rattle.call_give.specs.Gifts.{give_parts, Stands, Follows}
use Rattle.call_give.proofs.TicketLaws.{six-gathered}

-- ---- a work

aborted_in_lem : (a : Answer) → (step_in a).aborted ≡ aborted_in a
aborted_in_lem (refused n) = refl
aborted_in_lem made = refl
aborted_in_lem (began t) = refl
aborted_in_lem (got v) = refl
aborted_in_lem wrote = refl
aborted_in_lem queued = refl
aborted_in_lem read_only = refl
aborted_in_lem withdrew = refl
aborted_in_lem (reported r) = refl
aborted_in_lem (sent b) = refl
aborted_in_lem kept = refl
aborted_in_lem (worked s) = refl
aborted_in_lem loaded = refl
aborted_in_lem noticed = refl
aborted_in_lem (restarted c b) = refl

-- a work on m with this reply
module _ (m : Memory) (r : WorkReply) (is : r ≡ work_reply (work_step m)) where
  abbrev gone : List ℕ
  gone = aborted_in (work_step m).answer

  gone-count : r.count ≡ length gone
  gone-count = ap (λ (x : WorkReply). x.count) is ∙ ap length (aborted_in_lem (work_step m).answer)

  gone-six : r.aborted ≡ six_of gone
  gone-six = ap (λ (x : WorkReply). x.aborted) is ∙ ap six_of (aborted_in_lem (work_step m).answer)

  -- what it names and the rows that it leaves open are no more than were open
  frees : r.count + open_count (work_step m).memory.txns.table ≤ open_count m.txns.table
  unfolding step
  frees = omega (arith, gone-count, work_frees m)

  pub room_for : (n : ℕ) → n + open_count m.txns.table ≤ 6 → n + r.count ≤ 6
  room_for n h = omega (arith, frees)

  pub room-left : (n : ℕ) → n + open_count m.txns.table ≤ 6 → (left : Memory) → left ≡ (work_step m).memory → n + r.count + open_count left.txns.table ≤ 6
  room-left n h left e = rw e (omega (arith, frees))

-- q, i, v, s, p, o, k: queue, items, values, stamps, places, outbox and window after the work
pub stands_worked : (g : Going) (before after : Giving) (w : Worked) (mem : Memory) → Stands g before mem → worked_reply 0 w ≡ work_reply (work_step mem)
    → (m : Memory) (group : Group) (q i : List ℕ) (v : List ℤ) (s p o k : List ℕ)
    → give_parts m group w.turn w.counts (end_rows w.ended before.rows) q i v s p o k ≡ (work_step mem).memory
    → before.count + w.count ≤ 6 → Follows before w after
    → Stands (doing g work) after (give_parts m group after.turn after.counts after.rows q i v s p o k)
unfolding doing step
stands_worked g before after w mem S reply m group q i v s p o k leaves few F =
    let l = g.aborted in
    let ts = gone mem (worked_reply 0 w) reply in
    let same : aborted_in (work_step g.memory).answer ≡ ts = rw (← S.memory) in
    let c = S.count in
    let n = gone-count mem (worked_reply 0 w) reply in
    let all = length-gathered ts l in
    record {
      memory = rw (F.turn, F.counts, F.rows) (leaves ∙ rw S.memory);
      number = F.number ∙ ap (λ (x : WorkReply). x.number) reply ∙ rw S.memory;
      count = F.count ∙ rw same (omega arith);
      aborted = rw same (six-gathered l ts after.aborted (omega arith) (rw (c, n, gone-six mem (worked_reply 0 w) reply, S.aborted) at F.named) (rw (c, n, S.aborted) at F.behind));
    }

no_items : (l : List ℕ) → 0 ≡ length l → l ≡ []
no_items [] h = refl
no_items (x ∷ xs) h = absurd (omega (arith, h))

-- a refused work leaves all but the number
pub stands_unworked : (g : Going) (before : Giving) (n : ℕ) (mem : Memory) → Stands g before mem → worked_reply n (unworked before.turn before.counts) ≡ work_reply (work_step mem)
    → (m : Memory) (group : Group) (q i : List ℕ) (v : List ℤ) (s p o k : List ℕ)
    → give_parts m group before.turn before.counts before.rows q i v s p o k ≡ (work_step mem).memory
    → Stands (doing g work) (record before { number = n }) (give_parts m group before.turn before.counts before.rows q i v s p o k)
unfolding doing step gathered
stands_unworked g before n mem S reply m group q i v s p o k leaves =
    let r = worked_reply n (unworked before.turn before.counts) in
    let none : aborted_in (work_step g.memory).answer ≡ [] = rw (← S.memory) (no_items (gone mem r reply) (gone-count mem r reply)) in
    record {
      memory = leaves ∙ rw S.memory;
      number = ap (λ (x : WorkReply). x.number) reply ∙ rw S.memory;
      count = rw none S.count;
      aborted = rw none S.aborted;
    }

-- ---- a deliver, where the block is wanted

module _ (m : Memory) (g : Going) (here : m ≡ g.memory) (block : List ℕ) where
  abbrev delivered : Going
  delivered = cond (is_wanted g.memory) (doing g (deliver block)) g

  pub wanted-not : is_wanted m ≡ false → delivered ≡ g
  wanted-not e = rw (← here, e)

  -- a deliver names no ticket
  pub wanted-number : is_wanted m ≡ true → (n : ℕ) → n ≡ number (deliver_step m block) → n ≡ delivered.number
  unfolding doing step
  wanted-number e n is = is ∙ rw (← here, e)

  pub wanted-memory : is_wanted m ≡ true → (left : Memory) → left ≡ (deliver_step m block).memory → left ≡ delivered.memory
  unfolding doing step
  wanted-memory e left is = is ∙ rw (← here, e)

  pub wanted-aborted : is_wanted m ≡ true → g.aborted ≡ delivered.aborted
  unfolding doing step gathered
  wanted-aborted e = rw (← here, e, (deliver_names m block).0)

-- ---- what is wanted

module _ (m : Memory) where
  pub out-unwanted : out_at_turn m ≡ true → is_wanted m ≡ false
  out-unwanted e = rw e

  module _ (live : out_at_turn m ≡ false) (k : ℕ) (kind : k ≡ get_or m.blocks.places (place_start (span m.group) m.turn.slot) 0) where
    pub full-unwanted : (k ≡ 0 → ⊥) → is_wanted m ≡ false
    full-unwanted h = rw (live, ← kind, ne_eqb k 0 h)

    pub empty-wanted : k ≡ 0 → is_wanted m ≡ true
    empty-wanted h = rw (live, ← kind, eq-eqb k 0 h)
