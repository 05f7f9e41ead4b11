-- What the calls do with notices and out slots. Assumes nothing.
use Prim.Native.Nat.{ℕ, ◌≤◌, ◌<◌}
use mathlib.Core.Path.{◌≡◌, refl, ap, ◌∙◌}
use mathlib.Core.Logic.{◌⊎◌, inl, inr}
use mathlib.Core.Bool.{true, false, cond, not, ◌&&◌}
use mathlib.Core.List.Memᴰ
use mathlib.Core.List.{List, [], ◌∷◌, ◌++◌}
use native.Mathlib.Omega.{arith}
use lib.ListN.{length, replicate}
use borrow.Author.Tests.{eq-eqb, le-leb}
use Rattle.block.specs.Message.{max_slot, kind_fits, records_fit, tickets_differ, valid, all_values_fit}
use Rattle.block.specs.Bytes.{header_for, block_of}
use Rattle.block.specs.Answers.{first_of, header_of}
use Rattle.block.specs.Theorems.{Sendable}
use Rattle.block.proofs.BoolLaws.{joined}
use Rattle.block.proofs.FormLaws.{within_in}
use Rattle.block.proofs.Theorems.{theorems}
use Rattle.memory.specs.Memory.{Memory, owner_at, slot_limit, with_done, with_turn}
use Rattle.memory.specs.Notices.{Notice, is_out, with_notice, puts_out}
use Rattle.memory.specs.Turns.{advance}
use Rattle.engine.specs.Answers.{WorkDone, Outcome}
use Rattle.engine.specs.Answers.Answer.{worked, restarted}
use Rattle.engine.specs.Moves.{out_at_turn, work_lent, work_refusal, next_at_turn, out_blocks, pass_out}
use Rattle.engine.specs.Notices.{notice_refusal}
use Rattle.engine.specs.Calls.{step}
use Rattle.engine.specs.Calls.Call.{work, notice}
use Rattle.engine.specs.Restart.{blocks_in, is_from, last_own}
use Rattle.engine.specs.Shape.{Shape}
use Rattle.engine.specs.NoticeClaims.{OutPassed, AllOut, NoticeClaims}
use Rattle.engine.proofs.Tests.{bool_by, same_by, clash}
use Rattle.engine.proofs.Steps.{work-by, notice-by, restart-by}
use Rattle.engine.proofs.Passed.{notice_passed, out-passed, back-passed}
use Rattle.engine.proofs.NoticeLaws.{in_outage, is_out_lem, from_back, until-now, out-other, out-from, back_from, out-before, back-before}
use Rattle.engine.proofs.ShapeNotice.{about-few, newly-out}

-- ---- an out slot is passed

module _ {over : ℕ} (m : Memory) (S : Shape over m) (u : out_at_turn m ≡ true) where
  pub next-sendable : Sendable (next_at_turn m)
  unfolding valid kind_fits records_fit tickets_differ all_values_fit
  next-sendable = record {
    fields = joined refl
        (joined (within_in 2 6 m.group.replicas S.ranges.least S.ranges.most)
        (joined (le-leb m.turn.slot max_slot (let h = (in_outage m.group m.turn.slot u).slot in omega arith))
        (joined (eq-eqb (owner_at m.group m.turn.slot) _ refl) (joined refl refl))));
    values = refl;
  }

  lent-all : work_lent m ≡ true
  lent-all =
      let l = S.lengths in
      joined (eq-eqb _ _ l.places) (joined (eq-eqb _ _ l.items) (joined (eq-eqb _ _ l.queue) (joined (eq-eqb _ _ l.values) (joined (eq-eqb _ _ l.stamps) (eq-eqb _ _ l.window)))))

  -- a work there is not refused
  pub out-worked : work_refusal m ≡ 0
  unfolding work_refusal first_of
  out-worked = rw (lent-all, u) refl

  left_out : (step m work).memory ≡ with_turn m (advance m.turn) (with_done m.counts 0) (out_blocks m)
  unfolding pass_out
  left_out =
      work-by (λ (o : Outcome). o.memory ≡ with_turn m (advance m.turn) (with_done m.counts 0) (out_blocks m)) m (λ e v. refl)
      (λ a k. clash u a.live) (λ a k. clash u a.live) (λ z. absurd (z out-worked))

  passes-out : (s : WorkDone) × ((pass_out m).answer ≡ worked s) × OutPassed m s
  unfolding pass_out header_for
  passes-out =
      let r = theorems.round_trip (next_at_turn m) next-sendable in
      let h = (theorems.reading (block_of (next_at_turn m)) (record { bytes = r.bytes; taken = r.taken })).header in
      (_, refl, record { sender = refl; ticket = refl; moved = refl; aborted = refl; taken = r.taken; header = h ∙ ap header_for r.message; memory = left_out })

  works_out : (s : WorkDone) × ((step m work).answer ≡ worked s) × OutPassed m s
  works_out =
      work-by (λ (o : Outcome). (s : WorkDone) × (o.answer ≡ worked s) × OutPassed m s) m (λ e v. passes-out)
      (λ a k. clash u a.live) (λ a k. clash u a.live) (λ z. absurd (z out-worked))

-- ---- what is given back

module _ (notices : List Notice) (own : ℕ) where
  pub given_none : (d : List ℕ) (bs : List (List ℕ)) → AllOut notices own bs → last_own own notices d bs ≡ d
  unfolding last_own
  given_none d [] f = refl
  given_none d (b ∷ bs) f =
      let rest = given_none d bs (λ c q. f c (Memᴰ.tail q)) in
      bool_by (is_from own b) (λ e. rw (e, f b (Memᴰ.head refl) e) rest) (λ e. rw e rest)

  given-here : (d : List ℕ) (after : List (List ℕ)) (b : List ℕ) → is_from own b ≡ true → puts_out false notices own (header_of b).slot ≡ false → AllOut notices own after
      → last_own own notices d (b ∷ after) ≡ b
  unfolding last_own
  given-here d after b e o f = rw (e, o) (given_none b after f)

  pub given-last : (d : List ℕ) (before after : List (List ℕ)) (b : List ℕ) → is_from own b ≡ true → puts_out false notices own (header_of b).slot ≡ false → AllOut notices own after
      → last_own own notices d (before ++ (b ∷ after)) ≡ b
  unfolding last_own
  given-last d [] after b e o f = given-here d after b e o f
  given-last d (c ∷ before) after b e o f = given-last (cond (is_from own c && not (puts_out false notices own (header_of c).slot)) c d) before after b e o f

-- ---- a notice

pub group-noticed : (m : Memory) (a : Notice) → notice_refusal m a ≡ 0 → (step m (notice a)).memory.group ≡ with_notice m.group a
group-noticed m a e = notice-by (λ (o : Outcome). o.memory.group ≡ with_notice m.group a) m a (λ z. refl) (λ z. absurd (z e))

-- from its slot on, and every other slot from the turn on

module _ {over : ℕ} (m : Memory) (S : Shape over m) (a : Notice) (e : notice_refusal m a ≡ 0) (s : ℕ) where
  in-from : a.about < length m.group.from
  in-from = let h = about-few m S a e in omega (arith, S.lengths.from)

  in-until : a.about < length m.group.until
  in-until = let h = about-few m S a e in omega (arith, S.lengths.until)

  put-out : a.out ≡ true → owner_at m.group s ≡ a.about → a.slot ≤ s → s < slot_limit → is_out (with_notice m.group a) s ≡ true
  put-out b = out-from m.group a b in-from in-until s

  counted : a.out ≡ false → owner_at m.group s ≡ a.about → a.slot ≤ s → is_out (with_notice m.group a) s ≡ false
  counted b = back_from m.group a b in-until s

  left_alone : m.turn.slot ≤ s → (owner_at m.group s ≡ a.about → s < a.slot) → is_out (with_notice m.group a) s ≡ is_out m.group s
  left_alone lo h =
      same_by (owner_at m.group s) a.about
      (λ q. bool_by a.out
      (λ b. out-before m.group a b in-from s q (h q) (let p = (out-passed m a e b).ended in omega arith))
      (λ b. back-before m.group a b in-until s q (h q) (notice_passed m a e).range (back-passed m a e b).endless))
      (λ d. out-other m.group a s d)

-- the slots that the turn has passed

module _ {over : ℕ} (m : Memory) (S : Shape over m) (a : Notice) (e : notice_refusal m a ≡ 0) (s : ℕ) (low : s < m.turn.slot) where
  above : s < a.slot
  above = let t = (notice_passed m a e).turn in omega arith

  none_out : is_out (with_notice m.group a) s ≡ true → is_out m.group s ≡ true
  none_out u = go (newly-out m S a e s u)
    where
      go : (is_out m.group s ≡ true) ⊎ ((a.out ≡ true) × (owner_at m.group s ≡ a.about) × (a.slot ≤ s)) → is_out m.group s ≡ true
      go (inl v) = v
      go (inr n) = absurd (let h = above in let k = n.2 in let z : ⊥ = omega arith in z)

  none-back : a.out ≡ false → is_out m.group s ≡ true → is_out (with_notice m.group a) s ≡ true
  none-back b u =
      let o = in_outage m.group s u in
      same_by (owner_at m.group s) a.about
      (λ q. is_out_lem (with_notice m.group a) s (record {
        slot = o.slot;
        low = rw (from_back m.group a b) o.low;
        high = rw (q, until-now m.group a (let h = about-few m S a e in omega (arith, S.lengths.until)), b) above;
      }))
      (λ d. out-other m.group a s d ∙ u)

pub notice_claims : NoticeClaims
notice_claims = record {
  works = works_out;
  gives = λ m n own values journal notices block r before after b e f o h.
      restart-by (λ (q : Outcome). q.answer ≡ restarted (length (blocks_in n journal)) b) m n own values journal notices block
      (λ z. ap (restarted (length (blocks_in n journal))) (ap (last_own own notices (replicate 512 0)) e ∙ given-last notices own (replicate 512 0) before after b f o h))
      (λ z. absurd (z r));
  gives_none = λ m n own values journal notices block r h.
      restart-by (λ (q : Outcome). q.answer ≡ restarted (length (blocks_in n journal)) (replicate 512 0)) m n own values journal notices block
      (λ z. ap (restarted (length (blocks_in n journal))) (given_none notices own (replicate 512 0) (blocks_in n journal) h))
      (λ z. absurd (z r));
  outs = λ m S a b e s. rw (group-noticed m a e) (put-out m S a e s b);
  again = λ m S a b e s. rw (group-noticed m a e) (counted m S a e s b);
  others = λ m S a e s. rw (group-noticed m a e) (left_alone m S a e s);
  notices = λ m S a e s low. rw (group-noticed m a e) (none_out m S a e s low);
  backs = λ m S a b e s low. rw (group-noticed m a e) (none-back m S a e s low b);
}
