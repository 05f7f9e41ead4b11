-- A restart does what the model's restart does, and what holds of a replica's memory holds after it. Assumes nothing.
use Prim.Native.Nat.{ℕ, ◌*◌, ◌/◌, ◌≤◌, ◌<◌}
use mathlib.Core.Path.{◌≡◌, refl, ap, ◌∙◌, subst}
use mathlib.Core.Bool.{true, cond}
use mathlib.Core.Option.{Option, none, some}
use mathlib.Core.List.{List, [], ◌∷◌, map}
use native.Mathlib.Omega.{arith}
use lib.IntN.{ℤ}
use lib.ListN.{length, replicate, length-map, length-replicate, length-set}
use borrow.Author.Tests.{eq-eqb, ne_eqb}
use Rattle.block.specs.Message.{owner_of, signed32}
use Rattle.memory.specs.declared.Group.{Group}
use Rattle.memory.specs.Memory.{Memory, slot_limit, group_of}
use Rattle.memory.specs.Notices.{Notice, with_notice, with_notices}
use Rattle.engine.specs.Make.{SettingOf}
use Rattle.engine.specs.Answers.{Outcome}
use Rattle.engine.specs.Answers.Answer.{restarted}
use Rattle.engine.specs.Moves.{waiting}
use Rattle.engine.specs.Restart.{is_good, blocks_in, start_replay, repeated, last_own, restarted_memory, restart_refusal}
use Rattle.engine.specs.History.{AnyCall, any_step}
use Rattle.engine.specs.History.AnyCall.{call, restart}
use Rattle.engine.proofs.Tests.{cond_by, same_by, not_first}
use Rattle.engine.proofs.Steps.{restart-by}
use Rattle.engine.proofs.Passed.{restart_passed, restart_places}
use Rattle.engine.proofs.ShapeMade.{get_or-zeros}
use Rattle.engine.proofs.NoticeLaws.{notices_kept}
use Rattle.engine.proofs.RestartLaws.{AllGood, reads_good, reads_few, count-few}
use Rattle.engine.proofs.ShapeRestart.{shape_restarted}
use Rattle.engine.proofs.Sent.{sent-shapes}
use Rattle.protocol.specs.Lists.{opt}
use Rattle.protocol.specs.Writesets.{Message}
use Rattle.protocol.specs.Notices.{Outage, outage_after, outages_after, outages_of, no_outages}
use Rattle.protocol.specs.Journal.{in_slot_order, last_of, start_store, restored}
use Rattle.protocol.specs.Blocks.{read_blocks}
use Rattle.protocol.specs.System.{step}
use Rattle.protocol.specs.Machine.{Alike}
use Rattle.agreement.specs.Group.{message_in, notice_in, arguments_of, given_in, heard}
use Rattle.agreement.proofs.View.{setup, rows_from, place_at, outages_in, view, Sound, meant}
use Rattle.agreement.proofs.NoticeStep.{owner_below, outages_now}
use Rattle.agreement.proofs.Soundness.{fits_zeros, sound_each}
use Rattle.agreement.proofs.RestartView.{reads_in_order, highest_own_lem, given-last, Same, blocks_same}

-- the messages of the lent blocks, up to one that is torn, fails its check or form, or has another N
abbrev pub lent_messages : ℕ → List ℕ → List (Message ℤ)
lent_messages n journal = map message_in (read_blocks 512 (is_good n) (length journal / 512) journal)

-- the model's call
abbrev pub meant_by : AnyCall → Rattle.protocol.specs.System.Call ℤ
meant_by (call c) = meant c
meant_by (restart n own values journal notices block) = Rattle.protocol.specs.System.Call.restart (lent_messages n journal) (map notice_in notices)

pub not_nine : (m : Memory) (n k : ℕ) (start : List ℤ) (block : List ℕ) → restart_refusal m n k start block ≡ 9 → ⊥
unfolding restart_refusal
not_nine m n k start block = not_first 9 _ refl

-- ---- the memory

-- the outages of the notices lent
outages-same : (l : List Notice) (g : Group) (f : ℕ → Outage) → length g.from ≡ 6 → length g.until ≡ 6 → ((k : ℕ) → k < 6 → outages_in g k ≡ f k)
    → (k : ℕ) → k < 6 → outages_in (with_notices g l) k ≡ outages_of slot_limit f (map notice_in l) k
unfolding with_notices outages_of
outages-same [] g f a b h k q = h k q
outages-same (c ∷ l) g f a b h k q =
    outages-same l (with_notice g c) (outages_after slot_limit f (notice_in c))
    (cond_by (λ (i : List ℕ). length i ≡ 6) c.out (λ z. length-set g.from c.about c.slot ∙ a) (λ z. a))
    (length-set g.until c.about (cond c.out slot_limit c.slot) ∙ b)
    (λ j u. outages_now g c a b j u
    ∙ same_by j c.about
    (λ e. rw (eq-eqb j c.about e) (ap (λ (z : Outage). outage_after slot_limit z (notice_in c)) (h c.about (omega arith))))
    (λ d. rw (ne_eqb j c.about d) (h j u)))
    k q

module _ (n k : ℕ) (start : List ℤ) (six : n ≤ 6) (some-replica : 0 < n) (notices : List Notice) (bs : List (List ℕ)) (good : AllGood n bs) (few : length bs ≤ 100_000_000) where
  start-same : Same (start_replay start) (start_store (setup n start))
  start-same = record { commits = refl; values = refl; stamps = λ i. get_or-zeros 128 i; long = length-replicate {A = ℕ} 128 0 }

  restored-alike : Alike (setup n start) (restored (setup n start) k (map notice_in notices) (map message_in bs)) (view (restarted_memory n k start notices bs))
  unfolding restarted_memory waiting rows_from place_at
  restored-alike =
      let c = count-few n bs good in
      let s = blocks_same n bs good (start_replay start) (start_store (setup n start)) start-same (omega arith) in
      record {
        own = (notices_kept (group_of n k) notices).own;
        cursor = rw (length-map bs message_in);
        commits = s.commits;
        values = s.values;
        stamps = s.stamps;
        tickets = highest_own_lem n k bs good;
        queue = refl;
        there = λ u h. h;
        back = λ u h. h;
        places = λ p. rw (get_or-zeros (512 * n) (512 * p));
        outages = λ t. outages-same notices (group_of n k) no_outages refl refl (λ j h. rw (get_or-zeros 6 j)) (owner_of n t) (let h = owner_below n t some-replica in omega arith);
      }

-- ---- the call

given_none : (o : Option (Message ℤ)) → opt o none some ≡ o
given_none none = refl
given_none (some m) = refl

module _ (n : ℕ) (start : List ℤ) (m : Memory) (journal : List ℕ) (notices : List Notice) (block : List ℕ) where
  abbrev bs : List (List ℕ)
  bs = blocks_in n journal

  good : AllGood n bs
  good = reads_good n 0 (length journal / 512) journal

  few : length bs ≤ 100_000_000
  few = let a = reads_few n 0 (length journal / 512) journal (omega arith) in omega arith

  pub read-messages : map message_in (blocks_in n journal) ≡ in_slot_order 0 (lent_messages n journal)
  read-messages = reads_in_order n 0 (length journal / 512) journal

  zeros-none : given_in (replicate 512 0) ≡ none
  zeros-none = refl

  pub given_back : (k : ℕ) → given_in (last_own k notices (replicate 512 0) (blocks_in n journal)) ≡ last_of k (map notice_in notices) (map message_in (blocks_in n journal))
  given_back k = given-last notices n k (replicate 512 0) bs good ∙ rw zeros-none (given_none (last_of k (map notice_in notices) (map message_in bs)))

  -- lent the replica's own number
  pub restart-event : heard (restart n m.group.own start journal notices block) (restarted (length (blocks_in n journal)) (last_own m.group.own notices (replicate 512 0) (blocks_in n journal)))
      ≡ (step (setup n start) (view m) (Rattle.protocol.specs.System.Call.restart (lent_messages n journal) (map notice_in notices))).event
  unfolding heard step
  restart-event =
      rw (given_back m.group.own, read-messages) refl

  pub restart-alike : n ≤ 6 → 0 < n → Alike (setup n start) (step (setup n start) (view m) (Rattle.protocol.specs.System.Call.restart (lent_messages n journal) (map notice_in notices))).replica
      (view (restarted_memory n m.group.own start notices (blocks_in n journal)))
  unfolding step
  restart-alike six some-replica = rw (← read-messages) (restored-alike n m.group.own start six some-replica notices bs good few)

-- ---- what holds of the memory

pub sound_restarted : (n k : ℕ) (start : List ℤ) → SettingOf n k start → (journal : List ℕ) (notices : List Notice) → Sound n (restarted_memory n k start notices (blocks_in n journal))
unfolding restarted_memory
sound_restarted n k start g journal notices = record {
  over = repeated k (blocks_in n journal);
  shape = shape_restarted n k start g journal notices;
  sent = sent-shapes.restarted n k start journal notices;
  size = (notices_kept (group_of n k) notices).replicas;
  fits = fits_zeros 48;
}

-- a restart that is accepted has the N of the memory, whose places are as many
pub same_size : (n : ℕ) (m : Memory) → Sound n m → (size own : ℕ) (values : List ℤ) (block : List ℕ) → restart_refusal m size own values block ≡ 0 → size ≡ n
same_size n m s size own values block e = omega (arith, restart_places m size own values block e, s.shape.lengths.places, s.size)

-- of any call, lent anything
pub sound_any : (n : ℕ) (m : Memory) → Sound n m → (c : AnyCall) → signed32 (arguments_of c).value ≡ true → Sound n (any_step m c).memory
sound_any n m s (call c) v = sound_each n m s c v
sound_any n m s (restart size own values journal notices block) v =
    restart-by (λ (o : Outcome). Sound n o.memory) m size own values journal notices block
    (λ e. let p = restart_passed m size own values block e in
    subst (λ (i : ℕ). Sound i (restarted_memory size own values notices (blocks_in size journal))) (same_size n m s size own values block e) (sound_restarted size own values p journal notices))
    (λ e. s)
