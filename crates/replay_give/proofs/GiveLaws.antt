-- What a giving shows, by the reply that it gives. Assumes nothing.
use Prim.Native.Nat.{ℕ, suc, ◌+◌, ◌-◌, ◌≤◌}
use mathlib.Core.Path.{◌≡◌}
use mathlib.Core.List.{List, [], ◌∷◌, ◌++◌, append_assoc}
use mathlib.Core.Logic.{◌⊎◌, inl, inr}
use native.Mathlib.Omega.{arith}
use borrow.Author.Tests.{ne_eqb}
use lib.Dec.{eqb}
use lib.ListN.{length, take, replicate}
use lib.Seq.{take-append_seam}
use Rattle.engine.proofs.Tests.{bool_by}
use Rattle.memory.specs.Memory.{Memory}
use Rattle.giving.specs.Giving.{give_step}
use Rattle.call_reply.specs.Replies.{six_of}
use Rattle.call_give.specs.declared.GiveReply.{GiveReply}
use Rattle.call_give.specs.Gifts.{giver_named, give_reply}
use Rattle.replay_journal.specs.declared.Change.TheVariants.{Stays}
use Rattle.replay_replica.proofs.EffectLaws.{six-few}
use Rattle.replay_give.specs.Givings.{names_nobody, numbers_shown, count_shown, give_effect}

-- ---- how many

module _ (number count : ℕ) where
  pub count_none : (number ≡ 1) ⊎ ((number ≡ 25) ⊎ (number ≡ 30)) → 0 ≡ count_shown number count
  unfolding count_shown
  count_none (inl e) = rw e
  count_none (inr (inl e)) = rw e
  count_none (inr (inr e)) = rw e

  pub count-one : number ≡ 31 → 1 ≡ count_shown number count
  unfolding count_shown
  count-one e = rw e

  pub count-all : ((number ≡ 1) ⊎ ((number ≡ 25) ⊎ (number ≡ 30)) → ⊥) → (number ≡ 31 → ⊥) → 2 + count ≡ count_shown number count
  unfolding count_shown
  count-all h k =
      rw (
        ne_eqb number 1 (λ e. h (inl e)),
        ne_eqb number 25 (λ e. h (inr (inl e))),
        ne_eqb number 30 (λ e. h (inr (inr e))),
        ne_eqb number 31 k,
      )

-- ---- which

shows_all : (number giver : ℕ) (tickets zeros : List ℕ)
    → take (count_shown number (length tickets)) (giver ∷ (length tickets ∷ (six_of tickets ++ zeros))) ≡ numbers_shown number giver tickets
unfolding count_shown
shows_all number giver tickets zeros =
    let e : 2 + length tickets ≡ suc (suc (length tickets)) = omega arith in
    bool_by (names_nobody number)
    (λ n. rw n)
    (λ n. bool_by (eqb number 31)
    (λ k. rw (n, k))
    (λ k. rw (n, k, e, append_assoc tickets (replicate (6 - length tickets) 0) zeros, take-append_seam tickets (replicate (6 - length tickets) 0 ++ zeros))))

pub give_effect_lem : (block : List ℕ) (m : Memory) (told lent zeros : List ℕ) {r : GiveReply} {left : Memory} → r ≡ give_reply m told lent → left ≡ (give_step m told lent).memory
    → record {
      number = r.number;
      numbers = take (count_shown r.number r.count) (r.giver ∷ (r.count ∷ (r.aborted ++ zeros)));
      values = [];
      block = block;
      memory = left;
      change = Stays;
    } ≡ give_effect block m told lent
give_effect_lem block m told lent zeros e k =
    let o = give_step m told lent in
    rw (e, k, shows_all o.number (giver_named m told lent) o.aborted zeros)

-- six tickets at most
pub give_few : (m : Memory) (told lent : List ℕ) {r : GiveReply} → r ≡ give_reply m told lent → length r.aborted ≡ 6 → r.count ≤ 6
give_few m told lent e h = rw e (six-few (give_step m told lent).aborted (rw e at h))
