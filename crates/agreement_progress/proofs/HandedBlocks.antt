-- The blocks handed out: each is good and of this group; the one of a replica's turn that it has sent is its block sent last. Assumes nothing.
use Prim.Native.Nat.{ℕ}
use mathlib.Core.Path.{◌≡◌, refl, sym, ap, ◌∙◌, subst}
use mathlib.Core.Bool.{Bool, true, false, cond, not, ◌&&◌}
use mathlib.Core.Logic.{◌⊎◌, inl, inr}
use mathlib.Core.Option.{none, some}
use mathlib.Core.List.Memᴰ
use mathlib.Core.List.{List, [], ◌∷◌, ◌++◌}
use lib.Dec.{eqb}
use lib.IntN.{ℤ}
use lib.ListN.{get_or, replicate}
use borrow.Author.Tests.{eqb-true, eqb-false}
use Rattle.block.specs.Message.{Record}
use Rattle.block.specs.Bytes.{block_of}
use Rattle.block.specs.Form.{message_of}
use Rattle.block.specs.Answers.{block_refusal, header_of}
use Rattle.block.proofs.BoolLaws.{both}
use Rattle.block.proofs.Theorems.{theorems}
use Rattle.memory.specs.Memory.{Memory}
use Rattle.memory.specs.Notices.{Notice, puts_out}
use Rattle.engine.specs.Answers.{Outcome}
use Rattle.engine.specs.Answers.Answer.{restarted}
use Rattle.engine.specs.Client.{begin_at, read_only_at, queue_at, rewrite_at, insert_write, stale_at, withdraw_at, report_step}
use Rattle.engine.specs.Moves.{message_for, sent_already, send_refusal, send_now, deliver_now, block_at_turn, writeset_at, is_last, pass_next, commit_writeset, pass_out}
use Rattle.engine.specs.Calls.{Call, step}
use Rattle.engine.specs.Calls.Call.{begin, read, write, ask, withdraw, report, send, deliver, work, load, notice}
use Rattle.engine.specs.Restart.{is_from, blocks_in, last_own, restarted_memory, restart_step}
use Rattle.engine.specs.History.{AnyCall, any_step}
use Rattle.engine.specs.History.AnyCall.{call, restart}
use Rattle.engine.proofs.Tests.{cond_by, clash}
use Rattle.engine.proofs.Steps.{begin-by, read_by, write-by, ask-by, withdraw-by, send_by, deliver-by, work-by, load-by, notice-by, restart-by}
use Rattle.engine.proofs.Passed.{send_passed}
use Rattle.engine.proofs.RestartLaws.{AllGood, good_taken, good_replicas, reads_good}
use Rattle.engine.proofs.ShapeWriteset.{committed}
use Rattle.protocol.specs.Lists.{Mem, opt}
use Rattle.agreement.specs.Group.{blocks_after}
use Rattle.agreement.proofs.View.{Sound}
use Rattle.agreement.proofs.MemberStep.{AsMade, Ours}
use Rattle.agreement.proofs.Sendable.{sendable}

-- good, of a group of n
pub record GoodBlock (n : ℕ) (b : List ℕ) : Type 0 where
  pub taken : block_refusal b ≡ 0
  pub replicas : (header_of b).replicas ≡ n

-- replica k's
pub record NewBlock (n k : ℕ) (b : List ℕ) : Type 0 where
  pub good : GoodBlock n b
  pub sender : (header_of b).sender ≡ k

-- what was handed out before, and replica k's
abbrev pub Grown : ℕ → ℕ → List (List ℕ) → List (List ℕ) → Type 0
Grown n k B C = (b : List ℕ) → Mem b C → Mem b B ⊎ NewBlock n k b

-- once replica k has sent for its turn, its block handed out for that slot is the one sent last
abbrev pub SentLast : ℕ → Memory → List (List ℕ) → Type 0
SentLast k m B = sent_already m ≡ true → (b : List ℕ) → Mem b B → (header_of b).sender ≡ k → (header_of b).slot ≡ m.turn.slot → b ≡ m.blocks.outbox

-- what a call at replica k leaves
pub record Hands (n k : ℕ) (B : List (List ℕ)) (o : Outcome) : Type 0 where
  pub grown : Grown n k B (blocks_after B o.answer)
  pub last : SentLast k o.memory (blocks_after B o.answer)

one_more : (n k : ℕ) (B : List (List ℕ)) (x : List ℕ) → NewBlock n k x → Grown n k B (B ++ (x ∷ []))
one_more n k B x N b m = go (Memᴰ.append_cases B m)
  where
    last : (b ≡ x) ⊎ Mem b [] → NewBlock n k b
    last (inl e) = subst (NewBlock n k) (sym e) N
    last (inr q) = absurd (Memᴰ.not-nil q)

    go : Mem b B ⊎ Mem b (x ∷ []) → Mem b B ⊎ NewBlock n k b
    go (inl q) = inl q
    go (inr q) = inr (last (Memᴰ.cases_cons q))

module _ (n k : ℕ) (m : Memory) (B : List (List ℕ)) (s : Sound n m) (own : m.group.own ≡ k) (L : SentLast k m B)
    (marked : (b : List ℕ) → Mem b B → (header_of b).sender ≡ k → (header_of b).slot ≡ m.turn.slot → sent_already m ≡ true) where
  -- nothing is handed out, and turn and block sent are as they were
  quiet : (o : Outcome) → blocks_after B o.answer ≡ B → SentLast k o.memory B → Hands n k B o
  quiet o e f = record { grown = rw e (λ b q. inl q); last = rw e f }

  -- ---- a send

  new-sent : (lent : List ℕ) → send_refusal m lent ≡ 0 → NewBlock n k (block_of (message_for m))
  unfolding message_for message_of header_of
  new-sent lent e =
      let r = theorems.round_trip (message_for m) (sendable n m s lent e) in
      record {
        good = record { taken = r.taken; replicas = ap (λ (x : Rattle.block.specs.Message.Message). x.replicas) r.message ∙ s.size };
        sender = ap (λ (x : Rattle.block.specs.Message.Message). x.sender) r.message ∙ own;
      }

  sent-hands : (lent : List ℕ) → send_refusal m lent ≡ 0 → Hands n k B (send_now m)
  unfolding send_now
  sent-hands lent e = record {
    grown = one_more n k B (block_of (message_for m)) (new-sent lent e);
    last = λ t b q o z. go b o z (Memᴰ.append_cases B q);
  }
    where
      this : (b : List ℕ) → (b ≡ block_of (message_for m)) ⊎ Mem b [] → b ≡ block_of (message_for m)
      this b (inl e) = e
      this b (inr q) = absurd (Memᴰ.not-nil q)

      go : (b : List ℕ) → (header_of b).sender ≡ k → (header_of b).slot ≡ m.turn.slot → Mem b B ⊎ Mem b (block_of (message_for m) ∷ []) → b ≡ block_of (message_for m)
      go b o z (inl q) = clash (marked b q o z) (send_passed m lent e).unsent
      go b o z (inr q) = this b (Memᴰ.cases_cons q)

  -- ---- a work

  worked-last : (mine last : Bool) (w : Record) → SentLast k (committed m mine mine last w) B
  worked-last mine true w = λ t. clash {b = false} t refl
  worked-last true false w = L
  worked-last false false w = L

  hands-call : (c : Call) → Hands n k B (step m c)
  unfolding begin_at stale_at rewrite_at insert_write read_only_at queue_at withdraw_at deliver_now pass_next commit_writeset pass_out
  hands-call begin = begin-by (Hands n k B) m (λ e. quiet _ refl L) (λ e. quiet _ refl L)
  hands-call (read t i) = read_by (Hands n k B) m t i (λ e. quiet _ refl L) (λ e. quiet _ refl L)
  hands-call (write t i v) = write-by (Hands n k B) m t i v (λ e. quiet _ refl L) (λ e o. quiet _ refl L) (λ e o. quiet _ refl L) (λ i e q. quiet _ refl L)
  hands-call (ask t) = ask-by (Hands n k B) m t (λ e. quiet _ refl L) (λ e o. quiet _ refl L) (λ e. quiet _ refl L)
  hands-call (withdraw t) = withdraw-by (Hands n k B) m t (λ e. quiet _ refl L) (λ e. quiet _ refl L)
  hands-call report = unfold step report_step in quiet _ refl L
  hands-call (send b) = send_by (Hands n k B) m b (sent-hands b) (λ i e q. quiet _ refl L)
  hands-call (deliver b) = deliver-by (Hands n k B) m b (λ e. quiet _ refl L) (λ e. quiet _ refl L)
  hands-call work = work-by (Hands n k B) m
      (λ e u. quiet (pass_out m) refl (λ t. clash {b = false} t refl))
      (λ e q. quiet (pass_next m) refl (λ t. clash {b = false} t refl))
      (λ e q. quiet _ refl (worked-last (eqb (get_or (block_at_turn m) 1 0) m.group.own) (is_last m) (writeset_at (block_at_turn m) m.counts.done)))
      (λ e. quiet _ refl L)
  hands-call (load l) = load-by (Hands n k B) m l (λ e. quiet _ refl L) (λ e. quiet _ refl L)
  hands-call (notice a) = notice-by (Hands n k B) m a (λ e. quiet _ refl L) (λ e. quiet _ refl L)

  -- ---- a restart

  abbrev Back : List ℕ → Type 0
  Back b = (get_or b 0 0 ≡ 0) ⊎ NewBlock n k b

  last-back : (l : List Notice) (d : List ℕ) (bs : List (List ℕ)) → AllGood n bs → Back d → Back (last_own k l d bs)
  unfolding last_own header_of
  last-back l d [] g h = h
  last-back l d (b ∷ bs) g h =
      last-back l (cond (is_from k b && not (puts_out false l k (header_of b).slot)) b d) bs (λ c q. g c (Memᴰ.tail q))
      (cond_by Back (is_from k b && not (puts_out false l k (header_of b).slot))
      (λ e. let q = g b (Memᴰ.head refl) in inr (record {
        good = record { taken = good_taken n b q; replicas = good_replicas n b q };
        sender = eqb-true (get_or b 1 0) k (both (is_from k b) _ e).left;
      }))
      (λ e. h))

  given_back : (b : List ℕ) → Back b → Grown n k B (opt (cond (eqb (get_or b 0 0) 0) none (some b)) B (λ (x : List ℕ). B ++ (x ∷ [])))
  given_back b h = go (eqb (get_or b 0 0) 0) refl h
    where
      go : (z : Bool) → eqb (get_or b 0 0) 0 ≡ z → Back b → Grown n k B (opt (cond z none (some b)) B (λ (x : List ℕ). B ++ (x ∷ [])))
      go true e h = λ c q. inl q
      go false e (inl z) = absurd (eqb-false (get_or b 0 0) 0 e z)
      go false e (inr w) = one_more n k B b w

  hands-restart : (start : List ℤ) (size own : ℕ) (values : List ℤ) (j : List ℕ) (a : List Notice) (l : List ℕ) → Ours n start k m (restart size own values j a l)
      → Hands n k B (restart_step m size own values j a l)
  unfolding restarted_memory
  hands-restart start size own values j a l =
      restart-by (λ (o : Outcome). ((x : ℕ) (y : List ℕ) → o.answer ≡ restarted x y → AsMade n start k size own values) → Hands n k B o) m size own values j a l
      (λ e f. let z = f _ _ refl in record {
        grown = rw (z.0, z.1) (given_back (last_own k a (replicate 512 0) (blocks_in n j)) (last-back a (replicate 512 0) (blocks_in n j) (reads_good n 0 _ j) (inl refl)));
        last = λ t. clash {b = false} t refl;
      })
      (λ e f. quiet _ refl L)

  pub hands : (start : List ℤ) (c : AnyCall) → Ours n start k m c → Hands n k B (any_step m c)
  hands start (call c) f = hands-call c
  hands start (restart size own values j a l) f = hands-restart start size own values j a l f
