-- No ticket of a replica is put down twice, nor stands twice in the own blocks of a journal that a restart is lent. Assumes nothing.
use Prim.Native.Nat.{ℕ}
use mathlib.Core.Path.{◌≡◌, refl, sym, ap, ◌∙◌, subst}
use mathlib.Core.Logic.{◌⊎◌, inl, inr, ◌≢◌, ∥∥₁_elim}
use mathlib.Core.HLevel.{⊥_prop, ¬_prop}
use mathlib.Core.Bool.{Bool, true, false, cond}
use mathlib.Core.List
use mathlib.Core.List.Memᴰ
use mathlib.Core.List.Nodup
use mathlib.Core.List.Pairwise
use mathlib.Core.List.{List, Nodup, Nodup-append, [], ◌∷◌, ◌++◌, append_assoc, append-nil, map}
use native.Mathlib.Omega.{arith}
use lib.IntN.{ℤ}
use lib.ListN.{take, drop, take-append-drop}
use borrow.Author.Tests.{eqb-true}
use Rattle.block.specs.Message.{Record}
use Rattle.memory.specs.Notices.{Notice}
use Rattle.engine.specs.Make.{Setting}
use Rattle.engine.specs.Answers.{Answer, Outcome}
use Rattle.engine.specs.Answers.Answer.{restarted}
use Rattle.engine.specs.Client.{report_of}
use Rattle.engine.specs.Restart.{blocks_in, writesets_in, is_from, restart_step}
use Rattle.engine.specs.Tickets.{own_tickets, CountsOf}
use Rattle.engine.specs.History.AnyCall.{restart}
use Rattle.engine.proofs.Steps.{restart-by}
use Rattle.engine.proofs.RestartLaws.{AllGood, good_taken, reads_good}
use Rattle.engine.proofs.Tickets.{tickets-once}
use Rattle.protocol.specs.Lists.{Mem}
use Rattle.protocol.specs.Writesets.{Writeset}
use Rattle.protocol.specs.Observer.{TxnId, Observed, Placed, txn_ids, observed_after, sequence, id_of}
use Rattle.protocol.proofs.ListLaws.{update_same}
use Rattle.protocol.proofs.SequenceLaws.{map-append}
use Rattle.protocol.proofs.Fates.{out_of}
use Rattle.protocol.proofs.Slots.{handed-once}
use Rattle.agreement.specs.Group.{writeset_from, message_in, heard, Members, CallAt, fresh, next, run, Comes, Calls, Premise}
use Rattle.agreement.specs.Tickets.{Tickets}
use Rattle.agreement.proofs.View.{setup}
use Rattle.agreement.proofs.BlockView.{sender_seen}
use Rattle.agreement.proofs.RestartView.{writesets_read, writesets_seen}
use Rattle.agreement.proofs.Runs.{run_on}
use Rattle.agreement.proofs.OneList.{model_lists}
use Rattle.agreement.proofs.Theorem.{InvAfter, inv-after}

-- ---- a block's tickets, and its transactions

abbrev id_by : ℕ → ℕ → TxnId
id_by s t = record { sender = s; ticket = t }

abbrev ids_by : ℕ → List Record → List TxnId
ids_by s rs = map (λ (w : Writeset ℤ). id_by s w.ticket) (map writeset_from rs)

abbrev tickets_in : List Record → List ℕ
tickets_in rs = map (λ (w : Record). w.ticket) rs

ids_once : (s : ℕ) (rs : List Record) → Nodup (ids_by s rs) → Nodup (tickets_in rs)
ids_once s rs d =
    Pairwise.map {R = λ (a b : Record). a.ticket ≢ b.ticket} {S = λ (a b : ℕ). a ≢ b} (λ a b. ¬_prop) (λ (w : Record). w.ticket) (λ a b e. e) {l = rs}
    (Pairwise.of_map {R = λ (a b : Record). a.ticket ≢ b.ticket} {S = λ (a b : Writeset ℤ). a.ticket ≢ b.ticket} writeset_from (λ a b e. e) {l = rs}
    (Pairwise.of_map {R = λ (a b : Writeset ℤ). a.ticket ≢ b.ticket} {S = λ (a b : TxnId). a ≢ b} (λ (w : Writeset ℤ). id_by s w.ticket) (λ a b e q. e (ap (id_by s) q)) {l = map writeset_from rs} d))

ids_have : (s t : ℕ) (rs : List Record) → Mem t (tickets_in rs) → Mem (id_by s t) (ids_by s rs)
ids_have s t [] m = absurd (Memᴰ.not-nil m)
ids_have s t (r ∷ rs) m = go (ids_have s t rs) (Memᴰ.cases_cons m)
  where
    go : (Mem t (tickets_in rs) → Mem (id_by s t) (ids_by s rs)) → (t ≡ r.ticket) ⊎ Mem t (tickets_in rs) → Mem (id_by s t) (ids_by s (r ∷ rs))
    go rest (inl e) = Memᴰ.head (ap (id_by s) e)
    go rest (inr q) = Memᴰ.tail (rest q)

-- ---- the own tickets of good blocks, from the blocks' transactions

module _ (n k : ℕ) where
  first-ids : (b : List ℕ) (bs : List (List ℕ)) → AllGood n (b ∷ bs) → txn_ids (map message_in (b ∷ bs)) ≡ ids_by (message_in b).sender (writesets_in b) ++ txn_ids (map message_in bs)
  unfolding txn_ids
  first-ids b bs g = rw (writesets_seen b, writesets_read b (good_taken n b (g b (Memᴰ.head refl)))) refl

  own-have : (t : ℕ) (bs : List (List ℕ)) → AllGood n bs → Mem t (own_tickets k bs) → Mem (id_by k t) (txn_ids (map message_in bs))
  unfolding own_tickets
  own-have t [] g m = absurd (Memᴰ.not-nil m)
  own-have t (b ∷ bs) g m = subst (Mem (id_by k t)) (sym (first-ids b bs g)) (go (own-have t bs (λ c q. g c (Memᴰ.tail q))) (is_from k b) refl m)
    where
      Ids : Type 0
      Ids = Mem (id_by k t) (ids_by (message_in b).sender (writesets_in b) ++ txn_ids (map message_in bs))

      go : (Mem t (own_tickets k bs) → Mem (id_by k t) (txn_ids (map message_in bs))) → (mine : Bool) → is_from k b ≡ mine
          → Mem t (cond mine (tickets_in (writesets_in b)) [] ++ own_tickets k bs) → Ids
      go rest true e q = either (Memᴰ.append_cases (tickets_in (writesets_in b)) q)
        where
          either : Mem t (tickets_in (writesets_in b)) ⊎ Mem t (own_tickets k bs) → Ids
          either (inl r) = Memᴰ.append_left (txn_ids (map message_in bs))
              (subst (λ (s : ℕ). Mem (id_by s t) (ids_by (message_in b).sender (writesets_in b))) (sender_seen b ∙ eqb-true _ k e) (ids_have (message_in b).sender t (writesets_in b) r))
          either (inr r) = Memᴰ.append_right (ids_by (message_in b).sender (writesets_in b)) (rest r)
      go rest false e q = Memᴰ.append_right (ids_by (message_in b).sender (writesets_in b)) (rest q)

  own-once : (bs : List (List ℕ)) → AllGood n bs → Nodup (txn_ids (map message_in bs)) → Nodup (own_tickets k bs)
  unfolding own_tickets
  own-once [] g d = Pairwise.nil
  own-once (b ∷ bs) g d = go (own-once bs (λ c q. g c (Memᴰ.tail q)) parts.1) (is_from k b) refl
    where
      parts : Nodup (ids_by (message_in b).sender (writesets_in b)) × Nodup (txn_ids (map message_in bs))
          × ((x : TxnId) → List.Mem x (ids_by (message_in b).sender (writesets_in b)) → List.Mem x (txn_ids (map message_in bs)) → ⊥)
      parts = Nodup-append.0 (subst Nodup (first-ids b bs g) d)

      go : Nodup (own_tickets k bs) → (mine : Bool) → is_from k b ≡ mine → Nodup (cond mine (tickets_in (writesets_in b)) [] ++ own_tickets k bs)
      go rest true e = Nodup-append.1 (
        ids_once (message_in b).sender (writesets_in b) parts.0,
        rest,
        λ t m q. ∥∥₁_elim m ⊥_prop (λ x. ∥∥₁_elim q ⊥_prop (λ y.
            parts.2 (id_by k t)
            ∣ subst (λ (s : ℕ). Mem (id_by s t) (ids_by (message_in b).sender (writesets_in b))) (sender_seen b ∙ eqb-true _ k e) (ids_have (message_in b).sender t (writesets_in b) x) ∣₁
            ∣ own-have t bs (λ c z. g c (Memᴰ.tail z)) y ∣₁)),
      )
      go rest false e = rest

-- ---- a list with the call at its end

module _ (n : ℕ) (start : List ℤ) where
  -- what is observed of a restart's commits
  commits-seen : (g : Members) (k : ℕ) (journal : List ℕ) (notices : List Notice) (block : List ℕ) (count : ℕ) (given : List ℕ)
      → (restart_step (g.memories k) n k start journal notices block).answer ≡ restarted count given
      → ((next g (record { at = k; does = restart n k start journal notices block })).observed k).commits ≡ txn_ids (map message_in (blocks_in n journal))
  unfolding heard observed_after
  commits-seen g k journal notices block count given e =
      ap (λ (p : Observed ℤ). p.commits) (update_same g.observed k _ ∙ ap (λ (a : Answer). observed_after (g.observed k) (heard (restart n k start journal notices block) a)) e)

-- ---- the theorem

once : (n : ℕ) (start : List ℤ) → Setting n start → (cs : List CallAt) → Calls n cs → Premise n start cs
    → Nodup (map id_of (sequence (run (fresh n start) cs).handouts))
once n start setting cs f p = handed-once (setup n start) (out_of (setup n start) (model_lists p.lists)) _ (inv-after n start setting cs f p cs [] (sym (append-nil cs))).inv

first-once : (c : ℕ) (F : List (Placed ℤ)) → Nodup (map id_of F) → Nodup (map id_of (take c F))
first-once c F d = Nodup.of_append_left (map id_of (drop c F)) (subst Nodup (ap (map id_of) (sym (take-append-drop c F)) ∙ map-append id_of (take c F) (drop c F)) d)

lent-once : (n : ℕ) (start : List ℤ) → Setting n start → (cs : List CallAt) → Calls n cs → Premise n start cs
    → (before : List CallAt) (k : ℕ) (journal : List ℕ) (notices : List Notice) (block : List ℕ) (count : ℕ) (given : List ℕ)
    → Comes cs before (record { at = k; does = restart n k start journal notices block })
    → (restart_step ((run (fresh n start) before).memories k) n k start journal notices block).answer ≡ restarted count given → Nodup (own_tickets k (blocks_in n journal))
lent-once n start setting cs f p before k journal notices block count given q e =
    own-once n k (blocks_in n journal) (reads_good n 0 _ journal)
    (subst Nodup (sym (I.inv.each k).track.logged ∙ seen) (first-once (G.memories k).counts.commits (sequence I.inv.log) I.inv.whole.once))
  where
    c : CallAt
    c = record { at = k; does = restart n k start journal notices block }

    G : Members
    G = run (fresh n start) (before ++ (record { at = k; does = restart n k start journal notices block } ∷ []))

    I : InvAfter n start setting p.lists (before ++ (c ∷ []))
    I = inv-after n start setting cs f p (before ++ (c ∷ [])) q.0 (q.1 ∙ sym (append_assoc before (c ∷ []) q.0))

    seen : ((run (fresh n start) (before ++ (c ∷ []))).observed k).commits ≡ txn_ids (map message_in (blocks_in n journal))
    seen = ap (λ (g : Members). (g.observed k).commits) (run_on before (fresh n start) c) ∙ commits-seen n start (run (fresh n start) before) k journal notices block count given e

pub tickets : Tickets
tickets = record {
  once = once;
  restarts = λ n start setting cs f p before k journal notices block count given q e.
      let d = lent-once n start setting cs f p before k journal notices block count given q e in (
        d,
        restart-by (λ (o : Outcome). o.answer ≡ restarted count given → CountsOf k (blocks_in n journal) (report_of o.memory)) ((run (fresh n start) before).memories k) n k start journal notices block
            (λ z r. tickets-once.counts n k start journal notices d)
            (λ z r. let w : ◌≡◌ {A = ℕ} 0 1 = cc in absurd (let v : ⊥ = omega arith in v)) e,
      );
}
