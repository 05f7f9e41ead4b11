-- Under the premise one block is handed out for a slot, byte for byte, also where a restart hands it out again. Assumes nothing.
use Prim.Native.Nat.{ℕ, suc, ◌≤◌, ◌<◌}
use mathlib.Core.Path.{◌≡◌, refl, sym, ap, ◌∙◌, subst}
use mathlib.Core.Bool.{Bool, true, false, cond, not, ◌&&◌}
use mathlib.Core.Logic.{◌⊎◌, inl, inr}
use mathlib.Core.Option.{Option, none, some}
use mathlib.Core.List.Memᴰ
use mathlib.Core.List.{List, [], ◌∷◌, ◌++◌}
use native.Mathlib.Nat.{mod-lt}
use native.Mathlib.Omega.{arith}
use lib.Dec.{eqb}
use lib.IntN.{ℤ}
use lib.ListN.{length, get_or, replicate}
use borrow.Author.Tests.{eqb-true, not-true}
use Rattle.block.specs.Message.{Message, owner_of}
use Rattle.block.specs.Bytes.{block_of}
use Rattle.block.specs.Form.{message_of}
use Rattle.block.specs.Answers.{header_of}
use Rattle.block.proofs.BoolLaws.{both}
use Rattle.block.proofs.Theorems.{theorems}
use Rattle.memory.specs.Memory.{Memory, no_number, slot_limit}
use Rattle.memory.specs.Notices.{Notice, puts_out}
use Rattle.engine.specs.Make.{Setting}
use Rattle.engine.specs.Answers.{Outcome}
use Rattle.engine.specs.Answers.Answer.{restarted}
use Rattle.engine.specs.Client.{begin_at, read_only_at, queue_at, rewrite_at, insert_write, stale_at, withdraw_at, report_step}
use Rattle.engine.specs.Moves.{message_for, out_at_turn, send_refusal, send_now, deliver_now, pass_next, commit_writeset, pass_out}
use Rattle.engine.specs.Calls.{Call, step}
use Rattle.engine.specs.Calls.Call.{begin, read, write, ask, withdraw, report, send, deliver, work, load, notice}
use Rattle.engine.specs.Restart.{is_from, blocks_in, last_own}
use Rattle.engine.specs.History.{AnyCall, any_step}
use Rattle.engine.specs.History.AnyCall.{call, restart}
use Rattle.engine.proofs.Tests.{cond_by, clash}
use Rattle.engine.proofs.Steps.{begin-by, read_by, write-by, ask-by, withdraw-by, send_by, deliver-by, work-by, load-by, notice-by, restart-by}
use Rattle.engine.proofs.Passed.{send_passed}
use Rattle.engine.proofs.BlockFacts.{taken_block}
use Rattle.engine.proofs.RestartLaws.{good_taken, good_replicas}
use Rattle.protocol.specs.Lists.{opt, Mem}
use Rattle.protocol.proofs.ListLaws.{no_some}
use Rattle.agreement.specs.Group.{handed_out_in, Disk, Members, CallAt, fresh, did, run, Comes, MayBeAt, Calls, Lent, PremiseFrom, Premise}
use Rattle.agreement.proofs.View.{Sound}
use Rattle.agreement.proofs.Sendable.{sendable}
use Rattle.agreement.proofs.Replicas.{Standing, as-replica, as-station, SoundAt}
use Rattle.agreement.proofs.Runs.{run_on, calls-part, premise-part, LentOurs}
use Rattle.agreement.proofs.Theorem.{owes}
use Rattle.agreement.proofs.JournalLength.{FilledAt, filled-after}
use Rattle.agreement_progress.proofs.Parts.{walk, stood, marked}
use Rattle.agreement_giving.proofs.JournalBlocks.{read_at}
use Rattle.agreement_giving.proofs.Lists.{premise-of}
use Rattle.agreement_giving.proofs.Journaled.{OutBlock, GivesBack, Unsent}
use Rattle.agreement_giving.proofs.HandedOver.{HandedAt, read-either, out_at, handed-all}
use Rattle.giving.proofs.Rings.{block_no}

abbrev pub Unique : List (List ℕ) → Type 0
Unique B = (a b : List ℕ) → Mem a B → Mem b B → (header_of a).slot ≡ (header_of b).slot → a ≡ b

-- B has no other for x's slot
abbrev Alone : List (List ℕ) → List ℕ → Type 0
Alone B x = (b : List ℕ) → Mem b B → (header_of b).slot ≡ (header_of x).slot → b ≡ x

unique_more : (B : List (List ℕ)) → Unique B → (o : Option (List ℕ)) → ((x : List ℕ) → o ≡ some x → Alone B x) → Unique (opt o B (λ (x : List ℕ). B ++ (x ∷ [])))
unique_more B U none f a b p q e = U a b p q e
unique_more B U (some x) f a b p q e = go (Memᴰ.append_cases B p) (Memᴰ.append_cases B q)
  where
    this : (c : List ℕ) → Mem c (x ∷ []) → c ≡ x
    this c r = last (Memᴰ.cases_cons r)
      where
        last : (c ≡ x) ⊎ Mem c [] → c ≡ x
        last (inl z) = z
        last (inr z) = absurd (Memᴰ.not-nil z)

    go : Mem a B ⊎ Mem a (x ∷ []) → Mem b B ⊎ Mem b (x ∷ []) → a ≡ b
    go (inl r) (inl s) = U a b r s e
    go (inl r) (inr s) = let z = this b s in f x refl a r (e ∙ ap (λ (c : List ℕ). (header_of c).slot) z) ∙ sym z
    go (inr r) (inl s) = let z = this a r in z ∙ sym (f x refl b s (sym e ∙ ap (λ (c : List ℕ). (header_of c).slot) z))
    go (inr r) (inr s) = this a r ∙ sym (this b s)

-- ---- what hands out a block: a send, and a restart

abbrev Sends : Memory → List ℕ → Type 0
Sends m x = (lent : List ℕ) × (send_refusal m lent ≡ 0) × (block_of (message_for m) ≡ x)

abbrev OnlySends : Memory → Outcome → Type 0
OnlySends m o = (x : List ℕ) → handed_out_in o.answer ≡ some x → Sends m x

only-sends : (m : Memory) (c : Call) → OnlySends m (step m c)
unfolding begin_at stale_at rewrite_at insert_write read_only_at queue_at withdraw_at send_now deliver_now pass_next commit_writeset pass_out
only-sends m begin = begin-by (OnlySends m) m (λ e x q. no_some refl q) (λ e x q. no_some refl q)
only-sends m (read t i) = read_by (OnlySends m) m t i (λ e x q. no_some refl q) (λ e x q. no_some refl q)
only-sends m (write t i v) = write-by (OnlySends m) m t i v (λ e x q. no_some refl q) (λ e o x q. no_some refl q) (λ e o x q. no_some refl q) (λ k e r x q. no_some refl q)
only-sends m (ask t) = ask-by (OnlySends m) m t (λ e x q. no_some refl q) (λ e o x q. no_some refl q) (λ e x q. no_some refl q)
only-sends m (withdraw t) = withdraw-by (OnlySends m) m t (λ e x q. no_some refl q) (λ e x q. no_some refl q)
only-sends m report = unfold step report_step in λ x q. no_some refl q
only-sends m (send b) = send_by (OnlySends m) m b (λ e x q. let z : block_of (message_for m) ≡ x = cc in (b, e, z)) (λ k e r x q. no_some refl q)
only-sends m (deliver b) = deliver-by (OnlySends m) m b (λ e x q. no_some refl q) (λ e x q. no_some refl q)
only-sends m work = work-by (OnlySends m) m (λ e u x q. no_some refl q) (λ e r x q. no_some refl q) (λ e r x q. no_some refl q) (λ e x q. no_some refl q)
only-sends m (load b) = load-by (OnlySends m) m b (λ e x q. no_some refl q) (λ e x q. no_some refl q)
only-sends m (notice a) = notice-by (OnlySends m) m a (λ e x q. no_some refl q) (λ e x q. no_some refl q)

-- what is sent is for the turn's slot
send_unsent : (n : ℕ) (m : Memory) → Sound n m → (x : List ℕ) → Sends m x → Unsent m x
unfolding message_for message_of header_of
send_unsent n m s x S =
    let r = theorems.round_trip (message_for m) (sendable n m s S.0 S.1) in
    let p = send_passed m S.0 S.1 in
    subst (Unsent m) S.2 (p.unsent, p.owner, ap (λ (d : Message). d.slot) r.message)

-- no slot is a station's
no_station : (n : ℕ) (start : List ℤ) → Setting n start → (m : Memory) → m.group.replicas ≡ n → m.group.own ≡ no_number → (x : List ℕ) → Unsent m x → ⊥
unfolding owner_of
no_station n start setting m size w x u =
    let a = u.1 in
    let s = setting.least in
    let t = setting.most in
    let l = mod-lt m.turn.slot {m = m.group.replicas} (omega arith) in
    omega arith

-- x is one of the blocks bs, replica own's, of a slot that the notices T do not put out
abbrev ReadOwn : ℕ → List Notice → List (List ℕ) → List ℕ → Type 0
ReadOwn own T bs x = (i : ℕ) × (i < length bs) × (x ≡ get_or bs i []) × (is_from own (get_or bs i []) && not (puts_out false T own (header_of (get_or bs i [])).slot) ≡ true)

last-own-at : (own : ℕ) (T : List Notice) (bs : List (List ℕ)) (d : List ℕ) → (last_own own T d bs ≡ d) ⊎ ReadOwn own T bs (last_own own T d bs)
unfolding last_own
last-own-at own T [] d = inl refl
last-own-at own T (b ∷ bs) d = go (is_from own b && not (puts_out false T own (header_of b).slot)) refl (last-own-at own T bs (cond (is_from own b && not (puts_out false T own (header_of b).slot)) b d))
  where
    go : (z : Bool) → is_from own b && not (puts_out false T own (header_of b).slot) ≡ z → (last_own own T (cond z b d) bs ≡ cond z b d) ⊎ ReadOwn own T bs (last_own own T (cond z b d) bs)
        → (last_own own T (cond z b d) bs ≡ d) ⊎ ReadOwn own T (b ∷ bs) (last_own own T (cond z b d) bs)
    go true t (inl e) = inr (0, omega arith, e, t)
    go false t (inl e) = inl e
    go z t (inr q) = let l = q.1 in inr (suc q.0, omega arith, q.2, q.3)

-- ---- a call at a replica, where B has one block for a slot, and none for a turn's slot not yet sent for

module _ (n : ℕ) (start : List ℤ) (k : ℕ) (m : Memory) (mine : m.group.own ≡ k) (d : Disk) (F : FilledAt n m d.journal) (B : List (List ℕ)) (T : List Notice)
    (out : m.turn.slot < slot_limit → out_at_turn m ≡ puts_out false T (owner_of n m.turn.slot) m.turn.slot) (H : HandedAt n m d.journal T B)
    (U : Unique B) (absent : (x : List ℕ) → Unsent m x → Alone B x) where
  -- a block that a restart reads and gives back
  back_alone : (j : List ℕ) → Lent m d j → (x : List ℕ) → ReadOwn k T (blocks_in n j) x → Alone B x
  back_alone j L x q = go (read-either n start k m mine d F B T out H j L [] q.0 q.1)
    where
      at : x ≡ block_no j q.0
      at = q.2 ∙ (read_at n j q.0 q.1).0

      -- its slot is not out
      live : puts_out false T (owner_of n q.0) q.0 ≡ false
      live =
          let b = get_or (blocks_in n j) q.0 [] in
          let r = read_at n j q.0 q.1 in
          let t = both (is_from k b) _ q.3 in
          let s = (taken_block b (good_taken n b r.1)).sender in
          let o : owner_of n q.0 ≡ k = sym (s ∙ ap (λ (i : ℕ). owner_of i (header_of b).slot) (good_replicas n b r.1) ∙ ap (owner_of n) r.2) ∙ eqb-true (get_or b 1 0) k t.left in
          rw o (subst (λ (i : ℕ). puts_out false T k i ≡ false) r.2 (not-true _ t.right))

      go : (Mem (block_no j q.0) B ⊎ OutBlock n T q.0 (block_no j q.0)) ⊎ ((suc q.0 ≡ length (blocks_in n j)) × GivesBack k T (block_no j q.0) × Unsent m (block_no j q.0))
          → Alone B x
      go (inl (inl r)) = λ b s e. U b x s (subst (λ (y : List ℕ). Mem y B) (sym at) r) e
      go (inl (inr r)) = clash r.1 live
      go (inr r) = absent x (subst (Unsent m) (sym at) r.2)

  given-alone : (j : List ℕ) → Lent m d j → (x : List ℕ) → let y = last_own k T (replicate 512 0) (blocks_in n j) in cond (eqb (get_or y 0 0) 0) none (some y) ≡ some x → Alone B x
  given-alone j L x = cond_by (λ (o : Option (List ℕ)). o ≡ some x → Alone B x) (eqb (get_or (last_own k T (replicate 512 0) (blocks_in n j)) 0 0) 0)
      (λ e q. no_some refl q)
      (λ e q. let z : last_own k T (replicate 512 0) (blocks_in n j) ≡ x = cc in subst (Alone B) z (go e (last-own-at k T (blocks_in n j) (replicate 512 0))))
    where
      go : eqb (get_or (last_own k T (replicate 512 0) (blocks_in n j)) 0 0) 0 ≡ false
          → (last_own k T (replicate 512 0) (blocks_in n j) ≡ replicate 512 0) ⊎ ReadOwn k T (blocks_in n j) (last_own k T (replicate 512 0) (blocks_in n j))
          → Alone B (last_own k T (replicate 512 0) (blocks_in n j))
      go e (inl q) = clash (ap (λ (y : List ℕ). eqb (get_or y 0 0) 0) q) e
      go e (inr q) = back_alone j L (last_own k T (replicate 512 0) (blocks_in n j)) q

  alone : (c : AnyCall) → LentOurs n start k m d T c → (x : List ℕ) → handed_out_in (any_step m c).answer ≡ some x → Alone B x
  alone (call c) g = λ x q. absent x (send_unsent n m F.sound x (only-sends m c x q))
  alone (restart size own values j a l) g =
      restart-by (λ (o : Outcome). ((x : ℕ) (b : List ℕ) → o.answer ≡ restarted x b → (size ≡ n) × (own ≡ k) × (values ≡ start) × Lent m d j × (a ≡ T))
      → (x : List ℕ) → handed_out_in o.answer ≡ some x → Alone B x) m size own values j a l
      (λ e f. let L = f _ _ refl in rw (L.0, L.1, L.4) (given-alone j L.3)) (λ e f x q. no_some refl q) (λ x b. g size own values j a l x b refl)

-- ---- a run

module _ (n : ℕ) (start : List ℤ) (setting : Setting n start) (cs : List CallAt) (f : Calls n cs) (p : Premise n start cs) where
  -- what a call hands out is alone for its slot
  alone_at : (mid : List CallAt) (c : CallAt) → Comes cs mid c → let g = run (fresh n start) mid in Unique g.blocks → (x : List ℕ) → handed_out_in (did g c).answer ≡ some x → Alone g.blocks x
  alone_at mid c q U = by S.stands
    where
      g : Members
      g = run (fresh n start) mid

      k : ℕ
      k = c.at

      C : Calls n mid
      C = calls-part n start cs mid (c ∷ q.0) q.1 f

      P : PremiseFrom n start (fresh n start) mid
      P = premise-part n start cs mid (c ∷ q.0) q.1 (fresh n start) p.calls

      S : SoundAt n start setting (owes n start) c.at ((run (fresh n start) mid).memories c.at)
      S = stood n start setting cs f p mid (c ∷ q.0) q.1 c.at

      -- once a block of the turn's slot is handed out, its owner has sent
      absent : (g.memories k).group.own ≡ k → (x : List ℕ) → Unsent (g.memories k) x → Alone g.blocks x
      absent w x u b r e =
          let z = e ∙ u.2 in
          let o : owner_of n (header_of b).slot ≡ k = ap (owner_of n) z ∙ ap (λ (i : ℕ). owner_of i (g.memories k).turn.slot) (sym S.sound.size) ∙ u.1 ∙ w in
          clash (marked n start setting cs f p mid (c ∷ q.0) q.1 k b r o z) u.0

      quiet : n ≤ k → (g.memories k).group.own ≡ no_number → (d : AnyCall) → MayBeAt n k d → (x : List ℕ) → handed_out_in (any_step (g.memories k) d).answer ≡ some x → ⊥
      quiet above w (call d) h x e = no_station n start setting (g.memories k) S.sound.size w x (send_unsent n (g.memories k) S.sound x (only-sends (g.memories k) d x e))
      quiet above w (restart size own values j a l) h x e = omega arith

      by : Standing n start setting (owes n start) k (g.memories k) → (x : List ℕ) → handed_out_in (did g c).answer ≡ some x → Alone g.blocks x
      by (as-replica h w) =
          alone n start k (g.memories k) w (g.disks k) (filled-after n start setting mid C k h) g.blocks (g.taken k) (out_at n start setting mid C P k (g.memories k).turn.slot (omega arith))
          (handed-all n start setting mid C P k h) U (absent w) c.does (premise-of n start (fresh n start) cs p.calls mid c q).lent
      by (as-station h w) = λ x e. absurd (quiet h w c.does (f c (subst (Mem c) (sym q.1) (Memᴰ.append_right mid (Memᴰ.head refl)))).0 x e)

  pub unique-all : Unique (run (fresh n start) cs).blocks
  unfolding run
  unique-all = walk (λ (l : List CallAt). Unique (run (fresh n start) l).blocks) [] cs (λ a b q. absurd (Memᴰ.not-nil q))
      (λ mid c q U. let g = run (fresh n start) mid in
      subst (λ (x : Members). Unique x.blocks) (sym (run_on mid (fresh n start) c)) (unique_more g.blocks U (handed_out_in (did g c).answer) (alone_at mid c q U)))
