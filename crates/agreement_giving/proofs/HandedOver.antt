-- After every list of calls with the premise on each of them: a replica's journal has blocks handed out and *nexts* of out slots, its places blocks handed out. A restart keeps this: the only block
-- of the journal that may not be handed out is an own one, left at the end by the call that a cut ended, and that is the one given back. Assumes nothing.
use Prim.Native.Nat.{ℕ, zero, suc, ◌+◌, ◌*◌, ◌≤◌, ◌<◌}
use mathlib.Core.Path.{◌≡◌, refl, sym, ap, ◌∙◌, subst}
use mathlib.Core.Bool.{true, false, cond, not, ◌&&◌}
use mathlib.Core.Logic.{◌⊎◌, inl, inr}
use mathlib.Core.Option.{none, some}
use mathlib.Core.List.Memᴰ
use mathlib.Core.List.{List, [], ◌∷◌, ◌++◌}
use native.Mathlib.Omega.{arith}
use lib.Dec.{eqb}
use lib.IntN.{ℤ}
use lib.ListN.{length, length-take, get_or, replicate}
use borrow.Author.Tests.{eq-eqb, ne_eqb, lt-ltb}
use Rattle.block.specs.Message.{owner_of}
use Rattle.block.specs.Answers.{header_of}
use Rattle.block.proofs.BoolLaws.{joined}
use Rattle.block.proofs.ListLaws.{slice-take}
use Rattle.memory.specs.Memory.{Memory, slot_limit}
use Rattle.memory.specs.Notices.{Notice, is_out, puts_out}
use Rattle.memory.specs.Turns.{place_start}
use Rattle.engine.specs.Make.{Setting, made_memory}
use Rattle.engine.specs.Answers.{Answer, Outcome}
use Rattle.engine.specs.Answers.Answer.{kept, restarted}
use Rattle.engine.specs.Moves.{out_at_turn}
use Rattle.engine.specs.Calls.{step}
use Rattle.engine.specs.Calls.Call.{deliver}
use Rattle.engine.specs.Restart.{is_from, blocks_in, last_own, restarted_memory, restart_step}
use Rattle.engine.specs.History.{AnyCall, any_step}
use Rattle.engine.specs.History.AnyCall.{call, restart}
use Rattle.engine.proofs.Tests.{same_by, less_by, clash}
use Rattle.engine.proofs.Steps.{restart-by}
use Rattle.engine.proofs.BlockFacts.{taken_block}
use Rattle.engine.proofs.ShapeMade.{get_or-zeros}
use Rattle.engine.proofs.RestartLaws.{good_taken}
use Rattle.protocol.specs.Lists.{opt, Mem}
use Rattle.protocol.specs.Journal.{journal}
use Rattle.agreement.specs.Group.{journal_after, taken_after, blocks_after, Disk, Members, CallAt, fresh, did, next, run, Calls, Lent, PremiseFrom}
use Rattle.agreement.specs.Journals.{blocks_at}
use Rattle.agreement.proofs.View.{Sound}
use Rattle.agreement.proofs.Replicas.{made-sound}
use Rattle.agreement.proofs.Runs.{run_on, calls-part, premise-part, LentOurs, sound_run, fresh_kept, own_is, kept_run}
use Rattle.agreement.proofs.Theorem.{owes}
use Rattle.agreement.proofs.JournalLength.{FilledAt, filled_next, filled-after}
use Rattle.agreement.proofs.OutSlots.{out_slots}
use Rattle.agreement_progress.proofs.Parts.{walk}
use Rattle.giving.proofs.Rings.{block_no}
use Rattle.agreement_giving.proofs.JournalBlocks.{read_at, read_fits}
use Rattle.agreement_giving.proofs.Lists.{PremiseOf, premise-of}
use Rattle.agreement_giving.proofs.Journaled.{blocks_more, PlacesHanded, OutBlock, JournalHanded, GivesBack, Unsent, journaled, placed}

-- ---- what a restart gives back

last-own : (own : ℕ) (T : List Notice) (bs : List (List ℕ)) (d : List ℕ) (i : ℕ) → suc i ≡ length bs
    → is_from own (get_or bs i []) && not (puts_out false T own (header_of (get_or bs i [])).slot) ≡ true → last_own own T d bs ≡ get_or bs i []
unfolding last_own
last-own own T [] d i e h = absurd (let z : ⊥ = omega arith in z)
last-own own T (b ∷ []) d zero e h = rw h refl
last-own own T (b ∷ (c ∷ bs)) d zero e h = absurd (let z : ⊥ = omega arith in z)
last-own own T (b ∷ bs) d (suc i) e h = last-own own T bs (cond (is_from own b && not (puts_out false T own (header_of b).slot)) b d) i (omega arith) h

given_back : (B : List (List ℕ)) (b : List ℕ) → (get_or b 0 0 ≡ 0 → ⊥) → Mem b (opt (cond (eqb (get_or b 0 0) 0) none (some b)) B (λ (x : List ℕ). B ++ (x ∷ [])))
given_back B b d = rw (ne_eqb (get_or b 0 0) 0 d) (Memᴰ.append_right B (Memᴰ.head refl))

-- ---- a replica

-- nothing waits in places just made
none_placed : (long n t : ℕ) (B : List (List ℕ)) → PlacesHanded n t (replicate long 0) B
none_placed long n t B s p q e = clash (eq-eqb (get_or (replicate long 0) (place_start n s) 0) 0 (get_or-zeros long (place_start n s))) e

-- with the journal l, of a group of n in which B was handed out; T: the notices that it took
pub record HandedAt (n : ℕ) (m : Memory) (l : List ℕ) (T : List Notice) (B : List (List ℕ)) : Type 0 where
  pub places : PlacesHanded m.group.replicas m.turn.slot m.blocks.places B
  pub journal : JournalHanded n (blocks_at m.turn) l T B

more_handed : (n : ℕ) (m : Memory) (l : List ℕ) (T : List Notice) (B : List (List ℕ)) (a : Answer) → HandedAt n m l T B → HandedAt n m l T (blocks_after B a)
more_handed n m l T B a H = record { places = λ s p q e. blocks_more B a _ (H.places s p q e); journal = λ i h. go i (H.journal i h) }
  where
    go : (i : ℕ) → Mem (block_no l i) B ⊎ OutBlock n T i (block_no l i) → Mem (block_no l i) (blocks_after B a) ⊎ OutBlock n T i (block_no l i)
    go i (inl q) = inl (blocks_more B a _ q)
    go i (inr q) = inr q

module _ (n : ℕ) (start : List ℤ) (k : ℕ) (m : Memory) (mine : m.group.own ≡ k) (d : Disk) (F : FilledAt n m d.journal) (B : List (List ℕ)) (T : List Notice)
    (out : m.turn.slot < slot_limit → out_at_turn m ≡ puts_out false T (owner_of n m.turn.slot) m.turn.slot) (H : HandedAt n m d.journal T B) where
  -- block i that a restart reads
  module _ (j : List ℕ) (L : Lent m d j) (zeros : List ℕ) (i : ℕ) (h : i < length (blocks_in n j)) where
    abbrev ended : Outcome
    ended = step m L.ended

    abbrev X : List ℕ
    X = journal_after d.journal (call L.ended) (step m L.ended).answer

    after : length X ≡ 512 * blocks_at ended.memory.turn
    after = (filled_next n m d.journal F (call L.ended) L.value).filled

    short : length j ≤ length X
    short = let a = ap length L.part in let c = length-take L.count X in omega arith

    same : block_no j i ≡ block_no X i
    same =
        let f = read_fits n j i h in
        let a = ap length L.part in
        let c = length-take L.count X in
        ap (λ (x : List ℕ). block_no x i) L.part ∙ slice-take (512 * i) (512 * i + 512) L.count X (omega arith)

    fits : i < blocks_at ended.memory.turn
    fits = let f = read_fits n j i h in let a = after in let c = short in omega arith

    -- the last of them
    is_last : suc i ≡ blocks_at ended.memory.turn → suc i ≡ length (blocks_in n j)
    is_last e = less_by (suc i) (length (blocks_in n j)) (λ u. absurd (let f = read_fits n j (suc i) u in let a = after in let c = short in let z : ⊥ = omega arith in z)) (λ u. omega arith)

    kind : get_or (block_no j i) 0 0 ≡ 0 → ⊥
    kind e =
        let r = read_at n j i h in
        let y = taken_block (get_or (blocks_in n j) i []) (good_taken n _ r.1) in
        let z : get_or (get_or (blocks_in n j) i []) 0 0 ≡ 0 = ap (λ (b : List ℕ). get_or b 0 0) r.0 ∙ e in
        omega (arith, y.kind (λ q. omega arith))

    pub read-either : (Mem (block_no j i) B ⊎ OutBlock n T i (block_no j i)) ⊎ ((suc i ≡ length (blocks_in n j)) × GivesBack k T (block_no j i) × Unsent m (block_no j i))
    read-either = go ((journaled n m F.sound d.journal F.filled B T out H.places H.journal L.ended).either i fits)
      where
        go : (Mem (block_no X i) B ⊎ OutBlock n T i (block_no X i)) ⊎ ((suc i ≡ blocks_at ended.memory.turn) × GivesBack m.group.own T (block_no X i) × Unsent m (block_no X i))
            → (Mem (block_no j i) B ⊎ OutBlock n T i (block_no j i)) ⊎ ((suc i ≡ length (blocks_in n j)) × GivesBack k T (block_no j i) × Unsent m (block_no j i))
        go (inl (inl q)) = inl (inl (subst (λ (x : List ℕ). Mem x B) (sym same) q))
        go (inl (inr q)) = inl (inr (same ∙ q.0, q.1))
        go (inr q) = inr (is_last q.0, rw (same, ← mine) q.1, rw same q.2)

    abbrev Now : List (List ℕ)
    Now = blocks_after B (restarted (length (blocks_in n j)) (last_own k T zeros (blocks_in n j)))

    read-handed : Mem (block_no j i) Now ⊎ OutBlock n T i (block_no j i)
    read-handed = go read-either
      where
        go : (Mem (block_no j i) B ⊎ OutBlock n T i (block_no j i)) ⊎ ((suc i ≡ length (blocks_in n j)) × GivesBack k T (block_no j i) × Unsent m (block_no j i))
            → Mem (block_no j i) Now ⊎ OutBlock n T i (block_no j i)
        go (inl (inl q)) = inl (blocks_more B (restarted (length (blocks_in n j)) (last_own k T zeros (blocks_in n j))) (block_no j i) q)
        go (inl (inr q)) = inr q
        go (inr q) =
            let r = (read_at n j i h).0 in
            let g : GivesBack k T (get_or (blocks_in n j) i []) = rw r q.1 in
            let e : last_own k T zeros (blocks_in n j) ≡ block_no j i = last-own k T (blocks_in n j) zeros i q.0 (joined g.0 (rw g.1 refl)) ∙ r in
            inl (rw e (given_back B (block_no j i) kind))

  abbrev After : AnyCall → Outcome → Type 0
  After c o = HandedAt n o.memory (journal_after d.journal c o.answer) (taken_after T c o.answer) (blocks_after B o.answer)

  restart-handed : (size own : ℕ) (values : List ℤ) (j : List ℕ) (a : List Notice) (l : List ℕ) → LentOurs n start k m d T (restart size own values j a l)
      → After (restart size own values j a l) (restart_step m size own values j a l)
  unfolding restarted_memory
  restart-handed size own values j a l g =
      restart-by (λ (o : Outcome). ((x : ℕ) (b : List ℕ) → o.answer ≡ restarted x b → (size ≡ n) × (own ≡ k) × (values ≡ start) × Lent m d j × (a ≡ T)) → After (restart size own values j a l) o)
      m size own values j a l
      (λ e f. let L = f _ _ refl in rw (L.0, L.1, L.4) (record {
        places = none_placed (512 * n) _ _ _;
        journal = λ i h. let u : i < length (blocks_in n j) = omega arith in
            rw (slice-take (512 * i) (512 * i + 512) (512 * length (blocks_in n j)) j (omega arith)) (read-handed j L.3 (replicate 512 0) i u);
      }))
      (λ e f. H) (λ x b. g size own values j a l x b refl)

  handed-by : (c : AnyCall) → ((x : List ℕ) → c ≡ call (deliver x) → (step m (deliver x)).answer ≡ kept → Mem x B) → LentOurs n start k m d T c → After c (any_step m c)
  handed-by (call c) f g = record {
    places = placed n m F.sound d.journal F.filled B T out H.places H.journal c (λ x e. f x (ap call e));
    journal = (journaled n m F.sound d.journal F.filled B T out H.places H.journal c).all;
  }
  handed-by (restart size own values j a l) f g = restart-handed size own values j a l g

-- ---- a run

module _ (n : ℕ) (start : List ℤ) (setting : Setting n start) where
  abbrev pub AllHanded : Members → Type 0
  AllHanded g = (k : ℕ) → k < n → HandedAt n (g.memories k) (g.disks k).journal (g.taken k) g.blocks

  fresh-handed : AllHanded (fresh n start)
  unfolding made_memory
  fresh-handed k h = rw (lt-ltb k n h) (record { places = none_placed (512 * n) n 0 []; journal = λ i u. absurd (let z : ⊥ = omega arith in z) })

  module _ (cs : List CallAt) (f : Calls n cs) (p : PremiseFrom n start (fresh n start) cs) where
    abbrev g : Members
    g = run (fresh n start) cs

    pub own_at : (k : ℕ) → k < n → ((run (fresh n start) cs).memories k).group.own ≡ k
    own_at k h = own_is n start setting (owes n start) k (g.memories k) ((kept_run n start setting (owes n start) cs f (λ j. journal [] 0) (fresh n start) p (fresh_kept n start setting (owes n start))).sound k) h

    pub sound-at : (k : ℕ) → Sound n ((run (fresh n start) cs).memories k)
    sound-at = sound_run n cs f (fresh n start) (λ j. (made-sound n start setting (owes n start) j).sound)

    -- a slot from the turn on is out where the notices taken put it out
    pub out_at : (k s : ℕ) → let g = run (fresh n start) cs in (g.memories k).turn.slot ≤ s → s < slot_limit → is_out (g.memories k).group s ≡ puts_out false (g.taken k) (owner_of n s) s
    out_at k s l u = out_slots n start setting cs f p k s l u ∙ ap (λ (x : ℕ). puts_out false (g.taken k) (owner_of x s) s) (sound-at k).size

    handed-next : AllHanded g → (c : CallAt) → PremiseOf n start g c → AllHanded (next g c)
    handed-next H c P k below = same_by k c.at
        (λ e. let h : c.at < n = rw e at below in
        rw (e, eq-eqb c.at c.at refl)
        (handed-by n start c.at (g.memories c.at) (own_at c.at h) (g.disks c.at) (filled-after n start setting cs f c.at h) g.blocks (g.taken c.at)
        (out_at c.at (g.memories c.at).turn.slot (omega arith)) (H c.at h) c.does P.delivered P.lent))
        (λ d. rw (ne_eqb k c.at d) (more_handed n (g.memories k) (g.disks k).journal (g.taken k) g.blocks (did g c).answer (H k below)))

  pub handed-all : (cs : List CallAt) → Calls n cs → PremiseFrom n start (fresh n start) cs → AllHanded (run (fresh n start) cs)
  unfolding run
  handed-all cs f p = walk (λ (l : List CallAt). AllHanded (run (fresh n start) l)) [] cs fresh-handed
      (λ mid c q H.
      let e : cs ≡ mid ++ (c ∷ q.0) = q.1 in
      subst AllHanded (sym (run_on mid (fresh n start) c))
      (handed-next mid (calls-part n start cs mid (c ∷ q.0) e f) (premise-part n start cs mid (c ∷ q.0) e (fresh n start) p) H c (premise-of n start (fresh n start) cs p mid c q)))
