-- A block that has come waits in its place until the turn has passed its slot; what a send and a work need so as not to be refused. Assumes nothing.
use Prim.Native.Nat.{ℕ, suc, ◌+◌, ◌≤◌, ◌<◌}
use mathlib.Core.Path.{◌≡◌, refl, ap, ◌∙◌}
use mathlib.Core.Bool.{Bool, true, false, not, ◌&&◌}
use mathlib.Core.Logic.{◌⊎◌, inl, inr}
use mathlib.Core.List.{List, [], ◌∷◌}
use native.Mathlib.Nat.{mod-lt}
use native.Mathlib.Omega.{arith}
use lib.Dec.{eqb}
use lib.ListN.{length, get_or}
use borrow.Author.Tests.{eq-eqb, ne_eqb, ltb-true, lt-leb, leb-false, not-true}
use Rattle.block.specs.Message.{owner_of}
use Rattle.block.specs.Answers.{first_of, block_refusal, header_of}
use Rattle.block.proofs.BoolLaws.{joined}
use Rattle.block.proofs.AnswerLaws.{is_taken}
use Rattle.memory.specs.declared.Group.{Group}
use Rattle.memory.specs.Memory.{Memory, is_station, slot_limit}
use Rattle.memory.specs.Turns.{is_empty, emptied}
use Rattle.engine.specs.Answers.{Outcome, number_of}
use Rattle.engine.specs.Moves.{send_lent, slots_spent, others_turn, out_at_turn, sent_already, send_refusal, send_now, same_bytes, deliver_lent, other_group, slot_past, slot_out, slot_ahead, not_sent_here, place_taken, deliver_refusal, deliver_now, block_at_turn, work_lent, nothing_waits, work_refusal, is_last, pass_next, commit_writeset, pass_out, writeset_at}
use Rattle.engine.specs.Calls.{Call, step, refusal_of}
use Rattle.engine.specs.Calls.Call.{begin, read, write, ask, withdraw, report, send, deliver, work, load, notice}
use Rattle.engine.specs.Frames.{TurnKept}
use Rattle.engine.specs.Shape.{Shape}
use Rattle.engine.proofs.Tests.{bool_by, same_by, less_by, clash}
use Rattle.engine.proofs.PlaceLaws.{empty_block, empty_same}
use Rattle.engine.proofs.BlockFacts.{taken_block}
use Rattle.engine.proofs.Steps.{send_by, deliver-by, work-by, load-by, notice-by}
use Rattle.engine.proofs.Passed.{DeliverPassed, deliver_passed}
use Rattle.engine.proofs.Frames.{frames}
use Rattle.engine.proofs.Refusals.{refusals}
use Rattle.engine.proofs.Shaping.{bumps}
use Rattle.engine.proofs.ShapeDeliver as delivered
use Rattle.engine.proofs.ShapeTurn.{Working, working, beside}
use Rattle.engine.proofs.ShapeWriteset.{committed}
use Rattle.protocol.proofs.ListLaws.{and_no}

-- the turn has passed slot s, or a block waits in its place
abbrev pub HasCome : ℕ → Memory → Type 0
HasCome s m = (s < m.turn.slot) ⊎ ((s < m.turn.slot + m.group.replicas) × (is_empty m.group.replicas s m.blocks.places ≡ false))

-- turn and places are as they were
kept : (s : ℕ) (m n : Memory) → n.turn ≡ m.turn → n.group.replicas ≡ m.group.replicas → n.blocks ≡ m.blocks → HasCome s m → HasCome s n
kept s m n t r b h = rw (t, r, b) h

kept_by : (s : ℕ) (m n : Memory) → TurnKept m n → HasCome s m → HasCome s n
kept_by s m n k = kept s m n k.turn (ap (λ (g : Group). g.replicas) k.group) k.blocks

module _ {over : ℕ} (m : Memory) (S : Shape over m) (s : ℕ) (C : HasCome s m) where
  come-sent : HasCome s (send_now m).memory
  unfolding send_now
  come-sent = C

  come-delivered : (b : List ℕ) → DeliverPassed m b → HasCome s (deliver_now m b).memory
  unfolding deliver_now
  come-delivered b k = go C
    where
      go : HasCome s m → HasCome s (deliver_now m b).memory
      go (inl h) = inl h
      go (inr w) =
          less_by s m.turn.slot inl (λ l. same_by s (header_of b).slot
          (λ z. clash k.empty (rw z at w.1))
          (λ d. let e = delivered.beside m b S k s l w.0 d in inr (w.0, empty_same m.group.replicas s _ m.blocks.places e ∙ w.1)))

  -- the turn went up, and the places of the slots behind it are as they were
  turned : (n : Memory) → n.turn.slot ≡ suc m.turn.slot → n.group ≡ m.group
      → ((u : ℕ) → suc m.turn.slot ≤ u → u < m.turn.slot + m.group.replicas
      → is_empty m.group.replicas u n.blocks.places ≡ is_empty m.group.replicas u m.blocks.places) → HasCome s n
  turned n t r b = rw (t, r) (go C)
    where
      go : HasCome s m → (s < suc m.turn.slot) ⊎ ((s < suc m.turn.slot + m.group.replicas) × (is_empty m.group.replicas s n.blocks.places ≡ false))
      go (inl h) = inl (omega arith)
      go (inr q) = less_by s (suc m.turn.slot) inl (λ l. let u = q.0 in inr (omega arith, b s l u ∙ q.1))

  -- its place empties
  left : (n : Memory) → Working m → n.turn.slot ≡ suc m.turn.slot → n.group ≡ m.group
      → n.blocks.places ≡ emptied m.group.replicas m.turn.slot m.blocks.places → HasCome s n
  left n w t r b = turned n t r (λ u l h. ap (is_empty m.group.replicas u) b ∙ empty_same m.group.replicas u _ m.blocks.places (beside m S w u l h))

  come-worked : HasCome s (step m work).memory
  unfolding pass_next commit_writeset pass_out
  come-worked = work-by (λ (o : Outcome). HasCome s o.memory) m
      (λ e u. turned (pass_out m).memory (bumps m S).slot refl (λ v l h. refl))
      (λ e k. left (pass_next m).memory (working m S e) (bumps m S).slot refl refl)
      (λ e k. by (working m S e) (eqb (get_or (block_at_turn m) 1 0) m.group.own) (is_last m))
      (λ e. C)
    where
      by : Working m → (mine last : Bool) → HasCome s (committed m mine mine last (writeset_at (block_at_turn m) m.counts.done))
      by w mine true = left (committed m mine mine true (writeset_at (block_at_turn m) m.counts.done)) w (bumps m S).slot refl refl
      by w true false = C
      by w false false = C

  pub come-each : (c : Call) → HasCome s (step m c).memory
  come-each begin = kept_by s m (step m begin).memory (frames.begins m).kept C
  come-each (read t i) = rw (frames.reads m t i) C
  come-each (write t i v) = kept_by s m (step m (write t i v)).memory (frames.writes m t i v).kept C
  come-each (ask t) = kept_by s m (step m (ask t)).memory (frames.asks m t).kept C
  come-each (withdraw t) = kept_by s m (step m (withdraw t)).memory (frames.withdraws m t).kept C
  come-each report = rw (frames.reports m) C
  come-each (send b) = send_by (λ (o : Outcome). HasCome s o.memory) m b (λ e. come-sent) (λ k e d. C)
  come-each (deliver b) = deliver-by (λ (o : Outcome). HasCome s o.memory) m b (λ e. come-delivered b (deliver_passed m b e)) (λ e. C)
  come-each work = come-worked
  come-each (load l) = load-by (λ (o : Outcome). HasCome s o.memory) m l (λ e. C) (λ e. C)
  come-each (notice a) = notice-by (λ (o : Outcome). HasCome s o.memory) m a (λ e. C) (λ e. C)

-- ---- a block given

-- bytes are the same as themselves
pub bytes_same : (b : List ℕ) → same_bytes b b ≡ true
unfolding same_bytes
bytes_same [] = refl
bytes_same (x ∷ xs) = joined (eq-eqb x x refl) (bytes_same xs)

-- it is good, of this group, and the one sent where it is the replica's own and the turn has not passed its slot
pub record Givable (m : Memory) (b : List ℕ) : Type 0 where
  pub taken : block_refusal b ≡ 0
  pub replicas : (header_of b).replicas ≡ m.group.replicas
  pub ours : slot_past m b ≡ false → not_sent_here m b ≡ false

module _ {over : ℕ} (m : Memory) (S : Shape over m) (b : List ℕ) (G : Givable m b) where
  here : (k : DeliverPassed m b) → HasCome (header_of b).slot (deliver_now m b).memory
  unfolding deliver_now
  here k = inr (
    k.high,
    empty_block m.group.replicas (header_of b).slot _ ∙ ap (λ (x : List ℕ). eqb (get_or x 0 0) 0) (delivered.same m b S k)
        ∙ ne_eqb (get_or b 0 0) 0 (λ z. let t = taken_block b G.taken in omega (arith, t.kind (λ y. omega arith))),
  )

  lent : deliver_lent m b ≡ true
  lent = joined (eq-eqb _ _ S.lengths.places) (joined (eq-eqb (length m.blocks.outbox) 512 S.lengths.outbox) (eq-eqb (length b) 512 (is_taken b G.taken).long))

  ours-group : other_group m b ≡ false
  ours-group = rw (eq-eqb (header_of b).replicas m.group.replicas G.replicas)

  -- what a deliver of it is answered: by its slot, then by its place
  past-17 : slot_past m b ≡ true → deliver_refusal m b ≡ 17
  unfolding deliver_refusal first_of
  past-17 p = let k = is_taken b G.taken in rw (lent, k.checks, k.forms, ours-group, p) refl

  module _ (p : slot_past m b ≡ false) where
    out-29 : slot_out m b ≡ true → deliver_refusal m b ≡ 29
    unfolding deliver_refusal first_of
    out-29 u = let k = is_taken b G.taken in rw (lent, k.checks, k.forms, ours-group, p, u) refl

    module _ (u : slot_out m b ≡ false) where
      ahead-18 : slot_ahead m b ≡ true → deliver_refusal m b ≡ 18
      unfolding deliver_refusal first_of
      ahead-18 h = let k = is_taken b G.taken in rw (lent, k.checks, k.forms, ours-group, p, u, h) refl

      placed-20 : slot_ahead m b ≡ false → place_taken m b ≡ true → deliver_refusal m b ≡ 20
      unfolding deliver_refusal first_of
      placed-20 h t = let k = is_taken b G.taken in rw (lent, k.checks, k.forms, ours-group, p, u, h, G.ours p, t) refl

      kept_0 : slot_ahead m b ≡ false → place_taken m b ≡ false → deliver_refusal m b ≡ 0
      unfolding deliver_refusal first_of
      kept_0 h t = let k = is_taken b G.taken in rw (lent, k.checks, k.forms, ours-group, p, u, h, G.ours p, t) refl

  -- to prove P, prove it of each answer
  pub given_by : {P : Type 0} → (deliver_refusal m b ≡ 0 → P) → (slot_past m b ≡ true → deliver_refusal m b ≡ 17 → P) → (slot_ahead m b ≡ true → deliver_refusal m b ≡ 18 → P)
      → (slot_ahead m b ≡ false → place_taken m b ≡ true → deliver_refusal m b ≡ 20 → P) → (slot_past m b ≡ false → slot_out m b ≡ true → deliver_refusal m b ≡ 29 → P) → P
  given_by zero past ahead placed out =
      bool_by (slot_past m b) (λ p. past p (past-17 p))
      (λ p. bool_by (slot_out m b) (λ u. out p u (out-29 p u))
      (λ u. bool_by (slot_ahead m b) (λ h. ahead h (ahead-18 p u h))
      (λ h. bool_by (place_taken m b) (λ t. placed h t (placed-20 p u h t)) (λ t. zero (kept_0 p u h t)))))

  -- its number
  pub given-number : let a = deliver_refusal m b in (a ≡ 0) ⊎ ((a ≡ 17) ⊎ ((a ≡ 18) ⊎ ((a ≡ 20) ⊎ (a ≡ 29))))
  given-number = given_by inl (λ p e. inr (inl e)) (λ h e. inr (inr (inl e))) (λ h t e. inr (inr (inr (inl e)))) (λ p u e. inr (inr (inr (inr e))))

  -- a deliver of it that is answered neither 18 nor 29 is accepted, or the turn has passed its slot or its place is taken
  pub come-given : (deliver_refusal m b ≡ 18 → ⊥) → (deliver_refusal m b ≡ 29 → ⊥) → HasCome (header_of b).slot (step m (deliver b)).memory
  come-given near live = deliver-by (λ (o : Outcome). HasCome (header_of b).slot o.memory) m b (λ e. here (deliver_passed m b e))
      (λ e. given_by (λ z. absurd (e z)) (λ p z. inl (ltb-true _ _ p)) (λ h z. absurd (near z)) (λ h t z. inr (leb-false _ _ h, not-true _ t)) (λ p u z. absurd (live z)))

-- ---- a work, a send

module _ {over : ℕ} (m : Memory) (S : Shape over m) where
  can-work : not (out_at_turn m) && nothing_waits m ≡ false → work_refusal m ≡ 0
  unfolding work_refusal first_of
  can-work w =
      let l : work_lent m ≡ true =
      joined (eq-eqb _ _ S.lengths.places) (joined (eq-eqb _ _ S.lengths.items) (joined (eq-eqb _ _ S.lengths.queue) (joined (eq-eqb _ _ S.lengths.values) (joined (eq-eqb _ _ S.lengths.stamps) (eq-eqb _ _ S.lengths.window))))) in
      rw (l, w) refl

  can-send : (b : List ℕ) → length b ≡ 512 → m.turn.slot < slot_limit → owner_of m.group.replicas m.turn.slot ≡ m.group.own → out_at_turn m ≡ false → sent_already m ≡ false
      → send_refusal m b ≡ 0
  unfolding send_refusal first_of
  can-send b h t o v u =
      let l : send_lent m b ≡ true =
      joined (joined (eq-eqb _ _ S.lengths.items) (eq-eqb _ _ S.lengths.writes)) (joined (eq-eqb _ _ S.lengths.queue) (joined (eq-eqb _ _ S.lengths.outbox) (eq-eqb _ _ h))) in
      let e : slots_spent m ≡ false = lt-leb _ _ t in
      let f : others_turn m ≡ false = rw (eq-eqb (owner_of m.group.replicas m.turn.slot) m.group.own o) in
      rw (l, e, f, v, u) refl

  -- a block waits, or the slot is out
  pub works : nothing_waits m ≡ false → number_of (step m work).answer ≡ 0
  unfolding refusal_of
  works w = refusals.number m work ∙ can-work (rw w (and_no (not (out_at_turn m))))

  pub works_out : out_at_turn m ≡ true → number_of (step m work).answer ≡ 0
  unfolding refusal_of
  works_out u = refusals.number m work ∙ can-work (rw u refl)

  -- who owns a slot has a number
  owns-numbered : owner_of m.group.replicas m.turn.slot ≡ m.group.own → is_station m ≡ false
  unfolding owner_of
  owns-numbered o =
      let a = S.ranges.least in
      let b = S.ranges.most in
      let c = mod-lt m.turn.slot {m = m.group.replicas} (omega arith) in
      ne_eqb m.group.own 255 (λ z. omega arith)

  pub sends : (b : List ℕ) → length b ≡ 512 → m.turn.slot < slot_limit → owner_of m.group.replicas m.turn.slot ≡ m.group.own → out_at_turn m ≡ false → sent_already m ≡ false
      → number_of (step m (send b)).answer ≡ 0
  unfolding refusal_of
  sends b h t o v u = refusals.number m (send b) ∙ rw (owns-numbered o) (can-send b h t o v u)
