-- What a call owes at a member of the group: at a replica what it owes there, and at a station the model's step at a member that owns no slot. Assumes nothing.
use Prim.Native.Nat.{ℕ, ◌%◌, ◌≤◌, ◌<◌}
use mathlib.Core.Path.{◌≡◌, refl, sym, ap, ◌∙◌, subst}
use mathlib.Core.Bool.{true}
use mathlib.Core.Option.{some}
use mathlib.Core.List.{List}
use native.Mathlib.Nat.{mod-lt}
use native.Mathlib.Omega.{arith}
use lib.IntN.{ℤ}
use lib.ListN.{length, replicate}
use borrow.Author.Tests.{eq-eqb}
use Rattle.block.specs.Message.{owner_of}
use Rattle.block.specs.Answers.{block_refusal, header_of}
use Rattle.memory.specs.Memory.{Memory, no_number, is_station}
use Rattle.memory.specs.Notices.{Notice}
use Rattle.memory.specs.Turns.{block_in, is_empty}
use Rattle.engine.specs.Answers.{Outcome, outcome}
use Rattle.engine.specs.Answers.Answer.{refused, restarted}
use Rattle.engine.specs.Make.{SettingOf}
use Rattle.engine.specs.Moves.{deliver_refusal}
use Rattle.engine.specs.Notices.{notice_refusal}
use Rattle.engine.specs.Restart.{blocks_in, last_own, restarted_memory, restart_refusal, restart_step}
use Rattle.engine.specs.Calls.{Call, step}
use Rattle.engine.specs.Calls.Call.{begin, read, write, ask, withdraw, report, send, deliver, work, load, notice}
use Rattle.engine.specs.History.{AnyCall}
use Rattle.engine.specs.History.AnyCall.{call, restart}
use Rattle.engine.proofs.Tests.{bool_by, not_first}
use Rattle.engine.proofs.Steps.{deliver-by, notice-by, restart-by}
use Rattle.engine.proofs.Passed.{deliver_passed, notice_passed, restart_passed}
use Rattle.engine.proofs.BlockFacts.{taken_block}
use Rattle.engine.proofs.Reports.{restarted_own}
use Rattle.engine.proofs.Stations.{stations}
use Rattle.protocol.specs.Writesets.{Message}
use Rattle.protocol.specs.Replica.{Event}
use Rattle.protocol.specs.System as system
use Rattle.protocol.specs.Machine.{Alike}
use Rattle.protocol.proofs.Stations.{alike-numbered, Foreign, step-under}
use Rattle.agreement.specs.Group.{message_in, heard}
use Rattle.agreement.proofs.View.{setup, place_at, view, view_at, Sound, meant, Owed, refuses, follows, alike_same}
use Rattle.agreement.proofs.PlaceView.{place_empty, place-taken}
use Rattle.agreement.proofs.BlockView.{sender_seen}
use Rattle.agreement.proofs.RestartStep.{not_nine, meant_by, restart-event, restart-alike}

-- a restart is lent N, the number and the starting values of member k
abbrev pub AsMade : ℕ → List ℤ → ℕ → ℕ → ℕ → List ℤ → Type 0
AsMade n start k size own values = (size ≡ n) × (own ≡ k) × (values ≡ start)

-- a restart that is accepted is
abbrev pub Ours : ℕ → List ℤ → ℕ → Memory → AnyCall → Type 0
Ours n start k m (call c) = Unit
Ours n start k m (restart size own values j l b) = (count : ℕ) (given : List ℕ) → (restart_step m size own values j l b).answer ≡ restarted count given → AsMade n start k size own values

-- what the outcome o of call c at member k owes: a refusal other than 9 that leaves the view alone, or the model's step
pub data OwedAt (n : ℕ) (start : List ℤ) (k : ℕ) (m : Memory) (c : AnyCall) (o : Outcome) : Type 0 where
  refuses-at : (i : ℕ) → (i ≡ 9 → ⊥) → heard c o.answer ≡ Event.refused i → Alike (setup n start) (view_at k m) (view_at k o.memory) → OwedAt n start k m c o
  follows-at : heard c o.answer ≡ (system.step (setup n start) (view_at k m) (meant_by c)).event → Alike (setup n start) (system.step (setup n start) (view_at k m) (meant_by c)).replica (view_at k o.memory)
      → OwedAt n start k m c o

turned_away_at : (n : ℕ) (start : List ℤ) (k : ℕ) (m : Memory) (c : AnyCall) (i : ℕ) → (i ≡ 9 → ⊥) → OwedAt n start k m c (outcome (refused i) m)
unfolding heard
turned_away_at n start k m c i h = refuses-at i h refl (alike_same (view_at k m))

-- ---- a replica

pub view-own : (k : ℕ) (m : Memory) → m.group.own ≡ k → view_at k m ≡ view m
view-own k m e = ap (λ (j : ℕ). view_at j m) (sym e)

module _ (n : ℕ) (start : List ℤ) (k : ℕ) (m : Memory) (q : m.group.own ≡ k) where
  pub replica-owes : (c : Call) (o : Outcome) → o.memory.group.own ≡ k → Owed n start m c o → OwedAt n start k m (call c) o
  replica-owes c o f (refuses i h e L) = refuses-at i h e (rw (view-own k m q, view-own k o.memory f) L)
  replica-owes c o f (follows e L) = follows-at (rw (view-own k m q) e) (rw (view-own k m q, view-own k o.memory f) L)

  -- lent what the group was made with
  restarted-owes : SettingOf n k start → (j : List ℕ) (l : List Notice) (b : List ℕ)
      → OwedAt n start k m (restart n k start j l b) (outcome (restarted (length (blocks_in n j)) (last_own k l (replicate 512 0) (blocks_in n j))) (restarted_memory n k start l (blocks_in n j)))
  restarted-owes g j l b =
      subst (λ (i : ℕ). OwedAt n start i m (restart n i start j l b)
      (outcome (restarted (length (blocks_in n j)) (last_own i l (replicate 512 0) (blocks_in n j))) (restarted_memory n i start l (blocks_in n j)))) q
      (follows-at (restart-event n start m j l b)
      (rw (view-own m.group.own (restarted_memory n m.group.own start l (blocks_in n j)) (restarted_own n m.group.own start l (blocks_in n j)))
      (restart-alike n start m j l b g.group.most (omega (arith, g.group.least)))))

  pub replica-restarts : (size own : ℕ) (values : List ℤ) (j : List ℕ) (l : List Notice) (b : List ℕ) → Ours n start k m (restart size own values j l b)
      → OwedAt n start k m (restart size own values j l b) (restart_step m size own values j l b)
  replica-restarts size own values j l b =
      restart-by (λ (o : Outcome). ((x : ℕ) (y : List ℕ) → o.answer ≡ restarted x y → AsMade n start k size own values) → OwedAt n start k m (restart size own values j l b) o) m size own values j l b
      (λ e f. let z = f _ _ refl in let g = restart_passed m size own values b e in rw (z.0, z.1, z.2) (restarted-owes (rw (z.0, z.1, z.2) at g) j l b))
      (λ e f. turned_away_at n start k m (restart size own values j l b) (restart_refusal m size own values b) (not_nine m size own values b))

-- ---- a station

-- the sender of a block of the group is one of its replicas
sender_among : (n : ℕ) (b : List ℕ) → 0 < n → block_refusal b ≡ 0 → (header_of b).replicas ≡ n → (message_in b).sender < n
unfolding owner_of
sender_among n b above e r = rw (sender_seen b, (taken_block b e).sender, r) (mod-lt (header_of b).slot above)

module _ (n : ℕ) (start : List ℤ) (most : n ≤ 6) (k : ℕ) (m : Memory) (s : Sound n m) (above : n ≤ k) (no_own : m.group.own ≡ no_number) where
  any-replica : 0 < n
  any-replica = omega (arith, s.shape.ranges.least, s.size)

  station : is_station m ≡ true
  station = eq-eqb m.group.own no_number no_own

  -- a message from a replica is met neither under its own number nor under the group's
  foreign : (a : Message ℤ) → a.sender < n → (a.sender ≡ m.group.own → ⊥) × (a.sender ≡ k → ⊥)
  foreign a h = ((λ e. let q = no_own in omega arith), (λ e. omega arith))

  -- the message at the turn is from a replica
  at_turn_lem : (a : Message ℤ) → place_at m.blocks.places (m.turn.slot % n) ≡ some a → a.sender < n
  at_turn_lem a e = bool_by (is_empty n m.turn.slot m.blocks.places)
      (λ z. let q = sym (place_empty n m.turn.slot m.blocks.places z) ∙ e in absurd (let w : ◌≡◌ {A = ℕ} 0 1 = cc in let v : ⊥ = omega arith in v))
      (λ z.
      let b = block_in n m.turn.slot m.blocks.places in
      let w = s.shape.places.waits m.turn.slot (omega arith) (omega (arith, s.shape.ranges.least)) (rw s.size z) in
      let q : message_in b ≡ a = (let q = sym (place-taken n m.turn.slot m.blocks.places z) ∙ e in cc) in
      rw (← q) (sender_among n b any-replica (rw s.size at w.0) (rw s.size at w.2)))

  under : (c : Call) (o : Outcome) → Foreign (setup n start) m.group.own (view m) (meant c) → Foreign (setup n start) k (view m) (meant c) → Owed n start m c o → OwedAt n start k m (call c) o
  under c o d e (refuses i h q L) = refuses-at i h q (alike-numbered (setup n start) k (view m) (view o.memory) L)
  under c o d e (follows q L) =
      let z = step-under (setup n start) k (view m) (meant c) d e in
      follows-at (rw z q) (rw z (alike-numbered (setup n start) k _ (view o.memory) L))

  pub station-owes : (c : Call) → Owed n start m c (step m c) → OwedAt n start k m (call c) (step m c)
  station-owes begin O = under begin _ tt tt O
  station-owes (read t i) O = under (read t i) _ tt tt O
  station-owes (write t i v) O = rw (stations.writes m station t i v) (turned_away_at n start k m (call (write t i v)) 25 (λ e. omega arith))
  station-owes (ask t) O = under (ask t) _ tt tt O
  station-owes (withdraw t) O = under (withdraw t) _ tt tt O
  station-owes report O = under report _ tt tt O
  station-owes (send b) O = rw (stations.sends m station b) (turned_away_at n start k m (call (send b)) 25 (λ e. omega arith))
  station-owes (deliver b) O =
      deliver-by (λ (o : Outcome). Owed n start m (deliver b) o → OwedAt n start k m (call (deliver b)) o) m b
      (λ e. let p = deliver_passed m b e in
      let f = foreign (message_in b) (sender_among n b any-replica p.taken (p.replicas ∙ s.size)) in
      under (deliver b) _ f.0 f.1)
      (λ z Q. turned_away_at n start k m (call (deliver b)) (deliver_refusal m b) (unfold deliver_refusal in not_first 9 _ refl)) O
  station-owes work O = under work _ (λ a e. (foreign a (at_turn_lem a e)).0) (λ a e. (foreign a (at_turn_lem a e)).1) O
  station-owes (load l) O = under (load l) _ tt tt O
  station-owes (notice a) O =
      notice-by (λ (o : Outcome). Owed n start m (notice a) o → OwedAt n start k m (call (notice a)) o) m a
      (λ e. let h = (notice_passed m a e).about in
      under (notice a) _ (λ q. let z = no_own in omega (arith, s.size)) (λ q. omega (arith, s.size)))
      (λ z Q. turned_away_at n start k m (call (notice a)) (notice_refusal m a) (unfold notice_refusal in not_first 9 _ refl)) O

  -- a restart there is lent no number of the group's
  pub station-restarts : (size own : ℕ) (values : List ℤ) (j : List ℕ) (l : List Notice) (b : List ℕ) → Ours n start k m (restart size own values j l b)
      → OwedAt n start k m (restart size own values j l b) (restart_step m size own values j l b)
  station-restarts size own values j l b =
      restart-by (λ (o : Outcome). ((x : ℕ) (y : List ℕ) → o.answer ≡ restarted x y → AsMade n start k size own values) → OwedAt n start k m (restart size own values j l b) o) m size own values j l b
      (λ e f. let z = f _ _ refl in absurd (let w : ⊥ = omega (arith, (restart_passed m size own values b e).below, z.0, z.1) in w))
      (λ e f. turned_away_at n start k m (restart size own values j l b) (restart_refusal m size own values b) (not_nine m size own values b))
