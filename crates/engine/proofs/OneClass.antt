-- With no table of classes loaded a write is that of an engine without classes. Assumes nothing.
use Prim.Native.Nat.{ℕ, zero, suc, ◌-◌, ◌<◌, min}
use mathlib.Core.Path.{◌≡◌, refl, ap, ◌∙◌}
use mathlib.Core.Bool.{true, false, not}
use mathlib.Core.List.{List, [], ◌∷◌}
use native.Mathlib.Omega.{arith}
use lib.IntN.{ℤ}
use lib.ListN.{length, get_or}
use borrow.Author.Tests.{eq-eqb, not-true}
use Rattle.block.specs.Message.{Record}
use Rattle.block.specs.Answers.{record_at, entry_at}
use Rattle.block.proofs.BoolLaws.{both}
use Rattle.memory.specs.Memory.{Store, Memory, is_station}
use Rattle.memory.specs.Notices.{Notice}
use Rattle.engine.specs.Answers.{Outcome}
use Rattle.engine.specs.Answers.Answer.{loaded}
use Rattle.engine.specs.Make.{made_memory}
use Rattle.engine.specs.Moves.{entries_for, writeset_at, block_at_turn}
use Rattle.engine.specs.Classes.{is_applying, has_class, class_from, class_to_come, must_wait}
use Rattle.engine.specs.Client.{row_no, write_refusal, write_unless, write_row}
use Rattle.engine.specs.Restart.{blocks_in, Replayed, commit_all, commit_blocks, commit_one, start_replay, writesets_in, restarted_memory}
use Rattle.engine.specs.Calls.{Call, step}
use Rattle.engine.specs.Calls.Call.{begin, read, write, ask, withdraw, report, send, deliver, work, load, notice}
use Rattle.engine.specs.History.{AnyCall, any_step, after_all}
use Rattle.engine.specs.History.AnyCall.{call, restart}
use Rattle.engine.specs.Shape.{Shape}
use Rattle.engine.specs.OneClass.{unclassed_refusal, unclassed_write, Unloaded, is_load, no_loads, OneClass}
use Rattle.engine.proofs.Tests.{bool_by, clash}
use Rattle.engine.proofs.Steps.{writes_so, load-by, restart-by}
use Rattle.engine.proofs.Reached.{Reached, made_reached, restarted_reached, all-reached}
use Rattle.engine.proofs.BlockFacts.{taken_block}
use Rattle.engine.proofs.ShapeMade.{get_or-zeros}
use Rattle.engine.proofs.Frames.{frames}

-- ---- the condition of 7

-- a writeset with an entry has the one class there is
first-has : (classes : List ℕ) → ((i : ℕ) → get_or classes i 0 ≡ 0) → (b : List ℕ) (j e n : ℕ) → 0 < n → has_class classes 0 (entries_for b j e n) ≡ true
unfolding has_class entries_for
first-has classes z b j e zero h = absurd (omega arith)
first-has classes z b j e (suc n) h = rw (z (entry_at b j e).item) refl

first_from : (classes b : List ℕ) (j k : ℕ) → 0 < k → has_class classes 0 (writeset_at b j).entries ≡ true → class_from classes 0 b j k ≡ true
unfolding class_from
first_from classes b j zero h e = absurd (omega arith)
first_from classes b j (suc k) h e = rw e refl

module _ {over : ℕ} (m : Memory) (S : Shape over m) (none : Unloaded m) where
  class-zero : (i : ℕ) → get_or m.store.classes i 0 ≡ 0
  class-zero i = rw none (get_or-zeros 128 i)

  -- with the mark on a writeset is left, and it has an entry
  to-come : is_applying m ≡ true → class_to_come m 0 ≡ true
  unfolding class_to_come
  to-come on =
      let d = S.places.applying on in
      let p = S.places.done d in
      let t = taken_block (block_at_turn m) (S.places.waits m.turn.slot (omega arith) (omega (arith, S.ranges.least)) p.0).0 in
      let more = p.1 in
      let kind = t.kind (λ e. let z = t.next e in omega arith) in
      let w = t.writes m.counts.done more in
      rw (
        kind,
        first_from m.store.classes (block_at_turn m) m.counts.done (get_or (block_at_turn m) 3 0 - m.counts.done) (omega arith)
            (first-has m.store.classes class-zero (block_at_turn m) m.counts.done 0 (min (record_at (block_at_turn m) m.counts.done).writes 8) (omega arith)),
      ) refl

  waits-same : (item : ℕ) → must_wait m item ≡ is_applying m
  unfolding must_wait
  waits-same item =
      bool_by (is_applying m)
      (λ e. rw (e, class-zero item, to-come e) refl)
      (λ e. rw e refl)

  refusal_same : (r item : ℕ) → write_refusal m r item ≡ unclassed_refusal m r item
  unfolding write_refusal unclassed_refusal
  refusal_same r item =
      rw (waits-same item, eq-eqb (length m.store.classes) 128 S.lengths.classes, eq-eqb _ _ S.lengths.places, eq-eqb (length m.store.stamps) 128 S.lengths.stamps) refl

  write_same : is_station m ≡ false → (ticket item : ℕ) (value : ℤ) → step m (write ticket item value) ≡ unclassed_write m ticket item value
  unfolding write_row
  write_same h ticket item value = writes_so m h ticket item value ∙ ap (λ (n : ℕ). write_unless n m (row_no m ticket) item value) (refusal_same (row_no m ticket) item)

-- ---- the table stays

stays : (m : Memory) (c : Call) → is_load (call c) ≡ false → (step m c).memory.store.classes ≡ m.store.classes
stays m begin h = ap (λ (s : Store). s.classes) (frames.begins m).kept.store
stays m (read t i) h = ap (λ (k : Memory). k.store.classes) (frames.reads m t i)
stays m (write t i v) h = ap (λ (s : Store). s.classes) (frames.writes m t i v).kept.store
stays m (ask t) h = ap (λ (s : Store). s.classes) (frames.asks m t).kept.store
stays m (withdraw t) h = ap (λ (s : Store). s.classes) (frames.withdraws m t).kept.store
stays m report h = ap (λ (k : Memory). k.store.classes) (frames.reports m)
stays m (send b) h = ap (λ (s : Store). s.classes) (frames.sends m b).store
stays m (deliver b) h = ap (λ (k : Memory). k.store.classes) (frames.delivers m b).rest
stays m work h = (frames.works m).classes
stays m (load l) h = clash {b = true} refl h
stays m (notice a) h = ap (λ (k : Memory). k.store.classes) (frames.notices m a).rest

kept : (m : Memory) (c : Call) → ((step m c).answer ≡ loaded → ⊥) → (step m c).memory.store.classes ≡ m.store.classes
kept m begin h = stays m begin refl
kept m (read t i) h = stays m (read t i) refl
kept m (write t i v) h = stays m (write t i v) refl
kept m (ask t) h = stays m (ask t) refl
kept m (withdraw t) h = stays m (withdraw t) refl
kept m report h = stays m report refl
kept m (send b) h = stays m (send b) refl
kept m (deliver b) h = stays m (deliver b) refl
kept m work h = stays m work refl
kept m (notice a) h = stays m (notice a) refl
kept m (load l) h =
    load-by (λ (o : Outcome). (o.answer ≡ loaded → ⊥) → o.memory.store.classes ≡ m.store.classes) m l (λ e k. absurd (k refl)) (λ e k. refl) h

-- ---- the start

made_none : (n own : ℕ) (values : List ℤ) → Unloaded (made_memory n own values)
unfolding made_memory
made_none n own values = refl

all_none : (ws : List Record) (r : Replayed) → (commit_all r ws).store.classes ≡ r.store.classes
unfolding commit_all
all_none [] r = refl
all_none (w ∷ ws) r = all_none ws (commit_one r w)

blocks_none : (bs : List (List ℕ)) (r : Replayed) → (commit_blocks r bs).store.classes ≡ r.store.classes
unfolding commit_blocks
blocks_none [] r = refl
blocks_none (b ∷ bs) r = blocks_none bs (commit_all r (writesets_in b)) ∙ all_none (writesets_in b) r

restarted_none : (n own : ℕ) (values : List ℤ) (notices : List Notice) (bs : List (List ℕ)) → Unloaded (restarted_memory n own values notices bs)
unfolding restarted_memory
restarted_none n own values notices bs = blocks_none bs (start_replay values)

-- ---- a list

any_none : (m : Memory) (c : AnyCall) → is_load c ≡ false → Unloaded m → Unloaded (any_step m c).memory
any_none m (call c) h u = stays m c h ∙ u
any_none m (restart n own values journal notices block) h u =
    restart-by (λ (o : Outcome). Unloaded o.memory) m n own values journal notices block (λ e. restarted_none n own values notices (blocks_in n journal)) (λ e. u)

none_after : (m : Memory) (cs : List AnyCall) → no_loads cs ≡ true → Unloaded m → Unloaded (after_all m cs)
unfolding after_all no_loads
none_after m [] h u = u
none_after m (c ∷ cs) h u =
    let b = both (not (is_load c)) (no_loads cs) h in
    none_after (any_step m c).memory cs b.right (any_none m c (not-true (is_load c) b.left) u)

write_after : (m : Memory) → Reached m → Unloaded m → (cs : List AnyCall) → no_loads cs ≡ true → (ticket item : ℕ) (value : ℤ)
    → step (after_all m cs) (write ticket item value) ≡ unclassed_write (after_all m cs) ticket item value
write_after m R u cs q = let N = all-reached m R cs in write_same (after_all m cs) N.shape (none_after m cs q u) N.replica

pub one_class : OneClass
one_class = record {
  writes = λ m S h u. write_same m S u h;
  kept = kept;
  made = λ n own values g. write_after (made_memory n own values) (made_reached n own values g) (made_none n own values);
  restarted = λ n own values g journal notices.
      write_after (restarted_memory n own values notices (blocks_in n journal)) (restarted_reached n own values g journal notices)
      (restarted_none n own values notices (blocks_in n journal));
}
