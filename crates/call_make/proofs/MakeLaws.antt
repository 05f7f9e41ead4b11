-- What a make gives, refused or not. Assumes nothing.
use Prim.Native.Nat.{ℕ, ◌*◌, ◌≤◌, ◌<◌, min}
use mathlib.Core.Path.{◌≡◌, refl, sym, ap, ◌∙◌}
use mathlib.Core.Bool.{Bool, true, false, not, ◌&&◌, ◌||◌, true≢false}
use mathlib.Core.List.{List, append-nil}
use native.Mathlib.Omega.{arith}
use borrow.Author.Tests.{eq-eqb, ne_eqb, le-leb, lt-leb, eqb-true, leb-true, leb-false, not-false}
use lib.Dec.{eqb, leb}
use lib.IntN.{ℤ, pos}
use lib.ListN.{length, replicate, drop_of_length-le}
use lib.Seq.{paste, take_all}
use Rattle.block.specs.Answers.{first_of}
use Rattle.block.specs.Message.{within}
use Rattle.block.proofs.BoolLaws.{both}
use Rattle.memory.specs.declared.Counts.{Counts}
use Rattle.memory.specs.declared.Group.{Group}
use Rattle.memory.specs.declared.Turn.{Turn}
use Rattle.memory.specs.declared.Txn.{Txn}
use Rattle.memory.specs.Memory.{Memory, window_bytes, group_of}
use Rattle.memory.specs.Rows.{closed}
use Rattle.memory.specs.Window.{empty_window}
use Rattle.engine.proofs.Tests.{passes}
use Rattle.engine.specs.Answers.{outcome}
use Rattle.engine.specs.Answers.Answer.{refused, made}
use Rattle.engine.specs.Make.{turn_zero, counts_zero, made_memory, places_fit, slices_fit, parts_fit, make_refusal, make_step}
use Rattle.call_reply.specs.Parts.{all_parts}
use Rattle.call_reply.specs.declared.faults.Fault.{Fault}
use Rattle.call_reply.specs.Faults.{fault_number}
use Rattle.call_reply.proofs.FaultLaws.{fault_some}
use Rattle.call_make.specs.Made.{refusal_of}

pub record Long (m : Memory) : Type 0 where
  pub queue : length m.txns.queue ≡ 6
  pub items : length m.txns.items ≡ 48
  pub writes : length m.txns.writes ≡ 48
  pub snapshots : length m.txns.snapshots ≡ 768
  pub values : length m.store.values ≡ 128
  pub stamps : length m.store.stamps ≡ 128
  pub classes : length m.store.classes ≡ 128
  pub outbox : length m.blocks.outbox ≡ 512
  pub window : length m.blocks.window ≡ window_bytes

pub slices_long : (m : Memory) → slices_fit m ≡ true → Long m
slices_long m h =
    let a = both _ _ h in
    let b = both _ _ a.right in
    let c = both _ _ b.right in
    let d = both _ _ c.right in
    let e = both _ _ d.right in
    let f = both _ _ e.right in
    let g = both _ _ f.right in
    let k = both _ _ g.right in
    record {
      queue = eqb-true _ 6 a.left;
      items = eqb-true _ 48 b.left;
      writes = eqb-true _ 48 c.left;
      snapshots = eqb-true _ 768 d.left;
      values = eqb-true _ 128 e.left;
      stamps = eqb-true _ 128 f.left;
      classes = eqb-true _ 128 g.left;
      outbox = eqb-true _ 512 k.left;
      window = eqb-true _ window_bytes k.right;
    }

made_is : (n own : ℕ) (values : List ℤ) {q i : List ℕ} {w s v : List ℤ} {t k p o l : List ℕ} → q ≡ replicate 6 0 → i ≡ replicate 48 0 → w ≡ replicate 48 (pos 0)
    → s ≡ replicate 768 (pos 0) → v ≡ values → t ≡ replicate 128 0 → k ≡ replicate 128 0 → p ≡ replicate (512 * n) 0 → o ≡ replicate 512 0 → l ≡ empty_window
    → all_parts (group_of n own) turn_zero counts_zero (replicate 6 closed) q i w s v t k p o l ≡ made_memory n own values
unfolding made_memory
made_is n own values eq ei ew es ev et ek ep eo el = λ z. all_parts (group_of n own) turn_zero counts_zero (replicate 6 closed) (eq z) (ei z) (ew z) (es z) (ev z) (et z) (ek z) (ep z) (eo z) (el z)

-- zeros, as many as a window has
cleared : (k : ℕ) → k ≡ window_bytes → replicate k 0 ≡ empty_window
unfolding empty_window
cleared k e = ap (λ (z : ℕ). replicate z 0) e

-- what a make that is not refused has been given
pub record Given (m : Memory) (n own : ℕ) (values : List ℤ) : Type 0 where
  pub start : length values ≡ 128
  pub long : Long m
  pub places : length m.blocks.places ≡ 512 * n
  pub least : 2 ≤ n
  pub most : n ≤ 6
  pub own-low : own < n

neither : (a b : Bool) → a || b ≡ false → (a ≡ false) × (b ≡ false)
neither true b e = absurd (true≢false e)
neither false b e = (refl, e)

pub given : (m : Memory) (n own : ℕ) (values : List ℤ) → make_refusal m n own values ≡ 0 → Given m n own values
unfolding make_refusal parts_fit places_fit within
given m n own values e =
    let p = passes _ _ refl e in
    let q = passes _ _ refl p.1 in
    let l = both (eqb (length values) 128) (slices_fit m && places_fit m.blocks.places n) (not-false _ p.0) in
    let f = both (slices_fit m) (places_fit m.blocks.places n) l.right in
    let r = neither (not (within 2 6 n)) (leb n own) q.0 in
    let w = both (leb 2 n) (leb n 6) (not-false _ r.0) in
    record {
      start = eqb-true _ 128 l.left;
      long = slices_long m f.left;
      places = eqb-true _ _ (rw (w.left, w.right) at f.right);
      least = leb-true 2 n w.left;
      most = leb-true n 6 w.right;
      own-low = leb-false n own r.1;
    }

module _ (m : Memory) (n own : ℕ) (values : List ℤ) where
  pub refusal_is : make_refusal m n own values ≡ refusal_of n own (length values) (slices_fit m) (not (within 2 6 n) || eqb (length m.blocks.places) (512 * n))
  unfolding make_refusal parts_fit places_fit
  refusal_is = refl

  pub make-refused : (f : Fault) → fault_number f ≡ make_refusal m n own values → outcome (refused (fault_number f)) m ≡ make_step m n own values
  unfolding make_step
  make-refused f number = rw (← number, ne_eqb (fault_number f) 0 (fault_some f))

  -- what the functions that clear and copy leave of the lent slices
  pub make-taken : 0 ≡ make_refusal m n own values → (q i : List ℕ) (w s v : List ℤ) (t x p o l : List ℕ)
      → q ≡ replicate (length m.txns.queue) 0 → i ≡ replicate (length m.txns.items) 0
      → w ≡ replicate (length m.txns.writes) (pos 0) → s ≡ replicate (length m.txns.snapshots) (pos 0)
      → v ≡ values → t ≡ replicate (length m.store.stamps) 0 → x ≡ replicate (length m.store.classes) 0
      → p ≡ replicate (length m.blocks.places) 0 → o ≡ replicate (length m.blocks.outbox) 0 → l ≡ replicate (length m.blocks.window) 0
      → outcome made (all_parts (group_of n own) turn_zero counts_zero (replicate 6 closed) q i w s v t x p o l) ≡ make_step m n own values
  unfolding make_step
  make-taken number q i w s v t x p o l eq ei ew es ev et ex ep eo el =
      let g = given m n own values (sym number) in
      let f = g.long in
      rw (← number)
      (ap (outcome made)
      (made_is n own values
      (eq ∙ ap (λ (z : ℕ). replicate z 0) f.queue)
      (ei ∙ ap (λ (z : ℕ). replicate z 0) f.items)
      (ew ∙ ap (λ (z : ℕ). replicate z (pos 0)) f.writes)
      (es ∙ ap (λ (z : ℕ). replicate z (pos 0)) f.snapshots)
      ev
      (et ∙ ap (λ (z : ℕ). replicate z 0) f.stamps)
      (ex ∙ ap (λ (z : ℕ). replicate z 0) f.classes)
      (ep ∙ ap (λ (z : ℕ). replicate z 0) g.places)
      (eo ∙ ap (λ (z : ℕ). replicate z 0) f.outbox)
      (el ∙ cleared _ f.window)))
