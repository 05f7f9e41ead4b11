-- A giving slot by slot and work by work; what each of its calls keeps, the giving keeps. Assumes nothing.
use Prim.Native.Nat.{ℕ, zero, suc, ◌+◌, ◌-◌, ◌≤◌, ◌<◌}
use mathlib.Core.Path.{◌≡◌, refl, sym, ap, ◌∙◌}
use mathlib.Core.Bool.{Bool, true, false, cond, ◌&&◌}
use mathlib.Core.Logic.{◌⊎◌, inl, inr}
use mathlib.Core.List.{List, []}
use native.Mathlib.Omega.{arith}
use lib.Dec.{eqb}
use borrow.Author.Tests.{eq-eqb, eqb-true, ne_eqb}
use Rattle.block.proofs.BoolLaws.{both}
use Rattle.memory.specs.declared.Turn.{Turn}
use Rattle.memory.specs.Memory.{Memory, bump}
use Rattle.memory.specs.Turns.{mark_applying, advance}
use Rattle.memory.specs.Window.{kept_block}
use Rattle.engine.specs.Calls.{step}
use Rattle.engine.specs.Calls.Call.{deliver, work}
use Rattle.engine.proofs.Tests.{cond_by, clash}
use Rattle.engine.proofs.Frames.{frames}
use Rattle.giving.specs.Giving.{Going, set_out_field, doing, most_writesets, work_out, is_wanted, take_slot, give_slots, given_to, give_refusal, give_step}

-- ---- the works of a slot

pub work_none : (s : ℕ) (g : Going) → work_out s 0 g ≡ g
unfolding work_out
work_none s g = refl

pub work_more : (s c : ℕ) (g : Going) → g.number ≡ 0 → g.memory.turn.slot ≡ s → work_out s (suc c) g ≡ work_out s c (doing g work)
unfolding work_out
work_more s c g e t = rw (eq-eqb g.number 0 e, eq-eqb g.memory.turn.slot s t) refl

-- a refusal ends them
pub work_stop : (s c : ℕ) (g : Going) → (g.number ≡ 0 → ⊥) → work_out s c g ≡ g
unfolding work_out
work_stop s zero g d = refl
work_stop s (suc c) g d = rw (ne_eqb g.number 0 d) refl

-- and so does the turn
pub work_left : (s c : ℕ) (g : Going) → (g.memory.turn.slot ≡ s → ⊥) → work_out s c g ≡ g
unfolding work_out
work_left s zero g d = refl
work_left s (suc c) g d = cond_by (λ (x : Going). x ≡ g) (eqb g.number 0 && eqb g.memory.turn.slot s)
    (λ e. clash (both (eqb g.number 0) _ e).right (ne_eqb g.memory.turn.slot s d)) (λ e. refl)

-- ---- a slot

pub take_wanted : (block : List ℕ) (g : Going) → is_wanted g.memory ≡ true
    → take_slot block g ≡ work_out g.memory.turn.slot most_writesets (doing g (deliver block))
unfolding take_slot
take_wanted block g e = rw e refl

pub take_there : (block : List ℕ) (g : Going) → is_wanted g.memory ≡ false → take_slot block g ≡ work_out g.memory.turn.slot most_writesets g
unfolding take_slot
take_there block g e = rw e refl

-- ---- slot by slot

pub slots_none : (lent : List ℕ) (g : Going) → give_slots lent 0 g ≡ g
unfolding give_slots
slots_none lent g = refl

pub slots_more : (lent : List ℕ) (c : ℕ) (g : Going) → g.number ≡ 0
    → give_slots lent (suc c) g ≡ give_slots lent c (take_slot (kept_block lent g.memory.turn.slot) g)
unfolding give_slots
slots_more lent c g e = rw (eq-eqb g.number 0 e) refl

pub slots_stop : (lent : List ℕ) (c : ℕ) (g : Going) → (g.number ≡ 0 → ⊥) → give_slots lent c g ≡ g
unfolding give_slots
slots_stop lent zero g d = refl
slots_stop lent (suc c) g d = rw (ne_eqb g.number 0 d) refl

-- ---- the call

pub step_goes : (m : Memory) (told lent : List ℕ) → give_refusal m told lent ≡ 0 → give_step m told lent ≡ give_slots lent (given_to m told - m.turn.slot) (set_out_field m 0)
unfolding give_step
step_goes m told lent e = rw (eq-eqb (give_refusal m told lent) 0 e) refl

pub step-refused : (m : Memory) (told lent : List ℕ) → (give_refusal m told lent ≡ 0 → ⊥) → give_step m told lent ≡ set_out_field m (give_refusal m told lent)
unfolding give_step
step-refused m told lent d = rw (ne_eqb (give_refusal m told lent) 0 d) refl

-- level or ahead: no call at all
pub step-nothing : (m : Memory) (told lent : List ℕ) → give_refusal m told lent ≡ 0 → given_to m told ≤ m.turn.slot → give_step m told lent ≡ set_out_field m 0
step-nothing m told lent e h =
    let z : given_to m told - m.turn.slot ≡ 0 = omega arith in
    step_goes m told lent e ∙ ap (λ (c : ℕ). give_slots lent c (set_out_field m 0)) z ∙ slots_none lent (set_out_field m 0)

-- ---- what each call keeps

module _ (P : Going → Type 0) where
  -- a work at slot s
  pub work-keeps-at : (s : ℕ) → ((g : Going) → g.number ≡ 0 → g.memory.turn.slot ≡ s → P g → P (doing g work)) → (c : ℕ) (g : Going) → P g → P (work_out s c g)
  unfolding work_out
  work-keeps-at s works zero g p = p
  work-keeps-at s works (suc c) g p = cond_by P (eqb g.number 0 && eqb g.memory.turn.slot s)
      (λ e. let b = both (eqb g.number 0) _ e in
      work-keeps-at s works c (doing g work) (works g (eqb-true g.number 0 b.left) (eqb-true g.memory.turn.slot s b.right) p))
      (λ e. p)

  module _ (works : (g : Going) → P g → P (doing g work)) where
    pub work-keeps : (s c : ℕ) (g : Going) → P g → P (work_out s c g)
    work-keeps s c = work-keeps-at s (λ g e t. works g) c

    pub take-keeps : (block : List ℕ) (g : Going) → (P g → P (doing g (deliver block))) → P g → P (take_slot block g)
    unfolding take_slot
    take-keeps block g delivers p = work-keeps g.memory.turn.slot most_writesets _ (cond_by P (is_wanted g.memory) (λ e. delivers p) (λ e. p))

    module _ (lent : List ℕ) (delivers : (g : Going) (s : ℕ) → P g → P (doing g (deliver (kept_block lent s)))) where
      pub slots-keep : (c : ℕ) (g : Going) → P g → P (give_slots lent c g)
      unfolding give_slots
      slots-keep zero g p = p
      slots-keep (suc c) g p = cond_by P (eqb g.number 0)
          (λ e. slots-keep c (take_slot (kept_block lent g.memory.turn.slot) g) (take-keeps (kept_block lent g.memory.turn.slot) g (delivers g g.memory.turn.slot) p))
          (λ e. p)

      pub give-keeps : (m : Memory) (told : List ℕ) → ((n : ℕ) → P (set_out_field m n)) → P (give_step m told lent)
      unfolding give_step
      give-keeps m told p = cond_by P (eqb (give_refusal m told lent) 0) (λ e. slots-keep (given_to m told - m.turn.slot) (set_out_field m 0) (p 0)) (λ e. p (give_refusal m told lent))

-- ---- the slots whose blocks are delivered: from the turn on, up to the giver's

deliver_slot : (m : Memory) (b : List ℕ) → (step m (deliver b)).memory.turn.slot ≡ m.turn.slot
deliver_slot m b = ap (λ (x : Memory). x.turn.slot) (frames.delivers m b).rest

-- a work moves the turn by one, or not
work_slot : (m : Memory) → ((step m work).memory.turn.slot ≡ m.turn.slot) ⊎ ((step m work).memory.turn.slot ≡ bump m.turn.slot)
work_slot m = go (frames.works m).turn
  where
    go : ((step m work).memory.turn ≡ m.turn) ⊎ (((step m work).memory.turn ≡ mark_applying m.turn) ⊎ ((step m work).memory.turn ≡ advance m.turn))
        → ((step m work).memory.turn.slot ≡ m.turn.slot) ⊎ ((step m work).memory.turn.slot ≡ bump m.turn.slot)
    go (inl e) = inl (ap (λ (t : Turn). t.slot) e)
    go (inr (inl e)) = inl (ap (λ (t : Turn). t.slot) e)
    go (inr (inr e)) = inr (ap (λ (t : Turn). t.slot) e)

module _ (P : Going → Type 0) (works : (g : Going) → P g → P (doing g work)) (lent : List ℕ) where
  -- at slot s, or one further; its number has room for one more
  record Near (s : ℕ) (g : Going) : Type 0 where
    kept : P g
    low : s ≤ g.memory.turn.slot
    high : g.memory.turn.slot ≤ suc s
    room : g.memory.turn.slot ≤ 4_294_967_295

  near-work : (s : ℕ) (g : Going) → g.number ≡ 0 → g.memory.turn.slot ≡ s → Near s g → Near s (doing g work)
  unfolding doing bump
  near-work s g e t N = by (work_slot g.memory)
    where
      by : ((step g.memory work).memory.turn.slot ≡ g.memory.turn.slot) ⊎ ((step g.memory work).memory.turn.slot ≡ bump g.memory.turn.slot) → Near s (doing g work)
      by (inl q) = record { kept = works g N.kept; low = omega arith; high = omega arith; room = let r = N.room in omega arith }
      by (inr q) = let r = N.room in record { kept = works g N.kept; low = omega arith; high = omega arith; room = omega arith }

  near-taken : (block : List ℕ) (g : Going) → (is_wanted g.memory ≡ true → P g → P (doing g (deliver block))) → g.memory.turn.slot ≤ 4_294_967_295 → P g → Near g.memory.turn.slot (take_slot block g)
  unfolding take_slot doing
  near-taken block g delivers r p =
      work-keeps-at (Near g.memory.turn.slot) g.memory.turn.slot (near-work g.memory.turn.slot) most_writesets _
      (cond_by (Near g.memory.turn.slot) (is_wanted g.memory)
      (λ e. let q = deliver_slot g.memory block in record { kept = delivers e p; low = omega arith; high = omega arith; room = omega arith })
      (λ e. record { kept = p; low = omega arith; high = omega arith; room = r }))

  -- a deliver is of the turn's slot, where its block is wanted
  module _ (from to : ℕ)
      (delivers : (g : Going) → from ≤ g.memory.turn.slot → g.memory.turn.slot < to → is_wanted g.memory ≡ true → P g → P (doing g (deliver (kept_block lent g.memory.turn.slot)))) where
    pub slots-keep-in : (c : ℕ) (g : Going) → from ≤ g.memory.turn.slot → g.memory.turn.slot + c ≤ to → g.memory.turn.slot ≤ 4_294_967_295 → P g → P (give_slots lent c g)
    unfolding give_slots
    slots-keep-in zero g a b r p = p
    slots-keep-in (suc c) g a b r p = cond_by P (eqb g.number 0)
        (λ e.
        let N = near-taken (kept_block lent g.memory.turn.slot) g (delivers g a (omega arith)) r p in
        let x = N.low in
        let y = N.high in
        slots-keep-in c (take_slot (kept_block lent g.memory.turn.slot) g) (omega arith) (omega arith) N.room N.kept)
        (λ e. p)

  pub give-keeps-in : (m : Memory) (told : List ℕ) → m.turn.slot ≤ 4_294_967_295
      → ((g : Going) → give_refusal m told lent ≡ 0 → m.turn.slot ≤ g.memory.turn.slot → g.memory.turn.slot < given_to m told → is_wanted g.memory ≡ true
      → P g → P (doing g (deliver (kept_block lent g.memory.turn.slot))))
      → ((n : ℕ) → P (set_out_field m n)) → P (give_step m told lent)
  unfolding give_step
  give-keeps-in m told r delivers p = cond_by P (eqb (give_refusal m told lent) 0)
      (λ e. slots-keep-in m.turn.slot (m.turn.slot + (given_to m told - m.turn.slot)) (λ g a b. delivers g (eqb-true (give_refusal m told lent) 0 e) a (omega arith))
      (given_to m told - m.turn.slot) (set_out_field m 0) (omega arith) (omega arith) r (p 0))
      (λ e. p (give_refusal m told lent))

-- ---- the calls done before say nothing of those to come

abbrev pub forgot : Going → Going
forgot g = record { memory = g.memory; number = g.number; aborted = g.aborted; calls = [] }

forgot_cond : (b : Bool) (x y u v : Going) → forgot x ≡ forgot u → forgot y ≡ forgot v → forgot (cond b x y) ≡ forgot (cond b u v)
forgot_cond true x y u v e f = e
forgot_cond false x y u v e f = f

pub work_forgot : (s c : ℕ) (g : Going) → forgot (work_out s c g) ≡ forgot (work_out s c (forgot g))
unfolding work_out doing
work_forgot s zero g = refl
work_forgot s (suc c) g =
    forgot_cond (eqb g.number 0 && eqb g.memory.turn.slot s) (work_out s c (doing g work)) g (work_out s c (doing (forgot g) work)) (forgot g)
    (work_forgot s c (doing g work) ∙ sym (work_forgot s c (doing (forgot g) work))) refl

pub take-forgot : (block : List ℕ) (g : Going) → forgot (take_slot block g) ≡ forgot (take_slot block (forgot g))
unfolding take_slot doing
take-forgot block g = go (is_wanted g.memory)
  where
    go : (b : Bool) → forgot (work_out g.memory.turn.slot most_writesets (cond b (doing g (deliver block)) g))
        ≡ forgot (work_out g.memory.turn.slot most_writesets (cond b (doing (forgot g) (deliver block)) (forgot g)))
    go true = work_forgot g.memory.turn.slot most_writesets (doing g (deliver block)) ∙ sym (work_forgot g.memory.turn.slot most_writesets (doing (forgot g) (deliver block)))
    go false = work_forgot g.memory.turn.slot most_writesets g

pub slots_forgot : (lent : List ℕ) (c : ℕ) (g : Going) → forgot (give_slots lent c g) ≡ forgot (give_slots lent c (forgot g))
unfolding give_slots
slots_forgot lent zero g = refl
slots_forgot lent (suc c) g =
    let block = kept_block lent g.memory.turn.slot in
    forgot_cond (eqb g.number 0) (give_slots lent c (take_slot block g)) g (give_slots lent c (take_slot block (forgot g))) (forgot g)
    (slots_forgot lent c (take_slot block g) ∙ ap (λ (x : Going). forgot (give_slots lent c x)) (take-forgot block g) ∙ sym (slots_forgot lent c (take_slot block (forgot g)))) refl
