-- The premise of each call gives that of the machine: the floor is as high as what the model holds safe. Assumes nothing.
use Prim.Native.Nat.{ℕ, suc, ◌*◌, ◌<◌, ◌≤◌, max}
use mathlib.Core.Path.{◌≡◌, refl, sym, ap, ◌∙◌, subst}
use mathlib.Core.Bool.{Bool, true, false, cond}
use mathlib.Core.Option.{Option, none, some}
use mathlib.Core.List.Memᴰ
use mathlib.Core.List.{List, [], ◌∷◌, map}
use native.Mathlib.Omega.{arith}
use lib.Dec.{eqb}
use lib.IntN.{ℤ}
use lib.ListN.{length, length-append, length-map, get_or}
use borrow.Author.Tests.{eqb-true}
use Rattle.block.specs.Message.{signed32}
use Rattle.block.specs.Answers.{header_of}
use Rattle.block.proofs.BoolLaws.{both}
use Rattle.block.proofs.AnswerLaws.{is_taken}
use Rattle.memory.specs.Memory.{Memory}
use Rattle.memory.specs.Notices.{Notice}
use Rattle.engine.specs.Make.{Setting}
use Rattle.engine.specs.Answers.{Answer}
use Rattle.engine.specs.Answers.Answer.{refused, made, began, got, wrote, queued, read_only, withdrew, reported, sent, kept, worked, loaded, noticed, restarted}
use Rattle.engine.specs.Moves.{out_at_turn}
use Rattle.engine.specs.Calls.{Call, step}
use Rattle.engine.specs.History.{AnyCall}
use Rattle.engine.proofs.Tests.{cond_by, bool_by, clash}
use Rattle.engine.proofs.RestartLaws.{AllGood, good_taken}
use Rattle.protocol.specs.Lists.{opt}
use Rattle.protocol.specs.Writesets.{Message}
use Rattle.protocol.specs.Replica.{Event}
use Rattle.protocol.specs.Journal.{Journal, out_end, journal_after, leaves_out}
use Rattle.protocol.specs.Blocks.{all_bytes}
use Rattle.protocol.specs.Machine.{MachineSystem, CommandPremise}
use Rattle.protocol.proofs.ListLaws.{update_same}
use Rattle.protocol.proofs.Refinement.{MachineLone, lone-next}
use Rattle.agreement.specs.Group as group
use Rattle.agreement.specs.Group.{message_in, notice_in, arguments_of, blocks_read, heard, Disk, floor_after, disk_after, Members, CallAt, did, next, run, Calls, PremiseFrom}
use Rattle.agreement.proofs.View.{out-same, setup, view_at, Sound, Owed}
use Rattle.agreement.proofs.DeliverStep.{slot_said, sender_said}
use Rattle.agreement.proofs.RestartView.{puts_same}
use Rattle.agreement.proofs.JournalView.{OnDisk}
use Rattle.agreement.proofs.MemberStep.{Ours}
use Rattle.agreement.proofs.Replicas.{places_apart, places_within}
use Rattle.agreement.proofs.Runs.{premise-rest, premise-first, lent_ours, machine, machine_of, command, commands, journal_next, journals_next, one, Kept, disk-next, kept_next, handed-at, lent_at}

-- ---- a disk's bytes

pub length-all_bytes : (n : ℕ) (bs : List (List ℕ)) → AllGood n bs → length (all_bytes bs) ≡ 512 * length bs
unfolding all_bytes
length-all_bytes n [] g = refl
length-all_bytes n (b ∷ bs) g =
    let e = (is_taken b (good_taken n b (g b (Memᴰ.head refl)))).long in
    let a = length-append b (all_bytes bs) in
    let h = length-all_bytes n bs (λ c q. g c (Memᴰ.tail q)) in
    omega arith

-- with every own block handed out in the journal, the disk has its bytes
pub safe_bytes : (n : ℕ) (l : List ℕ) (J : Journal ℤ) → OnDisk n l J.kept → J.safe ≤ length J.kept → 512 * J.safe ≤ length l
safe_bytes n l J H h =
    let a = length-all_bytes n H.blocks H.good in
    let b = ap length H.joined in
    let c = length-map H.blocks message_in in
    let e = ap length H.says in
    omega arith

-- the notices put the same slots out
out_end_same : (l : List Notice) (bs : List (List ℕ)) → out_end (map notice_in l) (map message_in bs) ≡ group.out_end l bs
unfolding out_end group.out_end
out_end_same l [] = refl
out_end_same l (b ∷ bs) = rw (out_end_same l bs, sender_said b, slot_said b, puts_same false l (header_of b).sender (header_of b).slot) refl

-- the floor after a call on m, with `all` bytes, is as high as what is safe; out: the model says that the call passed an out slot
floor_by : (J : Journal ℤ) (floor all : ℕ) (m : Memory) (more : Option (Message ℤ)) (out : Bool) → (out ≡ true → out_at_turn m ≡ true) → (c : AnyCall) (a : Answer) → 512 * J.safe ≤ floor
    → 512 * (journal_after J more out (heard c a)).safe ≤ all → 512 * (journal_after J more out (heard c a)).safe ≤ floor_after floor all m c a
unfolding heard journal_after
floor_by J floor all m more out o c (refused k) h u = h
floor_by J floor all m more out o c made h u = h
floor_by J floor all m more out o c (began t) h u = h
floor_by J floor all m more out o c (got v) h u = h
floor_by J floor all m more out o c wrote h u = h
floor_by J floor all m more out o c queued h u = h
floor_by J floor all m more out o c read_only h u = h
floor_by J floor all m more out o c withdrew h u = h
floor_by J floor all m more out o c (reported r) h u = h
floor_by J floor all m more out o c (sent b) h u = u
floor_by J floor all m more out o c kept h u = h
floor_by J floor all m more out o c (worked s) h u =
    bool_by (out_at_turn m) (λ t. rw t u)
    (λ t. rw t
    (cond_by (λ (e : Event ℤ). 512 * (journal_after J more out e).safe ≤ floor) (eqb s.ticket 0)
    (λ q. bool_by out (λ z. clash (o z) t) (λ z. rw z h))
    (λ q. h)))
floor_by J floor all m more out o c loaded h u = h
floor_by J floor all m more out o c noticed h u = u
floor_by J floor all m more out o c (restarted k b) h u = go (eqb (get_or b 0 0) 0) u
  where
    passed : ℕ
    passed = out_end (map notice_in (arguments_of c).notices) (map message_in (blocks_read c))

    safe_with : Bool → ℕ
    safe_with z = max (max J.safe passed) (opt (cond z none (some (message_in b))) 0 (λ (w : Message ℤ). suc w.slot))

    go : (z : Bool) → 512 * safe_with z ≤ all → 512 * safe_with z ≤ opt (cond z none (some b)) (max floor (512 * group.out_end (arguments_of c).notices (blocks_read c))) (λ (x : List ℕ). all)
    go true u = let e = out_end_same (arguments_of c).notices (blocks_read c) in omega arith
    go false u = u

-- ---- a run

module _ (n : ℕ) (start : List ℤ) (setting : Setting n start)
    (owes : (m : Memory) → Sound n m → (c : Call) → Owed n start m c (step m c)) where
  abbrev Inv : (ℕ → Journal ℤ) → Members → Type 0
  Inv J g = MachineLone (setup n start) (machine n start setting owes) (machine_of n start setting owes J g)

  abbrev Holds : (ℕ → Journal ℤ) → Members → Type 0
  Holds J g = Kept n start setting owes J g

  may : (g : Members) (c : CallAt) (cs : List CallAt) → PremiseFrom n start g (c ∷ cs) → Ours n start c.at (g.memories c.at) c.does
  may g c cs A = lent_ours n start c.at (g.memories c.at) (g.disks c.at) (g.taken c.at) c.does (premise-first n start g c cs A)

  -- the first call's premise, as the machine's
  first : (g : Members) (c : CallAt) (cs : List CallAt) → PremiseFrom n start g (c ∷ cs) → (J : ℕ → Journal ℤ) → Holds J g
      → ((k : ℕ) → k < n → 512 * (J k).safe ≤ (g.disks k).floor) → (h : signed32 (arguments_of c.does).value ≡ true)
      → CommandPremise (setup n start) (machine n start setting owes) (machine_of n start setting owes J g) (command n start setting owes c h ∷ [])
  unfolding run CommandPremise
  first g c cs A J K low h = (
    (
      handed-at n start setting owes g.blocks (g.memories c.at) c.does (λ b e q. A.delivered [] c.at b (cs, ap (λ (d : AnyCall). record { at = c.at; does = d } ∷ cs) e) q),
      lent_at n start setting owes (J c.at) (g.disks c.at) (g.taken c.at) c.at (K.disks c.at) (low c.at) (g.memories c.at) (K.sound c.at) c.does h (premise-first n start g c cs A),
      may g c cs A,
    ),
    tt,
  )

  inv-next : (J : ℕ → Journal ℤ) (g : Members) (c : CallAt) (h : signed32 (arguments_of c.does).value ≡ true) → Inv J g
      → CommandPremise (setup n start) (machine n start setting owes) (machine_of n start setting owes J g) (command n start setting owes c h ∷ [])
      → Inv (journals_next n start setting owes J g c) (next g c)
  unfolding CommandPremise
  inv-next J g c h I p =
      subst (MachineLone (setup n start) (machine n start setting owes)) (one n start setting owes J g c h)
      (lone-next (setup n start) (machine n start setting owes) (places_apart n start) (places_within n start setting.least) (machine_of n start setting owes J g) I
      (command n start setting owes c h) p.0.0 p.0.1 p.0.2)

  floors-next : (J : ℕ → Journal ℤ) (g : Members) (c : CallAt) → Ours n start c.at (g.memories c.at) c.does → Holds J g
      → Inv (journals_next n start setting owes J g c) (next g c) → ((k : ℕ) → k < n → 512 * (J k).safe ≤ (g.disks k).floor)
      → (k : ℕ) → k < n → 512 * (journals_next n start setting owes J g c k).safe ≤ ((next g c).disks k).floor
  floors-next J g c u K I low k below = by (eqb k c.at) refl
    where
      d' : Disk
      d' = disk_after (g.disks c.at) (g.memories c.at) c.does (did g c).answer

      J' : Journal ℤ
      J' = journal_next n start setting owes (J c.at) c.at (g.memories c.at) c.does

      H' : c.at < n → OnDisk n d'.journal J'.kept
      H' h = disk-next n start setting owes (g.disks c.at).journal (J c.at) (K.disks c.at h) c.at (g.memories c.at) (K.sound c.at) h c.does u

      s : J'.safe ≤ length J'.kept
      s = subst (λ (j : Journal ℤ). j.safe ≤ length j.kept) (update_same J c.at J') (I.lone.each c.at).safe

      out-left : c.at < n → leaves_out (setup n start) (view_at c.at (g.memories c.at)) (did g c).memory.turn.slot ≡ true → out_at_turn (g.memories c.at) ≡ true
      out-left h e = sym (out-same n start (g.memories c.at) (K.sound c.at).sound.size (g.memories c.at).turn.slot) ∙ (both _ _ e).left

      by : (b : Bool) → eqb k c.at ≡ b → 512 * (cond b J' (J k)).safe ≤ (cond b d' (g.disks k)).floor
      by true e =
          let h : c.at < n = rw (eqb-true k c.at e) at below in
          floor_by (J c.at) (g.disks c.at).floor (length d'.journal) (g.memories c.at) _ _ (out-left h) c.does (did g c).answer (low c.at h) (safe_bytes n d'.journal J' (H' h) s)
      by false e = low k below

  pub premise : (cs : List CallAt) (f : Calls n cs) (J : ℕ → Journal ℤ) (g : Members) → Holds J g → Inv J g → ((k : ℕ) → k < n → 512 * (J k).safe ≤ (g.disks k).floor) → PremiseFrom n start g cs
      → CommandPremise (setup n start) (machine n start setting owes) (machine_of n start setting owes J g) (commands n start setting owes cs f)
  unfolding CommandPremise commands
  premise [] f J g K I low A = tt
  premise (c ∷ cs) f J g K I low A =
      let h = (f c (Memᴰ.head refl)).1 in
      let p = first g c cs A J K low h in
      let u = may g c cs A in
      let K' = kept_next n start setting owes J g K c h u in
      let I' = inv-next J g c h I p in (
        p.0,
        subst (λ (s : MachineSystem (setup n start) (machine n start setting owes)). CommandPremise (setup n start) (machine n start setting owes) s (commands n start setting owes cs (λ d q. f d (Memᴰ.tail q))))
            (sym (one n start setting owes J g c h))
            (premise cs (λ d q. f d (Memᴰ.tail q)) (journals_next n start setting owes J g c) (next g c) K' I' (floors-next J g c u K I' low) (premise-rest n start g c cs A)),
      )
