-- The replicas and the stations as a machine of the protocol, from what each call owes. Assumes nothing.
use Prim.Native.Nat.{ℕ, ◌*◌, ◌<◌, ◌≤◌}
use mathlib.Core.Path.{◌≡◌, refl, sym, ◌∙◌}
use mathlib.Core.Bool.{true}
use mathlib.Core.Option.{Option, some}
use mathlib.Core.List.{List}
use native.Mathlib.Nat.{mod-lt}
use native.Mathlib.Omega.{arith}
use lib.Dec.{ltb}
use lib.IntN.{ℤ}
use borrow.Author.Tests.{ltb-true, ltb-false}
use Rattle.block.specs.Message.{owner_of, signed32}
use Rattle.memory.specs.Memory.{Memory, no_number}
use Rattle.engine.specs.Answers.{Outcome}
use Rattle.engine.specs.Answers.Answer.{restarted}
use Rattle.engine.specs.Make.{Setting, made_memory}
use Rattle.engine.specs.Moves.{waiting}
use Rattle.engine.specs.Calls.{Call, step}
use Rattle.engine.specs.Restart.{blocks_in, restart_step}
use Rattle.engine.specs.History.{AnyCall, any_step}
use Rattle.engine.specs.History.AnyCall.{call, restart}
use Rattle.engine.proofs.Tests.{cond_by, less_by}
use Rattle.engine.proofs.Steps.{restart-by}
use Rattle.engine.proofs.Passed.{restart_passed}
use Rattle.engine.proofs.PlaceLaws.{next-round}
use Rattle.engine.proofs.ShapeMade.{get_or-zeros}
use Rattle.engine.proofs.Frames.{own_same}
use Rattle.engine.proofs.Reports.{made_own, restarted_own}
use Rattle.protocol.specs.System.{made, PlacesApart, PlacesWithin}
use Rattle.protocol.specs.Machine.{Alike, Performed, Refines, Machine}
use Rattle.agreement.specs.Group.{arguments_of, heard, made_member}
use Rattle.agreement.proofs.View.{setup, rows_from, place_at, view_at, Sound, Owed}
use Rattle.agreement.proofs.Soundness.{sound_each, sound_made, sound_station}
use Rattle.agreement.proofs.RestartStep.{meant_by, sound_any}
use Rattle.agreement.proofs.MemberStep.{AsMade, Ours, OwedAt, refuses-at, follows-at, replica-owes, replica-restarts, station-owes, station-restarts}

-- a call whose value, where it has one, is a signed 32-bit number
pub record TypedCall : Type 0 where
  pub call : AnyCall
  pub value : signed32 (arguments_of call).value ≡ true

-- a replica or a station just made is the model's
pub made_alike : (n k own : ℕ) (start : List ℤ) → Alike (setup n start) (made (setup n start) k) (view_at k (made_memory n own start))
unfolding made_memory waiting rows_from place_at
made_alike n k own start = record {
  own = refl;
  cursor = refl;
  commits = refl;
  values = refl;
  stamps = λ i. get_or-zeros 128 i;
  tickets = refl;
  queue = refl;
  there = λ u h. h;
  back = λ u h. h;
  places = λ p. rw (get_or-zeros (512 * n) (512 * p));
  outages = λ t. rw (get_or-zeros 6 (owner_of n t));
}

-- two slots of one window with one place are one
pub places_apart : (n : ℕ) (start : List ℤ) → PlacesApart (setup n start)
places_apart n start t s l h e = less_by t s (λ u. absurd (let z = next-round n t s (sym e) u in let w : ⊥ = omega arith in w)) (λ u. omega arith)

-- there are N
pub places_within : (n : ℕ) (start : List ℤ) → 2 ≤ n → PlacesWithin (setup n start)
places_within n start h s = mod-lt s (omega arith)

module _ (n : ℕ) (start : List ℤ) (setting : Setting n start)
    (owes : (m : Memory) → Sound n m → (c : Call) → Owed n start m c (step m c)) where
  abbrev pub perform : ℕ → Memory → TypedCall → Performed ℤ Memory
  perform k m a = record { memory = (any_step m a.call).memory; event = heard a.call (any_step m a.call).answer }

  abbrev pub meaning : TypedCall → Option (Rattle.protocol.specs.System.Call ℤ)
  meaning a = some (meant_by a.call)

  -- member k is a replica with that number, or a station, which has none
  pub data Standing (k : ℕ) (m : Memory) : Type 0 where
    as-replica : k < n → m.group.own ≡ k → Standing k m
    as-station : n ≤ k → m.group.own ≡ no_number → Standing k m

  -- the memory of member k
  pub record SoundAt (k : ℕ) (m : Memory) : Type 0 where
    pub sound : Sound n m
    pub stands : Standing k m

  -- with the same number
  stands_on : (k : ℕ) (m o : Memory) → o.group.own ≡ m.group.own → Standing k m → Standing k o
  stands_on k m o e (as-replica h q) = as-replica h (e ∙ q)
  stands_on k m o e (as-station h q) = as-station h (e ∙ q)

  owes_at : (k : ℕ) (m : Memory) → SoundAt k m → (c : AnyCall) → Ours n start k m c → OwedAt n start k m c (any_step m c)
  owes_at k m s c = go c s.stands
    where
      go : (c : AnyCall) → Standing k m → Ours n start k m c → OwedAt n start k m c (any_step m c)
      go (call c) (as-replica h q) f = replica-owes n start k m q c (step m c) (own_same m c ∙ q) (owes m s.sound c)
      go (call c) (as-station h q) f = station-owes n start setting.most k m s.sound h q c (owes m s.sound c)
      go (restart size own values j l b) (as-replica h q) f = replica-restarts n start k m q size own values j l b f
      go (restart size own values j l b) (as-station h q) f = station-restarts n start setting.most k m s.sound h q size own values j l b f

  pub refines : (k : ℕ) (m : Memory) (a : TypedCall) → SoundAt k m → Ours n start k m a.call → Refines (setup n start) (perform k) meaning (view_at k) m a
  refines k m a s f = go (owes_at k m s a.call f)
    where
      go : OwedAt n start k m a.call (any_step m a.call) → Refines (setup n start) (perform k) meaning (view_at k) m a
      go (refuses-at i h e l) = Refines.refuses i h e l
      go (follows-at e l) = Refines.follows (meant_by a.call) refl e l

  pub stays : (k : ℕ) (m : Memory) (c : AnyCall) → signed32 (arguments_of c).value ≡ true → SoundAt k m → Ours n start k m c → SoundAt k (any_step m c).memory
  stays k m (call c) v s f = record { sound = sound_each n m s.sound c v; stands = stands_on k m (step m c).memory (own_same m c) s.stands }
  stays k m (restart size own values j l b) v s f = record { sound = sound_any n m s.sound (restart size own values j l b) v; stands = by f }
    where
      by : Ours n start k m (restart size own values j l b) → Standing k (restart_step m size own values j l b).memory
      by =
          restart-by (λ (o : Outcome). ((x : ℕ) (y : List ℕ) → o.answer ≡ restarted x y → AsMade n start k size own values) → Standing k o.memory) m size own values j l b
          (λ e f. let z = f _ _ refl in as-replica (omega (arith, (restart_passed m size own values b e).below, z.0, z.1)) (restarted_own size own values l (blocks_in size j) ∙ z.1))
          (λ e f. s.stands)

  made-stands : (k : ℕ) → Standing k (made_member n start k)
  made-stands k = cond_by (Standing k) (ltb k n) (λ e. as-replica (ltb-true k n e) (made_own n k _)) (λ e. as-station (ltb-false k n e) (made_own n no_number _))

  pub made-like : (k : ℕ) → Alike (setup n start) (made (setup n start) k) (view_at k (made_member n start k))
  made-like k = cond_by (λ (m : Memory). Alike (setup n start) (made (setup n start) k) (view_at k m)) (ltb k n) (λ e. made_alike n k k start) (λ e. made_alike n k no_number start)

  pub made-sound : (k : ℕ) → SoundAt k (made_member n start k)
  made-sound k = record {
    sound = cond_by (Sound n) (ltb k n) (λ e. sound_made n k start (record { group = setting; below = ltb-true k n e })) (λ e. sound_station n start setting);
    stands = made-stands k;
  }

  abbrev pub replicas : Machine (setup n start)
  replicas = record {
    Memory = Memory;
    Command = TypedCall;
    perform = perform;
    meaning = meaning;
    Member = λ k. Unit;
    view = view_at;
    Sound = SoundAt;
    Allowed = λ k m a. Ours n start k m a.call;
    make = made_member n start;
    refines = refines;
    stays = λ k m a s f. stays k m a.call a.value s f;
    made-sound = λ k h. made-sound k;
    made_alike = made-like;
  }
