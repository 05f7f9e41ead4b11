-- A call at a place, and the journal and the notices after it. Assumes nothing.
use Rattle.std.specs.Prelude.{Option}
use Rattle.std.proofs.Common.{◌≡◌, ℕ, ◌+◌, ◌≤◌, min, List, length, take, replicate, sym, ap, ◌∙◌, arith, ne_eqb}
use lib.Seq.{paste, length-paste, take-paste}
use Rattle.replay_parse.specs.declared.Call.{Call}
use Rattle.replay_journal.specs.Journals.{Journal, journal_of, bytes_given, Lends, Keeps}
use Rattle.replay_journal.specs.declared.notices.Taken.{Taken}
use Rattle.replay_journal.specs.Taken.{taken_of, numbers_lent, KeepsTaken}
use Rattle.replay_journal.proofs.JournalLaws.{take_there}
use Rattle.replay_replica.specs.declared.Played.{Played}
use Rattle.replay_replica.specs.declared.Replica.{Replica}
use Rattle.call_reply.specs.Notices.{restart_lent}
use Rattle.replay_replica.specs.Effects.{places_size, memory_of, Effect, effect, Plays}
use Rattle.replay_calls.specs.Letters.{played}
use Rattle.replay.specs.declared.Place.{Place}
use Rattle.replay.specs.Places.{size_at, given_at, played_at, PlaysAt}

-- ---- Z, and any other call

module _ (c : Call) (replica : Replica) (bytes lent : List ℕ) (t : Journal) where
  pub plays-other : {p : Played} {left : List ℕ} → (c.letter ≡ 90 → ⊥) → Plays (size_at c replica) replica p left (played c bytes lent (memory_of (size_at c replica) replica))
      → Plays (size_at c replica) replica p left (played_at c bytes t lent replica)
  unfolding played_at
  plays-other h k = rw (ne_eqb c.letter 90 h) k

  pub plays-again : {p : Played} {left numbers : List ℕ} → c.letter ≡ 90 → numbers ≡ numbers_lent t
      → Plays (places_size replica.group.replicas) replica p left
      (effect lent (restart_lent (memory_of (places_size replica.group.replicas) replica) replica.group.replicas replica.group.own (replicate 128 c.value) bytes numbers lent))
      → Plays (size_at c replica) replica p left (played_at c bytes t lent replica)
  unfolding played_at
  plays-again h n k = rw (h, ← n) k

-- ---- what it is given

module _ {bytes lent left : List ℕ} {n : ℕ} (h : Lends bytes lent left n) where
  pub lent-within : n ≤ length left
  lent-within =
      let m : min (length bytes) (length lent) ≡ n = sym h.count in
      let e = rw m at h.over in
      rw (e, length-paste lent 0 bytes n (omega (arith, h.count)) (omega (arith, h.count))) (omega (arith, h.count))

  lent-first : take n left ≡ take n bytes
  lent-first =
      let m : min (length bytes) (length lent) ≡ n = sym h.count in
      let e = rw m at h.over in
      let z : 0 + n ≡ n = omega arith in
      rw e (ap (λ (k : ℕ). take k (paste lent 0 bytes n)) (sym z) ∙ take-paste lent 0 bytes n (omega arith) (omega (arith, h.count)))

pub given-at : (c : Call) (named : List ℕ) (j : Journal) {lent left : List ℕ} {n : ℕ} → 65536 ≡ length lent → Lends (bytes_given c named j) lent left n → take n left ≡ given_at c named j
unfolding given_at
given-at c named j {n = n} l h =
    let bytes = bytes_given c named j in
    let m : n ≡ min 65536 (length bytes) = omega (arith, h.count) in
    lent-first h ∙ ap (λ (k : ℕ). take k bytes) m ∙ take_there 65536 bytes

-- ---- the call

module _ (c : Call) (place : Place) (named lent page : List ℕ) where
  pub plays-at : {given block left : List ℕ} {p : Played} {journal : Option ℕ} {notices : Option Taken}
      → given ≡ given_at c named (journal_of place.held page)
      → Plays (size_at c place.replica) place.replica p block (played_at c given (taken_of place.taken) lent place.replica)
      → Keeps p.change given block place.held page journal left
      → KeepsTaken c p.number place.taken notices
      → PlaysAt c named lent place page (record { played = p; held = journal; taken = notices }) left block
  plays-at g h k n =
      let q = rw g at h in
      record {
        plays = q;
        keeps = rw (g, ap (λ (e : Effect). e.change) q.is) at k;
        notices = rw (ap (λ (e : Effect). e.number) q.is) at n;
      }
