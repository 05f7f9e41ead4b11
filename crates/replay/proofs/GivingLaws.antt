-- The giving at its place. Assumes nothing.
use Rattle.std.specs.Prelude.{Option}
use Rattle.std.proofs.Common.{◌≡◌, ℕ, ◌≤◌, Bool, List, [], length, take, refl, ap, length-take-le, eq-eqb, ne_eqb}
use Rattle.memory.specs.declared.Group.{Group}
use Rattle.memory.specs.Memory.{Memory}
use Rattle.replay_parse.specs.declared.Call.{Call}
use Rattle.replay_journal.specs.Journals.{Journal}
use Rattle.replay_replica.specs.declared.Played.{Played}
use Rattle.replay_replica.specs.Effects.{places_size, Effect, Plays}
use Rattle.replay_give.specs.Kept.{CatchesUp}
use Rattle.replay.specs.declared.Place.{Place}
use Rattle.replay.specs.Places.{is_answered}
use Rattle.replay.specs.Givings.{is_given, is_asked, giving_at, GivesAt}

pub gives_at : (told lent : List ℕ) (place : Place) (page : List ℕ) {p : Played} {held : Option ℕ} {left : List ℕ}
    → ((block : List ℕ) → Plays (places_size place.replica.group.replicas) place.replica p block (giving_at block told lent place))
    → CatchesUp p.replica.window p.replica.turn.slot place.held page held left
    → GivesAt told lent place page (record { played = p; held = held; taken = place.taken }) left
gives_at told lent place page h k =
    let m = ap (λ (e : Effect). e.memory) (h []).is in
    record {
      plays = h;
      journal = rw (ap (λ (m : Memory). m.blocks.window) m, ap (λ (m : Memory). m.turn.slot) m) at k;
      notices = refl;
    }
