-- What a call at a replica or a station does, by its letter.
use Rattle.std.specs.Prelude.{ℕ, Bool, true, false, cond, ◌||◌, List, [], eqb, replicate}
use Rattle.memory.specs.declared.Group.{Group}
use Rattle.memory.specs.Memory.{Memory}
use Rattle.engine.specs.Make.{make_step}
use Rattle.engine.specs.Restart.{restart_step}
use Rattle.engine.specs.Station.{station_step}
use Rattle.engine.specs.Calls.{step}
use Rattle.engine.specs.Calls.Call.{begin, read, write, ask, withdraw, report, send, deliver, work, load, notice}
use Rattle.replay_parse.specs.declared.Call.{Call}
use Rattle.replay_journal.specs.declared.Change.TheVariants.{Stays}
use Rattle.replay_replica.specs.Effects.{places_size, over, Effect, effect}

-- ---- the places that it is lent

-- A, M and Y make what the place has
abbrev pub is_make : Call → Bool
is_make c = eqb c.letter 77 || (eqb c.letter 89 || eqb c.letter 65)

-- they are lent the places of the group that they name, any other call those of the replica's own
abbrev pub size_lent : Call → Group → ℕ
size_lent c group = places_size (cond (is_make c) c.first group.replicas)

-- ---- what it does

-- V, and what is no call: the values are shown and all is left
abbrev pub look : List ℕ → Memory → Effect
look lent m = record { number = 0; numbers = []; values = m.store.values; block = lent; memory = m; change = Stays }

-- J: the bytes given are put over those lent and all is left
abbrev pub show : List ℕ → List ℕ → Memory → Effect
show bytes lent m = record {
  number = 0;
  numbers = [];
  values = [];
  block = over lent bytes;
  memory = m;
  change = Stays;
}

-- the call by its letter, which stands behind it
unfoldable pub played : Call → List ℕ → List ℕ → Memory → Effect
played c bytes lent m =
    cond (eqb c.letter 77) {- M -} (effect lent (make_step m c.first c.second (replicate 128 c.value)))
    (cond (eqb c.letter 66) {- B -} (effect lent (step m begin))
    (cond (eqb c.letter 82) {- R -} (effect lent (step m (read c.first c.second)))
    (cond (eqb c.letter 87) {- W -} (effect lent (step m (write c.first c.second c.value)))
    (cond (eqb c.letter 67) {- C -} (effect lent (step m (ask c.first)))
    (cond (eqb c.letter 88) {- X -} (effect lent (step m (withdraw c.first)))
    (cond (eqb c.letter 81) {- Q -} (effect lent (step m report))
    (cond (eqb c.letter 83) {- S -} (effect lent (step m (send lent)))
    (cond (eqb c.letter 68 || (eqb c.letter 70 || eqb c.letter 72)) {- D, F, H -} (effect lent (step m (deliver bytes)))
    (cond (eqb c.letter 75) {- K -} (effect lent (step m work))
    (cond (eqb c.letter 89) {- Y -} (effect lent (restart_step m c.first c.second (replicate 128 c.value) bytes [] lent))
    (cond (eqb c.letter 80) {- P -} (effect lent (step m (load bytes)))
    (cond (eqb c.letter 74) {- J -} (show bytes lent m)
    (cond (eqb c.letter 65) {- A -} (effect lent (station_step m c.first (replicate 128 c.value)))
    (cond (eqb c.letter 79) {- O -} (effect lent (step m (notice (record { about = c.first; out = true; slot = c.second }))))
    (cond (eqb c.letter 85) {- U -} (effect lent (step m (notice (record { about = c.first; out = false; slot = c.second }))))
    (look lent m))))))))))))))))
