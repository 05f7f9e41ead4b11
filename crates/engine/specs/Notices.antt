-- A notice taken, document 02's Req 10. What it puts out is in the memory's `Notices.antt`; what the calls do in out slots stands at each of them.
use Rattle.std.specs.Prelude.{ℕ, zero, suc, ◌+◌, ◌*◌, Bool, false, cond, not, ◌&&◌, ◌||◌, [], ◌∷◌, eqb, ltb, leb, get_or}
use Rattle.std.proofs.Math.Seq.{slice}
use Rattle.block.specs.Answers.{refuse, first_of, header_of}
use Rattle.memory.specs.Memory.{Memory, span, slot_limit, places_lent, with_group}
use Rattle.memory.specs.Notices.{Notice, with_notice}
use Rattle.engine.specs.Answers.{Outcome, outcome, unless}
use Rattle.engine.specs.Answers.Answer.{noticed}
use Rattle.engine.specs.Moves.{sent_already}

-- 2: replica or slot out of range
abbrev pub no_such_slot : Memory → Notice → Bool
no_such_slot m a = leb m.group.replicas a.about || leb slot_limit a.slot

-- one of the first n places has a block of replica k for slot v or a later one
unfoldable pub placed_from : Memory → (k v n : ℕ) → Bool
placed_from m k v zero = false
placed_from m k v (suc n) =
    let header = header_of (slice (512 * n) (512 * n + 512) m.blocks.places) in
    (not (eqb (get_or m.blocks.places (512 * n) 0) 0) && (eqb header.sender k && leb v header.slot)) || placed_from m k v n

-- a block of the replica was sent here at or after the slot
abbrev pub sent_from : Memory → (k v : ℕ) → Bool
sent_from m k v = eqb k m.group.own && (sent_already m && leb v m.turn.slot)

-- 28 of an Out: the replica is out already, or its last Back is above the turn, both by the end of its last outage; or a block of it is placed or sent here at or after the slot
abbrev pub bars_out : Memory → Notice → Bool
bars_out m a =
    ltb m.turn.slot (get_or m.group.until a.about 0)
    || (placed_from m a.about a.slot (span m.group) || sent_from m a.about a.slot)

-- 28 of a Back: the replica is not out, or the slot is not above its Out's
abbrev pub bars_back : Memory → Notice → Bool
bars_back m a = not (eqb (get_or m.group.until a.about 0) slot_limit) || leb a.slot (get_or m.group.from a.about 0)

-- 28: the turn is above the slot, or as above
abbrev pub bars_notice : Memory → Notice → Bool
bars_notice m a = ltb a.slot m.turn.slot || cond a.out (bars_out m a) (bars_back m a)

unfoldable pub notice_refusal : Memory → Notice → ℕ
notice_refusal m a = first_of (refuse 1 (not (places_lent m)) ∷ refuse 2 (no_such_slot m a) ∷ refuse 28 (bars_notice m a) ∷ [])

unfoldable pub notice_step : Memory → Notice → Outcome
notice_step m a = unless (notice_refusal m a) m (outcome noticed (with_group m (with_notice m.group a)))
