-- Document 02's Req 06 worked: the bound on waiting is exact. At replica 0 of 2 a change asked at turn t = 0, after the send for slot 0, is still open at turn 2 = t + N.
-- And Req 10: a slot that Work passes as out does not end a wait. At replica 1 of 2 a change asked at turn t = 0 is still open at turn 3, above t + N: the own slot 1 was passed as out.
use Rattle.std.specs.Prelude.{◌<◌, ◌≡◌, true, false, List, [], ◌∷◌, pos, replicate}
use Rattle.memory.specs.Memory.{Memory}
use Rattle.engine.specs.Answers.Answer.{queued}
use Rattle.engine.specs.Calls.{step, after}
use Rattle.engine.specs.Calls.Call.{begin, write, ask, send, deliver, work, notice}
use Rattle.engine.specs.History.{AnyCall, after_all}
use Rattle.engine.specs.History.AnyCall.{call}
use Rattle.engine_waiting.specs.Waiting.{open_after, passed_out, EndsBy}
use Rattle.engine.specs.Worked.{fresh, next_block, out_from}

-- sent for slot 0, then one write, not asked yet
abbrev pub to_ask : Memory
to_ask = after (fresh 2 0) (send (replicate 512 0) ∷ begin ∷ write 1 5 (pos 40) ∷ [])

abbrev pub just_asked : Memory
just_asked = (step to_ask (ask 1)).memory

-- to turn 2: the own *next* of slot 0, then the other's of slot 1
abbrev pub to_two : List AnyCall
to_two = call (deliver (next_block 2 0 0)) ∷ call work ∷ call (deliver (next_block 2 1 1)) ∷ call work ∷ []

pub record WorkedWait : Type 0 where
  pub asked-turn : to_ask.turn.slot ≡ 0
  pub asked : (step to_ask (ask 1)).answer ≡ queued
  pub turn : (after_all just_asked to_two).turn.slot ≡ 2
  pub still_open : open_after 1 just_asked to_two ≡ true
  pub passed_none : passed_out 1 just_asked to_two ≡ false
  -- so t + N − 1 would be no bound
  pub exact : EndsBy to_ask 1 1 → ⊥

-- at replica 1, one write, not asked yet
abbrev pub to_ask_at_one : Memory
to_ask_at_one = after (fresh 2 1) (begin ∷ write 1 5 (pos 40) ∷ [])

abbrev pub asked_at_one : Memory
asked_at_one = (step to_ask_at_one (ask 1)).memory

-- to turn 3: the other's *next* of slot 0, the own slot 1 as out, the other's of slot 2
abbrev pub over_out : List AnyCall
over_out =
    call (deliver (next_block 2 0 0)) ∷ call work ∷ call (notice (out_from 1 1)) ∷ call work ∷ call (deliver (next_block 2 0 2)) ∷ call work ∷ []

pub record WorkedOutWait : Type 0 where
  pub asked-turn : to_ask_at_one.turn.slot ≡ 0
  pub asked : (step to_ask_at_one (ask 1)).answer ≡ queued
  pub turn : (after_all asked_at_one over_out).turn.slot ≡ 3
  pub passed : passed_out 1 asked_at_one over_out ≡ true
  pub still_open : open_after 1 asked_at_one over_out ≡ true
  -- so t + N alone would be no bound
  pub needed : ((cs : List AnyCall) → 2 < (after_all asked_at_one cs).turn.slot → open_after 1 asked_at_one cs ≡ false) → ⊥
