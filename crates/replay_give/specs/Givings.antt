-- What a giving shows and leaves.
use Rattle.std.specs.Prelude.{ℕ, ◌+◌, Bool, cond, ◌||◌, List, [], ◌∷◌, eqb, length}
use Rattle.memory.specs.Memory.{Memory}
use Rattle.giving.specs.Giving.{give_step}
use Rattle.call_give.specs.Gifts.{giver_named}
use Rattle.replay_journal.specs.declared.Change.TheVariants.{Stays}
use Rattle.replay_replica.specs.Effects.{Effect}

-- 1, 25 and 30: there is no giver
abbrev pub names_nobody : ℕ → Bool
names_nobody number = eqb number 1 || (eqb number 25 || eqb number 30)

-- behind its number the giver, how many transactions were aborted, and their tickets; behind 31 the giver alone
abbrev pub numbers_shown : (number giver : ℕ) → List ℕ → List ℕ
numbers_shown number giver aborted = cond (names_nobody number) [] (cond (eqb number 31) (giver ∷ []) (giver ∷ (length aborted ∷ aborted)))

-- as many
unfoldable pub count_shown : (number count : ℕ) → ℕ
count_shown number count = cond (names_nobody number) 0 (cond (eqb number 31) 1 (2 + count))

-- the giving's step; what becomes of the journal follows from what is left (`Kept.antt`)
abbrev pub give_effect : List ℕ → Memory → (told lent : List ℕ) → Effect
give_effect block m told lent =
    let o = give_step m told lent in
    record { number = o.number; numbers = numbers_shown o.number (giver_named m told lent) o.aborted; values = []; block = block; memory = o.memory; change = Stays }
