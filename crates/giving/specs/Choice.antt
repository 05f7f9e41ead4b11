-- The giver: "the other replica that is up with the highest turn"; ties go "to the first of the tied replicas after the returner, counting upward and round from N − 1 to 0."
use Rattle.std.specs.Prelude.{ℕ, zero, suc, ◌+◌, ◌%◌, Bool, cond, not, ◌&&◌, ◌||◌, List, eqb, ltb, length, get_or}

-- what is told of a replica that is down
abbrev pub down : ℕ
down = 4_294_967_295

-- one turn is told for each replica
abbrev pub told_turn : List ℕ → ℕ → ℕ
told_turn told g = get_or told g down

-- another, and up
abbrev pub may_give : ℕ → List ℕ → ℕ → Bool
may_give own told g = not (eqb g own) && not (eqb (told_turn told g) down)

-- replica h in place of g, the giver so far: nobody yet, or its turn is higher
abbrev pub is_better : ℕ → List ℕ → ℕ → ℕ → Bool
is_better own told g h = may_give own told h && (eqb g own || ltb (told_turn told g) (told_turn told h))

-- the i-th to be looked at: upward from the one after the returner, and round
abbrev pub candidate : (own n i : ℕ) → ℕ
candidate own n i = (own + 1 + i) % n

-- of the first c candidates the first with the highest turn; the returner's own number where nobody may give
unfoldable pub best_of : ℕ → List ℕ → ℕ → ℕ
best_of own told zero = own
best_of own told (suc c) =
    let g = best_of own told c in
    let h = candidate own (length told) c in
    cond (is_better own told g h) h g

abbrev pub giver_of : ℕ → List ℕ → ℕ
giver_of own told = best_of own told (length told)
