-- Conflict classes, document 02's Req 02: which items wait while another's block is applied, and the load of a table.
use Rattle.std.specs.Prelude.{ℕ, zero, suc, ◌-◌, Bool, true, false, not, ◌&&◌, ◌||◌, List, [], ◌∷◌, eqb, ltb, length, get_or}
use Rattle.block.specs.declared.Entry.{Entry}
use Rattle.block.specs.Message.{within}
use Rattle.block.specs.Answers.{refuse, first_of}
use Rattle.memory.specs.Memory.{Memory, classes_lent, with_classes}
use Rattle.memory.specs.Turns.{is_on}
use Rattle.engine.specs.Answers.{Outcome, outcome, unless}
use Rattle.engine.specs.Answers.Answer.{loaded}
use Rattle.engine.specs.Moves.{block_at_turn, writeset_at}

-- the applying mark is on
abbrev pub is_applying : Memory → Bool
is_applying m = is_on m.turn.applying

-- an entry's item has the class
unfoldable pub has_class : List ℕ → ℕ → List Entry → Bool
has_class classes c [] = false
has_class classes c (e ∷ es) = eqb (get_or classes e.item 0) c || has_class classes c es

-- so in one of k writesets of the block, from the j-th on
unfoldable pub class_from : List ℕ → ℕ → List ℕ → ℕ → ℕ → Bool
class_from classes c b j zero = false
class_from classes c b j (suc k) = has_class classes c (writeset_at b j).entries || class_from classes c b (suc j) k

-- so in one of the writesets still to be applied of the block at the turn, from the first not done on; an empty place and a *next* have none
unfoldable pub class_to_come : Memory → ℕ → Bool
class_to_come m c =
    ltb 1 (get_or (block_at_turn m) 0 0)
    && class_from m.store.classes c (block_at_turn m) m.counts.done (get_or (block_at_turn m) 3 0 - m.counts.done)

-- 7: the applying mark is on, and the item's class holds an item of a writeset still to be applied
unfoldable pub must_wait : Memory → ℕ → Bool
must_wait m item = is_applying m && class_to_come m (get_or m.store.classes item 0)

-- ---- load

-- each is a class, 1 to 8
unfoldable pub are_classes : List ℕ → Bool
are_classes [] = true
are_classes (c ∷ cs) = within 1 8 c && are_classes cs

-- 23: the applying mark is on
unfoldable pub load_refusal : Memory → List ℕ → ℕ
load_refusal m classes =
    first_of
    (refuse 1 (not (classes_lent m && eqb (length classes) 128))
    ∷ refuse 2 (not (are_classes classes))
    ∷ refuse 23 (is_applying m)
    ∷ [])

-- the whole table is replaced
unfoldable pub load_step : Memory → List ℕ → Outcome
load_step m classes = unless (load_refusal m classes) m (outcome loaded (with_classes m classes))
