-- What a work looks at, and the rows that it ends.
use Rattle.std.specs.Prelude.{ℕ, Bool, cond, not, ◌&&◌, List, eqb, get_or}
use Rattle.memory.specs.declared.Counts.{Counts}
use Rattle.memory.specs.declared.Group.{Group}
use Rattle.memory.specs.declared.Turn.{Turn}
use Rattle.memory.specs.declared.Txn.{Txn}
use Rattle.memory.specs.Memory.{Memory}
use Rattle.engine.specs.Moves.{out_at_turn, block_at_turn, writeset_at, work_refusal}
use Rattle.call_reply.specs.Parts.{work_parts}
use Rattle.call_ending.specs.Writesets.{no_marks, marks_of}

-- a memory with the group, turn, counts, rows, places and window lent: what an out slot and a *next* look at
abbrev pub turn_parts : Memory → Group → Turn → Counts → List Txn → List ℕ → List ℕ → Memory
turn_parts m group turn counts rows places window = work_parts m group turn counts rows m.txns.queue m.txns.items m.store.values m.store.stamps places window

-- the marks of the rows that a work ends: none where it is refused, none in an out slot, none by a *next*
unfoldable pub ended_marks : Memory → List Bool
ended_marks m =
    let b = block_at_turn m in
    cond (eqb (work_refusal m) 0 && not (out_at_turn m))
    (cond (eqb (get_or b 0 0) 1) no_marks (marks_of (eqb (get_or b 1 0) m.group.own) (writeset_at b m.counts.done) m.txns.table m.txns.items))
    no_marks
