-- A writeset's end: what it does to turn, counts and transactions, whatever its place in the block.
use Rattle.std.specs.Prelude.{ℕ, ◌+◌, min, Bool, true, false, cond, List, [], length, set, replicate}
use Rattle.block.specs.Message.{Record}
use Rattle.memory.specs.declared.Counts.{Counts}
use Rattle.memory.specs.declared.Turn.{Turn}
use Rattle.memory.specs.declared.Txn.{Txn}
use Rattle.memory.specs.Memory.{bump, with_commit}
use Rattle.memory.specs.Rows.{row_of}
use Rattle.memory.specs.Turns.{mark_applying}
use Rattle.engine.specs.Moves.{hit_tickets, queue_without, ends_own}
use Rattle.call_commit.specs.Marks.{hit_marks}
use Rattle.call_reply.specs.Replies.{six_of}
use Rattle.call_ending.specs.declared.Ended.{Ended}

-- no row marked
abbrev pub no_marks : List Bool
no_marks = replicate 6 false

-- the marks of the rows that a writeset ends: its own transaction's where that is open as sent, or those that it hits; `mine` where the replica sent it itself
abbrev pub marks_of : Bool → Record → List Txn → List ℕ → List Bool
marks_of mine w rows items =
    cond mine (cond (ends_own mine rows w.ticket) (set no_marks (row_of w.ticket rows) true) no_marks) (hit_marks w.entries items 0 rows)

-- what a writeset ends
unfoldable pub ended_of : Bool → Record → Turn → Counts → List Txn → List ℕ → Ended
ended_of mine w turn counts rows items =
    let gone = cond mine [] (hit_tickets w.entries items 0 rows) in
    record {
      ticket = w.ticket;
      turn = cond mine turn (mark_applying turn);
      counts = with_commit counts (bump counts.commits) (cond (ends_own mine rows w.ticket) (bump counts.committed) counts.committed)
          (min (counts.aborted + length gone) 4_294_967_295);
      marks = marks_of mine w rows items;
      aborted = six_of gone;
      count = length gone;
    }

-- the queue that it leaves
abbrev pub queue_left : Bool → Record → List Txn → List ℕ → List ℕ → List ℕ
queue_left mine w rows items queue = cond mine queue (queue_without (hit_tickets w.entries items 0 rows) queue)
