-- What a restart is answered, by what was read of the journal.
use Rattle.std.specs.Prelude.{◌-◌, Result, Ok, Err}
use Rattle.memory.specs.declared.Group.{Group}
use Rattle.call_reply.specs.declared.Restarted.{Restarted}
use Rattle.call_reply.specs.declared.RestartReply.{RestartReply}
use Rattle.call_reply.specs.declared.faults.Fault.{Fault}
use Rattle.call_reply.specs.Faults.{fault_number}
use Rattle.call_journal.specs.declared.JournalTally.{JournalTally}

unfoldable pub answered : Group → JournalTally → Restarted
answered g r = record {
  count = r.blocks;
  group = g;
  turn = record { slot = r.blocks; sent = 0; applying = 0 };
  counts = record {
    commits = r.commits;
    done = 0;
    tickets = r.highest;
    committed = r.committed;
    read_only = 0;
    aborted = r.highest - r.committed;
    withdrawn = 0;
  };
}

-- as a host is answered
abbrev pub reply_of : Result Restarted Fault → RestartReply
reply_of (Ok r) = record { number = 0; count = r.count }
reply_of (Err f) = record { number = fault_number f; count = 0 }
