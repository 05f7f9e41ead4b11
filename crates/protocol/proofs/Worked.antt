-- The runs of `specs/Worked.antt`, computed from the definitions. Assumes nothing.
use mathlib.Core.Path.{refl}
use Rattle.protocol.specs.Lists.{keep, any_of, first, sort_in, sort}
use Rattle.protocol.specs.Writesets.{has, put, value_or, shares, apply_one, stamp_one}
use Rattle.protocol.specs.Notices.{out_by}
use Rattle.protocol.specs.Client.{is_empty, ask_step, withdraw_step, begin_step, read_step, write_found, write_step}
use Rattle.protocol.specs.Moves.{cursor_after, send_step, deliver_step, blocks_after, commit_step, work_step}
use Rattle.protocol.specs.Journal.{in_slot_order, commit_all, commit_blocks, highest_ticket, highest_of, last_of, journal_after, appended}
use Rattle.protocol.specs.Observer.{add_pending, txn_ids, observed_after, handouts_after}
use Rattle.protocol.specs.System.{messages_after, step, run}
use Rattle.protocol.specs.Worked.{events, RightRuns}

pub right_runs : RightRuns
unfolding keep any_of first sort_in sort has put value_or shares apply_one stamp_one out_by is_empty ask_step withdraw_step begin_step read_step write_found write_step cursor_after send_step deliver_step blocks_after commit_step work_step in_slot_order commit_all commit_blocks highest_ticket highest_of last_of journal_after appended add_pending txn_ids observed_after handouts_after messages_after step run events
right_runs = record {
  sends = refl;
  takes = refl;
  restarts = refl;
  stamps = refl;
  journals = refl;
  handed = refl;
  line = refl;
  emptied = refl;
  heard = refl;
  waits = refl;
}
